-- What is known of a part of an expression.
use Rattle.std.specs.Prelude.{◌≡◌, Bool, ◌&&◌, ◌||◌, not, List, ◌++◌, Some}
use Rattle.lus_tree.specs.declared.place.Pos.{Pos}
use Rattle.lus_tree.specs.declared.place.Sort.{Sort}
use Rattle.lus_tree.specs.declared.place.Sort.TheVariants.{Bool as Flags, Int as Numbers}
use Rattle.lus_tree.specs.declared.expression.Operator.{Operator}
use Rattle.lus_tree.specs.declared.expression.Operator.TheVariants.{Implies, Or, Xor, And, Equal, Differs, Mul, Div, Mod}
use Rattle.lus_tree.specs.Tree.{Expression}
use Rattle.lus_tree.specs.Reason.{Refused, type_clash, not_linear, zero_divisor, heavy, not_constant}
use Rattle.lus_meaning.specs.Occurrences.{begin}
use Rattle.lus_meaning.specs.Scope.{Scope, is_constant, is_heavy, is_zero, type_of, worth_of}
use Rattle.lus_meaning.specs.Faults.{if_so, differ}
use Rattle.lus_meaning.specs.ExpressionFaults.{is_integer}
use Rattle.lus_scopes.specs.declared.found.Part.{Part}
use Rattle.lus_scopes.specs.Cut.{cut_worth, known_value}
use Rattle.lus_scopes.specs.Worth.{worth_view}

-- it is what the definitions say of the expression; its weight is cut
pub record IsPart (s : Scope) (e : Expression) (p : Part) : Type 0 where
  pub from : p.from ≡ begin e
  pub sort : p.sort ≡ type_of s e
  pub constant : p.constant ≡ is_constant s e
  pub worth : worth_view p.worth ≡ cut_worth (worth_of s e)

-- the faults of an operator by what is known of its operands
abbrev pub sort_notes : Sort → Part → List Refused
sort_notes q p = if_so (differ (Some q) p.sort) type_clash p.from

abbrev pub agree_notes : Part → Part → List Refused
agree_notes a b = if_so (differ a.sort b.sort) type_clash b.from

abbrev pub both_notes : Sort → Part → Part → List Refused
both_notes q a b = sort_notes q a ++ sort_notes q b

abbrev pub division_notes : Pos → Part → Part → List Refused
division_notes at a b =
    sort_notes Numbers a ++ sort_notes Numbers b ++ if_so (b.constant && is_zero (known_value b.worth.value)) zero_divisor at

abbrev pub operator_notes : Pos → Operator → Part → Part → List Refused
operator_notes at Implies a b = both_notes Flags a b
operator_notes at Or a b = both_notes Flags a b
operator_notes at Xor a b = both_notes Flags a b
operator_notes at And a b = both_notes Flags a b
operator_notes at Equal a b = agree_notes a b
operator_notes at Differs a b = agree_notes a b
operator_notes at Mul a b =
    sort_notes Numbers a ++ sort_notes Numbers b ++ if_so (not (a.constant || b.constant)) not_linear at
operator_notes at Div a b = division_notes at a b
operator_notes at Mod a b = division_notes at a b
operator_notes at o a b = both_notes Numbers a b

-- what is noted of every part, where that says whether it is no constant by itself
abbrev pub always_notes : Bool → Pos → Pos → Bool → Part → List Refused
always_notes constant from at hinders p =
    if_so (is_integer p.sort && is_heavy p.worth.weight) heavy from ++ if_so (constant && hinders) not_constant at
