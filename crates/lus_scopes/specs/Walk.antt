-- The faults of an expression in the order in which a part's own come behind those of its parts. They are those of
-- `expression_faults`, and where the expression is to be constant those of `not_allowed`: `proofs/Walks`.
use Rattle.std.specs.Prelude.{ℕ, suc, Bool, true, false, cond, not, ◌&&◌, ◌||◌, ◌==◌, List, [], ◌∷◌, ◌++◌, length, slice_get, Option, Some, None}
use Rattle.lus_tree.specs.declared.place.Pos.{Pos}
use Rattle.lus_tree.specs.declared.place.Sort.TheVariants.{Bool as Flags, Int as Numbers}
use Rattle.lus_tree.specs.declared.expression.Operator.{Operator}
use Rattle.lus_tree.specs.declared.expression.Operator.TheVariants.{Div, Mod}
use Rattle.lus_tree.specs.Tree.{Spelled, Expression, Expressions, truth, number, name, negation, minus, pre, arrow, binary, choice, sampled, merged, call, condact, mode_name, no_more, more, Variable, Component}
use Rattle.lus_tree.specs.Reason.{Refused, name_unknown, arity_clash, not_constant, zero_divisor, mode_unknown}
use Rattle.lus_meaning.specs.Program.{listed}
use Rattle.lus_meaning.specs.Scope.{Scope, is_constant, is_zero, constant_of, node_named}
use Rattle.lus_meaning.specs.Faults.{fault, faults_at, if_so}
use Rattle.lus_meaning.specs.ExpressionFaults.{used, used_as_clock, needs_sort, agree, hinders_constant, operator_faults, has_one, mode_is_known, weight_faults}

-- ---- a part's own faults

-- whether the operator's right operand is to be constant
abbrev pub is_division : Operator → Bool
is_division Div = true
is_division Mod = true
is_division _ = false

abbrev pub division_faults : Scope → Pos → Expression → Expression → List Refused
division_faults s at a b =
    needs_sort s Numbers a ++ needs_sort s Numbers b ++ if_so (is_constant s b && is_zero (constant_of s b)) zero_divisor at

-- those of an operator, but for what its right operand may not hold
abbrev pub operator_own : Scope → Pos → Operator → Expression → Expression → List Refused
operator_own s at Div a b = division_faults s at a b
operator_own s at Mod a b = division_faults s at a b
operator_own s at o a b = operator_faults s at o a b

-- a call with so many arguments
abbrev pub call_own : Bool → Spelled → ℕ → Option Component → List Refused
call_own whole_side f count None = fault name_unknown f.at ∷ []
call_own whole_side f count (Some n) =
    if_so (not (length n.inputs == count)) arity_clash f.at
    ++ if_so (not whole_side && not (has_one n.outputs)) arity_clash f.at

-- with so many defaults
abbrev pub default_own : Spelled → ℕ → Option Component → List Refused
default_own f count None = []
default_own f count (Some n) = if_so (not (length n.outputs == count)) arity_clash f.at

-- the streams that values go to, where there are as many
abbrev pub as_many : List Variable → ℕ → List Variable
as_many vs count = cond (length vs == count) vs []

abbrev pub inputs_for : Option Component → ℕ → List Variable
inputs_for None count = []
inputs_for (Some n) count = as_many n.inputs count

abbrev pub outputs_for : Option Component → ℕ → List Variable
outputs_for None count = []
outputs_for (Some n) count = as_many n.outputs count

abbrev pub fits_stream : Scope → Option Variable → Expression → List Refused
fits_stream s None a = []
fits_stream s (Some v) a = needs_sort s v.sort a

-- whether an expression is no constant, its parts left aside, where that says whether it is one by its form
abbrev pub hinders : Expression → Bool → Bool
hinders (name p x) constant = not constant
hinders (truth p b) constant = false
hinders (number p n) constant = false
hinders (negation p a) constant = false
hinders (minus p a) constant = false
hinders (binary p o a b) constant = false
hinders (choice p a b c) constant = false
hinders _ constant = true

-- what every part may be: too heavy, and where a constant is wanted, none
abbrev pub always : Scope → Bool → Expression → List Refused
always s constant e = weight_faults s e ++ cond constant (faults_at not_constant (hinders_constant s e)) []

-- ---- all of them, those of the expression's own `always` left aside

abbrev mutual
  pub walk : Scope → Bool → Bool → Expression → List Refused
  walk s w k (truth p b) = []
  walk s w k (number p n) = []
  walk s w k (name p x) = used s x p.at
  walk s w k (negation p a) = (walk s false k a ++ always s k a) ++ needs_sort s Flags a
  walk s w k (minus p a) = (walk s false k a ++ always s k a) ++ needs_sort s Numbers a
  walk s w k (pre p n a) = walk s false k a ++ always s k a
  walk s w k (arrow p n a b) =
      (walk s false k a ++ always s k a) ++ ((walk s false k b ++ always s k b) ++ agree s a b)
  walk s w k (binary p o a b) =
      (walk s false k a ++ always s k a)
      ++ ((walk s false (k || is_division o) b ++ always s (k || is_division o) b) ++ operator_own s p.at o a b)
  walk s w k (choice p a b c) =
      (walk s false k a ++ always s k a)
      ++ ((walk s false k b ++ always s k b) ++ ((walk s false k c ++ always s k c) ++ (needs_sort s Flags a ++ agree s b c)))
  walk s w k (sampled p a b x) = (walk s false k a ++ always s k a) ++ used_as_clock s x
  walk s w k (merged p x a b) =
      (walk s false k a ++ always s k a) ++ ((walk s false k b ++ always s k b) ++ (used_as_clock s x ++ agree s a b))
  walk s w k (call p n f as_) =
      walk_among s k (inputs_for (node_named s.program f.text) (length (listed as_))) 0 as_
      ++ call_own w f (length (listed as_)) (node_named s.program f.text)
  walk s w k (condact p n a f as_ ds) =
      ((walk s false k a ++ always s k a) ++ needs_sort s Flags a)
      ++ (walk_among s k (inputs_for (node_named s.program f.text) (length (listed as_))) 0 as_
      ++ (walk_among s true (outputs_for (node_named s.program f.text) (length (listed ds))) 0 ds
      ++ (call_own w f (length (listed as_)) (node_named s.program f.text)
      ++ default_own f (length (listed ds)) (node_named s.program f.text))))
  walk s w k (mode_name p c m) = if_so (not (mode_is_known s c m)) mode_unknown m.at

  -- of values from the i-th on, where streams are asked for
  pub walk_among : Scope → Bool → List Variable → ℕ → Expressions → List Refused
  walk_among s k vs i no_more = []
  walk_among s k vs i (more a as_) =
      ((walk s false k a ++ always s k a) ++ fits_stream s (slice_get vs i) a) ++ walk_among s k vs (suc i) as_

abbrev pub whole_walk : Scope → Bool → Bool → Expression → List Refused
whole_walk s w k e = walk s w k e ++ always s k e
