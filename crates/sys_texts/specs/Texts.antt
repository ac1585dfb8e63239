-- The term of an expression by what its names and numbers mean.
use Rattle.std.specs.Prelude.{ℕ, zero, suc, Bool, true, false, cond, List, [], ◌∷◌, Option, Some, None, option_map, ℤ, pos}
use Rattle.lus_tree.specs.declared.place.Sort.{Sort}
use Rattle.lus_tree.specs.declared.place.Sort.TheVariants.{Bool as Flags, Int as Numbers}
use Rattle.lus_tree.specs.declared.expression.Operator.{Operator}
use Rattle.lus_tree.specs.declared.expression.Operator.TheVariants.{Mul, Div, Mod}
use Rattle.lus_tree.specs.Tree.{Name, text_of, Expression, truth, number, name, negation, minus, pre, arrow, binary, choice, sampled, merged, call, condact, mode_name}
use Rattle.lus_meaning.specs.Value.{Value, flag, whole, not_value, minus_value}
use Rattle.lus_meaning.specs.Scene.{Clock, base, sampled_by}
use Rattle.lus_meaning.specs.Run.{sort_of_operator}
use Rattle.lus_meaning.specs.Scope.{apply_total, choose_total}
use Rattle.sys_terms.specs.View.{Formula, both}
use Rattle.sys_terms.specs.View as t
use Rattle.sys_meaning.specs.Part.{Part, a_flag, formula_of, fixed, variable, not_part, minus_part, choose_part, operate, scaled, divided, rest_of}
use Rattle.sys_meaning.specs.Translate.{head_part, number_of_value}
use Rattle.sys_parts.specs.Values.{tame}
use Rattle.sys_texts.specs.Sights.{Sight, Mode, number_at, flag_at, name_sort, name_clock, name_part, name_flag, outputs_at, latest_at, called_sort, asked_of}

-- what an expression comes to: a value where it is constant, else a part
pub data Folded : Type 0 where
  known : Value → Folded
  left_open : Part → Folded

abbrev pub as_part : Folded → Part
as_part (known v) = fixed v
as_part (left_open p) = p

-- a number, 0 where it isn't constant
abbrev pub number_in : Folded → ℤ
number_in (known v) = number_of_value v
number_in (left_open p) = pos 0

abbrev pub is_known : Folded → Bool
is_known (known v) = true
is_known (left_open p) = false

abbrev pub negated : Folded → Folded
negated (known v) = known (not_value v)
negated (left_open p) = left_open (not_part p)

abbrev pub opposite : Folded → Folded
opposite (known v) = known (tame (minus_value v))
opposite (left_open p) = left_open (minus_part p)

-- an operator, of which not both operands are constant
abbrev pub operated_parts : Operator → Folded → Folded → Part
operated_parts Mul a b = cond (is_known a) (scaled (number_in a) (as_part b)) (scaled (number_in b) (as_part a))
operated_parts Div a b = divided (as_part a) (number_in b)
operated_parts Mod a b = rest_of (as_part a) (number_in b)
operated_parts o a b = operate o (as_part a) (as_part b)

abbrev pub operated : Operator → Folded → Folded → Folded
operated o (known v) (known w) = known (tame (apply_total o v w))
operated o (known v) (left_open q) = left_open (operated_parts o (known v) (left_open q))
operated o (left_open p) b = left_open (operated_parts o (left_open p) b)

abbrev pub chosen_parts : Folded → Folded → Folded → Part
chosen_parts c a b = choose_part (formula_of (as_part c)) (as_part a) (as_part b)

abbrev pub chosen : Folded → Folded → Folded → Folded
chosen (known c) (known v) (known w) = known (choose_total c v w)
chosen (known c) (known v) (left_open q) = left_open (chosen_parts (known c) (known v) (left_open q))
chosen (known c) (left_open p) b = left_open (chosen_parts (known c) (left_open p) b)
chosen (left_open c) a b = left_open (chosen_parts (left_open c) a b)

-- ---- expressions

abbrev pub folded_name : Sight → Name → Option Value → Folded
folded_name s x (Some v) = known v
folded_name s x None = left_open (name_part s x)

abbrev pub sort_by : Sight → Expression → Sort
sort_by s (truth p b) = Flags
sort_by s (number p n) = Numbers
sort_by s (name p x) = name_sort s x
sort_by s (negation p a) = Flags
sort_by s (minus p a) = Numbers
sort_by s (pre p k a) = sort_by s a
sort_by s (arrow p k a b) = sort_by s a
sort_by s (binary p o a b) = sort_of_operator o
sort_by s (choice p a b d) = sort_by s b
sort_by s (sampled p a b x) = sort_by s a
sort_by s (merged p x a b) = sort_by s a
sort_by s (call p k f as_) = called_sort s.calls f.text
sort_by s (condact p k a f as_ ds) = called_sort s.calls f.text
sort_by s (mode_name p d m) = Flags

abbrev pub folded : Sight → List Mode → Expression → Folded
folded s ms (truth p b) = known (flag b)
folded s ms (number p n) = known (tame (whole (pos n)))
folded s ms (name p x) = folded_name s x (s.constant x)
folded s ms (negation p a) = negated (folded s ms a)
folded s ms (minus p a) = opposite (folded s ms a)
folded s ms (pre p k a) = left_open (variable (sort_by s a) (number_at s.memories s.missing k))
folded s ms (arrow p k a b) =
    left_open (choose_part (flag_at (number_at s.starts s.missing k)) (as_part (folded s ms a)) (as_part (folded s ms b)))
folded s ms (binary p o a b) = operated o (folded s ms a) (folded s ms b)
folded s ms (choice p a b d) = chosen (folded s ms a) (folded s ms b) (folded s ms d)
folded s ms (sampled p a b x) = left_open (as_part (folded s ms a))
folded s ms (merged p x a b) =
    left_open (choose_part (name_flag s x.text) (as_part (folded s ms a)) (as_part (folded s ms b)))
folded s ms (call p k f as_) = left_open (head_part (outputs_at s k))
folded s ms (condact p k a f as_ ds) = left_open (head_part (latest_at s k))
folded s ms (mode_name p d m) = left_open (a_flag (asked_of ms (option_map text_of d) m.text))

abbrev pub part_of : Sight → List Mode → Expression → Part
part_of s ms e = as_part (folded s ms e)

abbrev pub formula : Sight → List Mode → Expression → Formula
formula s ms e = formula_of (part_of s ms e)

-- the terms of a right side: the outputs of a call, or one
abbrev pub right_parts : Sight → List Mode → Expression → List Part
right_parts s ms (call p k f as_) = outputs_at s k
right_parts s ms (condact p k a f as_ ds) = latest_at s k
right_parts s ms e = part_of s ms e ∷ []

-- ---- presence

-- where a clock is on, of which no more clocks than said follow from one another
abbrev pub present_within : ℕ → Sight → Clock → Formula
present_within m s base = flag_at s.beat
present_within zero s (sampled_by b x) = t.truth false
present_within (suc m) s (sampled_by true x) = name_flag s x
present_within (suc m) s (sampled_by false x) =
    both (present_within m s (name_clock s x)) (t.negation (name_flag s x))

abbrev pub present : Sight → Clock → Formula
present s c = present_within s.streams s c
