-- The term of an expression.
use Rattle.std.specs.Prelude.{ℕ, zero, suc, true, false, cond, List, [], ◌∷◌, map, length, option_map, option_to_list, unwrap_or, ℤ, pos}
use Rattle.std.specs.Map.{lookup}
use Rattle.lus_tree.specs.declared.expression.Operator.{Operator}
use Rattle.lus_tree.specs.declared.expression.Operator.TheVariants.{Mul, Div, Mod}
use Rattle.lus_tree.specs.Tree.{Name, text_of, Expression, truth, number, name, negation, minus, pre, arrow, binary, choice, sampled, merged, call, condact, mode_name, Variable}
use Rattle.lus_meaning.specs.Value.{Value, absent, flag, whole}
use Rattle.lus_meaning.specs.Scene.{Clock, base, sampled_by, Instance, component_of, constants_of, call_instance, clock_of, variables}
use Rattle.lus_meaning.specs.Meaning.{mode_key}
use Rattle.lus_meaning.specs.Program.{constant_value}
use Rattle.lus_meaning.specs.Run.{sort_of, sort_of_name}
use Rattle.sys_terms.specs.View.{Formula, both}
use Rattle.sys_terms.specs.View as t
use Rattle.sys_meaning.specs.Slot.{beat, named, memory, starting, held, Place, own, in_call}
use Rattle.sys_meaning.specs.Defaults.{is_constant}
use Rattle.sys_meaning.specs.Items.{Key, Known}
use Rattle.sys_meaning.specs.Part.{Part, a_flag, a_number, no_part, formula_of, fixed, variable, not_part, minus_part, choose_part, operate, scaled, divided, rest_of}

-- what an expression is translated over: an instance, the number of each variable of its frame, and what the modes ask
pub record Stage : Type 0 where
  pub place : Instance
  pub number : Place → ℕ
  pub modes : Known Formula

abbrev pub flag_at : Stage → Place → Formula
flag_at g p = t.flag record { number = g.number p; next = false }

-- a name that is no constant
abbrev pub name_part : Stage → Name → Part
name_part g x = variable (sort_of_name g.place x) (g.number (own (named x)))

abbrev pub name_flag : Stage → Name → Formula
name_flag g x = flag_at g (own (named x))

-- ---- presence

-- where a clock is on, of which no more clocks than said follow from one another
abbrev pub present_within : ℕ → Stage → Clock → Formula
present_within m g base = flag_at g (own beat)
present_within zero g (sampled_by b x) = t.truth false
present_within (suc m) g (sampled_by true x) = name_flag g x
present_within (suc m) g (sampled_by false x) =
    both (present_within m g (clock_of (component_of g.place) x)) (t.negation (name_flag g x))

abbrev pub present : Stage → Clock → Formula
present g c = present_within (length (variables (component_of g.place))) g c

-- ---- calls

-- an output of a call
abbrev pub output_part : Stage → ℕ → Variable → Part
output_part g k v = variable v.sort (g.number (in_call k (own (named v.name.text))))

abbrev pub held_part : Stage → ℕ → Variable → Part
held_part g k v = variable v.sort (g.number (own (held k v.name.text)))

-- the same where it may be held
abbrev pub latest_part : Stage → ℕ → Variable → Part
latest_part g k v = choose_part (flag_at g (in_call k (own beat))) (output_part g k v) (held_part g k v)

abbrev pub outputs_at : Stage → ℕ → List Variable
outputs_at g k = (component_of (call_instance g.place k)).outputs

abbrev pub head_part : List Part → Part
head_part [] = no_part
head_part (p ∷ ps) = p

-- ---- expressions

-- a constant expression is its value
abbrev pub or_constant : Stage → Expression → Part → Part
or_constant g e p = cond (is_constant (constants_of g.place) e) (fixed (constant_value (constants_of g.place) e)) p

abbrev pub number_of_value : Value → ℤ
number_of_value (whole n) = n
number_of_value absent = pos 0
number_of_value (flag b) = pos 0

abbrev pub constant_number : Stage → Expression → ℤ
constant_number g e = number_of_value (constant_value (constants_of g.place) e)

-- an operator with its operands; of a product one operand is constant, of two constants the left one counts
abbrev pub binary_part : Stage → Operator → Expression → Expression → Part → Part → Part
binary_part g Mul a b p q =
    cond (is_constant (constants_of g.place) a) (scaled (constant_number g a) q) (scaled (constant_number g b) p)
binary_part g Div a b p q = divided p (constant_number g b)
binary_part g Mod a b p q = rest_of p (constant_number g b)
binary_part g o a b p q = operate o p q

abbrev pub mode_part : Stage → Key → Part
mode_part g key = a_flag (unwrap_or (lookup (mode_key key) g.modes) (t.truth false))

-- the term of an expression
abbrev pub term_of : Stage → Expression → Part
term_of g (truth p b) = a_flag (t.truth b)
term_of g (number p n) = a_number (t.constant (pos n))
term_of g (name p x) = or_constant g (name p x) (name_part g x)
term_of g (negation p a) = or_constant g (negation p a) (not_part (term_of g a))
term_of g (minus p a) = or_constant g (minus p a) (minus_part (term_of g a))
term_of g (pre p k a) = variable (sort_of g.place a) (g.number (own (memory k)))
term_of g (arrow p k a b) = choose_part (flag_at g (own (starting k))) (term_of g a) (term_of g b)
term_of g (binary p o a b) = or_constant g (binary p o a b) (binary_part g o a b (term_of g a) (term_of g b))
term_of g (choice p a b d) =
    or_constant g (choice p a b d) (choose_part (formula_of (term_of g a)) (term_of g b) (term_of g d))
term_of g (sampled p a b x) = term_of g a
term_of g (merged p x a b) = choose_part (name_flag g x.text) (term_of g a) (term_of g b)
term_of g (call p k f as_) = head_part (map (output_part g k) (outputs_at g k))
term_of g (condact p k a f as_ ds) = head_part (map (latest_part g k) (outputs_at g k))
term_of g (mode_name p d m) = mode_part g (option_to_list (option_map text_of d), m.text)

-- the terms of a right side: the outputs of a call, or one
abbrev pub right_terms : Stage → Expression → List Part
right_terms g (call p k f as_) = map (output_part g k) (outputs_at g k)
right_terms g (condact p k a f as_ ds) = map (latest_part g k) (outputs_at g k)
right_terms g e = term_of g e ∷ []

-- the truth of an expression
abbrev pub formula : Stage → Expression → Formula
formula g e = formula_of (term_of g e)
