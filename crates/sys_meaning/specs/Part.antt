-- Terms of either type, and the operators on them.
use Rattle.std.specs.Prelude.{ℕ, Bool, true, false, List, [], ◌∷◌, ℤ, pos, negsuc}
use Rattle.lus_tree.specs.declared.expression.Operator.{Operator}
use Rattle.lus_tree.specs.declared.expression.Operator.TheVariants.{Implies, Or, Xor, And, Less, AtMost, Equal, Differs, AtLeast, More, Add, Sub, Mul, Div, Mod}
use Rattle.lus_tree.specs.declared.place.Sort.{Sort}
use Rattle.lus_tree.specs.declared.place.Sort.TheVariants.{Bool as Flags, Int as Numbers}
use Rattle.lus_meaning.specs.Value.{Value, absent, flag, whole}
use Rattle.sys_terms.specs.View.{Formula, truth, negation, both, same, choice, at_most, equal, Amount, constant, number, plus, minus, multiple, chosen, quotient, remainder}
use Rattle.sys_terms.specs.Meaning.{Values, truth_of, value_of}
use Rattle.sys_terms.specs.View as t

pub data Part : Type 0 where
  a_flag : Formula → Part
  a_number : Amount → Part

-- what stands for a part of no type
abbrev pub no_part : Part
no_part = a_flag (truth false)

abbrev pub formula_of : Part → Formula
formula_of (a_flag f) = f
formula_of (a_number a) = truth false

abbrev pub amount_of : Part → Amount
amount_of (a_flag f) = constant (pos 0)
amount_of (a_number a) = a

-- a value as a part
abbrev pub fixed : Value → Part
fixed absent = no_part
fixed (flag b) = a_flag (truth b)
fixed (whole n) = a_number (constant n)

-- a variable of that type, in this state or the next
abbrev pub variable_in : Bool → Sort → ℕ → Part
variable_in next Flags n = a_flag (t.flag record { number = n; next = next })
variable_in next Numbers n = a_number (number record { number = n; next = next })

abbrev pub variable : Sort → ℕ → Part
variable s n = variable_in false s n

abbrev pub zero_of : Sort → Part
zero_of Flags = a_flag (truth false)
zero_of Numbers = a_number (constant (pos 0))

-- ---- formulas

abbrev pub either : Formula → Formula → Formula
either f g = negation (both (negation f) (negation g))

abbrev pub implies : Formula → Formula → Formula
implies f g = negation (both f (negation g))

-- grouped to the left
abbrev pub all_after : Formula → List Formula → Formula
all_after f [] = f
all_after f (g ∷ gs) = all_after (both f g) gs

abbrev pub all_of : List Formula → Formula
all_of [] = truth true
all_of (f ∷ fs) = all_after f fs

abbrev pub some_after : Formula → List Formula → Formula
some_after f [] = f
some_after f (g ∷ gs) = some_after (either f g) gs

abbrev pub some_of : List Formula → Formula
some_of [] = truth false
some_of (f ∷ fs) = some_after f fs

-- ---- operators

abbrev pub not_part : Part → Part
not_part (a_flag f) = a_flag (negation f)
not_part (a_number a) = no_part

abbrev pub minus_part : Part → Part
minus_part (a_flag f) = no_part
minus_part (a_number a) = a_number (multiple (negsuc 0) a)

-- one of two parts of one type
abbrev pub choose_part : Formula → Part → Part → Part
choose_part c (a_flag f) (a_flag g) = a_flag (choice c f g)
choose_part c (a_number a) (a_number b) = a_number (chosen c a b)
choose_part c _ _ = no_part

-- that two parts of one type are equal
abbrev pub equal_parts : Part → Part → Formula
equal_parts (a_flag f) (a_flag g) = same f g
equal_parts (a_number a) (a_number b) = equal a b
equal_parts _ _ = truth false

abbrev pub of_formulas : (Formula → Formula → Formula) → Part → Part → Part
of_formulas w (a_flag f) (a_flag g) = a_flag (w f g)
of_formulas w _ _ = no_part

abbrev pub of_amounts : (Amount → Amount → Amount) → Part → Part → Part
of_amounts w (a_number a) (a_number b) = a_number (w a b)
of_amounts w _ _ = no_part

abbrev pub of_order : (Amount → Amount → Formula) → Part → Part → Part
of_order w (a_number a) (a_number b) = a_flag (w a b)
of_order w _ _ = no_part

-- an operator without a constant operand
abbrev pub operate : Operator → Part → Part → Part
operate Implies = of_formulas implies
operate Or = of_formulas either
operate Xor = of_formulas (λ f g. negation (same f g))
operate And = of_formulas both
operate Less = of_order (λ a b. negation (at_most b a))
operate AtMost = of_order at_most
operate Equal = λ p q. a_flag (equal_parts p q)
operate Differs = λ p q. a_flag (negation (equal_parts p q))
operate AtLeast = of_order (λ a b. at_most b a)
operate More = of_order (λ a b. negation (at_most a b))
operate Add = of_amounts plus
operate Sub = of_amounts minus
operate Mul = λ p q. no_part
operate Div = λ p q. no_part
operate Mod = λ p q. no_part

-- a product, a quotient and a remainder by a constant
abbrev pub scaled : ℤ → Part → Part
scaled n (a_number a) = a_number (multiple n a)
scaled n (a_flag f) = no_part

abbrev pub divided : Part → ℤ → Part
divided (a_number a) d = a_number (quotient a d)
divided (a_flag f) d = no_part

abbrev pub rest_of : Part → ℤ → Part
rest_of (a_number a) d = a_number (remainder a d)
rest_of (a_flag f) d = no_part

-- ---- what they are worth

abbrev pub worth : Values → Values → Part → Value
worth now next (a_flag f) = flag (truth_of now next f)
worth now next (a_number a) = whole (value_of now next a)

-- a variable's value, by its type
abbrev pub value_in : Values → Sort → ℕ → Value
value_in now Flags n = flag (now.flag_at n)
value_in now Numbers n = whole (now.number_at n)
