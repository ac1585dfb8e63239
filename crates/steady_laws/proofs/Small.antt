-- Values that are kept: those of a size up to 2^63, and what an operator that has a value gives.
use Rattle.std.proofs.Common.{◌≡◌, ℕ, suc, ◌≤◌, ◌^◌, Bool, true, false, cond, refl, sym, ap, ◌∙◌, arith, pos, negsuc}
use Rattle.std.specs.Prelude.{nat_lt}
use Rattle.std.proofs.lemmas.Bool.{false≢true}
use Rattle.std.specs.Ordering.{int_eq}
use Rattle.std.proofs.lemmas.Bool.Decides.{nat_tests, Decides-int_eq}
use Rattle.lus_tree.specs.declared.expression.Operator.{Operator}
use Rattle.lus_tree.specs.declared.expression.Operator.TheVariants.{Implies, Or, Xor, And, Less, AtMost, Equal, Differs, AtLeast, More, Add, Sub, Mul, Div, Mod}
use Rattle.lus_tree.specs.declared.place.Sort.{Sort}
use Rattle.lus_tree.specs.declared.place.Sort.TheVariants.{Bool as Flags, Int as Numbers}
use Rattle.lus_meaning.specs.Value.{Value, absent, flag, whole, has_sort, apply, choose}
use Rattle.lus_meaning.specs.Scope.{is_zero, apply_total, are_alike, choose_total, greatest_weight}
use Rattle.sys_terms.specs.Fits as fits
use Rattle.sys_meaning.specs.Translate.{number_of_value}
use Rattle.sys_parts.specs.Values.{is_small, tame}
use Rattle.term_laws.proofs.Weights.{value_size, DivisorFits}

below : (n l : ℕ) → n ≤ l → nat_lt n (suc l) ≡ true
below n l h = grind (arith, nat_tests)

pub small_number : (n : ℕ) → n ≤ greatest_weight → is_small (whole (pos n)) ≡ true
small_number n h = below n (2 ^ 63) h

-- a number of such a size is kept
pub small_within : (v : Value) → value_size v ≤ greatest_weight → is_small v ≡ true
small_within absent h = refl
small_within (flag b) h = refl
small_within (whole (pos n)) h = below n (2 ^ 63) h
small_within (whole (negsuc n)) h = below (suc n) (2 ^ 63) h

pub tame_small : (v : Value) → is_small v ≡ true → tame v ≡ v
tame_small v e = ap (λ b. cond b v absent) e

pub small_tame : (v : Value) → is_small (tame v) ≡ true
small_tame v = go (is_small v) refl
  where
    go : (b : Bool) → is_small v ≡ b → is_small (cond b v absent) ≡ true
    go true e = e
    go false e = refl

-- ---- operators

not_zero : (w : Value) → fits.is_zero (number_of_value w) ≡ false → is_zero w ≡ false
not_zero absent h = refl
not_zero (flag b) h = refl
not_zero (whole n) h = go (int_eq n (pos 0)) refl
  where
    go : (b : Bool) → int_eq n (pos 0) ≡ b → b ≡ false
    go true e = absurd (false≢true (sym h ∙ ap fits.is_zero ((Decides-int_eq n (pos 0)).0 e)))
    go false e = refl

undivided : (b : Bool) (v : Value) → b ≡ false → cond b absent v ≡ v
undivided b v e = ap (λ c. cond c absent v) e

-- where the divisor is not 0, an operator that gives no value there gives the same
pub total : (o : Operator) (v w : Value) → DivisorFits o w → apply_total o v w ≡ apply o v w
total Implies v w h = refl
total Or v w h = refl
total Xor v w h = refl
total And v w h = refl
total Less v w h = refl
total AtMost v w h = refl
total Equal v w h = refl
total Differs v w h = refl
total AtLeast v w h = refl
total More v w h = refl
total Add v w h = refl
total Sub v w h = refl
total Mul v w h = refl
total Div v w h = undivided (is_zero w) (apply Div v w) (not_zero w h)
total Mod v w h = undivided (is_zero w) (apply Mod v w) (not_zero w h)

alike : (q : Sort) (v w : Value) → has_sort q v ≡ true → has_sort q w ≡ true → are_alike v w ≡ true
alike Flags (flag a) (flag b) h k = refl
alike Numbers (whole a) (whole b) h k = refl
alike Flags absent w h k = absurd (false≢true h)
alike Flags (whole a) w h k = absurd (false≢true h)
alike Numbers absent w h k = absurd (false≢true h)
alike Numbers (flag a) w h k = absurd (false≢true h)
alike Flags (flag a) absent h k = absurd (false≢true k)
alike Flags (flag a) (whole b) h k = absurd (false≢true k)
alike Numbers (whole a) absent h k = absurd (false≢true k)
alike Numbers (whole a) (flag b) h k = absurd (false≢true k)

-- a choice between values of one type is made
pub chosen : (q : Sort) (c v w : Value) → has_sort q v ≡ true → has_sort q w ≡ true → choose_total c v w ≡ choose c v w
chosen q c v w h k = ap (λ b. cond b (choose c v w) absent) (alike q v w h k)
