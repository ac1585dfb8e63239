-- The words that spell numbers and values.
use Rattle.std.proofs.Common.{◌≡◌, ℕ, zero, suc, ◌+◌, ◌*◌, ◌-◌, ◌<◌, ◌≤◌, Bool, true, false, not, ◌&&◌, cond, List, [], ◌∷◌, length, get_or, codes, decimal, Option, Some, None, option_map, refl, sym, ap, ◌∙◌, subst, arith, rules}
use Rattle.std.specs.Prelude.{◌==◌, nat_le, pos, negsuc, neg_ℤ}
use Rattle.std.specs.Char.{is_ascii_digit}
use Rattle.std.specs.Str.{bytes_eq, all_ascii_digits}
use Rattle.std.proofs.lemmas.Bool.{leb-true, le-leb}
use Rattle.std.proofs.lemmas.Slice.Eq.{bytes_eq-Decides}
use Rattle.std.proofs.lemmas.Str.Parse.{IsNumeralModel, numerals_by_fold}
use Rattle.std.proofs.lemmas.Fmt.{digits_decimal, digits_value-decimal, decimal-digits_value, decimal_nonempty, first_decimal, decimal_digit}
use Rattle.lus_meaning.specs.Value.{Value, absent, flag, whole}
use Rattle.trace_text.specs.Words.{IsNumber, IsValue, spelled, minus_zero, value_text, FitsValue}
use Rattle.trace_text.specs.Reading.{number_from, number_of, small_of, value_of, up_to, is_empty}

-- ---- tests and options

pub and_left : (x y : Bool) → (x && y) ≡ true → x ≡ true
and_left true y h = refl
and_left false y h = absurd cc

pub and_right : (x y : Bool) → (x && y) ≡ true → y ≡ true
and_right true y h = h
and_right false y h = absurd cc

pub both_true : (x y : Bool) → x ≡ true → y ≡ true → (x && y) ≡ true
both_true true y h k = k
both_true false y h k = absurd cc

abbrev pub some : {A : Type 0} → A → Option A
some x = Some x

pub some_is : {A : Type 0} (x y : A) → some x ≡ some y → x ≡ y
some_is x y e = cc

pub none_some : {A B : Type 0} (x : A) → None ≡ some x → B
none_some x e = absurd cc

pub equal_is : (b n : ℕ) → (b == n) ≡ true → b ≡ n
equal_is b n h = grind (arith, h)

pub is_equal : (b n : ℕ) → b ≡ n → (b == n) ≡ true
is_equal b n h = grind (arith, h)

pub is_other : (b n : ℕ) → (b ≡ n → ⊥) → (b == n) ≡ false
is_other b n h = grind (arith, h)

-- an option that a function was applied to
pub map_some : {A B : Type 0} (f : A → B) (o : Option A) (y : B) → option_map f o ≡ Some y → (x : A) × (o ≡ Some x) × (y ≡ f x)
map_some f None y e = absurd cc
map_some f (Some x) y e = (x, refl, sym (some_is (f x) y e))

-- ---- numbers

abbrev read_on : ℕ → List ℕ → ℕ
read_on n [] = n
read_on n (c ∷ cs) = read_on (n * 10 + (c - 48)) cs

own : IsNumeralModel (λ ds. all_ascii_digits ds ≡ true) (read_on 0)
own = numerals_by_fold _ (search rules) read_on (search rules)

read_more : (n : ℕ) (ds : List ℕ) → n ≤ read_on n ds
read_more n [] = omega arith
read_more n (c ∷ cs) = let h = read_more (n * 10 + (c - 48)) cs in omega (arith, h)

from_sound : (ds : List ℕ) (n m : ℕ) → number_from n ds ≡ Some m → (all_ascii_digits ds ≡ true) × (read_on n ds ≡ m)
from_sound [] n m h = (refl, some_is n m h)
from_sound (c ∷ cs) n m h = go (is_ascii_digit c) refl (nat_le n 922337203685477580) h (from_sound cs (n * 10 + (c - 48)) m)
  where
    go : (x : Bool) → is_ascii_digit c ≡ x → (y : Bool) → cond (x && y) (number_from (n * 10 + (c - 48)) cs) None ≡ Some m
        → (number_from (n * 10 + (c - 48)) cs ≡ Some m → (all_ascii_digits cs ≡ true) × (read_on (n * 10 + (c - 48)) cs ≡ m)) →
        ((is_ascii_digit c && all_ascii_digits cs) ≡ true) × (read_on (n * 10 + (c - 48)) cs ≡ m)
    go true e true k r = let s = r k in (both_true (is_ascii_digit c) (all_ascii_digits cs) e s.0, s.1)
    go true e false k r = none_some m k
    go false e y k r = none_some m k

from_complete : (ds : List ℕ) (n : ℕ) → all_ascii_digits ds ≡ true → read_on n ds < 9223372036854775808 → number_from n ds ≡ Some (read_on n ds)
from_complete [] n h l = refl
from_complete (c ∷ cs) n h l =
    let more = read_more (n * 10 + (c - 48)) cs in
    let low : n ≤ 922337203685477580 = omega (arith, more) in
    let both : (is_ascii_digit c && nat_le n 922337203685477580) ≡ true = both_true (is_ascii_digit c) (nat_le n 922337203685477580)
    (and_left (is_ascii_digit c) (all_ascii_digits cs) h) (le-leb n 922337203685477580 low) in
    rw both (from_complete cs (n * 10 + (c - 48)) (and_right (is_ascii_digit c) (all_ascii_digits cs) h) l)

up_to_some : (most : ℕ) (o : Option ℕ) (n : ℕ) → up_to most o ≡ Some n → (o ≡ Some n) × (n ≤ most)
up_to_some most None n h = none_some n h
up_to_some most (Some m) n h = go (nat_le m most) refl h
  where
    go : (x : Bool) → nat_le m most ≡ x → cond x (Some m) None ≡ Some n → (some m ≡ Some n) × (n ≤ most)
    go true e k = let s = some_is m n k in (k, omega (arith, s, leb-true m most e))
    go false e k = none_some n k

some_up_to : (most n : ℕ) → n ≤ most → up_to most (Some n) ≡ Some n
some_up_to most n h = rw (le-leb n most h) refl

one_long : (b : ℕ) (bs : List ℕ) → (b == 48 && not (is_empty bs)) ≡ false → get_or (b ∷ bs) 0 0 ≡ 48 → length (b ∷ bs) ≡ 1
one_long b [] h e = refl
one_long b (c ∷ cs) h e = absurd (let k : (b == 48) ≡ true = is_equal b 48 e in cc)

pub number_sound : (w : List ℕ) (n : ℕ) → number_of w ≡ Some n → (w ≡ decimal n) × (n < 9223372036854775808)
unfolding number_of
number_sound [] n h = none_some n h
number_sound (b ∷ bs) n h = go (b == 48 && not (is_empty bs)) refl h
  where
    go : (x : Bool) → (b == 48 && not (is_empty bs)) ≡ x → cond x None (up_to 9223372036854775807 (number_from 0 (b ∷ bs))) ≡ Some n →
        ((b ∷ bs) ≡ decimal n) × (n < 9223372036854775808)
    go true e k = none_some n k
    go false e k =
        let u = up_to_some 9223372036854775807 (number_from 0 (b ∷ bs)) n k in
        let s = from_sound (b ∷ bs) 0 n u.0 in
        let l : n < 9223372036854775808 = omega (arith, u.1) in
        let d : decimal (read_on 0 (b ∷ bs)) ≡ b ∷ bs = decimal-digits_value own (b ∷ bs) s.0 (omega arith) (one_long b bs e) (omega (arith, s.1, l)) in
        (sym d ∙ ap decimal s.1, l)

no_zero : (w : List ℕ) (n : ℕ) → w ≡ decimal n → n < 9223372036854775808 → get_or w 0 0 ≡ 48 → length w ≡ 1
no_zero w zero e l h = ap length (e ∙ decimal_digit 0 (omega arith))
no_zero w (suc n) e l h =
    let f = first_decimal (suc n) (omega arith) (omega arith) in
    let g : get_or w 0 0 ≡ get_or (decimal (suc n)) 0 0 = ap (λ (x : List ℕ). get_or x 0 0) e in
    absurd (omega (arith, f, g, h))

pub number_complete : (w : List ℕ) (n : ℕ) → w ≡ decimal n → n < 9223372036854775808 → number_of w ≡ Some n
unfolding number_of
number_complete [] n e l = let h = decimal_nonempty n (omega arith) in absurd (omega (arith, ap length e, h))
number_complete (b ∷ bs) n e l =
    let d : all_ascii_digits (b ∷ bs) ≡ true = subst (λ (x : List ℕ). all_ascii_digits x ≡ true) (sym e) (digits_decimal own n (omega arith)) in
    let v : read_on 0 (b ∷ bs) ≡ n = ap (read_on 0) e ∙ digits_value-decimal own n (omega arith) in
    let f : number_from 0 (b ∷ bs) ≡ Some n = from_complete (b ∷ bs) 0 d (omega (arith, v, l)) ∙ ap some v in
    go (b == 48) refl bs (no_zero (b ∷ bs) n e l) (ap (up_to 9223372036854775807) f ∙ some_up_to 9223372036854775807 n (omega arith))
  where
    go : (x : Bool) → (b == 48) ≡ x → (cs : List ℕ) → (get_or (b ∷ cs) 0 0 ≡ 48 → length (b ∷ cs) ≡ 1) → up_to 9223372036854775807
        (number_from 0 (b ∷ bs)) ≡ Some n
        → cond (x && not (is_empty cs)) None (up_to 9223372036854775807 (number_from 0 (b ∷ bs))) ≡ Some n
    go true f [] h k = k
    go true f (c ∷ cs) h k = let q = h (equal_is b 48 f) in absurd (omega (arith, q))
    go false f cs h k = k

pub small_sound : (w : List ℕ) (n : ℕ) → small_of w ≡ Some n → IsNumber w n
unfolding small_of
small_sound w n h =
    let u = up_to_some 4294967295 (number_of w) n h in
    record { spelled = (number_sound w n u.0).0; small = omega (arith, u.1) }

pub small_complete : (w : List ℕ) (n : ℕ) → IsNumber w n → small_of w ≡ Some n
unfolding small_of
small_complete w n k =
    let s : n < 4294967296 = k.small in
    ap (up_to 4294967295) (number_complete w n k.spelled (omega arith)) ∙ some_up_to 4294967295 n (omega arith)

-- the first byte of a number
pub decimal_first : (w : List ℕ) (n : ℕ) → w ≡ decimal n → n < 9223372036854775808 → (b : ℕ) × (bs : List ℕ) × (w ≡ b ∷ bs) × (is_ascii_digit b ≡ true)
decimal_first [] n e l = let h = decimal_nonempty n (omega arith) in absurd (omega (arith, ap length e, h))
decimal_first (b ∷ bs) n e l =
    let d : all_ascii_digits (b ∷ bs) ≡ true = subst (λ (x : List ℕ). all_ascii_digits x ≡ true) (sym e) (digits_decimal own n (omega arith)) in
    (b, bs, refl, and_left (is_ascii_digit b) (all_ascii_digits bs) d)

pub digits_of_decimal : (n : ℕ) → n < 9223372036854775808 → all_ascii_digits (decimal n) ≡ true
digits_of_decimal n l = digits_decimal own n (omega arith)

-- ---- values

minus_is : (bs : List ℕ) (n : ℕ) → bs ≡ decimal n → n < 9223372036854775808 → IsValue (45 ∷ bs) (whole (neg_ℤ (pos n)))
minus_is bs zero e l = minus_zero (ap (λ (x : List ℕ). 45 ∷ x) (e ∙ decimal_digit 0 (omega arith)))
minus_is bs (suc n) e l = spelled (whole (negsuc n)) (ap (λ (x : List ℕ). 45 ∷ x) e) l

pub value_sound : (w : List ℕ) (v : Value) → value_of w ≡ Some v → IsValue w v
unfolding value_of
value_sound [] v h = none_some v h
value_sound (b ∷ bs) v h = go (is_ascii_digit b) (b == 45) refl (bytes_eq (b ∷ bs) (codes "true")) refl
    (bytes_eq (b ∷ bs) (codes "false")) refl (bytes_eq (b ∷ bs) (codes "_")) refl h
  where
    is_value : (u : Value) → some u ≡ Some v → IsValue (b ∷ bs) u → IsValue (b ∷ bs) v
    is_value u e i = subst (λ x. IsValue (b ∷ bs) x) (some_is u v e) i

    go : (d m : Bool) → (b == 45) ≡ m → (x : Bool) → bytes_eq (b ∷ bs) (codes "true") ≡ x → (y : Bool) → bytes_eq (b ∷ bs)
        (codes "false") ≡ y → (z : Bool) → bytes_eq (b ∷ bs) (codes "_") ≡ z
        → cond d (option_map (λ n. whole (pos n)) (number_of (b ∷ bs)))
        (cond m (option_map (λ n. whole (neg_ℤ (pos n))) (number_of bs))
        (cond x (Some (flag true)) (cond y (Some (flag false)) (cond z (Some absent) None)))) ≡ Some v → IsValue (b ∷ bs) v
    go true m em x ex y ey z ez k =
        let s = map_some (λ n. whole (pos n)) (number_of (b ∷ bs)) v k in
        let t = number_sound (b ∷ bs) s.0 s.1 in
        subst (λ u. IsValue (b ∷ bs) u) (sym s.2) (spelled (whole (pos s.0)) t.0 t.1)
    go false true em x ex y ey z ez k =
        let s = map_some (λ n. whole (neg_ℤ (pos n))) (number_of bs) v k in
        let t = number_sound bs s.0 s.1 in
        subst (λ u. IsValue (b ∷ bs) u) (sym s.2) (subst (λ (c : ℕ). IsValue (c ∷ bs) (whole (neg_ℤ (pos s.0)))) (sym (equal_is b 45 em))
        (minus_is bs s.0 t.0 t.1))
    go false false em true ex y ey z ez k = is_value (flag true) k (spelled (flag true) ((bytes_eq-Decides (b ∷ bs) (codes "true")).0 ex) tt)
    go false false em false ex true ey z ez k = is_value (flag false) k (spelled (flag false) ((bytes_eq-Decides (b ∷ bs) (codes "false")).0 ey) tt)
    go false false em false ex false ey true ez k = is_value absent k (spelled absent ((bytes_eq-Decides (b ∷ bs) (codes "_")).0 ez) tt)
    go false false em false ex false ey false ez k = none_some v k

digit_value : (w : List ℕ) (n : ℕ) → w ≡ decimal n → n < 9223372036854775808 → value_of w ≡ Some (whole (pos n))
unfolding value_of
digit_value w n e l =
    let f = decimal_first w n e l in
    let k : number_of (f.0 ∷ f.1) ≡ Some n = number_complete (f.0 ∷ f.1) n (sym f.2 ∙ e) l in
    ap value_of f.2 ∙ rw f.3 (ap (option_map (λ m. whole (pos m))) k)

minus_value : (bs : List ℕ) (n : ℕ) → bs ≡ decimal n → n < 9223372036854775808 → value_of (45 ∷ bs) ≡ Some (whole (neg_ℤ (pos n)))
unfolding value_of
minus_value bs n e l = ap (option_map (λ m. whole (neg_ℤ (pos m)))) (number_complete bs n e l)

word_value : (v : Value) → FitsValue v → value_of (value_text v) ≡ Some v
unfolding value_of
word_value absent h = refl
word_value (flag true) h = refl
word_value (flag false) h = refl
word_value (whole (pos n)) h = digit_value (decimal n) n refl h
word_value (whole (negsuc n)) h = minus_value (decimal (suc n)) (suc n) refl h

pub value_complete : (w : List ℕ) (v : Value) → IsValue w v → value_of w ≡ Some v
value_complete w _ (spelled v e h) = ap value_of e ∙ word_value v h
value_complete w _ (minus_zero e) = ap value_of e ∙ minus_value (codes "0") 0 (sym (decimal_digit 0 (omega arith))) (omega arith)
