-- Sums of a row's columns at their places.
use Rattle.std.specs.Prelude.{ℕ, zero, suc, ◌≡◌, ◌≢◌, ◌⊎◌, ◌<◌, ◌≤◌, ◌+◌, ◌==◌, Bool, true, false, cond, List, [], ◌∷◌, ◌++◌, take, length, Result, Ok, Err, IfErr, IsErrAnd}
use Rattle.std.proofs.Common.{sym, ◌∙◌, ap, subst, arith, refl, inl, inr, get_or}
use Rattle.std.proofs.lemmas.Option.{slice_get-get_or}
use Rattle.std.proofs.lemmas.Int.{ints}
use lib.IntN.{ℤ, pos, ◌+ℤ◌, ◌-ℤ◌, ◌*ℤ◌, neg_ℤ, *ℤ_comm, zero-*ℤ}
use lib.Signed.{lt_z}
use Rattle.std.proofs.Math.Nat.{eq-one_of_dvd-one}
use Rattle.kind_num.specs.Exact.{IsExact, within}
use Rattle.kind_num.specs.declared.Past.{Past}
use Rattle.kind_num.specs.declared.Op.TheVariants.{Add, Sub, Mul}
use Rattle.kind_num.proofs.Ring.{times_neg, neg_times, times_sum}
use Rattle.proof_steps.specs.Rows.{entry, rest_below}
use Rattle.int_simplex.specs.Points.{IsFraction}
use Rattle.int_simplex.specs.Sparse.{IsFrom}
use Rattle.int_simplex.specs.Valued.{place_at, place_of, rest_in, IsTermPast, IsRestPast, IsValuePast, IsOpposedPast}
use Rattle.int_simplex.proofs.Sparse.{by_test, same_if, other_if, is_other}

pub quotient_down : (rest sum own entry v w : ℤ) → sum ≡ rest → own ≡ entry → sum *ℤ w ≡ v *ℤ neg_ℤ own
    → entry ≢ pos 0 → (rest *ℤ w) +ℤ (entry *ℤ v) ≡ pos 0
quotient_down rest sum own entry v w es eo e n =
    let a : rest *ℤ w ≡ sum *ℤ w = ap (λ z. z *ℤ w) (sym es) in
    let b : entry *ℤ v ≡ v *ℤ own = ap (λ z. z *ℤ v) (sym eo) ∙ *ℤ_comm own v in
    let c : v *ℤ neg_ℤ own ≡ neg_ℤ (v *ℤ own) = times_neg v own in
    omega (arith, ints)

pub quotient_up : (rest sum own entry v w : ℤ) → sum ≡ rest → own ≡ entry → neg_ℤ sum *ℤ w ≡ v *ℤ own
    → entry ≢ pos 0 → (rest *ℤ w) +ℤ (entry *ℤ v) ≡ pos 0
quotient_up rest sum own entry v w es eo e n =
    let a : rest *ℤ w ≡ sum *ℤ w = ap (λ z. z *ℤ w) (sym es) in
    let b : entry *ℤ v ≡ v *ℤ own = ap (λ z. z *ℤ v) (sym eo) ∙ *ℤ_comm own v in
    let c : neg_ℤ sum *ℤ w ≡ neg_ℤ (sum *ℤ w) = neg_times sum w in
    omega (arith, ints)

no-sign : (own : ℤ) → lt_z own (pos 0) ≡ false → lt_z (pos 0) own ≡ false → own ≡ pos 0
no-sign own l h = grind (arith, ints)

pub no_sign : (own entry : ℤ) → own ≡ entry → lt_z own (pos 0) ≡ false → lt_z (pos 0) own ≡ false → entry ≢ pos 0 → ⊥
no_sign own entry e l h n = n (sym e ∙ no-sign own l h)

pub zero_fraction : IsFraction (pos 0, pos 1)
zero_fraction = record { positive = omega (arith, ints); lowest = λ d a b. eq-one_of_dvd-one b }

-- sums over the terms of a row
abbrev pub term_in : ℕ → (ℕ → ℤ) → ℕ × ℤ → ℤ → ℤ
term_in x f t sum = cond (t.0 == x) sum (t.1 *ℤ f t.0 +ℤ sum)

pub rest-last : (x : ℕ) (f : ℕ → ℤ) (row : List (ℕ × ℤ)) (t : ℕ × ℤ) → rest_in x f (row ++ t ∷ []) ≡ term_in x f t (rest_in x f row)
rest-last x f [] t = refl
rest-last x f (u ∷ row) t =
    ap (λ z. cond (u.0 == x) z (u.1 *ℤ f u.0 +ℤ z)) (rest-last x f row t)
    ∙ swapped (u.0 == x) (t.0 == x) (u.1 *ℤ f u.0) (t.1 *ℤ f t.0) (rest_in x f row) where
      swapped : (a b : Bool) (p q s : ℤ) → cond a (cond b s (q +ℤ s)) (p +ℤ cond b s (q +ℤ s)) ≡ cond b (cond a s (p +ℤ s)) (q +ℤ cond a s (p +ℤ s))
      swapped true true p q s = refl
      swapped true false p q s = refl
      swapped false true p q s = refl
      swapped false false p q s = omega (arith, ints)

pub take-next : {X : Type 0} (xs : List X) (i : ℕ) (z : X) → i < length xs → take (i + 1) xs ≡ take i xs ++ get_or xs i z ∷ []
take-next [] i z h = absurd (omega arith)
take-next (x ∷ xs) zero z h = refl
take-next (x ∷ xs) (suc i) z h =
    let e : suc i + 1 ≡ suc (i + 1) = omega arith in
    ap (λ k. take k (x ∷ xs)) e ∙ ap (λ w. x ∷ w) (take-next xs i z (omega arith))

pub take-whole : {X : Type 0} (xs : List X) (i : ℕ) → length xs ≤ i → take i xs ≡ xs
take-whole [] zero h = refl
take-whole [] (suc i) h = refl
take-whole (x ∷ xs) zero h = absurd (omega arith)
take-whole (x ∷ xs) (suc i) h = ap (λ w. x ∷ w) (take-whole xs i (omega arith))

pub rest_next : (x i : ℕ) (f : ℕ → ℤ) (row : List (ℕ × ℤ)) (z : ℕ × ℤ) (sum w place : ℤ) → i < length row → sum ≡ rest_in x f (take i row)
    → place ≡ f (get_or row i z).0 → w ≡ cond ((get_or row i z).0 == x) sum ((get_or row i z).1 *ℤ place +ℤ sum) → w ≡ rest_in x f (take (i + 1) row)
rest_next x i f row z sum w place h es ep e =
    e ∙ ap (λ p. cond ((get_or row i z).0 == x) sum ((get_or row i z).1 *ℤ p +ℤ sum)) ep
    ∙ ap (λ s. term_in x f (get_or row i z) s) es
    ∙ sym (rest-last x f (take i row) (get_or row i z)) ∙ ap (rest_in x f) (sym (take-next row i z h))

pub rest_all : (x i : ℕ) (f : ℕ → ℤ) (row : List (ℕ × ℤ)) (sum : ℤ) → length row ≤ i → sum ≡ rest_in x f (take i row) → sum ≡ rest_in x f row
rest_all x i f row sum h e = e ∙ ap (rest_in x f) (take-whole row i h)

pub place-is : (places : List ℤ) (k : ℕ) (z : ℤ) → k < length places → get_or places k z ≡ place_at places k
place-is places k z h = ap place_of (sym (slice_get-get_or places k z h))

-- a term's operation stands for the sum's
pub term_past : (x i : ℕ) (places : List ℤ) (row : List (ℕ × ℤ)) (z : ℕ × ℤ) (place sum : ℤ) (past : Past) → i < length row
    → place ≡ place_at places (get_or row i z).0 → sum ≡ rest_in x (place_at places) (take i row)
    → IsTermPast x (λ _. place) (get_or row i z) sum past → IsRestPast x (place_at places) row past
term_past x i places row z place sum past h ep es t = (
  i,
  get_or row i z,
  slice_get-get_or row i z h,
  (let P : ℤ → Type 0 = λ s. IsTermPast x (place_at places) (get_or row i z) s past in
      subst P es record {
        other = t.other;
        placed = λ e. t.placed (ep ∙ e);
        operands = let Q : ℤ → Type 0 = λ p. ((past ≡ record { op = Mul; left = (get_or row i z).1; right = p }) × (within ((get_or row i z).1 *ℤ p) ≡ false))
            ⊎ ((past ≡ record { op = Add; left = (get_or row i z).1 *ℤ p; right = sum }) × (within ((get_or row i z).1 *ℤ p +ℤ sum) ≡ false)) in
            subst Q ep t.operands;
      }),
)

-- the same sum by columns
abbrev with-term : ℕ → ℤ → (ℕ → ℤ) → ℕ → ℤ
with-term c a e k = cond (c == k) (a +ℤ e k) (e k)

below-none : (x n : ℕ) (f : ℕ → ℤ) → rest_below (λ _. pos 0) f x n ≡ pos 0
below-none x zero f = refl
below-none x (suc n) f = both (n == x) (f n) (rest_below (λ _. pos 0) f x n) (below-none x n f) where
  both : (b : Bool) (v s : ℤ) → s ≡ pos 0 → cond b s (pos 0 *ℤ v +ℤ s) ≡ pos 0
  both true v s e = e
  both false v s e = let z : pos 0 *ℤ v ≡ pos 0 = zero-*ℤ v in omega (arith, ints)

below-off : (c x n : ℕ) (a : ℤ) (e f : ℕ → ℤ) → n ≤ c → rest_below (with-term c a e) f x n ≡ rest_below e f x n
below-off c x zero a e f h = refl
below-off c x (suc n) a e f h =
    let o : (c == n) ≡ false = is_other c n (λ q. absurd (omega arith)) in
    ap (λ b. cond (n == x) (rest_below (with-term c a e) f x n) (cond b (a +ℤ e n) (e n) *ℤ f n +ℤ rest_below (with-term c a e) f x n)) o
    ∙ ap (λ s. cond (n == x) s (e n *ℤ f n +ℤ s)) (below-off c x n a e f (omega arith))

below-one : (c x n : ℕ) (a : ℤ) (e f : ℕ → ℤ) → c < n
    → rest_below (with-term c a e) f x n ≡ cond (c == x) (rest_below e f x n) (a *ℤ f c +ℤ rest_below e f x n)
below-one c x zero a e f h = absurd (omega arith)
below-one c x (suc n) a e f h = elim (by_test (c == n)) [
  | inl t ↦
      let q : c ≡ n = same_if c n t in
      let r : rest_below (with-term c a e) f x n ≡ rest_below e f x n = below-off c x n a e f (omega arith) in
      ap (λ b. cond (n == x) (rest_below (with-term c a e) f x n) (cond b (a +ℤ e n) (e n) *ℤ f n +ℤ rest_below (with-term c a e) f x n)) t
      ∙ ap (λ s. cond (n == x) s ((a +ℤ e n) *ℤ f n +ℤ s)) r
      ∙ here (n == x) a (e n) (f n) (rest_below e f x n)
      ∙ ap (λ k. cond (k == x) (cond (n == x) (rest_below e f x n) (e n *ℤ f n +ℤ rest_below e f x n))
      (a *ℤ f k +ℤ cond (n == x) (rest_below e f x n) (e n *ℤ f n +ℤ rest_below e f x n))) (sym q)
  | inr t ↦
      let q : c ≢ n = other_if c n t in
      ap (λ b. cond (n == x) (rest_below (with-term c a e) f x n) (cond b (a +ℤ e n) (e n) *ℤ f n +ℤ rest_below (with-term c a e) f x n)) t
      ∙ ap (λ s. cond (n == x) s (e n *ℤ f n +ℤ s)) (below-one c x n a e f (omega arith))
      ∙ there (n == x) (c == x) (a *ℤ f c) (e n *ℤ f n) (rest_below e f x n)
] where
  here : (b : Bool) (a d v s : ℤ) → cond b s ((a +ℤ d) *ℤ v +ℤ s) ≡ cond b (cond b s (d *ℤ v +ℤ s)) (a *ℤ v +ℤ cond b s (d *ℤ v +ℤ s))
  here true a d v s = refl
  here false a d v s = let e : (a +ℤ d) *ℤ v ≡ a *ℤ v +ℤ d *ℤ v = times_sum a d v in omega (arith, ints)

  there : (b d : Bool) (p q s : ℤ) → cond b (cond d s (p +ℤ s)) (q +ℤ cond d s (p +ℤ s)) ≡ cond d (cond b s (q +ℤ s)) (p +ℤ cond b s (q +ℤ s))
  there true true p q s = refl
  there true false p q s = refl
  there false true p q s = refl
  there false false p q s = omega (arith, ints)

pub rest_is : (x l n : ℕ) (f : ℕ → ℤ) (row : List (ℕ × ℤ)) → IsFrom l n row → rest_in x f row ≡ rest_below (entry row) f x n
rest_is x l n f [] s = sym (below-none x n f)
rest_is x l n f ((c, a) ∷ row) s =
    ap (λ z. cond (c == x) z (a *ℤ f c +ℤ z)) (rest_is x (suc c) n f row s.3) ∙ sym (below-one c x n a (entry row) f s.1)

pub rest_past : (x i : ℕ) (places : List ℤ) (row : List (ℕ × ℤ)) (z : ℕ × ℤ) (place sum : ℤ) (past : Past) (o : Result ℤ Past) → i < length row
    → place ≡ place_at places (get_or row i z).0 → sum ≡ rest_in x (place_at places) (take i row)
    → IsTermPast x (λ _. place) (get_or row i z) sum past → IsErrAnd o (λ e. e ≡ past) → IfErr o (IsRestPast x (place_at places) row)
rest_past x i places row z place sum past (Ok v) h ep es t q = tt
rest_past x i places row z place sum past (Err e) h ep es t q =
    subst (λ (p : Past). IsRestPast x (place_at places) row p) (sym q) (term_past x i places row z place sum past h ep es t)

-- the value's operation stands for the result's error
pub in_rest_past : (x : ℕ) (f : ℕ → ℤ) (row : List (ℕ × ℤ)) (past : Past) (o : Result (ℤ × ℤ) Past) → IsRestPast x f row past → IsErrAnd o (λ e. e ≡ past)
    → IfErr o (IsValuePast x f row)
in_rest_past x f row past (Ok v) h q = tt
in_rest_past x f row past (Err e) h q = subst (λ (p : Past). IsValuePast x f row p) (sym q) (inl h)

pub own_past : (x : ℕ) (f : ℕ → ℤ) (row : List (ℕ × ℤ)) (past : Past) (o : Result (ℤ × ℤ) Past) (own r : ℤ) → own ≡ entry row x
    → IsExact Sub (pos 0) own r (Err past) → r ≡ pos 0 -ℤ own → IsErrAnd o (λ e. e ≡ past) → IfErr o (IsValuePast x f row)
own_past x f row past (Ok v) own r eo h w q = tt
own_past x f row past (Err e) own r eo h w q =
    let P : ℤ → Type 0 = λ z. IsOpposedPast z past in
    subst (λ (p : Past). IsValuePast x f row p) (sym q) (inr (inl (subst P eo (h.1, ap within (sym w) ∙ h.0))))

pub sum_past : (x : ℕ) (f : ℕ → ℤ) (row : List (ℕ × ℤ)) (past : Past) (o : Result (ℤ × ℤ) Past) (sum r : ℤ) → sum ≡ rest_in x f row
    → IsExact Sub (pos 0) sum r (Err past) → r ≡ pos 0 -ℤ sum → IsErrAnd o (λ e. e ≡ past) → IfErr o (IsValuePast x f row)
sum_past x f row past (Ok v) sum r es h w q = tt
sum_past x f row past (Err e) sum r es h w q =
    let P : ℤ → Type 0 = λ z. IsOpposedPast z past in
    subst (λ (p : Past). IsValuePast x f row p) (sym q) (inr (inr (subst P es (h.1, ap within (sym w) ∙ h.0))))
