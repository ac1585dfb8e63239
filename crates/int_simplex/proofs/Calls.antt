-- After all calls a column outside the basis stands at 0 or at a bound that was asserted to it.
use Rattle.std.specs.Prelude.{ℕ, zero, suc, ◌≡◌, ◌<◌, List, [], ◌∷◌, take, replicate, Contains, Some, Result, Ok, Err, slice_get}
use Rattle.std.proofs.Common.{sym, ◌∙◌, ap, subst, arith, refl, inl, inr}
use lib.IntN.{ℤ, pos}
use Rattle.int_simplex.specs.State.{Standing, State}
use Rattle.int_simplex.specs.Answers.{IsNew, IsAsserted, IsChecked, StaysOrIsBound}
use Rattle.int_simplex.specs.Calls.{Call, asserted, undone, checked, IsLeft, AreCalls, after, asserted_in, StandsAt}
use Rattle.int_simplex.specs.declared.answers.BoundFault.{BoundFault}
use Rattle.int_simplex.specs.declared.answers.BoundFault.TheVariants as f
use Rattle.int_simplex.specs.declared.answers.Checkup.TheVariants as a
use Rattle.int_simplex.proofs.Asserts.{in-either, in_taken}
use Rattle.int_simplex.proofs.Places.{listed_at, at_listed}

-- of these bounds each column outside the basis stands at one or at 0, and the standing ones are some
record IsKept (history : List Standing) (s : State) : Type 0 where
  stands : (c : ℕ) → c < s.columns → (¬ Contains s.basis c) → StandsAt history s c
  among : (b : Standing) → Contains s.bounds b → Contains history b

later : (b x : Standing) (history : List Standing) → Contains history x → Contains (b ∷ history) x
later b x history i = let j = at_listed history x i in listed_at (b ∷ history) (suc j.0) x j.1

more-stands : (history : List Standing) (b : Standing) (s : State) (c : ℕ) → StandsAt history s c → StandsAt (b ∷ history) s c
more-stands history b s c (inl e) = inl e
more-stands history b s c (inr (x, i, q, e)) = inr (x, later b x history i, q, e)

abbrev pub added : Call → List Standing → List Standing
added (asserted b) history = b ∷ history
added (undone mark) history = history
added (checked budget) history = history

kept-more : (history : List Standing) (b : Standing) (s : State) → IsKept history s → IsKept (b ∷ history) s
kept-more history b s k = record {
  stands = λ c l n. more-stands history b s c (k.stands c l n);
  among = λ x i. later b x history (k.among x i);
}

asserted-keeps : (history : List Standing) (b : Standing) (old new : State) (r : Result (Unit {0}) BoundFault) → IsAsserted old new b r → IsKept history old
    → IsKept (b ∷ history) new
asserted-keeps history b old new (Ok u) (e, q) k =
    let P : State → Type 0 = λ s. IsKept (b ∷ history) s in
    subst P (sym q) record {
      stands = λ c l n. more-stands history b old c (k.stands c l n);
      among = λ x i. elim (in-either old.bounds b x i) [
        | inl w ↦ later b x history (k.among x w)
        | inr w ↦ listed_at (b ∷ history) 0 x (ap Some w)
      ];
    }
asserted-keeps history b old new (Err (f.Crosses y)) (e, r, q) k = let P : State → Type 0 = λ s. IsKept (b ∷ history) s in subst P (sym q)
    (kept-more history b old k)
asserted-keeps history b old new (Err f.Memory) q k = let P : State → Type 0 = λ s. IsKept (b ∷ history) s in subst P (sym q) (kept-more history b old k)

undone-keeps : (history : List Standing) (mark : ℕ) (old new : State) → new ≡ record old { bounds = take mark old.bounds }
    → IsKept history old → IsKept history new
undone-keeps history mark old new q k =
    let P : State → Type 0 = λ s. IsKept history s in
    subst P (sym q) record { stands = λ c l n. k.stands c l n; among = λ x i. k.among x (in_taken mark old.bounds x i) }

checked-keeps : (history : List Standing) (budget : ℕ) (old new : State) → IsChecked old new budget → IsKept history old → IsKept history new
checked-keeps history budget old new h k = record {
  stands = λ c l n. by c (let e = ap (λ (s : State). s.columns) h.same in let P : ℕ → Type 0 = λ m. c < m in subst P e l)
      (h.outside c (let e = ap (λ (s : State). s.columns) h.same in let P : ℕ → Type 0 = λ m. c < m in subst P e l) n);
  among = λ x i. k.among x (let e = ap (λ (s : State). s.bounds) h.same in let P : List Standing → Type 0 = λ bs. Contains bs x in subst P e i);
} where
  by : (c : ℕ) → c < old.columns → StaysOrIsBound old new c → StandsAt history new c
  by c l (inl (m, e)) = elim (k.stands c l m) [
    | inl w ↦ inl (e ∙ w)
    | inr (b, i, q, w) ↦ inr (b, i, q, e ∙ w)
  ]
  by c l (inr (b, i, q, w)) = inr (b, k.among b i, q, w)

step-keeps : (history : List Standing) (call : Call) (old new : State) → IsLeft old call new → IsKept history old → IsKept (added call history) new
step-keeps history (asserted b) old new (r, h) k = asserted-keeps history b old new r h k
step-keeps history (undone mark) old new h k = undone-keeps history mark old new h k
step-keeps history (checked budget) old new (a.Fits, h, w) k = checked-keeps history budget old new h.0 k
step-keeps history (checked budget) old new (a.Refuted y, h, w) k = checked-keeps history budget old new h.0 k
step-keeps history (checked budget) old new (a.Pivots y, h, w) k = absurd w
step-keeps history (checked budget) old new (a.Past y, h, w) k = absurd w

calls-keep : (history : List Standing) (s : State) (calls : List (Call × State)) → AreCalls s calls → IsKept history s
    → (all : List Standing) → ((x : Standing) → Contains history x → Contains all x) → ((x : Standing) → Contains (asserted_in calls) x → Contains all x)
    → IsKept all (after s calls)
calls-keep history s [] h k all f g = record {
  stands = λ c l n. elim (k.stands c l n) [ inl e ↦ inl e | inr (b, i, q, e) ↦ inr (b, f b i, q, e) ];
  among = λ x i. f x (k.among x i);
}
calls-keep history s ((asserted b, new) ∷ rest) h k all f g =
    calls-keep (b ∷ history) new rest h.1 (step-keeps history (asserted b) s new h.0 k) all
    (λ x i. first x (at_listed (b ∷ history) x i)) (λ x i. g x (later b x (asserted_in rest) i)) where
      first : (x : Standing) → (j : ℕ) × (slice_get (b ∷ history) j ≡ Some x) → Contains all x
      first x (zero, e) = g x (listed_at (b ∷ asserted_in rest) 0 x e)
      first x (suc j, e) = f x (listed_at history j x e)
calls-keep history s ((undone mark, new) ∷ rest) h k all f g = calls-keep history new rest h.1 (step-keeps history (undone mark) s new h.0 k) all f g
calls-keep history s ((checked budget, new) ∷ rest) h k all f g = calls-keep history new rest h.1 (step-keeps history (checked budget) s new h.0 k) all f g

abbrev zero_value : ℤ × ℤ
zero_value = (pos 0, pos 1)

zero-at : (n c : ℕ) → c < n → slice_get (replicate n zero_value) c ≡ Some zero_value
zero-at zero c l = absurd (omega arith)
zero-at (suc n) zero l = refl
zero-at (suc n) (suc c) l = zero-at n c (omega arith)

new-keeps : (s : State) (rows : List (List (ℕ × ℤ))) (count : ℕ) → IsNew s rows count → IsKept [] s
new-keeps s rows count h = record {
  stands = λ c l n. inl (ap (λ vs. slice_get vs c) h.values ∙ zero-at count c (let q = h.columns in omega arith));
  among = λ x i. let P : List Standing → Type 0 = λ bs. Contains bs x in subst P h.bounds i;
}

pub columns_stand : (s : State) (rows : List (List (ℕ × ℤ))) (count : ℕ) (calls : List (Call × State)) → IsNew s rows count → AreCalls s calls
    → (c : ℕ) → c < (after s calls).columns → (¬ Contains (after s calls).basis c) → StandsAt (asserted_in calls) (after s calls) c
columns_stand s rows count calls new h =
    (calls-keep [] s calls h (new-keeps s rows count new) (asserted_in calls) (λ x (k, l, e). absurd (omega arith)) (λ x i. i)).stands
