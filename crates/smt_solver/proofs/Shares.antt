-- The sums of a step in the words of the code.
use Rattle.std.specs.Prelude.{ℕ, zero, suc, ◌≡◌, ◌⊎◌, ◌==◌, ◌+◌, ◌<◌, ◌≤◌, true, cond, List, [], ◌∷◌, ◌++◌, length, take, drop, get_or, All, Option, Some, None, slice_get, refl}
use Rattle.std.proofs.Common.{sym, ◌∙◌, ap, subst, inl, inr, arith}
use Rattle.std.proofs.lemmas.Int.{ints}
use Rattle.std.proofs.lemmas.Bool.Decides.{nat_tests}
use lib.IntN.{ℤ, pos, ◌+ℤ◌, ◌*ℤ◌, +ℤ_idr, +ℤ_comm}
use Rattle.kind_num.specs.Exact.{within}
use Rattle.kind_num.specs.declared.Past.{Past}
use Rattle.proof_steps.specs.Rows.{entry}
use Rattle.line_laws.specs.PastSteps.{sum_in, SumFits, IsSumPast}
use Rattle.proof_steps.specs.declared.Atom.{Atom as Constraint}
use Rattle.smt_solver.specs.declared.numbers.sums.Share.{Share}
use Rattle.smt_solver.specs.Shares.{IsAdded, IsNotAdded, products_by, limits_by, FitsOrPast, AllFitOrPast, SharesFitOrPast, StepFitsOrPast}
use Rattle.smt_solver.proofs.Turns.{one}
use Rattle.std.proofs.lemmas.List.Elements.{All-append}
use Rattle.line_laws.proofs.Differing.{Differ, none-entry}

-- where the columns differ, a listed term is its column's entry
pub front-entry : (i : ℕ) (ts : List (ℕ × ℤ)) (x : ℕ) (d : ℕ × ℤ) → i < length ts → Differ (drop i ts) → (get_or ts i d).0 ≡ x
    → entry (drop i ts) x ≡ (get_or ts i d).1
front-entry i [] x d h f e = absurd (omega arith)
front-entry zero ((y, a) ∷ ts) x d h f e =
    let z : entry ts y ≡ pos 0 = none-entry y ts f.0 in
    let q : (y == x) ≡ true = here y x e in
    ap (λ w. cond w (a +ℤ entry ts x) (entry ts x)) q
    ∙ ap (λ k. a +ℤ entry ts k) (sym e) ∙ ap (λ k. a +ℤ k) z ∙ +ℤ_idr a where
      here : (y x : ℕ) → y ≡ x → (y == x) ≡ true
      here y x e = grind (arith, nat_tests)
front-entry (suc i) (t ∷ ts) x d h f e = front-entry i ts x d (omega arith) f e

-- ---- sums of products

nought : within (pos 0) ≡ true
unfolding within
nought = refl

pub none-fit : SumFits []
none-fit = record { each = λ k p e. absurd cc; sums = none } where
  none : (k : ℕ) → within (sum_in (take k [])) ≡ true
  none zero = nought
  none (suc k) = nought

pub sum-more : (i : ℕ) (ps : List (ℤ × ℤ)) (d : ℤ × ℤ) → i < length ps
    → sum_in (take (i + 1) ps) ≡ sum_in (take i ps) +ℤ (get_or ps i d).0 *ℤ (get_or ps i d).1
sum-more i [] d h = absurd (omega arith)
sum-more zero (p ∷ ps) d h = +ℤ_comm (p.0 *ℤ p.1) (pos 0)
sum-more (suc i) (p ∷ ps) d h =
    ap (λ n. sum_in (take n (p ∷ ps))) (up i) ∙ ap (λ z. (p.0 *ℤ p.1) +ℤ z) (sum-more i ps d (omega arith))
    ∙ joined (p.0 *ℤ p.1) (sum_in (take i ps)) ((get_or ps i d).0 *ℤ (get_or ps i d).1) where
      up : (i : ℕ) → suc i + 1 ≡ suc (i + 1)
      up i = omega arith

      joined : (x y z : ℤ) → x +ℤ (y +ℤ z) ≡ (x +ℤ y) +ℤ z
      joined x y z = omega (arith, ints)

-- the products before one more are those of the longer list, or the whole of it
taken : (i n : ℕ) (ps : List (ℤ × ℤ)) → (take n (take (suc i) ps) ≡ take n (take i ps)) ⊎ (take n (take (suc i) ps) ≡ take (suc i) ps)
taken i zero ps = inl refl
taken zero (suc n) [] = inl refl
taken (suc i) (suc n) [] = inl refl
taken zero (suc zero) (p ∷ ps) = inr refl
taken zero (suc (suc n)) (p ∷ ps) = inr refl
taken (suc i) (suc n) (p ∷ ps) = elim (taken i n ps) [
  | inl e ↦ inl (ap (λ xs. p ∷ xs) e)
  | inr e ↦ inr (ap (λ xs. p ∷ xs) e)
]

item : (i k : ℕ) (ps : List (ℤ × ℤ)) (d p : ℤ × ℤ) → slice_get (take (suc i) ps) k ≡ Some p
    → (slice_get (take i ps) k ≡ Some p) ⊎ (get_or ps i d ≡ p)
item i k [] d p e = absurd cc
item zero zero (q ∷ ps) d p e = inr (is q p e) where
  is : (q p : ℤ × ℤ) → Some q ≡ Some p → q ≡ p
  is q p e = cc
item zero (suc k) (q ∷ ps) d p e = absurd cc
item (suc i) zero (q ∷ ps) d p e = inl e
item (suc i) (suc k) (q ∷ ps) d p e = item i k ps d p e

up : (i : ℕ) → i + 1 ≡ suc i
up i = omega arith

pub more-fit : (i : ℕ) (ps : List (ℤ × ℤ)) (d : ℤ × ℤ) (sum z : ℤ) → i < length ps → sum ≡ sum_in (take i ps)
    → SumFits (take i ps) → IsAdded sum (get_or ps i d).0 (get_or ps i d).1 z
    → (z ≡ sum_in (take (i + 1) ps)) × SumFits (take (i + 1) ps)
more-fit i ps d sum z h e f a =
    let w : z ≡ sum_in (take (i + 1) ps) = a.is ∙ ap (λ y. y +ℤ (get_or ps i d).0 *ℤ (get_or ps i d).1) e ∙ sym (sum-more i ps d h) in (
      w,
      record {
        each = λ k p q. elim (item i k ps d p (subst (λ n. slice_get (take n ps) k ≡ Some p) (up i) q)) [
          | inl x ↦ f.each k p x
          | inr x ↦ subst (λ (y : ℤ × ℤ). within (y.0 *ℤ y.1) ≡ true) x a.product
        ];
        sums = λ n. elim (taken i n ps) [
          | inl x ↦ subst (λ xs. within (sum_in xs) ≡ true) (sym (ap (λ j. take n (take j ps)) (up i) ∙ x)) (f.sums n)
          | inr x ↦ subst (λ xs. within (sum_in xs) ≡ true) (sym (ap (λ j. take n (take j ps)) (up i) ∙ x ∙ ap (λ j. take j ps) (sym (up i))))
              (subst (λ y. within y ≡ true) (sym a.is ∙ w) a.whole)
        ];
      },
    )

there : (i : ℕ) (ps : List (ℤ × ℤ)) (d : ℤ × ℤ) → i < length ps → slice_get ps i ≡ Some (get_or ps i d)
there i [] d h = absurd (omega arith)
there zero (p ∷ ps) d h = refl
there (suc i) (p ∷ ps) d h = there i ps d (omega arith)

pub past-here : (i : ℕ) (ps : List (ℤ × ℤ)) (d : ℤ × ℤ) (sum : ℤ) (past : Past) → i < length ps → sum ≡ sum_in (take i ps)
    → IsNotAdded sum (get_or ps i d).0 (get_or ps i d).1 past → IsSumPast ps past
past-here i ps d sum past h e n = record {
  place = i;
  product = get_or ps i d;
  stands = there i ps d h;
  outside = subst (λ y. IsNotAdded y (get_or ps i d).0 (get_or ps i d).1 past) e n;
}

-- ---- lists, gone through

pub whole : {X : Type 0} (xs : List X) (i : ℕ) → length xs ≤ i → take i xs ≡ xs
whole [] zero h = refl
whole [] (suc i) h = refl
whole (x ∷ xs) zero h = absurd (omega arith)
whole (x ∷ xs) (suc i) h = ap (λ ys. x ∷ ys) (whole xs i (omega arith))

last-taken : {X : Type 0} (xs : List X) (i : ℕ) (d : X) → i < length xs → take (suc i) xs ≡ take i xs ++ get_or xs i d ∷ []
last-taken [] i d h = absurd (omega arith)
last-taken (x ∷ xs) zero d h = refl
last-taken (x ∷ xs) (suc i) d h = ap (λ ys. x ∷ ys) (last-taken xs i d (omega arith))

pub all-more : {X : Type 0} (P : X → Type 0) (xs : List X) (i : ℕ) (d : X) → i < length xs → All P (take i xs) → P (get_or xs i d)
    → All P (take (i + 1) xs)
all-more P xs i d h a p =
    subst (All P) (sym (ap (λ n. take n xs) (up i) ∙ last-taken xs i d h)) (All-append P (take i xs) (get_or xs i d ∷ []) a (one P (get_or xs i d) p))

-- ---- the sums of a step

pub fits-there : (products : List (ℤ × ℤ)) (o : Option Past) → o ≡ None → FitsOrPast products o → SumFits products
fits-there products None e h = h
fits-there products (Some p) e h = absurd cc

pub all-fit-there : (atoms : List Constraint) (shares : List Share) (terms : List (ℕ × ℤ)) (o : Option Past) → o ≡ None
    → AllFitOrPast atoms shares terms o → All (λ (t : ℕ × ℤ). SumFits (products_by atoms t.0 shares)) terms
all-fit-there atoms shares terms None e h = h
all-fit-there atoms shares terms (Some p) e h = absurd cc

pub step-fits : (atoms : List Constraint) (shares : List Share) (o : Option Past) → SumFits (limits_by shares)
    → SharesFitOrPast atoms shares shares o → StepFitsOrPast atoms shares o
step-fits atoms shares None l h = (l, h)
step-fits atoms shares (Some p) l h = (h.0, inl h.1)
