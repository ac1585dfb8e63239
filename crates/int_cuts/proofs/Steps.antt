-- One turn of a loop after the other.
use Rattle.std.specs.Prelude.{ℕ, zero, suc, ◌≡◌, ◌≢◌, ◌⊎◌, ◌<◌, ◌≤◌, ◌+◌, Bool, true, false, cond, List, [], ◌∷◌, ◌++◌, length, map, take, drop, All, Option, Some, None, Result, Ok, Err, IfErr, IsErrAnd, slice_get}
use Rattle.std.specs.Int.{int_rem_euclid}
use Rattle.std.specs.declared.vec.Vec.{Vec}
use Rattle.std.specs.declared.alloc.Global.{Global}
use Rattle.std.proofs.Common.{sym, ◌∙◌, ap, subst, arith, refl, inl, inr, get_or}
use Rattle.std.proofs.lemmas.Int.{ints}
use Rattle.std.proofs.lemmas.Option.{slice_get-get_or, slice_get_within, get_or_from_slice_get}
use lib.IntN.{ℤ, pos, ◌+ℤ◌, ◌*ℤ◌, neg_ℤ}
use lib.Signed.{◌<ℤ◌}
use Rattle.kind_num.specs.declared.Past.{Past}
use Rattle.proof_steps.specs.View.{row_view}
use Rattle.proof_steps.specs.Rows.{entry, AllDiffer}
use Rattle.int_simplex.specs.State.{State}
use Rattle.int_simplex.specs.Given.{column_of, last_column}
use Rattle.int_simplex.specs.Farkas.{turned}
use Rattle.int_simplex.specs.Making.{IsMadeTo}
use Rattle.int_simplex.proofs.Crossings.{made_skip, made_more}
use Rattle.int_simplex.proofs.Places.{same_some, mapped_at}
use Rattle.int_simplex.proofs.Rests.{take-next}
use Rattle.int_simplex.proofs.Sparse.{is_other}
use Rattle.int_cuts.specs.Cuts.{remainder}
use Rattle.int_cuts.specs.Parts.{facing, differ, IsPartOf, IsPushed, AreParts, IsGrown, coefficient_by, row_of, sum_by, factor_of, IsStepPast, IsSumPast}
use Rattle.int_cuts.specs.declared.parts.Part.{Part}
use Rattle.int_cuts.proofs.Remainders.{opposite_none}

at-last : (k i : ℕ) → k < i + 1 → (k < i) ⊎ (k ≡ i)
at-last k i h = grind arith

-- the rows before k + 1 do not define the column
pub undefined_more : (given : List (Vec (ℕ × ℤ) Global)) (k c n : ℕ) (v : Vec (ℕ × ℤ) Global) (r : List (ℕ × ℤ)) → v ≡ get_or given k v → k < length given
    → r ≡ v.items → n ≡ last_column r → (n ≡ c → ⊥)
    → ((j : ℕ) (g : List (ℕ × ℤ)) → j < k → slice_get (map row_view given) j ≡ Some g → last_column g ≢ c)
    → (j : ℕ) (g : List (ℕ × ℤ)) → j < k + 1 → slice_get (map row_view given) j ≡ Some g → last_column g ≢ c
undefined_more given k c n v r ev l er en d f j g h e q = elim (at-last j k h) [
  | inl b ↦ f j g b e q
  | inr w ↦
      let a : slice_get given k ≡ Some v = slice_get-get_or given k v l ∙ ap (λ (u : Vec (ℕ × ℤ) Global). Some u) (sym ev) in
      let s : row_view v ≡ g = same_some (row_view v) g (sym (mapped_at row_view given k v a) ∙ ap (slice_get (map row_view given)) (sym w) ∙ e) in
      d (en ∙ ap last_column er ∙ ap last_column s ∙ q)
]

pub row_read : (given : List (Vec (ℕ × ℤ) Global)) (k : ℕ) (v : Vec (ℕ × ℤ) Global) (r : List (ℕ × ℤ)) → v ≡ get_or given k v → k < length given → r ≡ v.items
    → slice_get (map row_view given) k ≡ Some r
row_read given k v r ev l er =
    let a : slice_get given k ≡ Some v = slice_get-get_or given k v l ∙ ap (λ (u : Vec (ℕ × ℤ) Global). Some u) (sym ev) in
    mapped_at row_view given k v a ∙ ap (λ (u : List (ℕ × ℤ)). Some u) (sym er)

pub given_differ : (given : List (List (ℕ × ℤ))) (k : ℕ) (r : List (ℕ × ℤ)) → All (λ (r : List (ℕ × ℤ)). AllDiffer (map column_of r)) given
    → slice_get given k ≡ Some r
    → AllDiffer (map column_of r)
given_differ given k r a e =
    let P : List (ℕ × ℤ) → Type 0 = λ r. AllDiffer (map column_of r) in
    subst P (get_or_from_slice_get given k r [] e) (a k [] (slice_get_within given k r e))

pub coefficient_is : (given : List (List (ℕ × ℤ))) (c v k : ℕ) (row : Option ℕ) (g : List (ℕ × ℤ)) (z : ℤ) → row ≡ Some k → (c ≡ v → ⊥)
    → slice_get given k ≡ Some g → z ≡ entry g v → z ≡ coefficient_by given c row v
coefficient_is given c v k row g z er n eg ez =
    ez ∙ ap (λ o. entry (row_of o) v) (sym eg) ∙ sym (ap (λ b. cond b (pos 0) (entry (row_of (slice_get given k)) v)) (is_other c v n))
    ∙ ap (λ o. coefficient_by given c o v) (sym er)

sum-last : (given : List (List (ℕ × ℤ))) (of : Option ℕ) (parts : List Part) (p : Part)
    → sum_by given of (parts ++ p ∷ []) ≡ sum_by given of parts +ℤ turned p.upper (p.multiplier *ℤ factor_of given of p)
sum-last given of [] p = omega (arith, ints)
sum-last given of (q ∷ parts) p = let i = sum-last given of parts p in omega (arith, ints)

pub sum_next : (given : List (List (ℕ × ℤ))) (of : Option ℕ) (parts : List Part) (i : ℕ) (z : Part) (sum f w : ℤ) → i < length parts
    → sum ≡ sum_by given of (take i parts) → f ≡ factor_of given of (get_or parts i z)
    → w ≡ sum +ℤ turned (get_or parts i z).upper ((get_or parts i z).multiplier *ℤ f) → w ≡ sum_by given of (take (i + 1) parts)
sum_next given of parts i z sum f w l es ef ew =
    ew ∙ ap (λ y. sum +ℤ turned (get_or parts i z).upper ((get_or parts i z).multiplier *ℤ y)) ef
    ∙ ap (λ y. y +ℤ turned (get_or parts i z).upper ((get_or parts i z).multiplier *ℤ factor_of given of (get_or parts i z))) es
    ∙ sym (sum-last given of (take i parts) (get_or parts i z)) ∙ ap (sum_by given of) (sym (take-next parts i z l))

pub sum_past : (given : List (List (ℕ × ℤ))) (of : Option ℕ) (parts : List Part) (i : ℕ) (z : Part) (sum f : ℤ) (past : Past) → i < length parts
    → sum ≡ sum_by given of (take i parts) → f ≡ factor_of given of (get_or parts i z)
    → IsStepPast sum (get_or parts i z).upper (get_or parts i z).multiplier f past → IsSumPast given of parts past
sum_past given of parts i z sum f past l es ef h = (
  i,
  get_or parts i z,
  slice_get-get_or parts i z l,
  (let P : ℤ → Type 0 = λ y. IsStepPast y (get_or parts i z).upper (get_or parts i z).multiplier (factor_of given of (get_or parts i z)) past in
      let Q : ℤ → Type 0 = λ y. IsStepPast sum (get_or parts i z).upper (get_or parts i z).multiplier y past in
      subst P es (subst Q ef h)),
)

pub terms_next : (f : ℕ → ℤ) (x : ℕ) (a : ℤ) (old new : List (ℕ × ℤ)) → IsMadeTo x f old → a ≡ f x → IsGrown x a old new → IsMadeTo (x + 1) f new
terms_next f x a old new m e g =
    let n : suc x ≡ x + 1 = omega arith in
    let P : ℕ → Type 0 = λ k. IsMadeTo k f new in
    subst P n (elim g [
      | inl h ↦
          let Q : List (ℕ × ℤ) → Type 0 = λ y. IsMadeTo (suc x) f y in
          subst Q (sym h.1) (made_skip x x f old m (omega arith) (λ c l b. absurd (omega arith)) (sym e ∙ h.0))
      | inr h ↦
          let Q : List (ℕ × ℤ) → Type 0 = λ y. IsMadeTo (suc x) f y in
          subst Q (sym h.1) (made_more x x f old a m (omega arith) (λ c l b. absurd (omega arith)) e h.0)
    ])

drop-next : {X : Type 0} (xs : List X) (i : ℕ) (z : X) → i < length xs → drop i xs ≡ get_or xs i z ∷ drop (i + 1) xs
drop-next [] i z h = absurd (omega arith)
drop-next (x ∷ xs) zero z h = refl
drop-next (x ∷ xs) (suc i) z h =
    let e : suc i + 1 ≡ suc (i + 1) = omega arith in
    drop-next xs i z (omega arith) ∙ ap (λ k. get_or xs i z ∷ drop k (x ∷ xs)) (sym e)

pub drop_whole : {X : Type 0} (xs : List X) (i : ℕ) → length xs ≤ i → drop i xs ≡ []
drop_whole [] zero h = refl
drop_whole [] (suc i) h = refl
drop_whole (x ∷ xs) zero h = absurd (omega arith)
drop_whole (x ∷ xs) (suc i) h = drop_whole xs i (omega arith)

append-none : (xs : List Part) → xs ++ [] ≡ xs
append-none [] = refl
append-none (x ∷ xs) = ap (λ ys. x ∷ ys) (append-none xs)

abbrev pub IsSoFar : State → ℕ → ℤ → Bool → List (ℕ × ℤ) → ℕ → List Part → Type 0
IsSoFar s x d down row i parts =
    (more : List Part) → AreParts s x d (map (facing down) (drop i row)) more → AreParts s x d (map (facing down) row) (parts ++ more)

pub parts_next : (s : State) (x : ℕ) (d : ℤ) (down : Bool) (row : List (ℕ × ℤ)) (i : ℕ) (z : ℕ × ℤ) (o : Option Part) (old new : List Part) → i < length row
    → IsPartOf s x d (facing down (get_or row i z)) o → IsPushed o old new → IsSoFar s x d down row i old → IsSoFar s x d down row (i + 1) new
parts_next s x d down row i z None old new l h e f more m =
    let P : List Part → Type 0 = λ ps. AreParts s x d (map (facing down) row) (ps ++ more) in
    let Q : List (ℕ × ℤ) → Type 0 = λ ts. AreParts s x d (map (facing down) ts) more in
    subst P (sym e) (f more (subst Q (sym (drop-next row i z l)) (inl (h, m))))
parts_next s x d down row i z (Some p) old new l h e f more m =
    let P : List Part → Type 0 = λ ps. AreParts s x d (map (facing down) row) ps in
    let Q : List (ℕ × ℤ) → Type 0 = λ ts. AreParts s x d (map (facing down) ts) (p ∷ more) in
    subst P (sym (ap (λ ps. ps ++ more) e ∙ join old p more)) (f (p ∷ more) (subst Q (sym (drop-next row i z l)) (inr (p, more, refl, h, m)))) where
      join : (xs : List Part) (p : Part) (more : List Part) → (xs ++ p ∷ []) ++ more ≡ xs ++ p ∷ more
      join [] p more = refl
      join (y ∷ xs) p more = ap (λ ys. y ∷ ys) (join xs p more)

pub parts_all : (s : State) (x : ℕ) (d : ℤ) (down : Bool) (row : List (ℕ × ℤ)) (i : ℕ) (parts : List Part) → length row ≤ i → IsSoFar s x d down row i parts
    → AreParts s x d (map (facing down) row) parts
parts_all s x d down row i parts l f =
    let P : List Part → Type 0 = λ ps. AreParts s x d (map (facing down) row) ps in
    let Q : List (ℕ × ℤ) → Type 0 = λ ts. AreParts s x d (map (facing down) ts) [] in
    subst P (append-none parts) (f [] (subst Q (sym (drop_whole row i l)) refl))

-- the remainder of the term is that of the number or of its opposite
pub facing_remainder : (down upper : Bool) (d : ℤ) (t : ℕ × ℤ) (m : ℤ) → m ≡ int_rem_euclid (cond (differ down upper) (neg_ℤ t.1) t.1) d
    → m ≡ remainder d upper (facing down t).1
facing_remainder true true d t m e = e ∙ ap (λ z. int_rem_euclid z d) (twice t.1) where
  twice : (z : ℤ) → z ≡ neg_ℤ (neg_ℤ z)
  twice z = omega (arith, ints)
facing_remainder true false d t m e = e
facing_remainder false true d t m e = e
facing_remainder false false d t m e = e

-- and none where it has none
pub facing_none : (down upper : Bool) (d : ℤ) (t : ℕ × ℤ) (m : ℤ) → pos 0 <ℤ d → m ≡ pos 0 → m ≡ int_rem_euclid (cond (differ down upper) (neg_ℤ t.1) t.1) d
    → int_rem_euclid (facing down t).1 d ≡ pos 0
facing_none true true d t m p z e = opposite_none d t.1 p (sym e ∙ z)
facing_none true false d t m p z e = sym e ∙ z
facing_none false true d t m p z e = sym (ap (λ y. int_rem_euclid y d) (twice t.1)) ∙ opposite_none d (neg_ℤ t.1) p (sym e ∙ z) where
  twice : (z : ℤ) → neg_ℤ (neg_ℤ z) ≡ z
  twice z = omega (arith, ints)
facing_none false false d t m p z e = sym e ∙ z

pub sum_result : (given : List (List (ℕ × ℤ))) (of : Option ℕ) (parts : List Part) (past : Past) (r : Result ℤ Past) → IsSumPast given of parts past
    → IsErrAnd r (λ e. e ≡ past) → IfErr r (IsSumPast given of parts)
sum_result given of parts past (Ok z) h e = absurd e
sum_result given of parts past (Err q) h e = let P : Past → Type 0 = λ p. IsSumPast given of parts p in subst P (sym e) h
