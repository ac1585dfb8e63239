-- The least column that leaves, and the least that enters.
use Rattle.std.specs.Prelude.{ℕ, zero, suc, ◌≡◌, ◌⊎◌, ◌<◌, ◌≤◌, ◌+◌, Bool, List, [], ◌∷◌, length, Option, Some, None, slice_get}
use Rattle.std.proofs.Common.{sym, ◌∙◌, ap, subst, arith, refl, inl, inr, get_or}
use Rattle.std.proofs.lemmas.Option.{slice_get-get_or, slice_get_within}
use lib.IntN.{ℤ, pos}
use lib.Signed.{lt_z}
use Rattle.proof_steps.specs.Rows.{entry}
use Rattle.int_simplex.specs.Sparse.{IsFrom, IsSparse}
use Rattle.int_simplex.specs.Choosing.{limit_at, limit_in, bare, IsMissedAt, IsMissed, IsSooner, IsLeavingOf, CanHelp, differs, Enters, CanMove, is_same_side, grows}
use Rattle.int_simplex.specs.Valued.{place_at}
use Rattle.int_simplex.specs.declared.choosing.Exit.{Exit}
use Rattle.int_simplex.proofs.Places.{same_some}
use Rattle.int_simplex.proofs.Sparse.{listed_entry, entry_at}

split : (k i : ℕ) → k < i + 1 → (k < i) ⊎ (k ≡ i)
split k i h = grind arith

pub limit-is : (limits : List (Option (ℤ × ℕ))) (c : ℕ) (z : Option (ℤ × ℕ)) → c < length limits → get_or limits c z ≡ limit_at limits c
limit-is limits c z h = ap limit_in (sym (slice_get-get_or limits c z h))

-- the next column of the basis does not miss a limit
pub leaving_kept : (basis : List ℕ) (values : List (ℤ × ℤ)) (lowers uppers : List (Option (ℤ × ℕ))) (i x : ℕ) (best : Option Exit) → slice_get basis i ≡ Some x
    → ((side : Bool) (limit : ℤ) → IsMissedAt values lowers uppers x side limit → ⊥)
    → IsLeavingOf basis values lowers uppers i best → IsLeavingOf basis values lowers uppers (i + 1) best
leaving_kept basis values lowers uppers i x None ex n f = λ k y side limit h ey m. elim (split k i h) [
  | inl b ↦ f k y side limit b ey m
  | inr q ↦
      let s : x ≡ y = same_some x y (sym ex ∙ ap (slice_get basis) (sym q) ∙ ey) in
      let P : ℕ → Type 0 = λ z. IsMissedAt values lowers uppers z side limit in n side limit (subst P (sym s) m)
]
leaving_kept basis values lowers uppers i x (Some l) ex n f = (
  f.0,
  f.1,
  λ k y side limit h ey b m. elim (split k i h) [
    | inl c ↦ f.2 k y side limit c ey b m
    | inr q ↦
        let s : x ≡ y = same_some x y (sym ex ∙ ap (slice_get basis) (sym q) ∙ ey) in
        let P : ℕ → Type 0 = λ z. IsMissedAt values lowers uppers z side limit in n side limit (subst P (sym s) m)
  ],
)

-- the next column is not below the best one
pub leaving_passed : (basis : List ℕ) (values : List (ℤ × ℤ)) (lowers uppers : List (Option (ℤ × ℕ))) (i x : ℕ) (l : Exit) → slice_get basis i ≡ Some x
    → l.column ≤ x → IsLeavingOf basis values lowers uppers i (Some l) → IsLeavingOf basis values lowers uppers (i + 1) (Some l)
leaving_passed basis values lowers uppers i x l ex n f = (
  f.0,
  f.1,
  λ k y side limit h ey b m. elim (split k i h) [
    | inl c ↦ f.2 k y side limit c ey b m
    | inr q ↦ let s : x ≡ y = same_some x y (sym ex ∙ ap (slice_get basis) (sym q) ∙ ey) in absurd (omega arith)
  ],
)

pub leaving_found : (basis : List ℕ) (values : List (ℤ × ℤ)) (lowers uppers : List (Option (ℤ × ℕ))) (i : ℕ) (best : Option Exit) (l : Exit)
    → slice_get basis i ≡ Some l.column → l.at ≡ i → IsMissedAt values lowers uppers l.column l.side l.limit
    → ((b : Exit) → best ≡ Some b → l.column < b.column)
    → IsLeavingOf basis values lowers uppers i best → IsLeavingOf basis values lowers uppers (i + 1) (Some l)
leaving_found basis values lowers uppers i None l ex e m n f = (
  ap (slice_get basis) e ∙ ex,
  m,
  λ k y side limit h ey b w. elim (split k i h) [
    | inl c ↦ f k y side limit c ey w
    | inr q ↦ let s : l.column ≡ y = same_some l.column y (sym ex ∙ ap (slice_get basis) (sym q) ∙ ey) in absurd (omega arith)
  ],
)
leaving_found basis values lowers uppers i (Some d) l ex e m n f = (
  ap (slice_get basis) e ∙ ex,
  m,
  λ k y side limit h ey b w.
      let t : l.column < d.column = n d refl in
      elim (split k i h) [
        | inl c ↦ f.2 k y side limit c ey (omega arith) w
        | inr q ↦ let s : l.column ≡ y = same_some l.column y (sym ex ∙ ap (slice_get basis) (sym q) ∙ ey) in absurd (omega arith)
      ],
)

-- the terms of a row up to the place i do not enter
abbrev pub NoneEnter : List (ℕ × ℤ) → ℕ → Bool → List ℤ → List (Option (ℤ × ℕ)) → List (Option (ℤ × ℕ)) → ℕ → Type 0
NoneEnter row x side places lowers uppers i =
    (k : ℕ) (u : ℕ × ℤ) → k < i → slice_get row k ≡ Some u → Enters row x side places lowers uppers u.0 → ⊥

pub enters_next : (n i : ℕ) (row : List (ℕ × ℤ)) (x : ℕ) (side : Bool) (places : List ℤ) (lowers uppers : List (Option (ℤ × ℕ))) (z : ℕ × ℤ) → i < length row
    → (Enters row x side places lowers uppers (get_or row i z).0 → ⊥) → NoneEnter row x side places lowers uppers i
    → NoneEnter row x side places lowers uppers (i + 1)
enters_next n i row x side places lowers uppers z h m f = λ k u b e. elim (split k i b) [
  | inl c ↦ f k u c e
  | inr q ↦
      let w : get_or row i z ≡ u = same_some (get_or row i z) u (sym (slice_get-get_or row i z h) ∙ ap (slice_get row) (sym q) ∙ e) in
      let P : ℕ × ℤ → Type 0 = λ v. Enters row x side places lowers uppers v.0 → ⊥ in subst P w m
]

-- a lower column stands at a lower place
lower-place : (l n : ℕ) (row : List (ℕ × ℤ)) (i j : ℕ) (t u : ℕ × ℤ) → IsFrom l n row → slice_get row i ≡ Some t → slice_get row j ≡ Some u → u.0 < t.0 → j < i
lower-place l n [] i j t u s ei ej h = absurd cc
lower-place l n (v ∷ row) zero zero t u s ei ej h =
    let q : u ≡ t = same_some u t (sym ej ∙ ei) in let p : u.0 ≡ t.0 = ap (λ (w : ℕ × ℤ). w.0) q in absurd (omega arith)
lower-place l n (v ∷ row) zero (suc j) t u s ei ej h =
    let w = listed_entry (suc v.0) n row j u s.3 ej in
    let q : v.0 ≡ t.0 = ap (λ (w : ℕ × ℤ). w.0) (same_some v t ei) in let b = w.3 in absurd (omega arith)
lower-place l n (v ∷ row) (suc i) zero t u s ei ej h = omega arith
lower-place l n (v ∷ row) (suc i) (suc j) t u s ei ej h = let r = lower-place (suc v.0) n row i j t u s.3 ei ej h in omega arith

pub enters_first : (n i : ℕ) (row : List (ℕ × ℤ)) (x : ℕ) (side : Bool) (places : List ℤ) (lowers uppers : List (Option (ℤ × ℕ))) (z : ℕ × ℤ) → IsSparse n row
    → i < length row → NoneEnter row x side places lowers uppers i → (k : ℕ) → k < (get_or row i z).0 → Enters row x side places lowers uppers k → ⊥
enters_first n i row x side places lowers uppers z s h f k b e =
    let w = entry_at n row k s e.has_entry in
    let p = w.3 in
    let j : w.0 < i = lower-place 0 n row i w.0 (get_or row i z) w.1 s (slice_get-get_or row i z h) w.2 (omega arith) in
    let P : ℕ → Type 0 = λ c. Enters row x side places lowers uppers c in
    f w.0 w.1 j w.2 (subst P (sym w.3) e)

pub enters_none : (n i : ℕ) (row : List (ℕ × ℤ)) (x : ℕ) (side : Bool) (places : List ℤ) (lowers uppers : List (Option (ℤ × ℕ))) → IsSparse n row
    → length row ≤ i → NoneEnter row x side places lowers uppers i → (k : ℕ) → Enters row x side places lowers uppers k → ⊥
enters_none n i row x side places lowers uppers s h f k e =
    let w = entry_at n row k s e.has_entry in
    let b : w.0 < length row = slice_get_within row w.0 w.1 w.2 in
    let P : ℕ → Type 0 = λ c. Enters row x side places lowers uppers c in
    f w.0 w.1 (omega arith) w.2 (subst P (sym w.3) e)

pub sooner_more : (basis : List ℕ) (values : List (ℤ × ℤ)) (lowers uppers : List (Option (ℤ × ℕ))) (i x : ℕ) (best new : Option Exit)
    (v : ℤ × ℤ) (low high : Option (ℤ × ℕ))
    → slice_get basis i ≡ Some x → slice_get values x ≡ Some v → low ≡ limit_at lowers x → high ≡ limit_at uppers x → IsSooner best i x v low high new
    → IsLeavingOf basis values lowers uppers i best → IsLeavingOf basis values lowers uppers (i + 1) new
sooner_more basis values lowers uppers i x best new v low high ex ev el eh (inl (e, inl n)) f =
    let P : Option Exit → Type 0 = λ o. IsLeavingOf basis values lowers uppers (i + 1) o in
    subst P (sym e) (leaving_kept basis values lowers uppers i x best ex (λ side limit m.
    let q : v ≡ m.0 = same_some v m.0 (sym ev ∙ m.1) in
    let Q : ℤ × ℤ → Type 0 = λ w. IsMissed (limit_at lowers x) (limit_at uppers x) w side limit in
    let R : Option (ℤ × ℕ) → Type 0 = λ w. IsMissed w (limit_at uppers x) v side limit in
    let S : Option (ℤ × ℕ) → Type 0 = λ w. IsMissed low w v side limit in
    n side limit (subst S (sym eh) (subst R (sym el) (subst Q (sym q) m.2)))) f)
sooner_more basis values lowers uppers i x best new v low high ex ev el eh (inl (e, inr (b, eb, l))) f =
    let P : Option Exit → Type 0 = λ o. IsLeavingOf basis values lowers uppers (i + 1) o in
    let Q : Option Exit → Type 0 = λ o. IsLeavingOf basis values lowers uppers i o in
    subst P (sym (e ∙ eb)) (leaving_passed basis values lowers uppers i x b ex l (subst Q eb f))
sooner_more basis values lowers uppers i x best new v low high ex ev el eh (inr (l, e, ea, ec, m, n)) f =
    let P : Option Exit → Type 0 = λ o. IsLeavingOf basis values lowers uppers (i + 1) o in
    let R : Option (ℤ × ℕ) → Type 0 = λ w. IsMissed w (limit_at uppers x) v l.side l.limit in
    let S : Option (ℤ × ℕ) → Type 0 = λ w. IsMissed low w v l.side l.limit in
    let T : ℕ → Type 0 = λ c. IsMissedAt values lowers uppers c l.side l.limit in
    subst P (sym e) (leaving_found basis values lowers uppers i best l (ex ∙ ap Some (sym ec)) ea
    (subst T (sym ec) (v, ev, subst R el (subst S eh m))) (λ b q. let h = n b q in omega arith) f)

-- the numbers of a term say whether its column enters
pub enters_if : (n i : ℕ) (row : List (ℕ × ℤ)) (x : ℕ) (side falls : Bool) (places : List ℤ) (lowers uppers : List (Option (ℤ × ℕ))) (z : ℕ × ℤ) (place : ℤ)
    (low high : Option (ℤ × ℕ)) → IsSparse n row → i < length row → falls ≡ lt_z (pos 0) (entry row x) → place ≡ place_at places (get_or row i z).0
    → low ≡ limit_at lowers (get_or row i z).0 → high ≡ limit_at uppers (get_or row i z).0
    → CanHelp x side falls (get_or row i z).0 (get_or row i z).1 place low high → Enters row x side places lowers uppers (get_or row i z).0
enters_if n i row x side falls places lowers uppers z place low high s h ef ep el eh c =
    let w = listed_entry 0 n row i (get_or row i z) s (slice_get-get_or row i z h) in record {
      other = c.0;
      has_entry = λ e. w.1 (sym w.0 ∙ e);
      can =
          let A : Bool → Type 0 = λ f. CanMove (is_same_side side (differs (lt_z (pos 0) (get_or row i z).1) f)) (bare low) (bare high) place in
          let B : ℤ → Type 0 = λ e. CanMove (is_same_side side (differs (lt_z (pos 0) e) (lt_z (pos 0) (entry row x)))) (bare low) (bare high) place in
          let C : ℤ → Type 0 = λ p. CanMove (is_same_side side (grows row x (entry row (get_or row i z).0))) (bare low) (bare high) p in
          let D : Option (ℤ × ℕ) → Type 0 = λ o. CanMove (is_same_side side (grows row x (entry row (get_or row i z).0))) (bare o)
          (bare high) (place_at places (get_or row i z).0) in
          let E : Option (ℤ × ℕ) → Type 0 = λ o. CanMove (is_same_side side (grows row x (entry row (get_or row i z).0)))
          (bare (limit_at lowers (get_or row i z).0)) (bare o)
          (place_at places (get_or row i z).0) in
          subst E eh (subst D el (subst C ep (subst B (sym w.0) (subst A ef c.1))));
    }

pub enters_only : (n i : ℕ) (row : List (ℕ × ℤ)) (x : ℕ) (side falls : Bool) (places : List ℤ) (lowers uppers : List (Option (ℤ × ℕ))) (z : ℕ × ℤ) (place : ℤ)
    (low high : Option (ℤ × ℕ)) → IsSparse n row → i < length row → falls ≡ lt_z (pos 0) (entry row x) → place ≡ place_at places (get_or row i z).0
    → low ≡ limit_at lowers (get_or row i z).0 → high ≡ limit_at uppers (get_or row i z).0
    → Enters row x side places lowers uppers (get_or row i z).0 → CanHelp x side falls (get_or row i z).0 (get_or row i z).1 place low high
enters_only n i row x side falls places lowers uppers z place low high s h ef ep el eh e =
    let w = listed_entry 0 n row i (get_or row i z) s (slice_get-get_or row i z h) in (
      e.other,
      (let A : Bool → Type 0 = λ f. CanMove (is_same_side side (differs (lt_z (pos 0) (get_or row i z).1) f)) (bare low) (bare high) place in
          let B : ℤ → Type 0 = λ e. CanMove (is_same_side side (differs (lt_z (pos 0) e) (lt_z (pos 0) (entry row x)))) (bare low) (bare high) place in
          let C : ℤ → Type 0 = λ p. CanMove (is_same_side side (grows row x (entry row (get_or row i z).0))) (bare low) (bare high) p in
          let D : Option (ℤ × ℕ) → Type 0 = λ o. CanMove (is_same_side side (grows row x (entry row (get_or row i z).0))) (bare o)
          (bare high) (place_at places (get_or row i z).0) in
          let E : Option (ℤ × ℕ) → Type 0 = λ o. CanMove (is_same_side side (grows row x (entry row (get_or row i z).0)))
          (bare (limit_at lowers (get_or row i z).0)) (bare o)
          (place_at places (get_or row i z).0) in
          subst A (sym ef) (subst B w.0 (subst C (sym ep) (subst D (sym el) (subst E (sym eh) e.can))))),
    )
