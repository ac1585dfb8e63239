-- Lists in a list: what a write keeps.
use Rattle.std.specs.Prelude.{ℕ, zero, suc, ◌≡◌, ◌≢◌, ◌⊎◌, ◌<◌, ◌≤◌, ◌+◌, ◌-◌, List, [], ◌∷◌, ◌++◌, length, Some, Contains, get_or, take, slice_get, slice_set, slice_index_or, refl}
use Rattle.std.specs.declared.vec.Vec.{Vec}
use Rattle.std.specs.declared.alloc.Global.{Global}
use Rattle.std.proofs.Common.{sym, ◌∙◌, ap, subst, arith, inl, inr}
use Rattle.proof_steps.specs.Meaning.{at}
use Rattle.sat_core.specs.Watching.{row, lists_of, AreSame, IsSameBut, IsWithout}
use Rattle.sat_core.proofs.Places.{within, read, at-place, get-contains, contains-get}
use Rattle.std.proofs.lemmas.Option.{get_or_from_slice_get}
use Rattle.std.proofs.lemmas.Bool.{cases_lt}

pub eq_or : (i j : ℕ) → (i ≡ j) ⊎ (i ≢ j)
eq_or i j = grind arith

pub row-of : (rows : List (Vec ℕ Global)) (p : ℕ) (d : Vec ℕ Global) → p < length rows
    → row (lists_of rows) p ≡ (get_or rows p d).items
row-of [] p d h = absurd (omega arith)
row-of (v ∷ rows) zero d h = refl
row-of (v ∷ rows) (suc p) d h = row-of rows p d (omega arith)

pub row-past : (rows : List (Vec ℕ Global)) (p : ℕ) → length rows ≤ p → row (lists_of rows) p ≡ []
row-past [] p h = refl
row-past (v ∷ rows) zero h = absurd (omega arith)
row-past (v ∷ rows) (suc p) h = row-past rows p (omega arith)

pub row-within : (rows : List (Vec ℕ Global)) (p j : ℕ) → j < length (row (lists_of rows) p) → p < length rows
row-within [] p j h = absurd (omega arith)
row-within (v ∷ rows) zero j h = omega arith
row-within (v ∷ rows) (suc p) j h = let k = row-within rows p j h in omega arith

pub row-set : (rows : List (Vec ℕ Global)) (p : ℕ) (v : Vec ℕ Global) → p < length rows
    → row (lists_of (slice_set rows p v)) p ≡ v.items
row-set [] p v h = absurd (omega arith)
row-set (x ∷ rows) zero v h = refl
row-set (x ∷ rows) (suc p) v h = row-set rows p v (omega arith)

pub row-set-other : (rows : List (Vec ℕ Global)) (p : ℕ) (v : Vec ℕ Global) (q : ℕ) → q ≢ p
    → row (lists_of (slice_set rows p v)) q ≡ row (lists_of rows) q
row-set-other [] p v q ne = refl
row-set-other (x ∷ rows) zero v zero ne = absurd (ne refl)
row-set-other (x ∷ rows) zero v (suc q) ne = refl
row-set-other (x ∷ rows) (suc p) v zero ne = refl
row-set-other (x ∷ rows) (suc p) v (suc q) ne = row-set-other rows p v q (λ e. ne (ap suc e))

pub row-more : (rows : List (Vec ℕ Global)) (v : Vec ℕ Global) → v.items ≡ [] → (q : ℕ)
    → row (lists_of (rows ++ v ∷ [])) q ≡ row (lists_of rows) q
row-more [] v e zero = e
row-more [] v e (suc q) = refl
row-more (x ∷ rows) v e zero = refl
row-more (x ∷ rows) v e (suc q) = row-more rows v e q

pub set_but : (rows : List (Vec ℕ Global)) (p : ℕ) (v : Vec ℕ Global) (list : List ℕ) → p < length rows → v.items ≡ list
    → IsSameBut (lists_of rows) (lists_of (slice_set rows p v)) p list
set_but rows p v list h e = record {
  here = row-set rows p v h ∙ e;
  others = λ q ne. row-set-other rows p v q ne;
}

pub same_but : (first old new : List (List ℕ)) (p : ℕ) (list : List ℕ) → AreSame first old → IsSameBut old new p list
    → IsSameBut first new p list
same_but first old new p list s b = record { here = b.here; others = λ q ne. b.others q ne ∙ s q }

pub entry-at : (rows : List (Vec ℕ Global)) (p q j : ℕ) (v : Vec ℕ Global) (e : ℕ) → p ≡ q
    → j < length (row (lists_of rows) q) → v ≡ get_or rows p v → e ≡ get_or v.items j e
    → slice_get (row (lists_of rows) q) j ≡ Some e
entry-at rows p q j v e pq h f g =
    let w : p < length rows = subst (λ x. x < length rows) (sym pq) (row-within rows q j h) in
    let r : row (lists_of rows) q ≡ v.items =
    ap (row (lists_of rows)) (sym pq) ∙ row-of rows p v w ∙ ap (λ (x : Vec ℕ Global). x.items) (sym f) in
    let k : j < length v.items = subst (λ x. j < length x) r h in
    ap (λ x. slice_get x j) r ∙ read v.items j e k ∙ ap (λ x. Some x) (sym g)

-- a list of which the elements at and after a place are known by their places
pub without : (old new : List ℕ) (j : ℕ) (d : ℕ) → j < length old → length new + 1 ≡ length old
    → ((d : ℕ) → j + 1 < length old → slice_index_or new j d ≡ slice_index_or old (length old - 1) d)
    → ((k : ℕ) (d : ℕ) → k ≢ j → k + 1 < length old → slice_index_or new k d ≡ slice_index_or old k d)
    → IsWithout old new j
without old new j x h f moved stays = record {
  fewer = f;
  kept = λ k e ne g. kept k e ne g (cases_lt (k + 1) (length old));
  only = λ e c. let r = contains-get new e c in only e r.0 r.1 (eq_or r.0 j);
} where
  kept : (k : ℕ) (e : ℕ) → k ≢ j → slice_get old k ≡ Some e → (k + 1 < length old) ⊎ (length old ≤ k + 1)
      → (i : ℕ) × (j ≤ k → j ≤ i) × (slice_get new i ≡ Some e)
  kept k e ne g (inl l) = (
    k,
    (λ q. q),
    read new k e (omega arith) ∙ ap (λ y. Some y) (stays k e ne l ∙ get_or_from_slice_get old k e e g),
  )
  kept k e ne g (inr l) = let w : k < length old = within old k e g in
      let last : k ≡ length old - 1 = omega arith in
      let m : j + 1 < length old = omega arith in (
        j,
        (λ q. omega arith),
        read new j e (omega arith) ∙ ap (λ y. Some y) (moved e m ∙ ap (λ n. get_or old n e) (sym last)
            ∙ get_or_from_slice_get old k e e g),
      )

  only : (e : ℕ) (i : ℕ) → slice_get new i ≡ Some e → (i ≡ j) ⊎ (i ≢ j) → Contains old e
  only e i g (inl q) = let w : i < length new = within new i e g in let m : j + 1 < length old = omega arith in
      get-contains old (length old - 1) e (read old (length old - 1) e (omega arith)
      ∙ ap (λ y. Some y) (sym (moved e m) ∙ ap (λ n. get_or new n e) (sym q) ∙ get_or_from_slice_get new i e e g))
  only e i g (inr ne) = let w : i < length new = within new i e g in
      get-contains old i e (read old i e (omega arith)
      ∙ ap (λ y. Some y) (sym (stays i e ne (omega arith)) ∙ get_or_from_slice_get new i e e g))

pub removed : (rows : List (Vec ℕ Global)) (p j : ℕ) (v v' : Vec ℕ Global) (e : ℕ) (n : ℕ)
    → j < length (row (lists_of rows) p)
    → v ≡ get_or rows p v → n ≡ length v.items → length v'.items + 1 ≡ length v.items
    → ((d : ℕ) → j + 1 < n → slice_index_or v'.items j d ≡ slice_index_or v.items (n - 1) d)
    → ((k : ℕ) (d : ℕ) → k ≢ j → k + 1 < n → slice_index_or v'.items k d ≡ slice_index_or v.items k d)
    → IsWithout (row (lists_of rows) p) (row (lists_of (slice_set rows p v')) p) j
removed rows p j v v' e n h f q l moved stays =
    let w : p < length rows = row-within rows p j h in
    let r : row (lists_of rows) p ≡ v.items = row-of rows p v w ∙ ap (λ (x : Vec ℕ Global). x.items) (sym f) in
    subst (λ x. IsWithout x (row (lists_of (slice_set rows p v')) p) j) (sym r)
    (subst (λ x. IsWithout v.items x j) (sym (row-set rows p v' w))
    (without v.items v'.items j e (subst (λ x. j < length x) r h) l
    (subst (λ m. (d : ℕ) → j + 1 < m → slice_index_or v'.items j d ≡ slice_index_or v.items (m - 1) d) q moved)
    (subst (λ m. (k : ℕ) (d : ℕ) → k ≢ j → k + 1 < m → slice_index_or v'.items k d ≡ slice_index_or v.items k d) q stays)))

pub not-within : (rows : List (Vec ℕ Global)) (p j : ℕ) → j < length (row (lists_of rows) p) → length rows ≤ p → ⊥
not-within rows p j h k = let w = row-within rows p j h in omega arith

pub pushed : (first rows : List (Vec ℕ Global)) (p : ℕ) (v v' : Vec ℕ Global) (e : ℕ) → AreSame (lists_of first) (lists_of rows)
    → p < length rows → v ≡ get_or rows p v → v'.items ≡ v.items ++ e ∷ []
    → IsSameBut (lists_of first) (lists_of (slice_set rows p v')) p (row (lists_of first) p ++ e ∷ [])
pushed first rows p v v' e s h f g =
    same_but (lists_of first) (lists_of rows) (lists_of (slice_set rows p v')) p (row (lists_of first) p ++ e ∷ []) s
    (set_but rows p v' (row (lists_of first) p ++ e ∷ []) h
    (g ∙ ap (λ x. x ++ e ∷ []) (ap (λ (x : Vec ℕ Global). x.items) f ∙ sym (row-of rows p v h) ∙ s p)))

pub unpushed : (first rows : List (Vec ℕ Global)) (p : ℕ) (v v' : Vec ℕ Global) → AreSame (lists_of first) (lists_of rows)
    → p < length rows → v ≡ get_or rows p v → v'.items ≡ v.items → AreSame (lists_of first) (lists_of (slice_set rows p v'))
unpushed first rows p v v' s h f g q = elim (eq_or q p) as (λ _. row (lists_of (slice_set rows p v')) q ≡ row (lists_of first) q) [
  | inl e ↦ ap (row (lists_of (slice_set rows p v'))) e ∙ row-set rows p v' h ∙ g ∙ ap (λ (x : Vec ℕ Global). x.items) f
      ∙ sym (row-of rows p v h) ∙ s p ∙ ap (row (lists_of first)) (sym e)
  | inr ne ↦ row-set-other rows p v' q ne ∙ s q
]

pub popped : (rows : List (Vec ℕ Global)) (p : ℕ) (u v v' : Vec ℕ Global) (n k : ℕ) → p < length rows
    → u ≡ get_or rows p u → v ≡ get_or rows p v → n ≡ u.len → u.len ≡ length u.items → k ≡ n - 1 → v'.items ≡ take k v.items
    → IsSameBut (lists_of rows) (lists_of (slice_set rows p v')) p
    (take (length (row (lists_of rows) p) - 1) (row (lists_of rows) p))
popped rows p u v v' n k h f g a b c e =
    let x : row (lists_of rows) p ≡ u.items = row-of rows p u h ∙ ap (λ (y : Vec ℕ Global). y.items) (sym f) in
    let y : row (lists_of rows) p ≡ v.items = row-of rows p v h ∙ ap (λ (y : Vec ℕ Global). y.items) (sym g) in
    let m : k ≡ length (row (lists_of rows) p) - 1 = c ∙ ap (λ z. z - 1) (a ∙ b ∙ ap length (sym x)) in
    set_but rows p v' (take (length (row (lists_of rows) p) - 1) (row (lists_of rows) p)) h
    (e ∙ ap (take k) (sym y) ∙ ap (λ z. take z (row (lists_of rows) p)) m)

-- an element read by its number
pub at-read : {X : Type 0} (xs : List X) (n : ℕ) (x y : X) → 0 < n → n ≤ length xs → x ≡ get_or xs (n - 1) x → x ≡ y
    → at xs n ≡ Some y
at-read xs n x y p h e f = at-place xs n (n - 1) (omega arith) ∙ read xs (n - 1) x (omega arith) ∙ ap (λ z. Some z) (sym e ∙ f)
