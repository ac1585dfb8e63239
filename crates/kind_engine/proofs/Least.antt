-- The first of the large numbers of a path.
use Rattle.std.specs.Prelude.{ℕ, ℤ, zero, suc, ◌≡◌, ◌≤◌, ◌<◌, ◌+◌, ◌++◌, ◌&&◌, Bool, true, false, List, [], ◌∷◌, length, take, Option, Some, None, slice_get, slice_index_or, refl}
use Rattle.std.proofs.Common.{ap, sym, subst, arith}
use Rattle.sys_terms.specs.declared.term.Entry.{Entry as Cell}
use Rattle.sys_terms.specs.declared.term.Entry.TheVariants as c
use Rattle.sys_terms.specs.Fits.{is_narrow_number, is_narrow_entry, is_narrow}
use Rattle.board_core.specs.Entries.{IsWideAt}
use Rattle.kind_engine.specs.Looks.{are_narrow, IsFirstWide}
use Rattle.kind_engine.specs.declared.large.Large.{Large}
use Rattle.kind_engine.specs.Larges.{IsFirstLarge, IsLeast}
use Rattle.kind_engine.proofs.Lists.{at-last}

-- ---- lists with one more at the end

-- an element is one of those before, or the last
pub get-push : {X : Type 0} (xs : List X) (x : X) (n : ℕ) (y : X) → slice_get (xs ++ x ∷ []) n ≡ Some y → (A : Type 0)
    → (slice_get xs n ≡ Some y → A) → (n ≡ length xs → x ≡ y → A) → A
get-push [] x zero y e A f g = g refl cc
get-push [] x (suc n) y e A f g = absurd cc
get-push (z ∷ xs) x zero y e A f g = f e
get-push (z ∷ xs) x (suc n) y e A f g = get-push xs x n y e A f (λ a b. g (ap suc a) b)

get-more : {X : Type 0} (xs : List X) (x : X) (n : ℕ) (y : X) → slice_get xs n ≡ Some y
    → slice_get (xs ++ x ∷ []) n ≡ Some y
get-more [] x n y e = absurd cc
get-more (z ∷ xs) x zero y e = e
get-more (z ∷ xs) x (suc n) y e = get-more xs x n y e

get-below : {X : Type 0} (xs : List X) (n : ℕ) (y : X) → slice_get xs n ≡ Some y → n < length xs
get-below [] n y e = absurd cc
get-below (z ∷ xs) zero y e = omega arith
get-below (z ∷ xs) (suc n) y e = let r = get-below xs n y e in omega arith

-- ---- narrow states

and-true : (a b : Bool) → a ≡ true → b ≡ true → (a && b) ≡ true
and-true true true e h = refl
and-true true false e h = absurd cc
and-true false b e h = absurd cc

and-both : (a b : Bool) → (a && b) ≡ true → (a ≡ true) × (b ≡ true)
and-both true b h = (refl, h)
and-both false b h = absurd cc

both : (b : Bool) → b ≡ true → b ≡ false → ⊥
both true e h = absurd cc
both false e h = absurd cc

pub narrow-more : (path : List (List Cell)) (s : List Cell) → are_narrow path ≡ true → is_narrow s ≡ true
    → are_narrow (path ++ s ∷ []) ≡ true
narrow-more [] s h k = and-true (is_narrow s) true k refl
narrow-more (r ∷ path) s h k =
    let parts = and-both (is_narrow r) (are_narrow path) h in
    and-true (is_narrow r) (are_narrow (path ++ s ∷ [])) parts.0 (narrow-more path s parts.1 k)

cell-narrow : (s : List Cell) (v : ℕ) (x : ℤ) → is_narrow s ≡ true → slice_get s v ≡ Some (c.Number x)
    → is_narrow_number x ≡ true
cell-narrow [] v x h e = absurd cc
cell-narrow (w ∷ s) zero x h e =
    let same : w ≡ c.Number x = cc in
    subst (λ k. is_narrow_entry k ≡ true) same (and-both (is_narrow_entry w) (is_narrow s) h).0
cell-narrow (w ∷ s) (suc v) x h e = cell-narrow s v x (and-both (is_narrow_entry w) (is_narrow s) h).1 e

state-narrow : (path : List (List Cell)) (t : ℕ) (s : List Cell) → are_narrow path ≡ true → slice_get path t ≡ Some s
    → is_narrow s ≡ true
state-narrow [] t s h e = absurd cc
state-narrow (r ∷ path) zero s h e =
    let same : r ≡ s = cc in subst (λ k. is_narrow k ≡ true) same (and-both (is_narrow r) (are_narrow path) h).0
state-narrow (r ∷ path) (suc t) s h e = state-narrow path t s (and-both (is_narrow r) (are_narrow path) h).1 e

-- the values before this one are narrow, and so it is the first
pub first-large : (values : List Cell) (n : ℕ) → is_narrow (take n values) ≡ true → (v : ℕ) (x : ℤ)
    → slice_get values v ≡ Some (c.Number x) → is_narrow_number x ≡ false → n ≤ v
first-large values zero h v x e big = omega arith
first-large [] (suc n) h v x e big = absurd cc
first-large (w ∷ values) (suc n) h zero x e big =
    let same : w ≡ c.Number x = cc in
    absurd (both (is_narrow_number x)
    (subst (λ k. is_narrow_entry k ≡ true) same (and-both (is_narrow_entry w) (is_narrow (take n values)) h).0) big)
first-large (w ∷ values) (suc n) h (suc v) x e big =
    let r = first-large values n (and-both (is_narrow_entry w) (is_narrow (take n values)) h).1 v x e big in omega arith

pub entries-more : (values : List Cell) (w : Cell) → is_narrow values ≡ true → is_narrow_entry w ≡ true
    → is_narrow (values ++ w ∷ []) ≡ true
entries-more [] w h k = and-true (is_narrow_entry w) true k refl
entries-more (u ∷ values) w h k =
    let parts = and-both (is_narrow_entry u) (is_narrow values) h in
    and-true (is_narrow_entry u) (is_narrow (values ++ w ∷ [])) parts.0 (entries-more values w parts.1 k)

-- ---- a path with one state more

module _ (path : List (List Cell)) (s : List Cell) where
  pub wide-more : (n i : ℕ) (x : ℤ) → IsWideAt path n i x → IsWideAt (path ++ s ∷ []) n i x
  wide-more n i x h = (h.0, get-more path s i h.0 h.1, h.2, h.3)

  pub wide-last : (n : ℕ) (x : ℤ) → slice_get s n ≡ Some (c.Number x) → is_narrow_number x ≡ false
      → IsWideAt (path ++ s ∷ []) n (length path) x
  wide-last n x e big = (s, at-last path s, e, big)

  -- which is narrow
  pub first-same : (n i : ℕ) → is_narrow s ≡ true → IsFirstWide path n i → IsFirstWide (path ++ s ∷ []) n i
  first-same n i k h = λ t v r x at cell big.
      get-push path s t r at ((n ≤ v) × (v ≡ n → i ≤ t)) (λ e. h t v r x e cell big)
      (λ a b.
      absurd (both (is_narrow_number x) (cell-narrow r v x (subst (λ l. is_narrow l ≡ true) b k) cell) big))

  -- which has the first large number
  pub first-new : (n : ℕ) → are_narrow path ≡ true → IsFirstLarge s n → IsFirstWide (path ++ s ∷ []) n (length path)
  first-new n k f = λ t v r x at cell big.
      get-push path s t r at ((n ≤ v) × (v ≡ n → length path ≤ t))
      (λ e. absurd (both (is_narrow_number x) (cell-narrow r v x (state-narrow path t r k e) cell) big))
      (λ a b. (f v x (subst (λ l. slice_get l v ≡ Some (c.Number x)) (sym b) cell) big, λ same. omega (arith, a)))

  -- whose first large number is of no smaller variable
  pub first-kept : (n i k : ℕ) → i < length path → n ≤ k → IsFirstLarge s k → IsFirstWide path n i
      → IsFirstWide (path ++ s ∷ []) n i
  first-kept n i k here l f h = λ t v r x at cell big.
      get-push path s t r at ((n ≤ v) × (v ≡ n → i ≤ t)) (λ e. h t v r x e cell big)
      (λ a b.
      let g = f v x (subst (λ l. slice_get l v ≡ Some (c.Number x)) (sym b) cell) big in
      (omega (arith, l, g), λ same. omega (arith, a, here)))

  -- whose first large number is of a smaller variable
  pub first-less : (n i k : ℕ) → k < n → IsFirstLarge s k → IsFirstWide path n i
      → IsFirstWide (path ++ s ∷ []) k (length path)
  first-less n i k l f h = λ t v r x at cell big.
      get-push path s t r at ((k ≤ v) × (v ≡ k → length path ≤ t))
      (λ e. let g = (h t v r x e cell big).0 in (omega (arith, l, g), λ same. absurd (omega (arith, l, g, same))))
      (λ a b. (f v x (subst (λ l. slice_get l v ≡ Some (c.Number x)) (sym b) cell) big, λ same. omega (arith, a)))

  pub wide-here : (n i : ℕ) (x : ℤ) → IsWideAt path n i x → i < length path
  wide-here n i x h = get-below path i h.0 h.1

-- ---- the next state of a path

module _ (path : List (List Cell)) (s : List Cell) where
  pub least-same : (least : Option Large) → is_narrow s ≡ true → IsLeast path least → IsLeast (path ++ s ∷ []) least
  least-same None k h = narrow-more path s h k
  least-same (Some l) k h =
      (wide-more path s l.number l.instant l.value h.0, first-same path s l.number l.instant k h.1)

  pub least-kept : (l : Large) (k : ℕ) → l.number ≤ k → IsFirstLarge s k → IsLeast path (Some l)
      → IsLeast (path ++ s ∷ []) (Some l)
  least-kept l k b f h = (
    wide-more path s l.number l.instant l.value h.0,
    first-kept path s l.number l.instant k (wide-here path s l.number l.instant l.value h.0) b f h.1,
  )

  pub least-new : (n i : ℕ) (x : ℤ) → length path ≡ i → slice_get s n ≡ Some (c.Number x) → is_narrow_number x ≡ false
      → IsFirstLarge s n → are_narrow path ≡ true
      → IsWideAt (path ++ s ∷ []) n i x × IsFirstWide (path ++ s ∷ []) n i
  least-new n i x e cell big f h =
      subst (λ j. IsWideAt (path ++ s ∷ []) n j x × IsFirstWide (path ++ s ∷ []) n j) e
      (wide-last path s n x cell big, first-new path s n h f)

  pub least-less : (n i : ℕ) (x : ℤ) (old at : ℕ) → n < old → length path ≡ i → slice_get s n ≡ Some (c.Number x)
      → is_narrow_number x ≡ false → IsFirstLarge s n → IsFirstWide path old at
      → IsWideAt (path ++ s ∷ []) n i x × IsFirstWide (path ++ s ∷ []) n i
  least-less n i x old at l e cell big f h =
      subst (λ j. IsWideAt (path ++ s ∷ []) n j x × IsFirstWide (path ++ s ∷ []) n j) e
      (wide-last path s n x cell big, first-less path s old at n l f h)

step-narrow : (values : List Cell) (n : ℕ) (d : Cell) → n < length values → is_narrow (take n values) ≡ true
    → is_narrow_entry (slice_index_or values n d) ≡ true → is_narrow (take (suc n) values) ≡ true
step-narrow [] n d l h k = absurd (omega arith)
step-narrow (w ∷ values) zero d l h k = and-true (is_narrow_entry w) true k refl
step-narrow (w ∷ values) (suc n) d l h k =
    let parts = and-both (is_narrow_entry w) (is_narrow (take n values)) h in
    and-true (is_narrow_entry w) (is_narrow (take (suc n) values)) parts.0
    (step-narrow values n d (omega arith) parts.1 k)

pub narrow-step : (values : List Cell) (n : ℕ) (d : Cell) → n < length values → is_narrow (take n values) ≡ true
    → is_narrow_entry (slice_index_or values n d) ≡ true → is_narrow (take (n + 1) values) ≡ true
narrow-step values n d l h k =
    let next : suc n ≡ n + 1 = omega arith in
    subst (λ i. is_narrow (take i values) ≡ true) next (step-narrow values n d l h k)
