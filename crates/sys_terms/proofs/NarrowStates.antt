-- A narrow query is answered by the answers of its obligation that are narrow.
use Rattle.std.specs.Prelude.{ℕ, zero, suc, ◌≡◌, ◌+◌, ◌≤◌, Bool, true, false, not, List, [], ◌∷◌, ◌++◌, Some, slice_get, length, ◌↔◌, All, nat_lt, refl}
use Rattle.std.specs.List.{AllByRecursion}
use Rattle.std.proofs.Common.{ap, sym, ◌∙◌, subst, arith}
use Rattle.std.proofs.lemmas.List.{append_assoc}
use Rattle.std.proofs.lemmas.List.Elements.{All-from_recursion, recursion_from_All}
use Rattle.std.proofs.lemmas.Bool.Decides.{nat_tests}
use lib.IntN.{ℤ, pos, negsuc}
use lib.Signed.{le_z}
use Rattle.kind_num.specs.declared.Shape.{Shape}
use Rattle.kind_num.specs.declared.Shape.TheVariants as k
use Rattle.sys_terms.specs.declared.term.Entry.{Entry}
use Rattle.sys_terms.specs.declared.term.Entry.TheVariants as e
use Rattle.sys_terms.specs.View.{Formula, negation, Machine, Task, base, step, lemma_first, lemma_next, implied, with_states}
use Rattle.sys_terms.specs.Meaning.{values_of, as_number, truth_of}
use Rattle.sys_terms.specs.Fits.{fits_one, is_light, is_light_weight, all_light_at, is_light_task, state_fits, is_narrow, is_narrow_number, is_asked, places_fit, is_number, IsFit, IsMild}
use Rattle.sys_terms.specs.Paths.{IsState, IsFalseAtLast, IsFalseAtLastAlone}
use Rattle.sys_terms.specs.Queries.{placed, variables, property_term, some_path_to, true_from, each_at, before, last_of, path_of, asked_of, conditions_of}
use Rattle.sys_terms.specs.Answers.{IsPathIf, begins_first, IsTrueAtSome, IsAgainst, IsAnswer}
use Rattle.sys_terms.specs.NarrowQuery.{from_state, asked_at, greatest_narrow, least_narrow, upper_bound, lower_bound, bounds_at, bounds_from, narrow_bounds, narrow_task}
use Rattle.sys_terms.specs.Laws.{IsNarrowed}
use Rattle.sys_terms.proofs.Placed.{both_true, both_from}
use Rattle.sys_terms.proofs.Answered.{property-fits}
use Rattle.sys_terms.proofs.Lightness.{property-light}

-- each term is true at its state
abbrev EachAt : List (List Entry) → List (ℕ × Formula) → Type 0
EachAt states at = AllByRecursion (λ (p : ℕ × Formula). IsTrueAtSome p.1 (slice_get states p.0)) at

each-of-both : (states : List (List Entry)) (xs ys : List (ℕ × Formula))
    → EachAt states (xs ++ ys) ↔ (EachAt states xs × EachAt states ys)
each-of-both states [] ys = (λ a. (tt, a), λ a. a.1)
each-of-both states (x ∷ xs) ys = let r = each-of-both states xs ys in
    (λ a. ((a.0, (r.0 a.1).0), (r.0 a.1).1), λ a. (a.0.0, r.1 (a.0.1, a.1)))

-- the places of the states after the first one
later-terms : (s : List Entry) (more : List (List Entry)) (j k : ℕ) (f g : Formula) (count : ℕ)
    → EachAt (s ∷ more) (from_state (suc j) count f ++ (suc k, g) ∷ []) ↔ EachAt more (from_state j count f ++ (
      k,
      g,
    ) ∷ [])
later-terms s more j k f g zero = (λ a. a, λ a. a)
later-terms s more j k f g (suc count) = let r = later-terms s more (suc j) k f g count in
    (λ a. (a.0, r.0 a.1), λ a. (a.0, r.1 a.1))

not-true : (b : Bool) → not b ≡ true → b ≡ false
not-true true h = absurd cc
not-true false h = refl

true-not : (b : Bool) → b ≡ false → not b ≡ true
true-not true h = absurd cc
true-not false h = refl

last-term : (f : Formula) (i : ℕ) (s : List Entry) (more : List (List Entry)) → length more ≡ i
    → EachAt (s ∷ more) ((i, negation f) ∷ []) ↔ IsFalseAtLast f (s ∷ more)
last-term f zero s [] e = (λ a. not-true _ a.0, λ a. (true-not _ a, tt))
last-term f zero s (t ∷ more) e = absurd (omega arith)
last-term f (suc i) s [] e = absurd (omega arith)
last-term f (suc i) s (t ∷ more) e = last-term f i t more (omega arith)

alone-term : (f : Formula) (k : ℕ) (s : List Entry) (more : List (List Entry)) → length more ≡ k
    → EachAt (s ∷ more) (from_state 0 k f ++ (k, negation f) ∷ []) ↔ IsFalseAtLastAlone f (s ∷ more)
alone-term f zero s [] e = last-term f 0 s [] refl
alone-term f zero s (t ∷ more) e = absurd (omega arith)
alone-term f (suc k) s [] e = absurd (omega arith)
alone-term f (suc k) s (t ∷ more) e =
    let l = later-terms s (t ∷ more) 0 k f (negation f) k in
    let r = alone-term f k t more (omega arith) in
    (λ a. (a.0, r.0 (l.0 a.1)), λ a. (a.0, l.1 (r.1 a.1)))

-- what is asked term by term is what is against the obligation
asked-terms : (m : Machine) (task : Task) (s : List Entry) (more : List (List Entry)) → length more ≡ last_of task
    → EachAt (s ∷ more) (asked_at m task) ↔ IsAgainst m task (s ∷ more)
asked-terms m (base p i) s more e = last-term (property_term m p) i s more e
asked-terms m (step p k) s more e = alone-term (property_term m p) k s more e
asked-terms m (lemma_first f) s more e = last-term f 0 s more e
asked-terms m (lemma_next f) s more e = alone-term f 1 s more e
asked-terms m (implied f p) s more e = let r = last-term (property_term m p) 0 s more e in
    (λ a. (a.0, r.0 a.1), λ a. (a.0, r.1 a.1))
asked-terms m (with_states n b at) s more e =
    let P : ℕ × Formula → Type 0 = λ p. IsTrueAtSome p.1 (slice_get (s ∷ more) p.0) in
    (λ a. All-from_recursion P at a, λ a. recursion_from_All P at a)

-- both bounds of a number
within-bounds : (z : ℤ) → ((le_z z greatest_narrow ≡ true) × (le_z least_narrow z ≡ true)) ↔ (is_narrow_number z ≡ true)
unfolding is_narrow_number
within-bounds (pos n) = (λ a. grind (arith, nat_tests, a.0), λ a. (grind (arith, nat_tests, a), refl))
within-bounds (negsuc n) = (λ a. grind (arith, nat_tests, a.1), λ a. (refl, grind (arith, nat_tests, a)))

-- the values from variable v on
abbrev IsTail : List Entry → ℕ → List Entry → Type 0
IsTail s v tail = (x : ℕ) → slice_get s (v + x) ≡ slice_get tail x

next-tail : (s : List Entry) (v : ℕ) (x : Entry) (tail : List Entry) → IsTail s v (x ∷ tail) → IsTail s (suc v) tail
next-tail s v x tail t y = ap (slice_get s) (one_more v y) ∙ t (suc y) where
  one_more : (m k : ℕ) → suc m + k ≡ m + suc k
  one_more m k = omega arith

head-tail : (s : List Entry) (v : ℕ) (x : Entry) (tail : List Entry) → IsTail s v (x ∷ tail) → slice_get s v ≡ Some x
head-tail s v x tail t = ap (slice_get s) (same v) ∙ t 0 where
  same : (m : ℕ) → m ≡ m + 0
  same m = omega arith

upper-is : (s : List Entry) (v : ℕ) (z : ℤ) → slice_get s v ≡ Some (e.Number z)
    → truth_of (values_of s) (values_of s) (upper_bound v) ≡ le_z z greatest_narrow
upper-is s v z q = ap (λ o. le_z (as_number o) greatest_narrow) q

lower-is : (s : List Entry) (v : ℕ) (z : ℤ) → slice_get s v ≡ Some (e.Number z)
    → truth_of (values_of s) (values_of s) (lower_bound v) ≡ le_z least_narrow z
lower-is s v z q = ap (λ o. le_z least_narrow (as_number o)) q

state-bounds : (shapes : List Shape) (s : List Entry) (more : List (List Entry)) (v : ℕ) (tail : List Entry)
    → IsTail s v tail → state_fits shapes tail ≡ true
    → EachAt (s ∷ more) (bounds_at 0 v shapes) ↔ (is_narrow tail ≡ true)
state-bounds [] s more v [] t f = (λ a. refl, λ a. tt)
state-bounds [] s more v (x ∷ tail) t f = absurd cc
state-bounds (k.Flag ∷ hs) s more v [] t f = absurd cc
state-bounds (k.Number ∷ hs) s more v [] t f = absurd cc
state-bounds (k.Flag ∷ hs) s more v (e.Flag b ∷ tail) t f = state-bounds hs s more (suc v) tail
    (next-tail s v (e.Flag b) tail t) f
state-bounds (k.Flag ∷ hs) s more v (e.Number z ∷ tail) t f = absurd cc
state-bounds (k.Number ∷ hs) s more v (e.Flag b ∷ tail) t f = absurd cc
state-bounds (k.Number ∷ hs) s more v (e.Number z ∷ tail) t f =
    let q = head-tail s v (e.Number z) tail t in
    let u = upper-is s v z q in
    let l = lower-is s v z q in
    let w = within-bounds z in
    let r = state-bounds hs s more (suc v) tail (next-tail s v (e.Number z) tail t) f in (
      λ a. both_from _ _ (w.0 (sym u ∙ a.0, sym l ∙ a.1.0)) (r.0 a.1.1),
      λ a. let k = both_true _ _ a in let b = w.1 k.0 in (u ∙ b.0, (l ∙ b.1, r.1 k.1)),
    )

later-bounds-at : (s : List Entry) (more : List (List Entry)) (j v : ℕ) (shapes : List Shape)
    → EachAt (s ∷ more) (bounds_at (suc j) v shapes) ↔ EachAt more (bounds_at j v shapes)
later-bounds-at s more j v [] = (λ a. a, λ a. a)
later-bounds-at s more j v (k.Flag ∷ hs) = later-bounds-at s more j (suc v) hs
later-bounds-at s more j v (k.Number ∷ hs) = let r = later-bounds-at s more j (suc v) hs in
    (λ a. (a.0, (a.1.0, r.0 a.1.1)), λ a. (a.0, (a.1.0, r.1 a.1.1)))

later-bounds : (s : List Entry) (more : List (List Entry)) (shapes : List Shape) (count j : ℕ)
    → EachAt (s ∷ more) (bounds_from shapes (suc j) count) ↔ EachAt more (bounds_from shapes j count)
later-bounds s more shapes zero j = (λ a. a, λ a. a)
later-bounds s more shapes (suc count) j =
    let x = each-of-both (s ∷ more) (bounds_at (suc j) 0 shapes) (bounds_from shapes (suc (suc j)) count) in
    let y = each-of-both more (bounds_at j 0 shapes) (bounds_from shapes (suc j) count) in
    let l = later-bounds-at s more j 0 shapes in
    let r = later-bounds s more shapes count (suc j) in
    (λ a. let b = x.0 a in y.1 (l.0 b.0, r.0 b.1), λ a. let b = y.0 a in x.1 (l.1 b.0, r.1 b.1))

no-shift : (n : ℕ) → 0 + n ≡ n
no-shift n = omega arith

all-bounds : (shapes : List Shape) (states : List (List Entry)) (count : ℕ) → length states ≡ count
    → AllByRecursion (λ s. state_fits shapes s ≡ true) states
    → EachAt states (bounds_from shapes 0 count) ↔ AllByRecursion (λ s. is_narrow s ≡ true) states
all-bounds shapes [] zero e f = (λ a. tt, λ a. tt)
all-bounds shapes (s ∷ more) zero e f = absurd (omega arith)
all-bounds shapes [] (suc count) e f = absurd (omega arith)
all-bounds shapes (s ∷ more) (suc count) e f =
    let x = each-of-both (s ∷ more) (bounds_at 0 0 shapes) (bounds_from shapes 1 count) in
    let b = state-bounds shapes s more 0 s (λ y. ap (slice_get s) (no-shift y)) f.0 in
    let l = later-bounds s more shapes count 0 in
    let r = all-bounds shapes more count (omega arith) f.1 in
    (λ a. let c = x.0 a in (b.0 c.0, r.0 (l.0 c.1)), λ a. x.1 (b.1 a.0, l.1 (r.1 a.1)))

loose-fits : (m : Machine) (states : List (List Entry)) → AllByRecursion (IsState m) states
    → AllByRecursion (λ s. state_fits m.shapes s ≡ true) states
loose-fits m [] a = tt
loose-fits m (s ∷ more) a = (a.0.fit, loose-fits m more a.1)

path-fits : (m : Machine) (b : Bool) (states : List (List Entry)) → IsPathIf b m states
    → AllByRecursion (λ s. state_fits m.shapes s ≡ true) states
path-fits m true states p = loose-fits m states (recursion_from_All (IsState m) states p.loose.each)
path-fits m false states p = loose-fits m states (recursion_from_All (IsState m) states p.each)

narrow-answers : (m : Machine) (task : Task) (cites : List Formula) (states : List (List Entry))
    → IsAnswer m (narrow_task m task) cites states
    ↔ (IsAnswer m task cites states × All (λ s. is_narrow s ≡ true) states)
narrow-answers m task cites [] = (λ a. absurd (omega (arith, a.count)), λ a. absurd (omega (arith, a.0.count)))
narrow-answers m task cites (s ∷ more) =
    let states = s ∷ more in
    let P : ℕ × Formula → Type 0 = λ p. IsTrueAtSome p.1 (slice_get (s ∷ more) p.0) in
    let N : List Entry → Type 0 = λ t. is_narrow t ≡ true in
    let x = each-of-both (s ∷ more) (asked_at m task) (narrow_bounds m task) in (
      λ a. let t = asked-terms m task s more (omega (arith, a.count)) in
          let w = all-bounds m.shapes (s ∷ more) (suc (last_of task)) a.count
          (path-fits m (begins_first task) (s ∷ more) a.path) in
          let c = x.0 (recursion_from_All P (asked_at m task ++ narrow_bounds m task) a.against) in (
            record { path = a.path; count = a.count; cited = a.cited; against = t.0 c.0 },
            All-from_recursion N (s ∷ more) (w.0 c.1),
          ),
      λ a. let t = asked-terms m task s more (omega (arith, a.0.count)) in
          let w = all-bounds m.shapes (s ∷ more) (suc (last_of task)) a.0.count
          (path-fits m (begins_first task) (s ∷ more) a.0.path) in
          record {
            path = a.0.path;
            count = a.0.count;
            cited = a.0.cited;
            against = All-from_recursion P (asked_at m task ++ narrow_bounds m task) (x.1 (
              t.1 a.0.against,
              w.1 (recursion_from_All N (s ∷ more) a.1),
            ));
          },
    )

-- the same conditions
each-append-at : (m : Machine) (xs ys : List (ℕ × Formula)) → each_at m (xs ++ ys) ≡ each_at m xs ++ each_at m ys
each-append-at m [] ys = refl
each-append-at m ((j, f) ∷ xs) ys = ap (λ l. placed (variables m) j f ∷ l) (each-append-at m xs ys)

true-terms : (m : Machine) (f g : Formula) (k j count : ℕ)
    → each_at m (from_state j count f ++ (k, g) ∷ []) ≡ true_from m j count f ++ placed (variables m) k g ∷ []
true-terms m f g k j zero = refl
true-terms m f g k j (suc count) = ap (λ l. placed (variables m) j f ∷ l) (true-terms m f g k (suc j) count)

same-asked : (m : Machine) (task : Task) → each_at m (asked_at m task) ≡ asked_of m task
same-asked m (base p i) = refl
same-asked m (step p k) = true-terms m (property_term m p) (negation (property_term m p)) k 0 k
same-asked m (lemma_first f) = refl
same-asked m (lemma_next f) = refl
same-asked m (implied f p) = refl
same-asked m (with_states n b at) = refl

path_is : (m : Machine) (cites : List Formula) (task : Task)
    → path_of m cites task ≡ some_path_to m cites (begins_first task) (last_of task)
path_is m cites (base p i) = refl
path_is m cites (step p k) = refl
path_is m cites (lemma_first f) = refl
path_is m cites (lemma_next f) = refl
path_is m cites (implied f p) = refl
path_is m cites (with_states n b at) = refl

same-conditions : (m : Machine) (task : Task) (cites : List Formula)
    → conditions_of m (narrow_task m task) cites ≡ conditions_of m task cites ++ each_at m (narrow_bounds m task)
same-conditions m task cites =
    ap (λ l. some_path_to m cites (begins_first task) (last_of task) ++ l)
    (each-append-at m (asked_at m task) (narrow_bounds m task)
    ∙ ap (λ l. l ++ each_at m (narrow_bounds m task)) (same-asked m task))
    ∙ ap (λ l. l ++ (asked_of m task ++ each_at m (narrow_bounds m task))) (sym (path_is m cites task))
    ∙ sym (append_assoc (path_of m cites task) (asked_of m task) (each_at m (narrow_bounds m task)))

-- it speaks of the system
fit-append : (shapes : List Shape) (n : ℕ) (xs ys : List (ℕ × Formula)) → places_fit shapes n xs ≡ true
    → places_fit shapes n ys ≡ true → places_fit shapes n (xs ++ ys) ≡ true
fit-append shapes n [] ys a b = b
fit-append shapes n ((j, f) ∷ xs) ys a b =
    let c = both_true _ _ a in
    let d = both_true _ _ c.1 in
    both_from _ _ c.0 (both_from _ _ d.0 (fit-append shapes n xs ys d.1 b))

below-next : (j n : ℕ) → j ≤ n → nat_lt j (suc n) ≡ true
below-next j n h = grind (arith, nat_tests)

one-fits : (shapes : List Shape) (j n : ℕ) (f : Formula) → j ≤ n → fits_one shapes f ≡ true
    → places_fit shapes (suc n) ((j, f) ∷ []) ≡ true
one-fits shapes j n f h g = both_from _ _ (below-next j n h) (both_from _ _ g refl)

from-fits : (shapes : List Shape) (f : Formula) → fits_one shapes f ≡ true → (count j n : ℕ) → j + count ≤ suc n
    → places_fit shapes (suc n) (from_state j count f) ≡ true
from-fits shapes f g zero j n h = refl
from-fits shapes f g (suc count) j n h =
    both_from _ _ (below-next j n (omega arith)) (both_from _ _ g (from-fits shapes f g count (suc j) n (omega arith)))

-- the shapes from variable v on
abbrev AreFrom : List Shape → ℕ → List Shape → Type 0
AreFrom shapes v tail = (x : ℕ) → slice_get shapes (v + x) ≡ slice_get tail x

bound-shape : (shapes : List Shape) (v : ℕ) (tail : List Shape) → AreFrom shapes v (k.Number ∷ tail)
    → is_number (slice_get shapes v) ≡ true
bound-shape shapes v tail t = ap is_number (ap (slice_get shapes) (same v) ∙ t 0) where
  same : (m : ℕ) → m ≡ m + 0
  same m = omega arith

next-shapes : (shapes : List Shape) (v : ℕ) (x : Shape) (tail : List Shape) → AreFrom shapes v (x ∷ tail)
    → AreFrom shapes (suc v) tail
next-shapes shapes v x tail t y = ap (slice_get shapes) (one_more v y) ∙ t (suc y) where
  one_more : (m k : ℕ) → suc m + k ≡ m + suc k
  one_more m k = omega arith

upper-fits : (shapes : List Shape) (v : ℕ) → is_number (slice_get shapes v) ≡ true
    → fits_one shapes (upper_bound v) ≡ true
upper-fits shapes v h = both_from _ _ (both_from _ _ h refl) refl

lower-fits : (shapes : List Shape) (v : ℕ) → is_number (slice_get shapes v) ≡ true
    → fits_one shapes (lower_bound v) ≡ true
lower-fits shapes v h = both_from _ _ h refl

bounds-at-fit : (shapes : List Shape) (j n : ℕ) → j ≤ n → (v : ℕ) (tail : List Shape) → AreFrom shapes v tail
    → places_fit shapes (suc n) (bounds_at j v tail) ≡ true
bounds-at-fit shapes j n h v [] t = refl
bounds-at-fit shapes j n h v (k.Flag ∷ tail) t = bounds-at-fit shapes j n h (suc v) tail
    (next-shapes shapes v k.Flag tail t)
bounds-at-fit shapes j n h v (k.Number ∷ tail) t =
    let q = bound-shape shapes v tail t in
    let l = below-next j n h in
    both_from _ _ l (both_from _ _ (upper-fits shapes v q) (both_from _ _ l (both_from _ _ (lower-fits shapes v q)
    (bounds-at-fit shapes j n h (suc v) tail (next-shapes shapes v k.Number tail t)))))

bounds-fit : (shapes : List Shape) (count j n : ℕ) → j + count ≤ suc n
    → places_fit shapes (suc n) (bounds_from shapes j count) ≡ true
bounds-fit shapes zero j n h = refl
bounds-fit shapes (suc count) j n h =
    fit-append shapes (suc n) (bounds_at j 0 shapes) (bounds_from shapes (suc j) count)
    (bounds-at-fit shapes j n (omega arith) 0 shapes (λ y. ap (slice_get shapes) (no-shift y)))
    (bounds-fit shapes count (suc j) n (omega arith))

asked-fit : (m : Machine) → IsFit m → (task : Task) → is_asked m task ≡ true
    → places_fit m.shapes (suc (last_of task)) (asked_at m task) ≡ true
asked-fit m fit (base p i) a = one-fits m.shapes i i (negation (property_term m p)) (omega arith)
    (property-fits m.shapes m.properties p fit.properties)
asked-fit m fit (step p k) a =
    let g = property-fits m.shapes m.properties p fit.properties in
    fit-append m.shapes (suc k) (from_state 0 k (property_term m p)) ((k, negation (property_term m p)) ∷ [])
    (from-fits m.shapes (property_term m p) g k 0 k (omega arith))
    (one-fits m.shapes k k (negation (property_term m p)) (omega arith) g)
asked-fit m fit (lemma_first f) a = one-fits m.shapes 0 0 (negation f) (omega arith) a
asked-fit m fit (lemma_next f) a = both_from _ _ refl
    (both_from _ _ a (one-fits m.shapes 1 1 (negation f) (omega arith) a))
asked-fit m fit (implied f p) a = both_from _ _ refl (both_from _ _ (both_true _ _ a).0
    (one-fits m.shapes 0 0 (negation (property_term m p)) (omega arith)
    (property-fits m.shapes m.properties p fit.properties)))
asked-fit m fit (with_states n b at) a = let c = both_true _ _ a in
    subst (λ k. places_fit m.shapes k at ≡ true) (counted n c.0) c.1 where
      counted : (k : ℕ) → nat_lt 0 k ≡ true → k ≡ suc (before k)
      counted zero h = absurd cc
      counted (suc k) h = refl

narrow-asked : (m : Machine) (task : Task) → IsFit m → is_asked m task ≡ true → is_asked m (narrow_task m task) ≡ true
narrow-asked m task fit a =
    both_from _ _ (below-next 0 (last_of task) (omega arith))
    (fit-append m.shapes (suc (last_of task)) (asked_at m task) (narrow_bounds m task) (asked-fit m fit task a)
    (bounds-fit m.shapes (suc (last_of task)) 0 (last_of task) (omega arith)))

-- and is as light
light-append : (xs ys : List (ℕ × Formula)) → all_light_at xs ≡ true → all_light_at ys ≡ true
    → all_light_at (xs ++ ys) ≡ true
light-append [] ys a b = b
light-append ((j, f) ∷ xs) ys a b = let c = both_true _ _ a in both_from _ _ c.0 (light-append xs ys c.1 b)

from-light : (f : Formula) → is_light f ≡ true → (count j : ℕ) → all_light_at (from_state j count f) ≡ true
from-light f h zero j = refl
from-light f h (suc count) j = both_from _ _ h (from-light f h count (suc j))

upper-light : (v : ℕ) → is_light (upper_bound v) ≡ true
unfolding is_light_weight
upper-light v = refl

lower-light : (v : ℕ) → is_light (lower_bound v) ≡ true
unfolding is_light_weight
lower-light v = refl

bounds-at-light : (j v : ℕ) (shapes : List Shape) → all_light_at (bounds_at j v shapes) ≡ true
bounds-at-light j v [] = refl
bounds-at-light j v (k.Flag ∷ hs) = bounds-at-light j (suc v) hs
bounds-at-light j v (k.Number ∷ hs) = both_from _ _ (upper-light v)
    (both_from _ _ (lower-light v) (bounds-at-light j (suc v) hs))

bounds-light : (shapes : List Shape) (count j : ℕ) → all_light_at (bounds_from shapes j count) ≡ true
bounds-light shapes zero j = refl
bounds-light shapes (suc count) j = light-append (bounds_at j 0 shapes) (bounds_from shapes (suc j) count)
    (bounds-at-light j 0 shapes) (bounds-light shapes count (suc j))

asked-light : (m : Machine) → IsMild m → (task : Task) → is_light_task task ≡ true
    → all_light_at (asked_at m task) ≡ true
asked-light m mild (base p i) a = both_from _ _ (property-light m.properties p mild.properties) refl
asked-light m mild (step p k) a =
    let g = property-light m.properties p mild.properties in
    light-append (from_state 0 k (property_term m p)) ((
      k,
      negation (property_term m p),
    ) ∷ []) (from-light (property_term m p) g k 0) (both_from _ _ g refl)
asked-light m mild (lemma_first f) a = both_from _ _ a refl
asked-light m mild (lemma_next f) a = both_from _ _ a (both_from _ _ a refl)
asked-light m mild (implied f p) a = both_from _ _ a
    (both_from _ _ (property-light m.properties p mild.properties) refl)
asked-light m mild (with_states n b at) a = a

narrow-light : (m : Machine) (task : Task) → IsMild m → is_light_task task ≡ true
    → is_light_task (narrow_task m task) ≡ true
narrow-light m task mild a = light-append (asked_at m task) (narrow_bounds m task) (asked-light m mild task a)
    (bounds-light m.shapes (suc (last_of task)) 0)

pub narrow-queries : (m : Machine) (task : Task) (cites : List Formula) → IsNarrowed m task cites
narrow-queries m task cites = record {
  same = same-conditions m task cites;
  asked = narrow-asked m task;
  light = narrow-light m task;
  answers = narrow-answers m task cites;
}
