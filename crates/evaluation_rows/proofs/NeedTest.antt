-- Whether a way of needs leads from one place to another: tests that compute.
use Rattle.std.proofs.Common.{◌≡◌, ℕ, zero, suc, Bool, true, false, not, ◌&&◌, ◌||◌, List, [], ◌∷◌, Option, Some, None, refl, ap, ◌∙◌, sym, subst}
use Rattle.std.specs.List.{list_all, list_any}
use Rattle.std.specs.Str.{bytes_eq}
use Rattle.std.proofs.Math.Logic.{◌⊎◌, inl, inr}
use Rattle.std.proofs.lemmas.Bool.{true≢false, false≢true}
use Rattle.std.proofs.lemmas.Slice.Eq.{bytes_eq-Decides}
use Rattle.lus_tree.specs.Tree.{Name}
use Rattle.lus_meaning.specs.Scene.{Instance}
use Rattle.lus_meaning.specs.Depends.{named_in}
use Rattle.lus_meaning.specs.Trace.{same_numbers}
use Rattle.lus_meaning.specs.Cycle.{Place, IsAt, next_places, IsWay, last_place, Reaches}
use Rattle.lus_meaning.proofs.Acyclic.{all_at_place}
use Rattle.lus_meaning.proofs.FirstFault.{both}
use Rattle.lus_meaning.proofs.Unique.{same_bytes}
use Rattle.sys_meaning.proofs.Shows.{same_ways}
use Rattle.sys_meaning.proofs.Tracing.{self_way}
use Rattle.lus_evaluation.specs.Evaluation.{NeedsPlace}
use Rattle.evaluation_rows.proofs.LeastTest.{either, not_true}

-- ---- a place

abbrev names_it : Name → Option Name → Bool
names_it x None = false
names_it x (Some y) = bytes_eq x y

-- whether a place is this name at the end of this way
abbrev pub is_there : List ℕ → Name → Place → Bool
is_there w x p = same_numbers w p.0 && names_it x p.1

there : (w : List ℕ) (x : Name) (p : Place) → is_there w x p ≡ true → p ≡ (w, Some x)
there w x p e = go p.0 p.1 (both (same_numbers w p.0) (names_it x p.1) e)
  where
    go : (v : List ℕ) (o : Option Name) → (same_numbers w v ≡ true) × (names_it x o ≡ true) → let q : Place = (v, o) in q ≡ (w, Some x)
    go v None h = absurd (false≢true h.1)
    go v (Some y) h = rw (sym (same_ways w v h.0), sym (same_bytes x y h.1)) refl

is_itself : (w : List ℕ) (x : Name) → is_there w x (w, Some x) ≡ true
is_itself w x = rw (self_way w, (bytes_eq-Decides x x).1 refl) refl

-- ---- tests of lists

-- where some element passes, it stands there
pub one_of : (f : Place → Bool) (ps : List Place) → list_any f ps ≡ true → (k : ℕ) × (p : Place) × IsAt k p ps × (f p ≡ true)
one_of f [] e = absurd (false≢true e)
one_of f (p ∷ ps) e = go (either (f p) (list_any f ps) e) (one_of f ps)
  where
    go : (f p ≡ true) ⊎ (list_any f ps ≡ true) → (list_any f ps ≡ true → (k : ℕ) × (q : Place) × IsAt k q ps × (f q ≡ true)) →
        (k : ℕ) × (q : Place) × IsAt k q (p ∷ ps) × (f q ≡ true)
    go (inl h) r = (0, p, refl, h)
    go (inr h) r = let s = r h in (suc s.0, s.1, s.2, s.3)

pub name_of : (f : Name → Bool) (xs : List Name) → list_any f xs ≡ true → (x : Name) × (named_in x xs ≡ true) × (f x ≡ true)
name_of f [] e = absurd (false≢true e)
name_of f (x ∷ xs) e = go (either (f x) (list_any f xs) e) (name_of f xs)
  where
    after : (c : Bool) (y : Name) → named_in y xs ≡ true → (c || named_in y xs) ≡ true
    after true y h = refl
    after false y h = h

    go : (f x ≡ true) ⊎ (list_any f xs ≡ true) → (list_any f xs ≡ true → (y : Name) × (named_in y xs ≡ true) × (f y ≡ true)) →
        (y : Name) × (named_in y (x ∷ xs) ≡ true) × (f y ≡ true)
    go (inl h) r = (x, rw ((bytes_eq-Decides x x).1 refl) refl, h)
    go (inr h) r = let s = r h in (s.0, after (bytes_eq s.0 x) s.0 s.1, s.2)

pub each_name : (f : Name → Bool) (xs : List Name) → list_all f xs ≡ true → (x : Name) → named_in x xs ≡ true → f x ≡ true
each_name f [] e x h = absurd (false≢true h)
each_name f (y ∷ ys) e x h =
    go (either (bytes_eq x y) (named_in x ys) h) (each_name f ys (both (f y) (list_all f ys) e).1 x)
  where
    go : (bytes_eq x y ≡ true) ⊎ (named_in x ys ≡ true) → (named_in x ys ≡ true → f x ≡ true) → f x ≡ true
    go (inl g) r = subst (λ z. f z ≡ true) (sym (same_bytes x y g)) (both (f y) (list_all f ys) e).0
    go (inr g) r = r g

-- ---- ways

-- whether within so many steps some way from a place comes to the name
abbrev pub leads : ℕ → Instance → List ℕ → Name → Place → Bool
leads zero i w x p = false
leads (suc m) i w x p = is_there w x p || list_any (leads m i w x) (next_places i p.0 p.1)

-- whether all ways from a place end within so many steps, and none comes to the name
abbrev pub misses : ℕ → Instance → List ℕ → Name → Place → Bool
misses zero i w x p = false
misses (suc m) i w x p = not (is_there w x p) && list_all (misses m i w x) (next_places i p.0 p.1)

-- a way to the name
pub record Leads (i : Instance) (p q : Place) : Type 0 where
  pub rest : List (ℕ × Place)
  pub way : IsWay i p rest
  pub last : last_place p rest ≡ q

pub led : (m : ℕ) (i : Instance) (w : List ℕ) (x : Name) (p : Place) → leads m i w x p ≡ true → Leads i p (w, Some x)
led zero i w x p e = absurd (false≢true e)
led (suc m) i w x p e = go (either (is_there w x p) (list_any (leads m i w x) (next_places i p.0 p.1)) e) (led m i w x)
  where
    go : (is_there w x p ≡ true) ⊎ (list_any (leads m i w x) (next_places i p.0 p.1) ≡ true) →
        ((q : Place) → leads m i w x q ≡ true → Leads i q (w, Some x)) → Leads i p (w, Some x)
    go (inl h) below = record { rest = []; way = tt; last = there w x p h }
    go (inr h) below =
        let s = one_of (leads m i w x) (next_places i p.0 p.1) h in
        let r : Leads i s.1 (w, Some x) = below s.1 s.3 in
        record { rest = (s.0, s.1) ∷ r.rest; way = (s.2, r.way); last = r.last }

pub missed : (m : ℕ) (i : Instance) (w : List ℕ) (x : Name) (p : Place) → misses m i w x p ≡ true → (rest : List (ℕ × Place)) →
    IsWay i p rest → last_place p rest ≡ (w, Some x) → ⊥
missed zero i w x p e rest h l = false≢true e
missed (suc m) i w x p e [] h l =
    let a : not (is_there w x p) ≡ true = (both (not (is_there w x p)) (list_all (misses m i w x) (next_places i p.0 p.1)) e).0 in
    true≢false (sym (is_itself w x) ∙ sym (ap (is_there w x) l) ∙ not_true (is_there w x p) a)
missed (suc m) i w x p e (q ∷ qs) h l =
    let a : list_all (misses m i w x) (next_places i p.0 p.1) ≡ true =
    (both (not (is_there w x p)) (list_all (misses m i w x) (next_places i p.0 p.1)) e).1 in
    missed m i w x q.1 (all_at_place (misses m i w x) q.1 q.0 (next_places i p.0 p.1) h.0 a) qs h.1 l

pub needs_by : (m : ℕ) (i : Instance) (w : List ℕ) (x : Name) (ps : List Place) → list_any (leads m i w x) ps ≡ true →
    NeedsPlace i ps (w, Some x)
needs_by m i w x ps e =
    let s = one_of (leads m i w x) ps e in
    let r : Leads i s.1 (w, Some x) = led m i w x s.1 s.3 in
    record { number = s.0; start = s.1; starts = s.2; rest = r.rest; way = r.way; last = r.last }

pub no_need : (m : ℕ) (i : Instance) (w : List ℕ) (x : Name) (ps : List Place) → list_all (misses m i w x) ps ≡ true →
    NeedsPlace i ps (w, Some x) → ⊥
no_need m i w x ps e h =
    missed m i w x h.start (all_at_place (misses m i w x) h.start h.number ps h.starts e) h.rest h.way h.last

-- ---- equations

-- the steps from a name
abbrev pub from_name : Instance → Name → List Place
from_name i x = next_places i [] (Some x)

abbrev pub reaches : ℕ → Instance → List Name → List Name → Bool
reaches m i xs ys = list_any (λ x. list_any (λ y. list_any (leads m i [] y) (from_name i x)) ys) xs

abbrev pub never_reaches : ℕ → Instance → List Name → List Name → Bool
never_reaches m i xs ys = list_all (λ x. list_all (λ y. list_all (misses m i [] y) (from_name i x)) ys) xs

pub reaches_by : (m : ℕ) (i : Instance) (xs ys : List Name) → reaches m i xs ys ≡ true → Reaches i xs ys
reaches_by m i xs ys e =
    let a = name_of (λ x. list_any (λ y. list_any (leads m i [] y) (from_name i x)) ys) xs e in
    let b = name_of (λ y. list_any (leads m i [] y) (from_name i a.0)) ys a.2 in
    let s = one_of (leads m i [] b.0) (from_name i a.0) b.2 in
    let r : Leads i s.1 ([], Some b.0) = led m i [] b.0 s.1 s.3 in
    record {
      start = a.0;
      starts = a.1;
      first = (s.0, s.1);
      rest = r.rest;
      way = (s.2, r.way);
      finish = b.0;
      finishes = b.1;
      last = r.last;
    }

pub no_reach : (m : ℕ) (i : Instance) (xs ys : List Name) → never_reaches m i xs ys ≡ true → Reaches i xs ys → ⊥
no_reach m i xs ys e r =
    let a : list_all (λ y. list_all (misses m i [] y) (from_name i r.start)) ys ≡ true =
    each_name (λ x. list_all (λ y. list_all (misses m i [] y) (from_name i x)) ys) xs e r.start r.starts in
    let b : list_all (misses m i [] r.finish) (from_name i r.start) ≡ true =
    each_name (λ y. list_all (misses m i [] y) (from_name i r.start)) ys a r.finish r.finishes in
    missed m i [] r.finish r.first.1 (all_at_place (misses m i [] r.finish) r.first.1 r.first.0 (from_name i r.start) r.way.0 b) r.rest r.way.1 r.last
