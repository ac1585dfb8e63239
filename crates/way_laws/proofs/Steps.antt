-- Ways of needs by their number of steps, and lists of names that stand for lists of needs: the names at which ways from
-- these needs first come to the top of the tree.
use Rattle.std.proofs.Common.{◌≡◌, ℕ, zero, suc, ◌<◌, ◌≤◌, Bool, true, false, ◌||◌, List, [], ◌∷◌, ◌++◌, length, refl, sym, ap, ◌∙◌, subst, arith, Some, None}
use Rattle.std.specs.Prelude.{Contains}
use Rattle.std.specs.Str.{bytes_eq}
use Rattle.std.proofs.Math.Logic.{◌⊎◌, inl, inr}
use Rattle.std.proofs.lemmas.Bool.{false≢true, cases_Bool}
use Rattle.lus_tree.specs.Tree.{Name}
use Rattle.lus_meaning.specs.Scene.{Clock, base, sampled_by, Instance}
use Rattle.lus_meaning.specs.Depends.{Need, the_beat, a_name, clock_needs, named_in}
use Rattle.lus_meaning.specs.Cycle.{Place, place_of, next_places, IsAt, IsWay, last_place}
use Rattle.lus_meaning.specs.EquationFaults.{clock_names}
use Rattle.lus_meaning.proofs.Members.{IsIn, in_left, in_right, at_some, named_either}
use Rattle.lus_meaning.proofs.Lists.{named_append, or_left, or_true}
use Rattle.lus_meaning.proofs.Exists.{self_bytes}
use Rattle.lus_meaning.proofs.Unique.{same_bytes}
use Rattle.clock_laws.proofs.Reaching.{at_in, in_either}
use Rattle.clock_laws.proofs.TopCircles.{beat_needs_none}
use Rattle.way_laws.specs.Summaries.{Needs}

abbrev pub top : Name → Place
top x = ([], Some x)

-- ---- steps

abbrev pub Steps : Instance → ℕ → Place → Place → Type 0
Steps i zero p z = p ≡ z
Steps i (suc k) p z = (q : Place) × IsIn q (next_places i p.0 p.1) × Steps i k q z

pub joined : (i : Instance) (a b : ℕ) (p q z : Place) → Steps i a p q → Steps i b q z → (n : ℕ) × Steps i n p z
joined i zero b p q z s t = (b, subst (λ r. Steps i b r z) (sym s) t)
joined i (suc a) b p q z s t = let r : (n : ℕ) × Steps i n s.0 z = joined i a b s.0 q z s.2 t in (suc r.0, (s.0, s.1, r.1))

pub steps_of : (i : Instance) (p : Place) (w : List (ℕ × Place)) → IsWay i p w → (n : ℕ) × Steps i n p (last_place p w)
steps_of i p [] w = (0, refl)
steps_of i p (q ∷ qs) w =
    let r : (n : ℕ) × Steps i n q.1 (last_place q.1 qs) = steps_of i q.1 qs w.1 in
    (suc r.0, (q.1, at_in q.0 q.1 (next_places i p.0 p.1) w.0, r.1))

pub way_of : (i : Instance) (n : ℕ) (p z : Place) → Steps i n p z → (w : List (ℕ × Place)) × IsWay i p w × (last_place p w ≡ z)
way_of i zero p z s = ([], tt, s)
way_of i (suc n) p z s =
    let r : (w : List (ℕ × Place)) × IsWay i s.0 w × (last_place s.0 w ≡ z) = way_of i n s.0 z s.2 in
    let k : (k : ℕ) × IsAt k s.0 (next_places i p.0 p.1) = at_some s.0 (next_places i p.0 p.1) s.1 in
    ((k.0, s.0) ∷ r.0, (k.1, r.1), r.2)

abbrev ends_in_name : Place → Bool
ends_in_name (ks, None) = false
ends_in_name (ks, Some x) = true

pub no_beat : (i : Instance) (n : ℕ) (y : Name) → Steps i n ([], None) (top y) → ⊥
no_beat i zero y s = false≢true (ap ends_in_name s)
no_beat i (suc n) y s = subst (IsIn s.0) (beat_needs_none i) s.1

-- ---- lists

pub in_contains : {A : Type 0} (x : A) (xs : List A) → IsIn x xs → Contains xs x
in_contains x [] h = absurd h
in_contains x (y ∷ xs) (inl e) = (0, omega arith, sym e)
in_contains x (y ∷ xs) (inr h) =
    let r : Contains xs x = in_contains x xs h in
    let l : r.0 < length xs = r.1 in
    (suc r.0, omega arith, r.2)

pub contains_in : {A : Type 0} (x : A) (xs : List A) → Contains xs x → IsIn x xs
contains_in x [] (k, l, e) = absurd (omega arith)
contains_in x (y ∷ xs) (zero, l, e) = inl (sym e)
contains_in x (y ∷ xs) (suc k, l, e) = inr (contains_in x xs (k, omega arith, e))

-- ---- what comes of needs

-- a way of needs, of any number of steps, from one of these to a name
pub record Comes (i : Instance) (ns : List Need) (z : Name) : Type 0 where
  pub start : Need
  pub starts : IsIn start ns
  pub steps : ℕ
  pub way : Steps i steps (place_of start) (top z)

pub needs_come : (i : Instance) (ns : List Need) (z : Name) → Needs i ns z → Comes i ns z
needs_come i ns z w =
    let r : (n : ℕ) × Steps i n (place_of w.start) (last_place (place_of w.start) w.steps) = steps_of i (place_of w.start) w.steps w.way in
    record {
      start = w.start;
      starts = contains_in w.start ns w.starts;
      steps = r.0;
      way = subst (Steps i r.0 (place_of w.start)) w.last r.1;
    }

pub come_needs : (i : Instance) (ns : List Need) (z : Name) → Comes i ns z → Needs i ns z
come_needs i ns z w =
    let r : (v : List (ℕ × Place)) × IsWay i (place_of w.start) v × (last_place (place_of w.start) v ≡ top z) = way_of i w.steps (place_of w.start) (top z) w.way in
    record { start = w.start; starts = in_contains w.start ns w.starts; steps = r.0; way = r.1; last = r.2 }

-- a way to a name from one of these names, of no more steps
pub record Earlier (i : Instance) (zs : List Name) (k : ℕ) (y : Name) : Type 0 where
  pub name : Name
  pub among : named_in name zs ≡ true
  pub steps : ℕ
  pub fewer : steps ≤ k
  pub way : Steps i steps (top name) (top y)

-- each way from a place to a name goes by one of these names
abbrev pub GoesBy : Instance → Place → List Name → Type 0
GoesBy i p zs = (k : ℕ) (y : Name) → Steps i k p (top y) → Earlier i zs k y

pub record Fits (i : Instance) (ns : List Need) (zs : List Name) : Type 0 where
  pub sound : (z : Name) → named_in z zs ≡ true → Comes i ns z
  pub complete : (q : Need) → IsIn q ns → GoesBy i (place_of q) zs

pub by_left : (i : Instance) (p : Place) (zs ws : List Name) → GoesBy i p zs → GoesBy i p (zs ++ ws)
by_left i p zs ws g k y s =
    let e : Earlier i zs k y = g k y s in
    record {
      name = e.name;
      among = named_append e.name zs ws ∙ or_left (named_in e.name zs) (named_in e.name ws) e.among;
      steps = e.steps;
      fewer = e.fewer;
      way = e.way;
    }

pub by_right : (i : Instance) (p : Place) (zs ws : List Name) → GoesBy i p ws → GoesBy i p (zs ++ ws)
by_right i p zs ws g k y s =
    let e : Earlier i ws k y = g k y s in
    record {
      name = e.name;
      among = named_append e.name zs ws ∙ or_true (named_in e.name zs) (named_in e.name ws) e.among;
      steps = e.steps;
      fewer = e.fewer;
      way = e.way;
    }

pub come_left : (i : Instance) (ns ms : List Need) (z : Name) → Comes i ns z → Comes i (ns ++ ms) z
come_left i ns ms z c = record { start = c.start; starts = in_left c.start ns ms c.starts; steps = c.steps; way = c.way }

pub come_right : (i : Instance) (ns ms : List Need) (z : Name) → Comes i ms z → Comes i (ns ++ ms) z
come_right i ns ms z c = record { start = c.start; starts = in_right c.start ns ms c.starts; steps = c.steps; way = c.way }

pub fits_none : (i : Instance) → Fits i [] []
fits_none i = record { sound = λ z e. absurd (false≢true e); complete = λ q h. absurd h }

pub fits_both : (i : Instance) (ns ms : List Need) (zs ws : List Name) → Fits i ns zs → Fits i ms ws → Fits i (ns ++ ms) (zs ++ ws)
fits_both i ns ms zs ws a b = record {
  sound = λ z e. from z (named_either z zs ws e);
  complete = λ q h. by q (in_either q ns ms h);
}
  where
    from : (z : Name) → (named_in z zs ≡ true) ⊎ (named_in z ws ≡ true) → Comes i (ns ++ ms) z
    from z (inl e) = come_left i ns ms z (a.sound z e)
    from z (inr e) = come_right i ns ms z (b.sound z e)

    by : (q : Need) → IsIn q ns ⊎ IsIn q ms → GoesBy i (place_of q) (zs ++ ws)
    by q (inl h) = by_left i (place_of q) zs ws (a.complete q h)
    by q (inr h) = by_right i (place_of q) zs ws (b.complete q h)

pub fits_name : (i : Instance) (x : Name) → Fits i (a_name [] x ∷ []) (x ∷ [])
fits_name i x = record { sound = λ z e. from z (cases_Bool (bytes_eq z x)) e; complete = by }
  where
    from : (z : Name) → (bytes_eq z x ≡ true) ⊎ (bytes_eq z x ≡ false) → (bytes_eq z x || false) ≡ true → Comes i (a_name [] x ∷ []) z
    from z (inl t) e = record { start = a_name [] x; starts = inl refl; steps = 0; way = ap top (sym (same_bytes z x t)) }
    from z (inr f) e = absurd (false≢true (subst (λ c. (c || false) ≡ true) f e))

    itself : named_in x (x ∷ []) ≡ true
    itself = or_left (bytes_eq x x) false (self_bytes x)

    by : (q : Need) → IsIn q (a_name [] x ∷ []) → GoesBy i (place_of q) (x ∷ [])
    by q (inl e) k y s = record {
      name = x;
      among = itself;
      steps = k;
      fewer = omega arith;
      way = subst (λ r. Steps i k (place_of r) (top y)) e s;
    }
    by q (inr h) k y s = absurd h

pub beat_by : (i : Instance) (zs : List Name) → GoesBy i ([], None) zs
beat_by i zs k y s = absurd (no_beat i k y s)

pub fits_beat : (i : Instance) → Fits i (the_beat ∷ []) []
fits_beat i = record { sound = λ z e. absurd (false≢true e); complete = by }
  where
    by : (q : Need) → IsIn q (the_beat ∷ []) → GoesBy i (place_of q) []
    by q (inl e) = subst (λ r. GoesBy i (place_of r) []) (sym e) (beat_by i [])
    by q (inr h) = absurd h

pub fits_clock : (i : Instance) (c : Clock) → Fits i (clock_needs c) (clock_names c)
fits_clock i base = fits_beat i
fits_clock i (sampled_by b x) = fits_name i x
