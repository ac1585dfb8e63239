-- In a checked program no name of a declaration needs itself, in whatever instances of its calls the needs go on.
use Rattle.std.proofs.Common.{◌≡◌, suc, ◌<◌, Bool, true, false, cond, ◌||◌, List, [], ◌∷◌, ◌++◌, map, flat_map, length, unwrap_or, refl, sym, ap, ◌∙◌, subst, arith, Some, None}
use Rattle.std.specs.Prelude.{Contains, find, option_map}
use Rattle.std.specs.List.{AllByRecursion}
use Rattle.std.specs.Str.{bytes_eq}
use Rattle.std.proofs.Math.Logic.{◌⊎◌, inl, inr}
use Rattle.std.proofs.lemmas.Bool.{false≢true, cases_Bool}
use Rattle.lus_tree.specs.Tree.{Name, Variable, Component, Program}
use Rattle.lus_meaning.specs.Scene.{Clock, base, sampled_by, Instance, instance, component_of, clock_from, clock_of, variables}
use Rattle.lus_meaning.specs.Program.{instance_of}
use Rattle.lus_meaning.specs.Run.{Equation, equations}
use Rattle.lus_meaning.specs.Depends.{Need, clock_needs, named_in, left_names}
use Rattle.lus_meaning.specs.Cycle.{Place, place_of, next_places, Reaches, declared_needs, defined_needs, own_needs}
use Rattle.lus_meaning.specs.WellMade.{AreDistinct}
use Rattle.lus_meaning.specs.ClockFaults.{components}
use Rattle.lus_meaning.specs.EquationFaults.{clock_names, IsClockChain, last_name, of_clocks, of_circle}
use Rattle.lus_meaning.specs.Refusals.{IsChecked}
use Rattle.lus_meaning.proofs.Members.{IsIn}
use Rattle.lus_meaning.proofs.Lists.{named_append}
use Rattle.lus_meaning.proofs.Unique.{same_bytes}
use Rattle.clock_laws.proofs.AllPlaces.{same_spot, spots_equal, member_in}
use Rattle.clock_laws.proofs.OrderLaws.{names_distinct, none_on_circle}
use Rattle.clock_laws.proofs.Reaching.{in_either, in_image, next_top, RouteOf, WayTo, route_ways, defined_left}
use Rattle.clock_laws.proofs.Routes.{joined}

abbrev pub top : Name → Place
top x = ([], Some x)

-- nothing is needed by a beat of an instance within it
pub beat_needs_none : (i : Instance) → next_places i [] None ≡ []
beat_needs_none (instance d cs is) = refl

-- ---- the clock of a name

named_declared : (x : Name) (n : Need) (vs : List Variable) → IsIn n (flat_map (λ v. cond (bytes_eq x v.name.text) (clock_needs (clock_from v.clock)) []) vs)
    → named_in x (map (λ v. v.name.text) vs) ≡ true
named_declared x n [] h = absurd h
named_declared x n (v ∷ vs) h = go (bytes_eq x v.name.text) h (named_declared x n vs)
  where
    go : (c : Bool) → IsIn n (cond c (clock_needs (clock_from v.clock)) [] ++ flat_map
        (λ v. cond (bytes_eq x v.name.text) (clock_needs (clock_from v.clock)) []) vs) → (IsIn n (flat_map
        (λ v. cond (bytes_eq x v.name.text) (clock_needs (clock_from v.clock)) []) vs) → named_in x (map (λ v. v.name.text) vs) ≡ true) →
        (c || named_in x (map (λ v. v.name.text) vs)) ≡ true
    go true h r = refl
    go false h r = r h

declared_clock : (x : Name) (n : Need) (vs : List Variable) → AreDistinct (map (λ v. v.name.text) vs)
    → IsIn n (flat_map (λ v. cond (bytes_eq x v.name.text) (clock_needs (clock_from v.clock)) []) vs)
    → IsIn n (clock_needs (clock_from (unwrap_or (option_map (λ v. v.clock) (find (λ v. bytes_eq x v.name.text) vs)) None)))
declared_clock x n [] d h = absurd h
declared_clock x n (v ∷ vs) d h = go (bytes_eq x v.name.text) refl h (declared_clock x n vs d.1)
  where
    rest : List Need
    rest = flat_map (λ v. cond (bytes_eq x v.name.text) (clock_needs (clock_from v.clock)) []) vs

    first : IsIn n (clock_needs (clock_from v.clock)) ⊎ IsIn n (flat_map (λ v. cond (bytes_eq x v.name.text) (clock_needs (clock_from v.clock)) []) vs)
        → bytes_eq x v.name.text ≡ true → IsIn n (clock_needs (clock_from v.clock))
    first (inl a) m = a
    first (inr a) m = absurd (false≢true (sym d.0 ∙ subst (λ y. named_in y (map (λ v. v.name.text) vs) ≡ true) (same_bytes x v.name.text m)
        (named_declared x n vs a)))

    go : (c : Bool) → bytes_eq x v.name.text ≡ c → IsIn n (cond c (clock_needs (clock_from v.clock)) [] ++ flat_map
        (λ v. cond (bytes_eq x v.name.text) (clock_needs (clock_from v.clock)) []) vs) → (IsIn n (flat_map
        (λ v. cond (bytes_eq x v.name.text) (clock_needs (clock_from v.clock)) []) vs) → IsIn n (clock_needs (clock_from
        (unwrap_or (option_map (λ v. v.clock) (find (λ v. bytes_eq x v.name.text) vs)) None)))) → IsIn n (clock_needs (clock_from
        (unwrap_or (option_map (λ v. v.clock) (cond c (Some v) (find (λ v. bytes_eq x v.name.text) vs))) None)))
    go true m h r = first (in_either n (clock_needs (clock_from v.clock)) (flat_map
        (λ v. cond (bytes_eq x v.name.text) (clock_needs (clock_from v.clock)) []) vs) h) m
    go false m h r = r h

-- a variable that is found
record FoundVariable (x : Name) (vs : List Variable) : Type 0 where
  variable : Variable
  declared : Contains vs variable
  is_named : variable.name.text ≡ x

found_variable : (x w : Name) (vs : List Variable) → clock_names (clock_from (unwrap_or (option_map (λ v. v.clock)
    (find (λ v. bytes_eq x v.name.text) vs)) None)) ≡ w ∷ [] → FoundVariable x vs
found_variable x w [] e = absurd (false≢true (ap is_cons e))
  where
    is_cons : List Name → Bool
    is_cons [] = false
    is_cons (y ∷ ys) = true
found_variable x w (v ∷ vs) e = go (bytes_eq x v.name.text) refl e (found_variable x w vs)
  where
    go : (c : Bool) → bytes_eq x v.name.text ≡ c → clock_names (clock_from (unwrap_or (option_map (λ v. v.clock)
        (cond c (Some v) (find (λ v. bytes_eq x v.name.text) vs))) None)) ≡ w ∷ [] → (clock_names (clock_from (unwrap_or (option_map (λ v. v.clock)
        (find (λ v. bytes_eq x v.name.text) vs)) None)) ≡ w ∷ [] → FoundVariable x vs) → FoundVariable x (v ∷ vs)
    go true m h r = record { variable = v; declared = (0, omega arith, refl); is_named = sym (same_bytes x v.name.text m) }
    go false m h r =
        let q : FoundVariable x vs = r h in
        let l : q.declared.0 < length vs = q.declared.1 in
        record { variable = q.variable; declared = (suc q.declared.0, omega arith, q.declared.2); is_named = q.is_named }

-- ---- circles through a name of the declaration

module _ (p : Program) (c : IsChecked p) (i : Instance) (same : i ≡ instance_of p (component_of i)) (declared : Contains (components p) (component_of
    i)) where
  abbrev here : Component
  here = component_of i

  abbrev Way : Place → Place → Type 0
  Way a z = (ms : List Place) × RouteOf i a ms z

  no_equation_circle : AllByRecursion (λ e. Reaches i e.names e.names → ⊥) (equations here)
  no_equation_circle = subst (λ j. AllByRecursion (λ e. Reaches j e.names e.names → ⊥) (equations here)) (sym same) (none_on_circle p c here declared)

  left_circle : (x : Name) (es : List Equation) → AllByRecursion (λ e. Reaches i e.names e.names → ⊥) es → named_in x (flat_map (λ e. e.names) es) ≡ true
      → WayTo i (top x) (top x) → ⊥
  left_circle x [] a e w = false≢true e
  left_circle x (q ∷ es) a e w = go (cases_Bool (named_in x q.names)) (left_circle x es a.1)
    where
      go : (named_in x q.names ≡ true) ⊎ (named_in x q.names ≡ false) → (named_in x (flat_map (λ e. e.names) es) ≡ true → WayTo i (top x) (top x) → ⊥) → ⊥
      go (inl t) r = a.0 record { start = x; starts = t; first = w.first; rest = w.rest; way = w.way; finish = x; finishes = t; last = w.last }
      go (inr n) r = r (subst (λ b. (b || named_in x (flat_map (λ e. e.names) es)) ≡ true) n (sym (named_append x q.names (flat_map (λ e. e.names) es))
          ∙ e)) w

  defined_circle : (x : Name) (ms : List Place) → named_in x (left_names here) ≡ true → RouteOf i (top x) ms (top x) → ⊥
  defined_circle x ms e r = left_circle x (equations here) no_equation_circle e (route_ways i (top x) ms (top x) r)

  -- a name without an equation needs only its clock
  data ClockStep (x : Name) (q : Place) : Type 0 where
    to_beat : q ≡ ([], None) → ClockStep x q
    to_clock : (w : Name) → q ≡ top w → clock_names (clock_of here x) ≡ w ∷ [] → ClockStep x q

  by_clock : (x : Name) (k : Clock) (n : Need) (q : Place) → clock_of here x ≡ k → q ≡ place_of n → IsIn n (clock_needs k) → ClockStep x q
  by_clock x base n q e h (inl s) = to_beat (h ∙ ap place_of s)
  by_clock x base n q e h (inr s) = absurd s
  by_clock x (sampled_by b w) n q e h (inl s) = to_clock w (h ∙ ap place_of s) (ap clock_names e)
  by_clock x (sampled_by b w) n q e h (inr s) = absurd s

  clock_step : (x : Name) (q : Place) → named_in x (left_names here) ≡ false → IsIn q (next_places i [] (Some x)) → ClockStep x q
  clock_step x q e h =
      let r : (n : Need) × IsIn n (own_needs i x) × (q ≡ place_of n) = in_image place_of q (own_needs i x) (subst (IsIn q) (next_top i x) h) in
      by_clock x (clock_of here x) r.0 q refl r.2 (go r.0 (in_either r.0 (declared_needs here x) (defined_needs i x (equations here)) r.1))
    where
      go : (n : Need) → IsIn n (declared_needs here x) ⊎ IsIn n (defined_needs i x (equations here)) → IsIn n (clock_needs (clock_of here x))
      go n (inl a) = declared_clock x n (variables here) (names_distinct p c.rules.clocked.typed here declared) a
      go n (inr a) = absurd (false≢true (sym e ∙ defined_left i n x (equations here) a))

  -- from a name without an equation by way of one with an equation, or along clocks alone
  data Along (x z : Name) : Type 0 where
    passes : (w : Name) → named_in w (left_names here) ≡ true → Way (top x) (top w) → (w ≡ z) ⊎ Way (top w) (top z) → Along x z
    by_clocks : (next : Name) (rest : List Name) → IsClockChain here x (next ∷ rest) → last_name next rest ≡ z → Along x z

  no_beat_route : (ms : List Place) (z : Place) → RouteOf i ([], None) ms z → ⊥
  no_beat_route [] z r = subst (IsIn z) (beat_needs_none i) (member_in z (next_places i [] None) r)
  no_beat_route (m ∷ ms) z r = subst (IsIn m) (beat_needs_none i) (member_in m (next_places i [] None) r.0)

  some_end : (w z : Name) → ([], Some w) ≡ top z → w ≡ z
  some_end w z e = ap (λ (q : Place). unwrap_or q.1 w) e

  is_end : Place → Bool
  is_end (ks, None) = false
  is_end (ks, Some x) = true

  along : (x : Name) (ms : List Place) (z : Name) → named_in x (left_names here) ≡ false → RouteOf i (top x) ms (top z) → Along x z
  along x [] z e r = last (clock_step x (top z) e (member_in (top z) (next_places i [] (Some x)) r))
    where
      ends : (w : Name) → clock_names (clock_of here x) ≡ w ∷ [] → w ≡ z → (b : Bool) → named_in w (left_names here) ≡ b → Along x z
      ends w k s true h = passes w h ([], subst (λ y. RouteOf i (top x) [] (top y)) (sym s) r) (inl s)
      ends w k s false h = by_clocks w [] (k, h, tt) s

      last : ClockStep x (top z) → Along x z
      last (to_beat k) = absurd (false≢true (sym (ap is_some_end k)))
        where
          is_some_end : Place → Bool
          is_some_end (ks, None) = false
          is_some_end (ks, Some y) = true
      last (to_clock w k h) = ends w h (some_end w z (sym k)) (named_in w (left_names here)) refl
  along x (m ∷ ms) z e r = go (clock_step x m e (member_in m (next_places i [] (Some x)) r.0)) (λ w. along w ms z)
    where
      further : (w : Name) → clock_names (clock_of here x) ≡ w ∷ [] → named_in w (left_names here) ≡ false → RouteOf i (top x) [] (top w) → Along w z
          → Along x z
      further w k h s (passes v l to from) = passes v l (
        ([] ++ top w ∷ to.0),
        joined same_spot spots_equal (λ q. next_places i q.0 q.1)
            (top x) (top w) (top v) [] to.0 s to.1,
      ) from
      further w k h s (by_clocks next rest chain end) = by_clocks w (next ∷ rest) (k, h, chain) end

      cases : (w : Name) → clock_names (clock_of here x) ≡ w ∷ [] → RouteOf i (top x) [] (top w) → RouteOf i (top w) ms (top z) → (b : Bool)
          → named_in w (left_names here) ≡ b → (named_in w (left_names here) ≡ false → RouteOf i (top w) ms (top z) → Along w z) → Along x z
      cases w k s q true h f = passes w h ([], s) (inr (ms, q))
      cases w k s q false h f = further w k h s (f h q)

      go : ClockStep x m → ((w : Name) → named_in w (left_names here) ≡ false → RouteOf i (top w) ms (top z) → Along w z) → Along x z
      go (to_beat k) f = absurd (no_beat_route ms (top z) (subst (λ q. RouteOf i q ms (top z)) k r.1))
      go (to_clock w k h) f = cases w h (subst (λ q. RouteOf i (top x) [] q) k r.0) (subst (λ q. RouteOf i q ms (top z)) k r.1)
          (named_in w (left_names here)) refl (f w)

  pub top_circle : (x : Name) (ms : List Place) → RouteOf i (top x) ms (top x) → ⊥
  top_circle x ms r = go (cases_Bool (named_in x (left_names here)))
    where
      round : Along x x → named_in x (left_names here) ≡ false → ⊥
      round (passes w l to (inl s)) e = false≢true (sym e ∙ subst (λ y. named_in y (left_names here) ≡ true) s l)
      round (passes w l to (inr from)) e = defined_circle w (from.0 ++ top x ∷ to.0) l (joined same_spot spots_equal (λ q. next_places i q.0 q.1)
          (top w) (top x) (top w) from.0 to.0 from.1 to.1)
      round (by_clocks next rest chain end) e =
          let v : FoundVariable x (variables here) = found_variable x next (variables here) chain.0 in
          c.rules.equations _ (of_circle here declared (of_clocks v.variable record {
            declared = v.declared;
            next = next;
            rest = rest;
            chain = subst (λ y. IsClockChain here y (next ∷ rest)) (sym v.is_named) chain;
            last = end ∙ sym v.is_named;
          } refl))

      go : (named_in x (left_names here) ≡ true) ⊎ (named_in x (left_names here) ≡ false) → ⊥
      go (inl t) = defined_circle x ms t r
      go (inr f) = round (along x ms x f r) f
