-- Whether the names of one equation need those of another is decided, and needs of needs are needs.
use Rattle.std.proofs.Common.{◌≡◌, ℕ, zero, suc, Bool, true, false, cond, ◌||◌, List, [], ◌∷◌, ◌++◌, map, flat_map, refl, sym, ◌∙◌, subst, Some}
use Rattle.std.specs.List.{list_any}
use Rattle.std.specs.Str.{bytes_eq}
use Rattle.std.proofs.Math.Logic.{◌⊎◌, inl, inr}
use Rattle.std.proofs.lemmas.Bool.{false≢true, cases_Bool}
use Rattle.lus_tree.specs.Tree.{Name}
use Rattle.lus_meaning.specs.Scene.{Instance, instance, component_of}
use Rattle.lus_meaning.specs.Run.{Equation, equations}
use Rattle.lus_meaning.specs.Depends.{Need, named_in, left_names, equation_needs}
use Rattle.lus_meaning.specs.Cycle.{Place, place_of, next_places, IsAt, IsWay, last_place, Reaches, declared_needs, equation_step, defined_needs, own_needs}
use Rattle.lus_meaning.specs.Order.{left_at}
use Rattle.lus_meaning.specs.WellMade.{AreDistinct}
use Rattle.lus_meaning.proofs.Members.{IsIn, in_left, in_right, in_mapped, at_some, any_named, any_found}
use Rattle.lus_meaning.proofs.Lists.{named_append, or_left, or_true}
use Rattle.lus_meaning.proofs.Unique.{same_bytes}
use Rattle.clock_laws.proofs.AllPlaces.{same_spot, spots_equal, all_places, is_member, member_in, spot_complete}
use Rattle.clock_laws.proofs.Routes.{Route, by_way, route_of, decided}

pub at_in : (k : ℕ) (q : Place) (ps : List Place) → IsAt k q ps → IsIn q ps
at_in k q [] h = absurd h
at_in zero q (p ∷ ps) h = inl h
at_in (suc k) q (p ∷ ps) h = inr (at_in k q ps h)

pub in_either : {X : Type 0} (x : X) (xs ys : List X) → IsIn x (xs ++ ys) → IsIn x xs ⊎ IsIn x ys
in_either x [] ys h = inr h
in_either x (y ∷ xs) ys (inl e) = inl (inl e)
in_either x (y ∷ xs) ys (inr h) = go (in_either x xs ys h)
  where
    go : IsIn x xs ⊎ IsIn x ys → ((x ≡ y) ⊎ IsIn x xs) ⊎ IsIn x ys
    go (inl a) = inl (inr a)
    go (inr a) = inr a

pub in_image : {X Y : Type 0} (g : X → Y) (y : Y) (xs : List X) → IsIn y (map g xs) → (x : X) × IsIn x xs × (y ≡ g x)
in_image g y [] h = absurd h
in_image g y (x ∷ xs) (inl e) = (x, inl refl, e)
in_image g y (x ∷ xs) (inr h) = let r : (x : _) × IsIn x xs × (y ≡ g x) = in_image g y xs h in (r.0, inr r.1, r.2)

module _ (i : Instance) where
  abbrev pub needed_by : Place → List Place
  needed_by p = next_places i p.0 p.1

  abbrev pub RouteOf : Place → List Place → Place → Type 0
  RouteOf = Route same_spot spots_equal needed_by

  pub way_routes : (p : Place) (q : ℕ × Place) (qs : List (ℕ × Place)) → IsWay i p (q ∷ qs) → (ms : List Place) × RouteOf p ms (last_place q.1 qs)
  way_routes p q [] w = ([], is_member q.1 (needed_by p) (at_in q.0 q.1 (needed_by p) w.0))
  way_routes p q (r ∷ qs) w =
      let s : (ms : List Place) × RouteOf q.1 ms (last_place r.1 qs) = way_routes q.1 r qs w.1 in
      (q.1 ∷ s.0, (is_member q.1 (needed_by p) (at_in q.0 q.1 (needed_by p) w.0), s.1))

  pub record WayTo (p z : Place) : Type 0 where
    pub first : ℕ × Place
    pub rest : List (ℕ × Place)
    pub way : IsWay i p (first ∷ rest)
    pub last : last_place first.1 rest ≡ z

  pub route_ways : (p : Place) (ms : List Place) (z : Place) → RouteOf p ms z → WayTo p z
  route_ways p [] z r =
      let k : (k : ℕ) × IsAt k z (needed_by p) = at_some z (needed_by p) (member_in z (needed_by p) r) in
      record { first = (k.0, z); rest = []; way = (k.1, tt); last = refl }
  route_ways p (m ∷ ms) z r =
      let k : (k : ℕ) × IsAt k m (needed_by p) = at_some m (needed_by p) (member_in m (needed_by p) r.0) in
      let s : WayTo m z = route_ways m ms z r.1 in
      record { first = (k.0, m); rest = s.first ∷ s.rest; way = (k.1, s.way); last = s.last }

  -- ---- names

  abbrev top : Name → Place
  top x = ([], Some x)

  abbrev pub needs_name : Name → Name → Bool
  needs_name x y = by_way same_spot spots_equal needed_by (all_places i) (top x) (top y)

  abbrev pub needs_some : List Name → List Name → Bool
  needs_some xs ys = list_any (λ x. list_any (needs_name x) ys) xs

  pub reaches_from : (xs ys : List Name) → needs_some xs ys ≡ true → Reaches i xs ys
  reaches_from xs ys e =
      let a : (x : Name) × (named_in x xs ≡ true) × (list_any (needs_name x) ys ≡ true) = any_found (λ x. list_any (needs_name x) ys) xs e in
      let b : (y : Name) × (named_in y ys ≡ true) × (needs_name a.0 y ≡ true) = any_found (needs_name a.0) ys a.2 in
      let r : (ms : List Place) × RouteOf (top a.0) ms (top b.0) = route_of same_spot spots_equal needed_by (all_places i) (top a.0) (top b.0) b.2 in
      let w : WayTo (top a.0) (top b.0) = route_ways (top a.0) r.0 (top b.0) r.1 in
      record { start = a.0; starts = a.1; first = w.first; rest = w.rest; way = w.way; finish = b.0; finishes = b.1; last = w.last }

  pub reaches_to : (xs ys : List Name) → Reaches i xs ys → needs_some xs ys ≡ true
  reaches_to xs ys r =
      let q : (ms : List Place) × RouteOf (top r.start) ms (last_place r.first.1 r.rest) = way_routes (top r.start) r.first r.rest r.way in
      let d : needs_name r.start r.finish ≡ true = decided same_spot spots_equal needed_by (all_places i) (spot_complete i) (top r.start) q.0 (top r.finish)
      (subst (λ z. RouteOf (top r.start) q.0 z) r.last q.1) in
      any_named (λ x. list_any (needs_name x) ys) r.start xs r.starts (any_named (needs_name r.start) r.finish ys r.finishes d)

  -- ---- what one left name of an equation needs, its other left names need

  never_both : (z : Name) (xs ys : List Name) → AreDistinct (xs ++ ys) → named_in z xs ≡ true → named_in z ys ≡ true → ⊥
  never_both z [] ys d e h = false≢true e
  never_both z (x ∷ xs) ys d e h = go (cases_Bool (bytes_eq z x)) (never_both z xs ys d.1)
    where
      go : (bytes_eq z x ≡ true) ⊎ (bytes_eq z x ≡ false) → (named_in z xs ≡ true → named_in z ys ≡ true → ⊥) → ⊥
      go (inl t) r = false≢true (sym d.0 ∙ named_append x xs ys ∙ or_true (named_in x xs) (named_in x ys) (subst (λ w. named_in w ys ≡ true)
          (same_bytes z x t) h))
      go (inr n) r = r (subst (λ c. (c || named_in z xs) ≡ true) n e) h

  distinct_right : (xs ys : List Name) → AreDistinct (xs ++ ys) → AreDistinct ys
  distinct_right [] ys d = d
  distinct_right (x ∷ xs) ys d = distinct_right xs ys d.1

  in_cond : (c : Bool) (n : Need) (ns : List Need) → IsIn n (cond c ns []) → (c ≡ true) × IsIn n ns
  in_cond true n ns h = (refl, h)
  in_cond false n ns h = absurd h

  cond_in : (c : Bool) (n : Need) (ns : List Need) → c ≡ true → IsIn n ns → IsIn n (cond c ns [])
  cond_in true n ns e h = h
  cond_in false n ns e h = absurd (false≢true e)

  lefts_of : List Equation → List Name
  lefts_of es = flat_map (λ e. e.names) es

  pub defined_left : (n : Need) (x : Name) (es : List Equation) → IsIn n (defined_needs i x es) → named_in x (flat_map (λ e. e.names) es) ≡ true
  defined_left n x [] h = absurd h
  defined_left n x (e ∷ es) h = named_append x e.names (flat_map (λ e. e.names) es) ∙ go
      (in_either n (cond (named_in x e.names) (equation_step i e) []) (defined_needs i x es) h) (defined_left n x es)
    where
      go : IsIn n (cond (named_in x e.names) (equation_step i e) []) ⊎ IsIn n (defined_needs i x es) → (IsIn n (defined_needs i x es) → named_in x
          (flat_map (λ e. e.names) es) ≡ true) → (named_in x e.names || named_in x (flat_map (λ e. e.names) es)) ≡ true
      go (inl a) r = or_left (named_in x e.names) _ (in_cond (named_in x e.names) n (equation_step i e) a).0
      go (inr a) r = or_true (named_in x e.names) _ (r a)

  at_left : (x : Name) (es : List Equation) (j : ℕ) → named_in x (left_at es j) ≡ true → named_in x (flat_map (λ e. e.names) es) ≡ true
  at_left x [] j e = absurd (false≢true e)
  at_left x (q ∷ es) zero e = named_append x q.names (flat_map (λ e. e.names) es) ∙ or_left (named_in x q.names) _ e
  at_left x (q ∷ es) (suc j) e = named_append x q.names (flat_map (λ e. e.names) es) ∙ or_true (named_in x q.names) _ (at_left x es j e)

  swap_defined : (n : Need) (x y : Name) (es : List Equation) (j : ℕ) → AreDistinct (flat_map (λ e. e.names) es) → named_in x (left_at es j) ≡ true
      → named_in y (left_at es j) ≡ true → IsIn n (defined_needs i x es) → IsIn n (defined_needs i y es)
  swap_defined n x y [] j d e g h = absurd h
  swap_defined n x y (q ∷ es) zero d e g h = in_left n (cond (named_in y q.names) (equation_step i q) []) (defined_needs i y es)
      (cond_in (named_in y q.names) n (equation_step i q) g (go (in_either n (cond (named_in x q.names) (equation_step i q) []) (defined_needs i x es) h)))
    where
      go : IsIn n (cond (named_in x q.names) (equation_step i q) []) ⊎ IsIn n (defined_needs i x es) → IsIn n (equation_step i q)
      go (inl a) = (in_cond (named_in x q.names) n (equation_step i q) a).1
      go (inr a) = absurd (never_both x q.names (flat_map (λ e. e.names) es) d e (defined_left n x es a))
  swap_defined n x y (q ∷ es) (suc j) d e g h = in_right n (cond (named_in y q.names) (equation_step i q) []) (defined_needs i y es)
      (go (in_either n (cond (named_in x q.names) (equation_step i q) []) (defined_needs i x es) h)
      (swap_defined n x y es j (distinct_right q.names (flat_map (λ e. e.names) es) d) e g))
    where
      go : IsIn n (cond (named_in x q.names) (equation_step i q) []) ⊎ IsIn n (defined_needs i x es) → (IsIn n (defined_needs i x es) → IsIn n
          (defined_needs i y es)) → IsIn n (defined_needs i y es)
      go (inl a) r = absurd (never_both x q.names (flat_map (λ e. e.names) es) d (in_cond (named_in x q.names) n (equation_step i q) a).0 (at_left x es j e))
      go (inr a) r = r a

  in_flat : (n : Need) (g : Name → List Need) (x : Name) (xs : List Name) → named_in x xs ≡ true → IsIn n (g x) → IsIn n (flat_map g xs)
  in_flat n g x [] e h = absurd (false≢true e)
  in_flat n g x (y ∷ xs) e h = go (cases_Bool (bytes_eq x y)) (in_flat n g x xs)
    where
      go : (bytes_eq x y ≡ true) ⊎ (bytes_eq x y ≡ false) → (named_in x xs ≡ true → IsIn n (g x) → IsIn n (flat_map g xs)) → IsIn n (g y ++ flat_map g xs)
      go (inl t) r = in_left n (g y) (flat_map g xs) (subst (λ z. IsIn n (g z)) (same_bytes x y t) h)
      go (inr f) r = in_right n (g y) (flat_map g xs) (r (subst (λ c. (c || named_in x xs) ≡ true) f e) h)

  declared_defined : (n : Need) (x y : Name) (es : List Equation) (j : ℕ) → named_in x (left_at es j) ≡ true → named_in y (left_at es j) ≡ true
      → IsIn n (declared_needs (component_of i) x) → IsIn n (defined_needs i y es)
  declared_defined n x y [] j e g h = absurd (false≢true e)
  declared_defined n x y (q ∷ es) zero e g h = in_left n (cond (named_in y q.names) (equation_step i q) []) (defined_needs i y es)
      (cond_in (named_in y q.names) n (equation_step i q) g (in_left n (flat_map (declared_needs (component_of i)) q.names) (equation_needs i q)
      (in_flat n (declared_needs (component_of i)) x q.names e h)))
  declared_defined n x y (q ∷ es) (suc j) e g h = in_right n (cond (named_in y q.names) (equation_step i q) []) (defined_needs i y es)
      (declared_defined n x y es j e g h)

  swap_needs : (n : Need) (x y : Name) (j : ℕ) → AreDistinct (left_names (component_of i)) → named_in x (left_at (equations (component_of i)) j) ≡ true
      → named_in y (left_at (equations (component_of i)) j) ≡ true → IsIn n (own_needs i x) → IsIn n (own_needs i y)
  swap_needs n x y j d e g h = in_right n (declared_needs (component_of i) y) (defined_needs i y (equations (component_of i)))
      (go (in_either n (declared_needs (component_of i) x) (defined_needs i x (equations (component_of i))) h))
    where
      go : IsIn n (declared_needs (component_of i) x) ⊎ IsIn n (defined_needs i x (equations (component_of i))) → IsIn n
          (defined_needs i y (equations (component_of i)))
      go (inl a) = declared_defined n x y (equations (component_of i)) j e g a
      go (inr a) = swap_defined n x y (equations (component_of i)) j d e g a

pub next_top : (i : Instance) (x : Name) → next_places i [] (Some x) ≡ map place_of (own_needs i x)
next_top (instance d cs is) x = refl

module _ (i : Instance) (distinct : AreDistinct (left_names (component_of i))) where
  abbrev lefts : ℕ → List Name
  lefts j = left_at (equations (component_of i)) j

  swap_place : (q : Place) (x y : Name) (j : ℕ) → named_in x (lefts j) ≡ true → named_in y (lefts j) ≡ true → IsIn q (next_places i [] (Some x))
      → IsIn q (next_places i [] (Some y))
  swap_place q x y j e g h =
      let r : (n : Need) × IsIn n (own_needs i x) × (q ≡ place_of n) = in_image place_of q (own_needs i x) (subst (IsIn q) (next_top i x) h) in
      subst (IsIn q) (sym (next_top i y)) (subst (λ z. IsIn z (map place_of (own_needs i y))) (sym r.2)
      (in_mapped place_of r.0 (own_needs i y) (swap_needs i r.0 x y j distinct e g r.1)))

  ways_joined : (p : Place) (qs rs : List (ℕ × Place)) → IsWay i p qs → IsWay i (last_place p qs) rs → IsWay i p (qs ++ rs)
  ways_joined p [] rs w v = v
  ways_joined p (q ∷ qs) rs w v = (w.0, ways_joined q.1 qs rs w.1 v)

  last_joined : (p : Place) (qs rs : List (ℕ × Place)) → last_place p (qs ++ rs) ≡ last_place (last_place p qs) rs
  last_joined p [] rs = refl
  last_joined p (q ∷ qs) rs = last_joined q.1 qs rs

  -- what is needed by what an equation needs, it needs
  pub reaches_on : (xs : List Name) (j : ℕ) (zs : List Name) → Reaches i xs (lefts j) → Reaches i (lefts j) zs → Reaches i xs zs
  reaches_on xs j zs a b =
      let h : (k : ℕ) × IsAt k b.first.1 (next_places i [] (Some a.finish)) = at_some b.first.1 (next_places i [] (Some a.finish))
      (swap_place b.first.1 b.start a.finish j b.starts a.finishes (at_in b.first.0 b.first.1 (next_places i [] (Some b.start)) b.way.0)) in
      let on : List (ℕ × Place) = (h.0, b.first.1) ∷ b.rest in
      record {
        start = a.start;
        starts = a.starts;
        first = a.first;
        rest = a.rest ++ on;
        way = (a.way.0, ways_joined a.first.1 a.rest on a.way.1 (subst (λ z. IsWay i z on) (sym a.last) (h.1, b.way.1)));
        finish = b.finish;
        finishes = b.finishes;
        last = last_joined a.first.1 a.rest on ∙ b.last;
      }
