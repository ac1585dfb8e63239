-- Whether one part of an instant waits for another is decided.
use Rattle.std.proofs.Common.{◌≡◌, ◌<◌, ℕ, Bool, true, false, ◌&&◌, ◌||◌, eqb, List, [], ◌∷◌, length, get_or, Option, Some, None, slice_get, refl, ap, sym, subst}
use Rattle.std.specs.Prelude.{position}
use Rattle.std.specs.List.{list_any}
use Rattle.std.proofs.Math.Logic.{◌⊎◌, inl, inr}
use Rattle.std.proofs.lemmas.Bool.{false≢true, cases_Bool, eqb-true, eq-eqb}
use Rattle.std.proofs.lemmas.List.Quantifiers.{position-Some}
use Rattle.std.proofs.lemmas.Option.{none-some, slice_get-get_or}
use Rattle.lus_tree.specs.Tree.{Name}
use Rattle.lus_meaning.specs.Scene.{Instance}
use Rattle.lus_meaning.specs.Depends.{named_in}
use Rattle.lus_meaning.specs.Trace.{same_numbers}
use Rattle.lus_meaning.specs.Cycle.{Place, IsAt, IsWay, last_place}
use Rattle.lus_meaning.proofs.Members.{IsIn, at_some, any_named, any_found}
use Rattle.lus_meaning.proofs.Lists.{or_left, or_true}
use Rattle.clock_laws.proofs.AllPlaces.{same_spot, spots_equal, spot_itself, all_places, spot_complete}
use Rattle.clock_laws.proofs.Reaching.{needed_by, RouteOf, WayTo, way_routes, route_ways, at_in}
use Rattle.clock_laws.proofs.Routes.{by_way, route_of, decided}
use Rattle.lus_evaluation.specs.Part.{Part}
use Rattle.lus_evaluation.specs.Evaluation.{is_above, gives_name, place_named, NeedsPlace, Waits}

-- ---- truth values and lists

pub both_true : (a b : Bool) → (a && b) ≡ true → (a ≡ true) × (b ≡ true)
both_true true b e = (refl, e)
both_true false b e = absurd (false≢true e)

pub both : (a b : Bool) → a ≡ true → b ≡ true → (a && b) ≡ true
both a b e h = rw (e, h) refl

pub any_in : {A : Type 0} (test : A → Bool) (x : A) (xs : List A) → IsIn x xs → test x ≡ true → list_any test xs ≡ true
any_in test x [] h e = absurd h
any_in test x (y ∷ xs) (inl q) e = or_left (test y) (list_any test xs) (subst (λ z. test z ≡ true) q e)
any_in test x (y ∷ xs) (inr h) e = or_true (test y) (list_any test xs) (any_in test x xs h e)

pub in_any : {A : Type 0} (test : A → Bool) (xs : List A) → list_any test xs ≡ true → (x : A) × IsIn x xs × (test x ≡ true)
in_any test [] e = absurd (false≢true e)
in_any {A} test (y ∷ xs) e = go (cases_Bool (test y)) (in_any test xs)
  where
    go : (test y ≡ true) ⊎ (test y ≡ false) → (list_any test xs ≡ true → (x : A) × IsIn x xs × (test x ≡ true)) → (x : A) × IsIn x (y ∷ xs) × (test x ≡ true)
    go (inl t) r = (y, inl refl, t)
    go (inr f) r = let q : (x : A) × IsIn x xs × (test x ≡ true) = r (subst (λ c. (c || list_any test xs) ≡ true) f e) in (q.0, inr q.1, q.2)

-- ---- frames on a way

-- whether a test passes for some frame on a way of calls
abbrev any_above : (List ℕ → Bool) → List ℕ → Bool
any_above test [] = test []
any_above test (k ∷ w) = test [] || any_above (λ v. test (k ∷ v)) w

above_found : (test : List ℕ → Bool) (w : List ℕ) → any_above test w ≡ true → (v : List ℕ) × (is_above v w ≡ true) × (test v ≡ true)
above_found test [] e = ([], refl, e)
above_found test (k ∷ w) e = go (cases_Bool (test [])) (above_found (λ v. test (k ∷ v)) w)
  where
    go : (test [] ≡ true) ⊎ (test [] ≡ false) →
        (any_above (λ v. test (k ∷ v)) w ≡ true → (v : List ℕ) × (is_above v w ≡ true) × (test (k ∷ v) ≡ true)) →
        (v : List ℕ) × (is_above v (k ∷ w) ≡ true) × (test v ≡ true)
    go (inl t) r = ([], refl, t)
    go (inr f) r =
        let q : (v : List ℕ) × (is_above v w ≡ true) × (test (k ∷ v) ≡ true) = r (subst (λ c. (c || any_above (λ v. test (k ∷ v)) w) ≡ true) f e) in
        (k ∷ q.0, both (eqb k k) (is_above q.0 w) (eq-eqb k k refl) q.1, q.2)

found_above : (test : List ℕ → Bool) (v w : List ℕ) → is_above v w ≡ true → test v ≡ true → any_above test w ≡ true
found_above test [] [] a e = e
found_above test [] (k ∷ w) a e = or_left (test []) (any_above (λ v. test (k ∷ v)) w) e
found_above test (j ∷ v) [] a e = absurd (false≢true a)
found_above test (j ∷ v) (k ∷ w) a e =
    let h : (eqb j k ≡ true) × (is_above v w ≡ true) = both_true (eqb j k) (is_above v w) a in
    or_true (test []) (any_above (λ u. test (k ∷ u)) w)
    (found_above (λ u. test (k ∷ u)) v w h.1 (subst (λ m. test (m ∷ v) ≡ true) (eqb-true j k h.0) e))

-- ---- numbers

abbrev is_number : ℕ → Option ℕ → Bool
is_number j None = false
is_number j (Some k) = eqb k j

number_is : (j : ℕ) (o : Option ℕ) → is_number j o ≡ true → o ≡ Some j
number_is j None e = absurd (false≢true e)
number_is j (Some k) e = ap Some (eqb-true k j e)

number_there : (j : ℕ) (o : Option ℕ) → o ≡ Some j → is_number j o ≡ true
number_there j o e = subst (λ q. is_number j q ≡ true) (sym e) (eq-eqb j j refl)

-- ---- the first that passes a test is there and passes it

pub record Passing {A : Type 0} (test : A → Bool) (xs : List A) (j : ℕ) : Type 0 where
  pub item : A
  pub is_there : slice_get xs j ≡ Some item
  pub passes : test item ≡ true

pub first_passes : {A : Type 0} (test : A → Bool) (xs : List A) (j : ℕ) → position test xs ≡ Some j → Passing test xs j
first_passes test [] j e = absurd (none-some j e)
first_passes test (x ∷ xs) j e =
    let r : (j < length (x ∷ xs)) × (test (get_or (x ∷ xs) j x) ≡ true) × ((k : ℕ) → k < j → test (get_or (x ∷ xs) k x) ≡ false) =
    position-Some test (x ∷ xs) j x e in
    record { item = get_or (x ∷ xs) j x; is_there = slice_get-get_or (x ∷ xs) j x r.0; passes = r.1 }

module _ (i : Instance) where
  -- ---- places

  leads_to : Place → Place → Bool
  leads_to q s = same_spot s q || by_way same_spot spots_equal (needed_by i) (all_places i) s q

  abbrev needs_place : List Place → Place → Bool
  needs_place ps q = list_any (leads_to q) ps

  way_there : (ps : List Place) (s q : Place) → IsIn s ps → leads_to q s ≡ true → NeedsPlace i ps q
  unfolding leads_to
  way_there ps s q h e = go (cases_Bool (same_spot s q))
    where
      at : (n : ℕ) × IsAt n s ps
      at = at_some s ps h

      go : (same_spot s q ≡ true) ⊎ (same_spot s q ≡ false) → NeedsPlace i ps q
      go (inl t) = record { number = at.0; start = s; starts = at.1; rest = []; way = tt; last = spots_equal s q t }
      go (inr f) =
          let b : by_way same_spot spots_equal (needed_by i) (all_places i) s q ≡ true =
          subst (λ c. (c || by_way same_spot spots_equal (needed_by i) (all_places i) s q) ≡ true) f e in
          let r : (ms : List Place) × RouteOf i s ms q = route_of same_spot spots_equal (needed_by i) (all_places i) s q b in
          let w : WayTo i s q = route_ways i s r.0 q r.1 in
          record { number = at.0; start = s; starts = at.1; rest = w.first ∷ w.rest; way = w.way; last = w.last }

  place_needed : (ps : List Place) (q : Place) → needs_place ps q ≡ true → NeedsPlace i ps q
  place_needed ps q e =
      let r : (s : Place) × IsIn s ps × (leads_to q s ≡ true) = in_any (leads_to q) ps e in way_there ps r.0 q r.1 r.2

  leads : (s q : Place) (rest : List (ℕ × Place)) → IsWay i s rest → last_place s rest ≡ q → leads_to q s ≡ true
  unfolding leads_to
  leads s q [] w e = or_left (same_spot s q) _ (subst (λ z. same_spot s z ≡ true) e (spot_itself s))
  leads s q (n ∷ rest) w e =
      let r : (ms : List Place) × RouteOf i s ms (last_place n.1 rest) = way_routes i s n rest w in
      or_true (same_spot s q) _
      (decided same_spot spots_equal (needed_by i) (all_places i) (spot_complete i) s r.0 q (subst (λ z. RouteOf i s r.0 z) e r.1))

  needed_place : (ps : List Place) (q : Place) → NeedsPlace i ps q → needs_place ps q ≡ true
  needed_place ps q n =
      any_in (leads_to q) n.start ps (at_in n.number n.start ps n.starts) (leads n.start q n.rest n.way n.last)

  -- ---- parts

  module _ (ps : List Part) where
    -- whether a name of a frame is given first by that part and needed by these places
    abbrev waits_by : ℕ → List Place → List ℕ → Name → Bool
    waits_by j ns w x = is_number j (position (gives_name w x) ps) && needs_place ns (place_named w x)

    abbrev waits_on : ℕ → Option Part → Option Part → Bool
    waits_on j (Some q) (Some r) = any_above (λ w. list_any (waits_by j q.needs w) r.gives) q.way
    waits_on j _ _ = false

    pub waits : ℕ → ℕ → Bool
    waits k j = waits_on j (slice_get ps k) (slice_get ps j)

    waits_so : (k j : ℕ) (o u : Option Part) → slice_get ps k ≡ o → waits_on j o u ≡ true → Waits i ps k j
    waits_so k j None u e h = absurd (false≢true h)
    waits_so k j (Some q) None e h = absurd (false≢true h)
    waits_so k j (Some q) (Some r) e h =
        let a : (w : List ℕ) × (is_above w q.way ≡ true) × (list_any (waits_by j q.needs w) r.gives ≡ true) =
        above_found (λ w. list_any (waits_by j q.needs w) r.gives) q.way h in
        let b : (x : Name) × (named_in x r.gives ≡ true) × (waits_by j q.needs a.0 x ≡ true) = any_found (waits_by j q.needs a.0) r.gives a.2 in
        let d = both_true (is_number j (position (gives_name a.0 b.0) ps)) (needs_place q.needs (place_named a.0 b.0)) b.2 in
        record {
          waiting = q;
          is_there = e;
          way = a.0;
          name = b.0;
          above = a.1;
          given = number_is j (position (gives_name a.0 b.0) ps) d.0;
          needed = place_needed q.needs (place_named a.0 b.0) d.1;
        }

    pub waits_if : (k j : ℕ) → waits k j ≡ true → Waits i ps k j
    unfolding waits
    waits_if k j h = waits_so k j (slice_get ps k) (slice_get ps j) refl h

    pub if_waits : (k j : ℕ) → Waits i ps k j → waits k j ≡ true
    unfolding waits
    if_waits k j a =
        let g : Passing (gives_name a.way a.name) ps j = first_passes (gives_name a.way a.name) ps j a.given in
        let named : named_in a.name g.item.gives ≡ true = (both_true (same_numbers a.way g.item.way) (named_in a.name g.item.gives) g.passes).1 in
        let by : waits_by j a.waiting.needs a.way a.name ≡ true = both (is_number j (position (gives_name a.way a.name) ps))
        (needs_place a.waiting.needs (place_named a.way a.name)) (number_there j (position (gives_name a.way a.name) ps) a.given)
        (needed_place a.waiting.needs (place_named a.way a.name) a.needed) in
        let on : any_above (λ w. list_any (waits_by j a.waiting.needs w) g.item.gives) a.waiting.way ≡ true =
        found_above (λ w. list_any (waits_by j a.waiting.needs w) g.item.gives) a.way a.waiting.way a.above
        (any_named (waits_by j a.waiting.needs a.way) a.name g.item.gives named by) in
        rw (a.is_there, g.is_there) on
