-- In the tree of instances of a checked declaration nothing needs itself at one instant.
use Rattle.std.proofs.Common.{◌≡◌, ℕ, zero, suc, pred, ◌<◌, Bool, true, false, List, [], ◌∷◌, ◌++◌, map, flat_map, slice_index_or, refl, sym, ap, ◌∙◌, subst, arith, Option, Some, None}
use Rattle.std.specs.Prelude.{Contains}
use Rattle.std.specs.List.{AllByRecursion}
use Rattle.std.proofs.Math.Logic.{◌⊎◌, inl, inr}
use Rattle.std.proofs.lemmas.Bool.{false≢true}
use Rattle.lus_tree.specs.Tree.{Name, ContractStatement, assume, guarantee, ghost_variable, constant, mode, «import», Component, Program}
use Rattle.lus_meaning.specs.Scene.{Site, Instance, Instances, instance, no_instances, with_instance, component_of, instance_at, contract_statements}
use Rattle.lus_meaning.specs.Contract.{ModeTerms, Terms, no_terms, terms, terms_each, terms_after, mode_terms, imported_mode}
use Rattle.lus_meaning.specs.Program.{site_in, all_sites, instance_of}
use Rattle.lus_meaning.specs.Occurrences.{Occurrence, occurrences, texts, contract_statement_texts, all_occurrences, gathered}
use Rattle.lus_meaning.specs.Depends.{Need, the_beat, a_name, ModeNeeds, asked_needs, imported_needs, modes_after, modes_need, modes_need_each}
use Rattle.lus_meaning.specs.Cycle.{Place, place_of, deeper, next_places, next_in_call, caller_needs, at_top}
use Rattle.lus_meaning.specs.Scope.{node_named}
use Rattle.lus_meaning.specs.ClockFaults.{components}
use Rattle.lus_meaning.specs.Refusals.{IsChecked}
use Rattle.lus_meaning.proofs.Members.{IsIn}
use Rattle.lus_meaning.proofs.EachPart.{Each, each_part}
use Rattle.lus_meaning.proofs.Lists.{all_from, map_append}
use Rattle.lus_meaning.proofs.Now.{left_part}
use Rattle.rule_laws.specs.Laws.{IsUnfolded, AreUnfolded, placed, site_at, HasItsPlace}
use Rattle.rule_laws.proofs.Callees.{GoesDown, each_site}
use Rattle.rule_laws.proofs.Places.{calls_in_place}
use Rattle.clock_laws.proofs.AllPlaces.{same_spot, spots_equal, member_in, is_member}
use Rattle.clock_laws.proofs.Clocks.{placed_of, clocked_tree, IsFaultless, faultless, unfolded_same, imports_placed, sub_named_of, declared_at, sub_of}
use Rattle.clock_laws.proofs.LightWalk.{weights_after, keys_of, EachPlaced, walk_light, SiteLight, sites_light, caller_light}
use Rattle.rule_laws.proofs.Covered.{all_contained}
use Rattle.rule_laws.proofs.Goods.{all_of_each}
use Rattle.clock_laws.proofs.Reaching.{in_either, in_image, RouteOf}
use Rattle.clock_laws.proofs.Routes.{joined}
use Rattle.clock_laws.proofs.TopCircles.{top, beat_needs_none, top_circle}
use Rattle.clock_laws.proofs.Weights.{Weights, site_heft, heft_at, heft_there, Light, AllLight, PairsLight, with_condition, heft_all}

-- ---- the keys of modes and of what they need

abbrev keys_in : ModeNeeds → List (List Name × Name)
keys_in ns = map (λ e. e.0) ns

import_keys : (k j : ℕ) (c : Name) (ms : List ModeTerms) (ns : ModeNeeds) → keys_of ms ≡ keys_in ns → keys_of (map (imported_mode k c) ms) ≡ keys_in
    (map (imported_needs j c) ns)
import_keys k j c ms ns e = by_terms ms ∙ ap (map behind) e ∙ sym (by_needs ns)
  where
    behind : List Name × Name → List Name × Name
    behind q = (c ∷ q.0, q.1)

    by_terms : (xs : List ModeTerms) → keys_of (map (imported_mode k c) xs) ≡ map behind (keys_of xs)
    by_terms [] = refl
    by_terms (x ∷ xs) = ap (λ (ys : List (List Name × Name)). (c ∷ x.key.0, x.key.1) ∷ ys) (by_terms xs)

    by_needs : (xs : ModeNeeds) → keys_in (map (imported_needs j c) xs) ≡ map behind (keys_in xs)
    by_needs [] = refl
    by_needs (x ∷ xs) = ap (λ (ys : List (List Name × Name)). (c ∷ x.0.0, x.0.1) ∷ ys) (by_needs xs)

keys_after : (i : Instance) (sub_terms : ℕ → Terms) (sub_needs : ℕ → ModeNeeds) → ((j : ℕ) → keys_of (sub_terms j).modes ≡ keys_in (sub_needs j))
    → (ms : List ModeTerms) (ns : ModeNeeds) (cs : List ContractStatement) → keys_of ms ≡ keys_in ns → keys_of (terms_after i sub_terms ms cs).modes ≡ keys_in
    (modes_after i sub_needs ns cs)
keys_after i st sn h ms ns [] e = e
keys_after i st sn h ms ns (assume l ∷ cs) e = keys_after i st sn h ms ns cs e
keys_after i st sn h ms ns (guarantee l ∷ cs) e = keys_after i st sn h ms ns cs e
keys_after i st sn h ms ns (ghost_variable x d ∷ cs) e = keys_after i st sn h ms ns cs e
keys_after i st sn h ms ns (constant x ∷ cs) e = keys_after i st sn h ms ns cs e
keys_after i st sn h ms ns (mode m rs es ∷ cs) e = keys_after i st sn h (ms ++ mode_terms i ms m.text rs es ∷ []) (ns ++ (
  ([], m.text),
  asked_needs i
      ns rs,
) ∷ []) cs
    (map_append (λ x. x.key) ms (mode_terms i ms m.text rs es ∷ []) ∙ ap (λ r. r ++ ([], m.text) ∷ []) e
    ∙ sym (map_append (λ r. r.0) ns ((([], m.text), asked_needs i ns rs) ∷ [])))
keys_after i st sn h ms ns («import» k c as_ xs ∷ cs) e =
    keys_after i st sn h (ms ++ map (imported_mode k c.text) (st k).modes) (ns ++ map (imported_needs (pred k) c.text) (sn k)) cs
    (map_append (λ x. x.key) ms (map (imported_mode k c.text) (st k).modes) ∙ rw (e, import_keys k (pred k) c.text (st k).modes (sn k) (h k)) refl
    ∙ sym (map_append (λ r. r.0) ns (map (imported_needs (pred k) c.text) (sn k))))

mutual
  terms_keys : (i : Instance) → keys_of (terms i).modes ≡ keys_in (modes_need i)
  terms_keys (instance n cs is) = keys_after (instance n cs is) (λ k. slice_index_or (terms_each is) (pred k) no_terms)
      (λ k. slice_index_or (modes_need_each is) (pred k) []) (λ k. each_keys is (pred k)) [] [] (contract_statements n) refl

  each_keys : (is : Instances) (j : ℕ) → keys_of (slice_index_or (terms_each is) j no_terms).modes ≡ keys_in (slice_index_or (modes_need_each is) j [])
  each_keys no_instances zero = refl
  each_keys no_instances (suc j) = refl
  each_keys (with_instance s i is) zero = terms_keys i
  each_keys (with_instance s i is) (suc j) = each_keys is j

-- ---- steps

-- what is needed by a place of a call's frame: of its caller, or within it
record CallStep (i : Instance) (is : Instances) (j0 j : ℕ) (ks : List ℕ) (x : Option Name) (z : Place) : Type 0 where
  site : Site
  place : site_at is j ≡ Some site
  either : IsIn z (map place_of (at_top ks (caller_needs i site (instance_at is j) x))) ⊎ IsIn z (map (deeper j0) (next_places (instance_at is j) ks x))

call_step : (i : Instance) (is : Instances) (j0 j : ℕ) (ks : List ℕ) (x : Option Name) (z : Place) → IsIn z (next_in_call i is j0 j ks x)
    → CallStep i is j0 j ks x z
call_step i no_instances j0 j ks x z h = absurd h
call_step i (with_instance c k is) j0 zero ks x z h = record {
  site = c;
  place = refl;
  either = in_either z (map place_of (at_top ks (caller_needs i c k x))) (map (deeper j0) (next_places k ks x)) h;
}
call_step i (with_instance c k is) j0 (suc j) ks x z h =
    let r : CallStep i is j0 j ks x z = call_step i is j0 j ks x z h in record { site = r.site; place = r.place; either = r.either }

one_of : {A : Type 0} (P : A → Type 0) (x : A) (xs : List A) → AllByRecursion P xs → IsIn x xs → P x
one_of P x [] a h = absurd h
one_of P x (y ∷ xs) a (inl e) = subst P (sym e) a.0
one_of P x (y ∷ xs) a (inr h) = one_of P x xs a.1 h

-- ---- routes from a call's frame

-- The call at a place, seen from which what is needed of the caller is of calls of less weight.
module _ (i : Instance) (is : Instances) (weigh : ℕ → ℕ)
    (within : (j : ℕ) (ks : List ℕ) (x : Option Name) → next_places i (j ∷ ks) x ≡ next_in_call i is j j ks x)
    (light : (j : ℕ) (d : Site) → site_at is j ≡ Some d → (ks : List ℕ) (x : Option Name) → (b : ℕ) × (b < weigh j) × AllLight weigh b
    (at_top ks (caller_needs i d (instance_at is j) x))) where
  abbrev Way : Place → Place → Type 0
  Way a z = (ms : List Place) × RouteOf i a ms z

  data Needed (j : ℕ) (ks : List ℕ) (x : Option Name) (z : Place) : Type 0 where
    of_beat : z ≡ ([], None) → Needed j ks x z
    of_top : (y : Name) → z ≡ top y → Needed j ks x z
    of_lighter : (l : ℕ) (ls : List ℕ) (y : Option Name) → z ≡ (l ∷ ls, y) → weigh l < weigh j → Needed j ks x z
    of_itself : (d : Site) → site_at is j ≡ Some d → (q : Place) → z ≡ (j ∷ q.0, q.1) → IsIn q (next_places (instance_at is j) ks x) → Needed j ks x z

  from_need : (j : ℕ) (ks : List ℕ) (x : Option Name) (z : Place) (b : ℕ) → b < weigh j → (n : Need) → Light weigh b n → z ≡ place_of n → Needed j ks x z
  from_need j ks x z b l the_beat h e = of_beat e
  from_need j ks x z b l (a_name [] y) h e = of_top y e
  from_need j ks x z b l (a_name (k ∷ ls) y) h e = of_lighter k ls (Some y) e (omega arith)

  needed : (j : ℕ) (ks : List ℕ) (x : Option Name) (z : Place) → IsIn z (next_places i (j ∷ ks) x) → Needed j ks x z
  needed j ks x z h = go (call_step i is j j ks x z (subst (IsIn z) (within j ks x) h))
    where
      by_call : (s : CallStep i is j j ks x z) → IsIn z (map place_of (at_top ks (caller_needs i s.site (instance_at is j) x))) ⊎ IsIn z
          (map (deeper j) (next_places (instance_at is j) ks x)) → Needed j ks x z
      by_call s (inl a) =
          let r : (n : Need) × IsIn n (at_top ks (caller_needs i s.site (instance_at is j) x)) × (z ≡ place_of n) = in_image place_of z
          (at_top ks (caller_needs i s.site (instance_at is j) x)) a in
          let w : (b : ℕ) × (b < weigh j) × AllLight weigh b (at_top ks (caller_needs i s.site (instance_at is j) x)) = light j s.site s.place ks x in
          from_need j ks x z w.0 w.1 r.0 (one_of (Light weigh w.0) r.0 (at_top ks (caller_needs i s.site (instance_at is j) x)) w.2 r.1) r.2
      by_call s (inr a) =
          let r : (q : Place) × IsIn q (next_places (instance_at is j) ks x) × (z ≡ deeper j q) = in_image (deeper j) z
          (next_places (instance_at is j) ks x) a in
          of_itself s.site s.place r.0 r.2 r.1

      go : CallStep i is j j ks x z → Needed j ks x z
      go s = by_call s s.either

  -- where a route from a call's frame ends
  data Outcome (j : ℕ) (ks : List ℕ) (x : Option Name) (z : Place) : Type 0 where
    stays : (d : Site) → site_at is j ≡ Some d → (q : Place) → z ≡ (j ∷ q.0, q.1) → (ms : List Place) → RouteOf (instance_at is j) (ks, x) ms q
        → Outcome j ks x z
    falls : (l : ℕ) (ls : List ℕ) (y : Option Name) → z ≡ (l ∷ ls, y) → weigh l < weigh j → Outcome j ks x z
    rises : (y : Option Name) → z ≡ ([], y) → Outcome j ks x z
    passes : (y : Name) → Way (j ∷ ks, x) (top y) → Way (top y) z → Outcome j ks x z

  no_beat : (ms : List Place) (z : Place) → RouteOf i ([], None) ms z → ⊥
  no_beat [] z r = subst (IsIn z) (beat_needs_none i) (member_in z (next_places i [] None) r)
  no_beat (m ∷ ms) z r = subst (IsIn m) (beat_needs_none i) (member_in m (next_places i [] None) r.0)

  outcome : (ms : List Place) (j : ℕ) (ks : List ℕ) (x : Option Name) (z : Place) → RouteOf i (j ∷ ks, x) ms z → Outcome j ks x z
  outcome [] j ks x z r = go (needed j ks x z (member_in z (next_places i (j ∷ ks) x) r))
    where
      go : Needed j ks x z → Outcome j ks x z
      go (of_beat e) = rises None e
      go (of_top y e) = rises (Some y) e
      go (of_lighter l ls y e w) = falls l ls y e w
      go (of_itself d s q e h) = stays d s q e [] (is_member q (next_places (instance_at is j) ks x) h)
  outcome (m ∷ ms) j ks x z r = go (needed j ks x m (member_in m (next_places i (j ∷ ks) x) r.0)) (outcome ms)
    where
      lower : (l : ℕ) (ls : List ℕ) (y : Option Name) → m ≡ (l ∷ ls, y) → weigh l < weigh j → Outcome l ls y z → Outcome j ks x z
      lower l ls y e w (stays d s q f ns a) = falls l q.0 q.1 f w
      lower l ls y e w (falls k js u f v) = falls k js u f (omega arith)
      lower l ls y e w (rises u f) = rises u f
      lower l ls y e w (passes u a b) = passes u (m ∷ a.0, (r.0, subst (λ q. RouteOf i q a.0 (top u)) (sym e) a.1)) b

      inside : (d : Site) → site_at is j ≡ Some d → (q : Place) → m ≡ (j ∷ q.0, q.1) → IsIn q (next_places (instance_at is j) ks x) → Outcome j q.0 q.1 z
          → Outcome j ks x z
      inside d s q e h (stays d' s' q' f ns a) = stays d s q' f (q ∷ ns) (is_member q (next_places (instance_at is j) ks x) h, a)
      inside d s q e h (falls k js u f v) = falls k js u f v
      inside d s q e h (rises u f) = rises u f
      inside d s q e h (passes u a b) = passes u (m ∷ a.0, (r.0, subst (λ q. RouteOf i q a.0 (top u)) (sym e) a.1)) b

      go : Needed j ks x m → ((j : ℕ) (ks : List ℕ) (x : Option Name) (z : Place) → RouteOf i (j ∷ ks, x) ms z → Outcome j ks x z) → Outcome j ks x z
      go (of_beat e) f = absurd (no_beat ms z (subst (λ q. RouteOf i q ms z) e r.1))
      go (of_top y e) f = passes y ([], subst (λ q. RouteOf i (j ∷ ks, x) [] q) e r.0) (ms, subst (λ q. RouteOf i q ms z) e r.1)
      go (of_lighter l ls y e w) f = lower l ls y e w (f l ls y z (subst (λ q. RouteOf i q ms z) e r.1))
      go (of_itself d s q e h) f = inside d s q e h (f j q.0 q.1 z (subst (λ q. RouteOf i q ms z) e r.1))

  abbrev head_of : Place → ℕ
  head_of ([], x) = 0
  head_of (k ∷ ks, x) = k

  abbrev below_of : Place → Place
  below_of ([], x) = ([], x)
  below_of (k ∷ ks, x) = (ks, x)

  abbrev is_below : Place → Bool
  is_below ([], x) = false
  is_below (k ∷ ks, x) = true

  module _ (top_never : (x : Name) (ms : List Place) → RouteOf i (top x) ms (top x) → ⊥)
      (below_never : (j : ℕ) (d : Site) → site_at is j ≡ Some d → (q : Place) (ms : List Place) → RouteOf (instance_at is j) q ms q → ⊥) where
    call_never : (j : ℕ) (ks : List ℕ) (x : Option Name) → Outcome j ks x (j ∷ ks, x) → ⊥
    call_never j ks x (stays d s q e ms a) = below_never j d s (ks, x) ms (subst (λ z. RouteOf (instance_at is j) (ks, x) ms z) (sym (ap below_of e)) a)
    call_never j ks x (falls l ls y e w) = let s : j ≡ l = ap head_of e in absurd (less s w)
      where
        less : j ≡ l → weigh l < weigh j → ⊥
        less s v = let t : weigh j ≡ weigh l = ap weigh s in omega arith
    call_never j ks x (rises y e) = false≢true (sym (ap is_below e))
    call_never j ks x (passes y a b) = top_never y (b.0 ++ (j ∷ ks, x) ∷ a.0) (joined same_spot spots_equal (λ q. next_places i q.0 q.1)
        (top y) (j ∷ ks, x) (top y) b.0 a.0 b.1 a.1)

    pub never : (q : Place) (ms : List Place) → RouteOf i q ms q → ⊥
    never ([], None) ms r = no_beat ms ([], None) r
    never ([], Some x) ms r = top_never x ms r
    never (j ∷ ks, x) ms r = call_never j ks x (outcome ms j ks x (j ∷ ks, x) r)

-- ---- the tree

module _ (p : Program) (c : IsChecked p) where
  pub placed_texts : (i : Instance) → Contains (components p) (component_of i) → i ≡ instance_of p (component_of i) → AllByRecursion
      (λ x. Each (λ o. AllByRecursion (λ d. HasItsPlace i (node_named p d.callee) d) (site_in o.standing o.expression)) (component_of i) x.0 x.1)
      (texts (component_of i))
  placed_texts i j same =
      let n : Component = component_of i in
      let P : Occurrence → Type 0 = λ o. AllByRecursion (λ d. HasItsPlace i (node_named p d.callee) d) (site_in o.standing o.expression) in
      let calls : AllByRecursion P (all_occurrences n) =
      all_of_each (λ d. HasItsPlace i (node_named p d.callee) d) (λ o. site_in o.standing o.expression) (all_occurrences n)
      (all_contained (λ d. HasItsPlace i (node_named p d.callee) d) (gathered site_in n)
      (λ d h. subst (λ k. HasItsPlace k (node_named p d.callee) d) (sym same) (calls_in_place p c n j d h))) in
      all_from (λ x. AllByRecursion P (occurrences n x.0 x.1)) (λ x. Each P n x.0 x.1) (λ x a. each_part P n x.0 x.1 a) (texts n)
      (all_of_each P (λ x. occurrences n x.0 x.1) (texts n) calls)

  site_of : (P : Site → Type 0) (ss : List Site) (is : Instances) → AreUnfolded p ss is → AllByRecursion P ss → (j : ℕ) (d : Site)
      → site_at is j ≡ Some d → P d
  site_of P ss no_instances u a j d e = absurd (false≢true (ap is_site e))
    where
      is_site : Option Site → Bool
      is_site None = false
      is_site (Some x) = true
  site_of P [] (with_instance s k is) u a j d e = absurd u
  site_of P (s ∷ ss) (with_instance t k is) u a zero d e = subst P (sym u.0 ∙ ap (the_site t) e) a.0
    where
      the_site : Site → Option Site → Site
      the_site x None = x
      the_site x (Some y) = y
  site_of P (s ∷ ss) (with_instance t k is) u a (suc j) d e = site_of P ss is u.3 a.1 j d e

  abbrev is_site : Option Site → Bool
  is_site None = false
  is_site (Some x) = true

  below_heft : (all : Weights) (is : Instances) (weigh : ℕ → ℕ) (l : ℕ) (d : Site) → weigh l ≡ site_heft all d → with_condition all d.manner
      (heft_all all d.arguments) < weigh l
  below_heft all is weigh l d e = omega arith

  at_top_light : (weigh : ℕ → ℕ) (b : ℕ) (ks : List ℕ) (ns : List Need) → AllLight weigh b ns → AllLight weigh b (at_top ks ns)
  at_top_light weigh b [] ns a = a
  at_top_light weigh b (k ∷ ks) ns a = tt

  mutual
    pub no_circle : (i : Instance) → IsUnfolded p i → Contains (components p) (component_of i) → (q : Place) (ms : List Place) → RouteOf i q ms q → ⊥
    no_circle (instance n cs is) u j q ms r =
        let i : Instance = instance n cs is in
        let same : i ≡ instance_of p n = unfolded_same p c i u j in
        let at : (k : ℕ) × Contains (placed 0 p) (k, n) = placed_of 0 p n j in
        let f : IsFaultless p at.0 n = faultless p (clocked_tree p c) at.0 n j at.1 in
        let sub_needs : ℕ → ModeNeeds = λ k. slice_index_or (modes_need_each is) (pred k) [] in
        let all : Weights = weights_after sub_needs [] (contract_statements n) in
        let weigh : ℕ → ℕ = heft_at all is in
        let weighed : (d : Site) (named : Option Component) → HasItsPlace i named d → weigh (pred d.number) ≡ site_heft all d = λ d named h. heft_there all is
        (pred d.number) d h.site in
        let placed_here : AllByRecursion (EachPlaced p at.0 i (sub_of is) sub_needs (λ k. each_keys is (pred k)) (sub_named_of i) all weigh
        weighed) (texts n) =
        placed_texts i j same in
        let pairs : PairsLight weigh (modes_need i) all = walk_light p at.0 i (sub_of is) sub_needs (λ k. each_keys is (pred k)) (sub_named_of i) all weigh
        weighed [] (contract_statements n) [] [] [] f.contract (left_part _ (flat_map contract_statement_texts (contract_statements n)) _ placed_here)
        (imports_placed p c i j same) refl refl
        record { by_name = λ x e. absurd (false≢true e); by_import = λ d x e h. absurd (false≢true e) } tt in
        let sites = sites_light p at.0 i (sub_of is) sub_needs (λ k. each_keys is (pred k)) (sub_named_of i) all weigh weighed (modes_need i) pairs
        placed_here in
        never i is weigh (λ l ks x. refl)
        (λ l d e ks x. (
          with_condition all d.manner (heft_all all d.arguments),
          below_heft all is weigh l d (heft_there all is l d e),
          at_top_light weigh (with_condition all d.manner (heft_all all d.arguments)) ks (caller_needs i d (instance_at is l) x)
              (caller_light p at.0 i (sub_of is) sub_needs (λ k. each_keys is (pred k)) (sub_named_of i) all weigh weighed (modes_need i) pairs d
              (site_of (SiteLight p at.0 i (sub_of is) sub_needs (λ k. each_keys is (pred k)) (sub_named_of i) all weigh weighed (modes_need i) pairs)
              (all_sites n) is u.1 sites l d e) (instance_at is l) refl x),
        ))
        (top_circle p c i same j)
        (λ l d e z ns a. calls_no_circle n (all_sites n) is u.1 (each_site p c.rules.clocked.typed n j) l d e z ns a) q ms r

    calls_no_circle : (n : Component) (ss : List Site) (is : Instances) → AreUnfolded p ss is → AllByRecursion (λ s. GoesDown p n s.callee) ss
        → (j : ℕ) (d : Site) → site_at is j ≡ Some d → (q : Place) (ms : List Place) → RouteOf (instance_at is j) q ms q → ⊥
    calls_no_circle n [] no_instances u a j d e q ms r = false≢true (ap is_site e)
    calls_no_circle n [] (with_instance t k is) u a j d e q ms r = absurd u
    calls_no_circle n (s ∷ ss) no_instances u a j d e q ms r = absurd u
    calls_no_circle n (s ∷ ss) (with_instance t k is) u a zero d e q ms r = no_circle k u.2 (declared_at p c n s k a.0 u.1) q ms r
    calls_no_circle n (s ∷ ss) (with_instance t k is) u a (suc j) d e q ms r = calls_no_circle n ss is u.3 a.1 j d e q ms r
