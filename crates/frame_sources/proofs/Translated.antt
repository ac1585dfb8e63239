-- The sources of frames by the tables of a checked program are those of the instances.
use Rattle.std.proofs.Common.{◌≡◌, ℕ, zero, suc, ◌+◌, ◌<◌, ◌≤◌, List, [], ◌∷◌, ◌++◌, map, length, append_assoc, Some, refl, sym, ap, ◌∙◌, subst, arith}
use Rattle.std.specs.Prelude.{Contains, slice_get}
use Rattle.std.specs.List.{AllByRecursion}
use Rattle.lus_tree.specs.Tree.{Name, Variable, Component, Program}
use Rattle.lus_meaning.specs.ClockFaults.{components}
use Rattle.lus_meaning.specs.Program.{all_sites, component_named, constants_in, instances_with, instance_of, instance_within}
use Rattle.lus_meaning.specs.Refusals.{IsChecked}
use Rattle.lus_meaning.specs.Run.{sort_of, sort_of_name}
use Rattle.lus_meaning.specs.Scene.{Clock, Manner, plain, while_true, as_import, Site, Instance, Instances, instance, no_instances, with_instance, calls_of, component_of, instance_at, variables}
use Rattle.lus_meaning.proofs.Exists.{length_mapped}
use Rattle.rule_laws.specs.Laws.{IsUnfolded, AreUnfolded}
use Rattle.rule_laws.proofs.Covered.{all_contained, found_declared}
use Rattle.rule_laws.proofs.Unfolded.{each_unfolded}
use Rattle.lus_limits.specs.Calls.{way_of}
use Rattle.lus_limits.specs.Instances.{callee, instance_called_so}
use Rattle.lus_limits.specs.Summaries.{bound}
use Rattle.lus_limits.specs.Widths.{frame_width}
use Rattle.lus_limits.proofs.Instances.{component_called, made_of_callees}
use Rattle.lus_layouts.proofs.Fits.{callees_fit}
use Rattle.lus_layouts.specs.Layouts.{layout_of}
use Rattle.lus_layouts.specs.declared.placing.CallSlots.{CallSlots}
use Rattle.sys_meaning.specs.Defaults.{default_of}
use Rattle.sys_meaning.specs.Slot.{Place, own, beat, in_call}
use Rattle.sys_meaning.specs.System.{below_call}
use Rattle.sys_meaning.specs.WellTyped.{IsKnown, TreeFits, CallsFit, CallFits, MannerFits}
use Rattle.sys_meaning.proofs.Backward.{tree_own}
use Rattle.path_laws.proofs.Main.{each_is_well_typed}
use Rattle.sys_texts.specs.Laws.{IsSightOf}
use Rattle.sys_texts.specs.Sights.{Sight}
use Rattle.sys_contracts.specs.Laws.{bare}
use Rattle.sys_places.specs.Places.{StandsAt, OfEachCall, CallStandsAt, own_end}
use Rattle.sys_places.proofs.Calls.{stands_at_calls}
use Rattle.sys_tables.specs.Tabled.{Tabled, all_linked, constants_known, linked, place_of, small_value, table_of}
use Rattle.sys_tables.specs.Numbers.{keeps_so_far, sight_at}
use Rattle.sight_laws.specs.Sights.{HasItsDefaults, call_of}
use Rattle.sys_frames.proofs.Checked.{Laws, table_list, table_there, own_seen, seen_so}
use Rattle.sys_frames.proofs.Seen.{HasNames, SeesOwn}
use Rattle.slot_values.specs.Resolved.{Numbering}
use Rattle.slot_sources.specs.Source.{Source}
use Rattle.slot_sources.specs.Sources.{NameSources, numbering_of, sources_in}
use Rattle.slot_sources.specs.Sources as z
use Rattle.frame_sources.specs.Laws.{modes_at}
use Rattle.frame_sources.specs.Resolved.{Asked}
use Rattle.frame_sources.specs.Sourced.{beat_source, from_call, held_sources}
use Rattle.frame_sources.specs.OwnSources.{own_sources}
use Rattle.frame_sources.specs.Walked.{SourcesOf, call_sources_or_none, calls_sources, sources_below, sources_or_none, sources_within}
use Rattle.frame_sources.proofs.Calls.{beat_so, given_many, given_so, held_so, own_so}
use Rattle.frame_sources.proofs.FrameModes.{modes_so}
use Rattle.frame_sources.proofs.Named.{zipped}

abbrev rest_of : Instances → Instances
rest_of no_instances = no_instances
rest_of (with_instance s k is) = is

lengths : {A B C : Type 0} (f : A → C) (h : B → C) (xs : List A) (ys : List B) → map f xs ≡ map h ys → length xs ≡ length ys
lengths f h xs ys e = sym (length_mapped f xs) ∙ ap length e ∙ length_mapped h ys

names_fit : (i : Instance) (d : Clock) (m : Manner) (k : Instance) → MannerFits IsKnown i d m k → HasNames m k
names_fit i d plain k h = tt
names_fit i d (while_true a) k h = tt
names_fit i d (as_import xs) k h = lengths (sort_of_name i) (λ (v : Variable). v.sort) xs (component_of k).outputs h.2

module _ (laws : Laws) (p : Program) (c : IsChecked p) (missing : ℕ) where
  abbrev ts : List Tabled
  ts = table_list p

  abbrev f : Name → Instance
  f = instance_called_so p

  abbrev frames : ℕ → SourcesOf
  frames d = sources_within d ts missing

  -- what is so of a frame, with calls nested no deeper than said
  abbrev IsSoWithin : ℕ → Type 0
  IsSoWithin d = (n : Component) → Contains (components p) n → (m : Manner) (at : Place → ℕ) (base : ℕ) → frame_width p m n < bound
      → StandsAt at missing base m (instance_of p n) → instance_within d p n ≡ instance_of p n
      → (active : Source) (ps : List Source) → length ps ≤ length (variables n)
      → sources_within d ts missing (table_of p n) (way_of m) base active ps ≡ sources_in m (instance_of p n) at active (zipped (variables n) ps)

  module _ (n : Component) (j : Contains (components p) n) (m : Manner) (at : Place → ℕ) (base : ℕ) where
    abbrev this : Instance
    this = instance_of p n

    abbrev unfolded : Instance
    unfolded = instance n (constants_in p n) (instances_with f (all_sites n))

    abbrev s : Sight
    s = sight_at (table_of p n) (way_of m) base missing

    abbrev from : ℕ
    from = own_end p m n base

    abbrev g : Numbering
    g = numbering_of unfolded at

    abbrev ms : List Asked
    ms = modes_at at unfolded

    made : this ≡ unfolded
    made = made_of_callees p c n j

    tree : TreeFits IsKnown unfolded
    tree = subst (TreeFits IsKnown) made (each_is_well_typed p c n j).0.tree

    -- what is held of a call
    held_call : (x : Site) (l : CallSlots) (m : Manner) → HasItsDefaults p n (linked p n x l) m
        → held_sources (map (small_value (constants_known p n)) x.defaults) (call_of p at x) m ≡ z.held_sources g x (component_of (f x.callee)) m
    held_call x l plain h = refl
    held_call x l (as_import xs) h = refl
    held_call x l (while_true a) h =
        held_so unfolded at x (callee p x.callee).outputs (small_value (constants_known p n))
        (subst (λ i. map (small_value (constants_known p n)) x.defaults ≡ map (λ v. default_of i x.number v.name.text) (callee p x.callee).outputs) made h)
        ∙ ap (λ (y : Component). z.held_each g x y.outputs x.defaults) (sym (component_called p (callee p x.callee)))

    module _ (h : IsSightOf s [] (bare unfolded at)) where
      abbrev given : Site → List Source
      given x = from_call s ms (at (in_call x.number (own beat))) x

      call_so : (d : ℕ) → IsSoWithin d → (x : Site) (l : CallSlots) (q : ℕ) → Contains (components p) (callee p x.callee)
          → CallFits IsKnown unfolded x (f x.callee) q → CallStandsAt at missing from p x l
          → HasItsDefaults p n (linked p n x l) x.manner → frame_width p x.manner (callee p x.callee) < bound
          → instance_within d p (callee p x.callee) ≡ f x.callee → place_of p x.callee < length (components p)
          → slice_get s.calls q ≡ Some (call_of p at x)
          → call_sources_or_none (frames d) ts s ms from (linked p n x l) (slice_get s.calls q)
          ≡ z.held_sources g x (component_of (f x.callee)) x.manner
          ++ sources_in x.manner (f x.callee) (below_call x.number at) (z.beat_source g x x.manner) (z.from_call g x (f x.callee))
      call_so d below x l q there fits stands known wide e placed seen =
          ap (call_sources_or_none (frames d) ts s ms from (linked p n x l)) seen
          ∙ (ap (λ y. y ++ sources_or_none (frames d) (slice_get ts (place_of p x.callee)) (way_of x.manner) (from + l.frame)
          (beat_source s ms x.clock x.manner) (given x)) (held_call x l x.manner known)
          ∙ ap (λ y. z.held_sources g x (component_of (f x.callee)) x.manner ++ y)
          (ap (λ o. sources_or_none (frames d) o (way_of x.manner) (from + l.frame) (beat_source s ms x.clock x.manner) (given x))
          (table_there laws.stand p x.callee placed)
          ∙ (below (callee p x.callee) there x.manner (below_call x.number at) (from + l.frame) wide stands e (beat_source s ms x.clock x.manner) (given x)
          (subst (λ (y : Component). length (given x) ≤ length (variables y)) same (given_many s unfolded at h (f x.callee) x many names))
          ∙ (ap (λ y. sources_in x.manner (f x.callee) (below_call x.number at) y (zipped (variables (callee p x.callee)) (given x)))
          (beat_so s unfolded at h x x.manner)
          ∙ ap (sources_in x.manner (f x.callee) (below_call x.number at) (z.beat_source g x x.manner))
          (ap (λ (y : Component). zipped (variables y) (given x)) (sym same) ∙ given_so s unfolded at h (f x.callee) x many names)))))
        where
          same : component_of (f x.callee) ≡ callee p x.callee
          same = component_called p (callee p x.callee)

          many : length x.arguments ≡ length (component_of (f x.callee)).inputs
          many = lengths (sort_of unfolded) (λ (v : Variable). v.sort) x.arguments (component_of (f x.callee)).inputs fits.sorts

          names : HasNames x.manner (f x.callee)
          names = names_fit unfolded x.clock x.manner (f x.callee) fits.manner

      declared : (x : Name) → component_named p x ≡ Some (component_of (f x)) → Contains (components p) (callee p x)
      declared x e = subst (Contains (components p)) (component_called p (callee p x)) (found_declared p x (component_of (f x)) e)

      calls_so : (d : ℕ) → IsSoWithin d → (ss : List Site) (ls : List CallSlots) (q : ℕ) → AreUnfolded p ss (instances_with f ss)
          → CallsFit IsKnown unfolded (instances_with f ss) q
          → OfEachCall (CallStandsAt at missing from p) ss ls
          → AllByRecursion (λ l. HasItsDefaults p n l l.site.manner) (all_linked p n ss ls)
          → AllByRecursion (λ t. frame_width p t.manner (callee p t.callee) < bound) ss
          → instances_with (λ x. instance_within d p (callee p x)) ss ≡ instances_with f ss
          → AllByRecursion (λ t. place_of p t.callee < length (components p)) ss
          → ((k : ℕ) → slice_get s.calls (q + k) ≡ slice_get (map (call_of p at) ss) k)
          → calls_sources (frames d) ts s ms from q (all_linked p n ss ls) ≡ z.call_sources g (instances_with f ss)
      calls_so d below [] [] q u t a k w e y v = refl
      calls_so d below [] (l ∷ ls) q u t a k w e y v = absurd a
      calls_so d below (x ∷ ss) [] q u t a k w e y v = absurd a
      calls_so d below (x ∷ ss) (l ∷ ls) q u t a k w e y v =
          ap (λ b. b ++ calls_sources (frames d) ts s ms from (suc q) (all_linked p n ss ls))
          (call_so d below x l q (declared x.callee u.1) t.0 a.0 k.0 w.0 (ap (λ (is : Instances). instance_at is 0) e) y.0 (ap (slice_get s.calls) (more_none q) ∙ v 0))
          ∙ (ap (λ b. (held ++ frame) ++ b) (calls_so d below ss ls (suc q) u.3 t.2 a.1 k.1 w.1 (ap rest_of e) y.1 (λ r. ap (slice_get s.calls) (one_more q r) ∙ v (suc r)))
          ∙ append_assoc held frame (z.call_sources g (instances_with f ss)))
        where
          more_none : (q : ℕ) → q ≡ q + 0
          more_none q = omega arith

          one_more : (q r : ℕ) → suc q + r ≡ q + suc r
          one_more q r = omega arith

          held : List Source
          held = z.held_sources g x (component_of (f x.callee)) x.manner

          frame : List Source
          frame = sources_in x.manner (f x.callee) (below_call x.number at) (z.beat_source g x x.manner) (z.from_call g x (f x.callee))

      no_calls : (ss : List Site) → no_instances ≡ instances_with f ss → [] ≡ z.call_sources g (instances_with f ss)
      no_calls [] e = refl
      no_calls (x ∷ ss) e = cc

    sees : frame_width p m n < bound → StandsAt at missing base m this → SeesOwn missing (table_of p n) (way_of m) base m unfolded at
    sees l stands = subst (λ (i : Instance). SeesOwn missing (table_of p n) (way_of m) base m i at) made (own_seen laws p c n j m at missing base l stands)

    widths_fit : frame_width p m n < bound → AllByRecursion (λ t. frame_width p t.manner (callee p t.callee) < bound) (all_sites n)
    widths_fit l = all_contained (λ (t : Site). frame_width p t.manner (callee p t.callee) < bound) (all_sites n) (callees_fit p c n j m l)

    places_there : AllByRecursion (λ t. place_of p t.callee < length (components p)) (all_sites n)
    places_there = all_contained (λ (t : Site). place_of p t.callee < length (components p)) (all_sites n) (laws.there p c n j)

    below_zero : (l : frame_width p m n < bound) (stands : StandsAt at missing base m this) → instance_within 0 p n ≡ this
        → sources_below 0 ts missing s ms from (table_of p n).calls ≡ z.call_sources g (instances_with f (all_sites n))
    below_zero l stands e = no_calls (sees l stands).sight (all_sites n) (ap calls_of (e ∙ made))

    below_more : (d : ℕ) → IsSoWithin d → (l : frame_width p m n < bound) (stands : StandsAt at missing base m this) → instance_within (suc d) p n ≡ this
        → sources_below (suc d) ts missing s ms from (table_of p n).calls ≡ z.call_sources g (instances_with f (all_sites n))
    below_more d below l stands e =
        calls_so (sees l stands).sight d below (all_sites n) (layout_of p n).calls 0
        (subst (IsUnfolded p) made (each_unfolded p c n j)).1 tree.1
        (stands_at_calls p c n j m at missing base l stands)
        (laws.defaults p c n j) (widths_fit l) (ap calls_of (e ∙ made)) places_there
        (λ k. ap (slice_get s.calls) (none_more k) ∙ ap (λ y. slice_get y k) (laws.calls p c n j m at missing base l stands))
      where
        none_more : (k : ℕ) → 0 + k ≡ k
        none_more k = omega arith

    put_together : (d : ℕ) (l : frame_width p m n < bound) (stands : StandsAt at missing base m this) → instance_within d p n ≡ this
        → sources_below d ts missing s ms from (table_of p n).calls ≡ z.call_sources g (instances_with f (all_sites n))
        → (active : Source) (ps : List Source) → length ps ≤ length (variables n)
        → sources_within d ts missing (table_of p n) (way_of m) base active ps ≡ sources_in m this at active (zipped (variables n) ps)
    put_together d l stands e calls active ps k =
        ap (λ y. own_sources (table_of p n) s y (keeps_so_far (way_of m) (table_of p n)) active ps ++ sources_below d ts missing s y from (table_of p n).calls)
        (modes_so missing ts d (table_of p n) (way_of m) base m this at (seen_so laws p c missing d n j m at base l stands e) ∙ ap (modes_at at) made)
        ∙ (ap (λ y. y ++ sources_below d ts missing s ms from (table_of p n).calls)
        (own_so missing (table_of p n) (way_of m) base m unfolded at (sees l stands) (tree_own IsKnown unfolded tree) active ps k)
        ∙ (ap (λ y. z.own_sources m g active (zipped (variables n) ps) ++ y) calls
        ∙ ap (λ i. sources_in m i at active (zipped (variables n) ps)) (sym made)))

  pub frames_so : (d : ℕ) → IsSoWithin d
  frames_so zero n j m at base l stands e active ps k =
      put_together n j m at base 0 l stands e (below_zero n j m at base l stands e) active ps k
  frames_so (suc d) n j m at base l stands e active ps k =
      put_together n j m at base (suc d) l stands e (below_more n j m at base d (frames_so d) l stands e) active ps k
