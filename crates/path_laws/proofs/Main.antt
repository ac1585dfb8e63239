-- A checked declaration is well typed, and the sources of its names are of different names.
use Rattle.std.proofs.Common.{◌≡◌, ℕ, suc, ◌<◌, true, List, [], ◌∷◌, map, flat_map, refl, sym, ap, ◌∙◌, subst, arith, pos}
use Rattle.std.specs.Prelude.{Contains}
use Rattle.std.specs.List.{AllByRecursion}
use Rattle.lus_tree.specs.declared.place.Sort.{Sort}
use Rattle.lus_tree.specs.declared.place.Sort.TheVariants.{Bool as Flags, Int as Numbers}
use Rattle.lus_tree.specs.Tree.{Name, Program}
use Rattle.lus_meaning.specs.Value.{Value, flag, whole}
use Rattle.lus_meaning.specs.Frame.{Frame, Frames, frame, no_frames, with_frame, frame_at}
use Rattle.lus_meaning.specs.Scene.{Manner, plain, while_true, as_import, Site, Instance, Instances, instance, no_instances, with_instance, component_of, call_instance, outputs_of, variables}
use Rattle.lus_meaning.specs.Program.{all_sites, instance_of}
use Rattle.lus_meaning.specs.Run.{Equation, equations, inputs_of, first_sorts, have_sorts}
use Rattle.lus_meaning.specs.Depends.{outputs_given, from_caller}
use Rattle.lus_meaning.specs.WellMade.{AreDistinct, IsWellMade, CallsWellMade}
use Rattle.lus_meaning.specs.Choices.{ChoicesFrom, CallsFit}
use Rattle.lus_meaning.specs.ClockFaults.{components}
use Rattle.lus_meaning.specs.Refusals.{IsChecked}
use Rattle.lus_meaning.proofs.Lists.{map_append}
use Rattle.rule_laws.specs.Laws.{IsUnfolded, AreUnfolded}
use Rattle.rule_laws.proofs.Callees.{GoesDown, each_site}
use Rattle.rule_laws.proofs.Unfolded.{component_within, each_unfolded}
use Rattle.clock_laws.proofs.Clocks.{declared_at}
use Rattle.clock_laws.proofs.Made.{each_well_made}
use Rattle.clock_laws.proofs.Same.{some_same}
use Rattle.run_laws.proofs.Sources.{IsCallee}
use Rattle.run_laws.proofs.Texts.{is_callee}
use Rattle.sys_meaning.specs.Slot.{Place}
use Rattle.sys_meaning.specs.Part.{Part}
use Rattle.sys_meaning.specs.Translate.{Stage, right_terms, term_of}
use Rattle.sys_meaning.specs.System.{Sources, paired, equation_sources, stage, shared_outputs, from_call, below_call, number_of}
use Rattle.sys_meaning.specs.System as system
use Rattle.sys_meaning.specs.Law.{TreeDistinct, CallsDistinct}
use Rattle.sys_meaning.specs.WellTyped.{IsKnown, TreeFits}
use Rattle.sys_meaning.proofs.Cells.{everywhere}
use Rattle.sys_meaning.proofs.Breaks.{breaks_at_last}
use Rattle.sys_meaning.proofs.Traces.{trace_of_path}
use Rattle.sys_meaning.proofs.Verdicts.{holds_where_bounded, holds_where_reachable}
use Rattle.sys_meaning.proofs.Follows.{lemma_law, property_law}
use Rattle.sys_meaning.proofs.OneRun.{runs_are_paths}
use Rattle.path_laws.specs.Laws.{EachIsWellTyped, EachRunsArePaths, EachLemmas, EachProperties, EachTraces, EachHolds, EachBounds, EachBreaks}
use Rattle.path_laws.proofs.OnePlace.{slots_numbered}
use Rattle.path_laws.proofs.Places.{SiteMade, HeldMany, sites_made}
use Rattle.path_laws.proofs.Spots.{HeldTree, CallsHeld, places_found, slots_placed}
use Rattle.path_laws.proofs.Tree.{tree_fits, names_on_base, named_there}

-- ---- what is held of calls

module _ (p : Program) (c : IsChecked p) where
  mutual
    held_tree : (i : Instance) → IsUnfolded p i → Contains (components p) (component_of i) → HeldTree i
    held_tree (instance d cs is) u j =
        calls_held (instance d cs is) u (all_sites d) is u.1 (each_site p c.rules.clocked.typed d j) (sites_made p c (instance d cs is) u j)

    calls_held : (i : Instance) → IsUnfolded p i → (ss : List Site) (is : Instances) → AreUnfolded p ss is →
        AllByRecursion (λ s. GoesDown p (component_of i) s.callee) ss → AllByRecursion (SiteMade i) ss → CallsHeld is
    calls_held i u ss no_instances w a m = tt
    calls_held i u [] (with_instance t k is) w a m = absurd w
    calls_held i u (s ∷ ss) (with_instance t k is) w a m =
        let same : component_of k ≡ component_of (call_instance i s.number) =
        some_same (component_of k) (component_of (call_instance i s.number)) (sym w.1 ∙ named_there p c i u s m.0.number m.0.site) in (
          subst (λ z. HeldMany z.manner z.defaults (component_of k).outputs) (sym w.0)
              (subst (λ n. HeldMany s.manner s.defaults n.outputs) (sym same) m.0.many),
          held_tree k w.2 (declared_at p c (component_of i) s k a.0 w.1),
          calls_held i u ss is w.3 a.1 m.1,
        )

-- ---- sources

paired_names : (xs : List Name) (ps : List Part) → map (λ (q : Name × Part). q.0) (paired xs ps) ≡ xs
paired_names [] ps = refl
paired_names (x ∷ xs) ps = ap (λ l. x ∷ l) (paired_names xs (system.tail_parts ps))

sources_named : (g : Stage) (es : List Equation) → map (λ (q : Name × Part). q.0) (equation_sources g es) ≡ flat_map (λ e. e.names) es
sources_named g [] = refl
sources_named g (e ∷ es) =
    map_append (λ (q : Name × Part). q.0) (paired e.names (right_terms g e.right)) (equation_sources g es)
    ∙ rw (paired_names e.names (right_terms g e.right), sources_named g es) refl

shared_named : (g : Stage) (m : Manner) (k : Instance) → map (λ (q : Name × Part). q.0) (shared_outputs g m k) ≡ outputs_given m (outputs_of k)
shared_named g plain k = refl
shared_named g (while_true a) k = refl
shared_named g (as_import xs) k = paired_names (outputs_of k) _

call_named : (g : Stage) (c : Site) (k : Instance) → map (λ (q : Name × Part). q.0) (from_call g c k) ≡ from_caller c k
call_named g c k =
    map_append (λ (q : Name × Part). q.0) (paired (inputs_of k) _) (shared_outputs g c.manner k)
    ∙ rw (paired_names (inputs_of k) (map (term_of g) c.arguments), shared_named g c.manner k) refl

mutual
  tree_distinct : (i : Instance) (at : Place → ℕ) (given : Sources) (names : List Name) →
      map (λ (q : Name × Part). q.0) given ≡ names → (x : Frame) →
      IsWellMade i names x → TreeDistinct i at given
  tree_distinct (instance d cs is) at given names e x w = (
    subst AreDistinct (sym (map_append (λ (q : Name × Part). q.0) given (equation_sources (stage (instance d cs is) at) (equations d))
        ∙ rw (e, sources_named (stage (instance d cs is) at) (equations d)) refl)) w.0,
    calls_distinct is (stage (instance d cs is) at) _ w.4,
  )

  calls_distinct : (is : Instances) (g : Stage) (fs : ℕ → Frame) → CallsWellMade is fs → CallsDistinct is g
  calls_distinct no_instances g fs w = tt
  calls_distinct (with_instance c k is) g fs w = (
    tree_distinct k (below_call c.number g.number) (from_call g c k) (from_caller c k) (call_named g c k) (fs 0) w.2,
    calls_distinct is g (λ j. fs (suc j)) w.3,
  )

-- some choices, for no instant

abbrev of_sort : Sort → Value
of_sort Flags = flag true
of_sort Numbers = whole (pos 0)

of_sorts : (ss : List Sort) → have_sorts ss (map of_sort ss) ≡ true
of_sorts [] = refl
of_sorts (Flags ∷ ss) = of_sorts ss
of_sorts (Numbers ∷ ss) = of_sorts ss

abbrev mutual
  some_frame : Instance → Frame
  some_frame (instance d cs is) = frame [] (map of_sort (first_sorts (instance d cs is))) (some_frames is)

  some_frames : Instances → Frames
  some_frames no_instances = no_frames
  some_frames (with_instance c k is) = with_frame (some_frame k) (some_frames is)

no_instant : (t : ℕ) → t < 0 → ⊥
no_instant t l = omega (arith, l)

mutual
  some_fit : (i : Instance) (names : List Name) → ChoicesFrom i names 0 (some_frame i)
  some_fit (instance d cs is) names =
      (of_sorts (first_sorts (instance d cs is)), everywhere _ (λ v q t l. absurd (no_instant t l)) (variables d), calls_some_fit is)

  calls_some_fit : (is : Instances) → CallsFit is 0 (frame_at (some_frames is))
  calls_some_fit no_instances = tt
  calls_some_fit (with_instance c k is) = (some_fit k (from_caller c k), calls_some_fit is)

-- ---- the laws

pub each_is_well_typed : EachIsWellTyped
each_is_well_typed p c n j =
    let i : Instance = instance_of p n in
    let u : IsUnfolded p i = each_unfolded p c n j in
    let here : Contains (components p) (component_of i) = subst (Contains (components p)) (sym (component_within _ p n)) j in
    let tree : TreeFits IsKnown i = tree_fits p c i u here in
    let held : HeldTree i = held_tree p c i u here in
    let callee : IsCallee i = is_callee p c i u here in (
      record {
        tree = tree;
        places = places_found i tree held;
        numbered = slots_numbered i tree;
        slots = slots_placed i tree;
        main_inputs = names_on_base p c i (component_of i).inputs callee.inputs_on_base callee.inputs;
      },
      tree_distinct i (number_of i) [] [] refl (some_frame i) (each_well_made p c n j 0 (some_frame i) (some_fit i [])),
    )

pub each_runs_are_paths : EachRunsArePaths
each_runs_are_paths p c n j = let w = each_is_well_typed p c n j in runs_are_paths (instance_of p n) w.0 w.1

pub each_lemmas : EachLemmas
each_lemmas p c n j = lemma_law (instance_of p n) (each_runs_are_paths p c n j)

pub each_properties : EachProperties
each_properties p c n j = property_law (instance_of p n) (each_runs_are_paths p c n j)

pub each_traces : EachTraces
each_traces p c n j = let w = each_is_well_typed p c n j in trace_of_path (instance_of p n) w.0 w.1

pub each_holds : EachHolds
each_holds p c n j = holds_where_reachable (instance_of p n) (each_runs_are_paths p c n j)

pub each_bounds : EachBounds
each_bounds p c n j = holds_where_bounded (instance_of p n) (each_runs_are_paths p c n j)

pub each_breaks : EachBreaks
each_breaks p c n j = let w = each_is_well_typed p c n j in breaks_at_last (instance_of p n) w.0 w.1
