-- Each declaration of a checked program has a run of one instant: some choices show it.
use Rattle.std.proofs.Common.{◌≡◌, ℕ, zero, suc, ◌<◌, true, List, [], ◌∷◌, map, refl, ap, ◌∙◌, sym, subst, arith, unwrap_or, slice_index_or}
use Rattle.std.specs.Prelude.{Contains}
use Rattle.std.specs.List.{AllByRecursion}
use Rattle.lus_tree.specs.declared.place.Sort.{Sort}
use Rattle.lus_tree.specs.declared.place.Sort.TheVariants.{Bool as Flags, Int as Numbers}
use Rattle.lus_tree.specs.Tree.{Name, Variable, Component, Program}
use Rattle.lus_meaning.specs.Value.{Value, absent, has_sort}
use Rattle.lus_meaning.specs.Frame.{Frame, Frames, frame, no_frames, with_frame, entry, frame_at}
use Rattle.lus_meaning.specs.Scene.{Instance, Instances, instance, no_instances, with_instance, variables}
use Rattle.lus_meaning.specs.Run.{IsRun, first_sorts}
use Rattle.lus_meaning.specs.Depends.{from_caller}
use Rattle.lus_meaning.specs.Choices.{ChoicesFrom, CallsFit}
use Rattle.lus_meaning.specs.Program.{instance_of}
use Rattle.lus_meaning.specs.ClockFaults.{components}
use Rattle.lus_meaning.specs.Refusals.{IsChecked}
use Rattle.lus_meaning.specs.Verdict.{throughout}
use Rattle.lus_meaning.specs.WellMade.{AreDistinct}
use Rattle.lus_meaning.proofs.Lists.{all_from}
use Rattle.sys_meaning.specs.WellTyped as typed
use Rattle.sys_meaning.specs.WellTyped.{IsKnown, TreeFits}
use Rattle.path_laws.proofs.Main.{each_is_well_typed}
use Rattle.run_laws.proofs.OneRun.{one_run}
use Rattle.within_laws.proofs.Given.{Finds, firsts, all_found}
use Rattle.within_laws.proofs.Made.{of_sort, of_sorts}

abbrev of_name : Variable → Name × List Value
of_name v = (v.name.text, of_sort v.sort ∷ [])

abbrev mutual
  chosen : Instance → Frame
  chosen (instance d cs is) = frame (map of_name (variables d)) (map of_sort (first_sorts (instance d cs is))) (chosen_each is)

  chosen_each : Instances → Frames
  chosen_each no_instances = no_frames
  chosen_each (with_instance c k is) = with_frame (chosen k) (chosen_each is)

same_names : (vs : List Variable) → firsts (map of_name vs) ≡ map (λ v. v.name.text) vs
same_names [] = refl
same_names (v ∷ vs) = ap (λ l. v.name.text ∷ l) (same_names vs)

each_variable : (P : Name × List Value → Type 0) (vs : List Variable) → AllByRecursion P (map of_name vs) → AllByRecursion (λ v. P (of_name v)) vs
each_variable P [] a = tt
each_variable P (v ∷ vs) a = (a.0, each_variable P vs a.1)

sorted : (s : Sort) → has_sort s (of_sort s) ≡ true
sorted Flags = refl
sorted Numbers = refl

-- at its instant each name has a value of its type
abbrev HasValue : Frame → Variable → Type 0
HasValue f v = (t : ℕ) → t < 1 → has_sort v.sort (entry f v.name.text t) ≡ true

has_values : (p : List (Name × List Value)) (xs : List Value) (fs : Frames) (vs : List Variable) → AllByRecursion (λ v. Finds p (of_name v)) vs →
    AllByRecursion (HasValue (frame p xs fs)) vs
has_values p xs fs [] a = tt
has_values p xs fs (v ∷ vs) a = (one, has_values p xs fs vs a.1)
  where
    one : HasValue (frame p xs fs) v
    one zero l = ap (λ o. has_sort v.sort (slice_index_or (unwrap_or o []) 0 absent)) a.0 ∙ sorted v.sort
    one (suc t) l = absurd (omega (arith, l))

mutual
  fits : (i : Instance) (names : List Name) → TreeFits IsKnown i → ChoicesFrom i names 1 (chosen i)
  fits (instance d cs is) names a = (
    of_sorts (first_sorts (instance d cs is)),
    all_from (HasValue (chosen (instance d cs is))) _ (λ v h q t l. h t l) (variables d)
        (has_values (map of_name (variables d)) (map of_sort (first_sorts (instance d cs is))) (chosen_each is) (variables d)
        (each_variable (Finds (map of_name (variables d))) (variables d)
        (all_found (map of_name (variables d)) (subst AreDistinct (sym (same_names (variables d))) a.0.once)))),
    each_fits (instance d cs is) is 0 a.1,
  )

  each_fits : (i : Instance) (is : Instances) (q : ℕ) → typed.CallsFit IsKnown i is q → CallsFit is 1 (frame_at (chosen_each is))
  each_fits i no_instances q a = tt
  each_fits i (with_instance c k is) q a = (fits k (from_caller c k) a.1, each_fits i is (suc q) a.2)

pub some_run : (p : Program) → IsChecked p → (n : Component) → Contains (components p) n → (f : Frame) × IsRun (instance_of p n) 1 throughout f
some_run p c n j =
    let r = one_run p c n j 1 throughout (chosen (instance_of p n)) (fits (instance_of p n) [] (each_is_well_typed p c n j).0.tree) in
    (r.0, r.1.0)
