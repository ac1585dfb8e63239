-- The names of each instance of a checked program are given once and declared: some choices of no instant show it.
use Rattle.std.proofs.Common.{◌≡◌, ℕ, ◌<◌, true, List, [], ◌∷◌, map, refl, arith}
use Rattle.std.specs.Prelude.{pos, Contains}
use Rattle.lus_tree.specs.declared.place.Sort.{Sort}
use Rattle.lus_tree.specs.declared.place.Sort.TheVariants.{Bool as Flags, Int as Numbers}
use Rattle.lus_tree.specs.Tree.{Name, Component, Program}
use Rattle.lus_meaning.specs.Value.{Value, flag, whole}
use Rattle.lus_meaning.specs.Frame.{Frame, Frames, frame, no_frames, with_frame, frame_at}
use Rattle.lus_meaning.specs.Scene.{Instance, Instances, instance, no_instances, with_instance, variables}
use Rattle.lus_meaning.specs.Run.{have_sorts, first_sorts}
use Rattle.lus_meaning.specs.Depends.{from_caller}
use Rattle.lus_meaning.specs.Choices.{ChoicesFrom, CallsFit}
use Rattle.lus_meaning.specs.WellMade.{IsWellMade}
use Rattle.lus_meaning.specs.Program.{instance_of}
use Rattle.lus_meaning.specs.ClockFaults.{components}
use Rattle.lus_meaning.specs.Refusals.{IsChecked}
use Rattle.clock_laws.proofs.Made.{each_well_made}
use Rattle.sys_meaning.proofs.Cells.{everywhere}

abbrev pub of_sort : Sort → Value
of_sort Flags = flag true
of_sort Numbers = whole (pos 0)

pub of_sorts : (ss : List Sort) → have_sorts ss (map of_sort ss) ≡ true
of_sorts [] = refl
of_sorts (Flags ∷ ss) = of_sorts ss
of_sorts (Numbers ∷ ss) = of_sorts ss

abbrev mutual
  pub some_frame : Instance → Frame
  some_frame (instance d cs is) = frame [] (map of_sort (first_sorts (instance d cs is))) (some_frames is)

  pub some_frames : Instances → Frames
  some_frames no_instances = no_frames
  some_frames (with_instance c k is) = with_frame (some_frame k) (some_frames is)

no_instant : (t : ℕ) → t < 0 → ⊥
no_instant t l = omega (arith, l)

mutual
  some_fit : (i : Instance) (names : List Name) → ChoicesFrom i names 0 (some_frame i)
  some_fit (instance d cs is) names =
      (of_sorts (first_sorts (instance d cs is)), everywhere _ (λ v q t l. absurd (no_instant t l)) (variables d), calls_some_fit is)

  calls_some_fit : (is : Instances) → CallsFit is 0 (frame_at (some_frames is))
  calls_some_fit no_instances = tt
  calls_some_fit (with_instance c k is) = (some_fit k (from_caller c k), calls_some_fit is)

pub some_made : (p : Program) → IsChecked p → (n : Component) → Contains (components p) n → IsWellMade (instance_of p n) [] (some_frame (instance_of p n))
some_made p c n j = each_well_made p c n j 0 (some_frame (instance_of p n)) (some_fit (instance_of p n) [])
