-- The trace of a path has the path's frame, and lists its inputs.
use Rattle.std.proofs.Common.{◌≡◌, ℕ, true, List, [], ◌∷◌, length}
use Rattle.std.specs.List.{AllByRecursion}
use Rattle.std.specs.Str.{bytes_eq}
use Rattle.lus_tree.specs.Tree.{Variable}
use Rattle.lus_meaning.specs.Frame.{Frame}
use Rattle.lus_meaning.specs.Scene.{Instance}
use Rattle.lus_meaning.specs.Trace.{of_name}
use Rattle.lus_meaning.specs.Fits.{is_listed}
use Rattle.lus_meaning.proofs.Lists.{all_from, or_true, or_left}
use Rattle.lus_meaning.proofs.Exists.{self_bytes}
use Rattle.sys_meaning.specs.Path.{TraceOfPath, frame_of_path, name_lines}
use Rattle.sys_meaning.specs.System.{number_of}
use Rattle.sys_meaning.specs.WellTyped.{IsKnown, WellTyped}
use Rattle.sys_meaning.specs.Law.{TreeDistinct}
use Rattle.sys_meaning.proofs.OneRun.{paths_to_runs}
use Rattle.sys_meaning.proofs.Tracing.{trace_has_frame}

-- the trace of a path has the path's frame
pub trace_of_path : (i : Instance) → WellTyped IsKnown i → TreeDistinct i (number_of i) [] → TraceOfPath i
trace_of_path i w distinct states path =
    trace_has_frame IsKnown i (length states) (frame_of_path i states) w.tree
    (paths_to_runs i w distinct states path).0.run

pub input_given : (n : ℕ) (f : Frame) (vs : List Variable) →
    AllByRecursion (λ v. is_listed (name_lines [] n f vs) [] (of_name v.name.text) ≡ true) vs
input_given n f [] = tt
input_given n f (v ∷ vs) = (
  or_left (bytes_eq v.name.text v.name.text) _ (self_bytes v.name.text),
  all_from (λ w. is_listed (name_lines [] n f vs) [] (of_name w.name.text) ≡ true)
      (λ w. is_listed (name_lines [] n f (v ∷ vs)) [] (of_name w.name.text) ≡ true)
      (λ w e. or_true _ _ e) vs (input_given n f vs),
)
