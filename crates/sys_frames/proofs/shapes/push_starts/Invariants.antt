use Rattle.std.proofs.Common.{◌≡◌, ◌++◌, map, drop}
use Rattle.sys_conditions.specs.Views.{start_view}
use Rattle.sys_frames.specs.Walked.{start_shapes}
use Rattle.sys_frames.proofs.shapes.push_starts.Given as goal

-- what is there, and what is to come, is all
abbrev pub invariant-loop-start : goal.invariant-loop-start
invariant-loop-start l =
    l.shapes.items ++ start_shapes (map start_view (drop l._start-index l.starts))
    ≡ l.initial.shapes.items ++ start_shapes (map start_view l.starts)
