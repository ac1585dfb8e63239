use Rattle.std.proofs.Common.{◌≡◌, ◌++◌, map, drop}
use Rattle.sys_meaning.specs.System.{shape_of}
use Rattle.sys_tables.specs.Views.{named_view}
use Rattle.sys_frames.proofs.shapes.push_streams.Given as goal

-- what is there, and what is to come, is all
abbrev pub invariant-loop-stream : goal.invariant-loop-stream
invariant-loop-stream l =
    l.shapes.items ++ map (λ v. shape_of v.variable.sort) (map named_view (drop l.stream-index l.streams))
    ≡ l.initial.shapes.items ++ map (λ v. shape_of v.variable.sort) (map named_view l.streams)
