use Rattle.std.proofs.Common.{◌≡◌, ◌++◌, map, drop}
use Rattle.sys_parts.specs.Parts.{part_view}
use Rattle.sys_texts.specs.Sights.{latest_part}
use Rattle.sys_texts.specs.Views.{output_view}
use Rattle.sys_texts.proofs.outputs.push_latest_of.Given as goal

-- what is there, and what is to come, is all
abbrev pub invariant-loop-output : goal.invariant-loop-output
invariant-loop-output l =
    map part_view l.parts.items ++ map (latest_part l.beat) (map output_view (drop l.output-index l.outputs))
    ≡ map part_view l.initial.parts.items ++ map (latest_part l.beat) (map output_view l.outputs)
