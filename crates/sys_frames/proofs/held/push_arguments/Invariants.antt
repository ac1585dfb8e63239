use Rattle.std.proofs.Common.{◌≡◌, ◌++◌, map, drop}
use Rattle.lus_tree.specs.View.{expr_view}
use Rattle.sys_parts.specs.Parts.{part_view}
use Rattle.sys_texts.specs.Texts.{part_of}
use Rattle.sys_texts.specs.Views.{modes_view, sight_view}
use Rattle.sys_frames.proofs.held.push_arguments.Given as goal

-- what is there, and what is to come, is all
abbrev pub invariant-loop-argument : goal.invariant-loop-argument
invariant-loop-argument l =
    map part_view l.parts.items ++ map (part_of (sight_view l.sight) (modes_view l.modes)) (map expr_view (drop l.argument-index l.arguments))
    ≡ map part_view l.initial.parts.items ++ map (part_of (sight_view l.sight) (modes_view l.modes)) (map expr_view l.arguments)
