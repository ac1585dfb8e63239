use Rattle.std.proofs.Common.{◌≡◌, ◌++◌, map, drop}
use Rattle.lus_tree.specs.Tree.{text_of}
use Rattle.lus_tree.specs.View.{word_view}
use Rattle.sys_parts.specs.Parts.{part_view}
use Rattle.sys_texts.specs.Sights.{name_part}
use Rattle.sys_texts.specs.Views.{sight_view}
use Rattle.sys_frames.proofs.held.push_names.Given as goal

-- what is there, and what is to come, is all
abbrev pub invariant-loop-name : goal.invariant-loop-name
invariant-loop-name l =
    map part_view l.parts.items ++ map (name_part (sight_view l.sight)) (map text_of (map word_view (drop l.name-index l.names)))
    ≡ map part_view l.initial.parts.items ++ map (name_part (sight_view l.sight)) (map text_of (map word_view l.names))
