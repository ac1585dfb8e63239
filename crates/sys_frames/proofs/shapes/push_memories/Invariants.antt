use Rattle.std.proofs.Common.{◌≡◌, ◌++◌, map, drop}
use Rattle.sys_meaning.specs.System.{shape_of}
use Rattle.sys_conditions.specs.Views.{memory_view}
use Rattle.sys_texts.specs.Texts.{sort_by}
use Rattle.sys_texts.specs.Views.{sight_view}
use Rattle.sys_frames.proofs.shapes.push_memories.Given as goal

-- what is there, and what is to come, is all
abbrev pub invariant-loop-memory : goal.invariant-loop-memory
invariant-loop-memory l =
    l.shapes.items ++ map (λ u. shape_of (sort_by (sight_view l.sight) u.operand)) (map memory_view (drop l.memory-index l.memories))
    ≡ l.initial.shapes.items ++ map (λ u. shape_of (sort_by (sight_view l.sight) u.operand)) (map memory_view l.memories)
