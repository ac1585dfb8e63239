use Rattle.std.proofs.Common.{◌≡◌, ◌++◌, map, drop}
use Rattle.sys_conditions.specs.Views.{memory_view}
use Rattle.sys_texts.specs.Views.{sight_view}
use Rattle.frame_sources.specs.Sourced.{memory_source}
use Rattle.frame_sources.specs.Views.{all_asked_view, sources_view}
use Rattle.frame_sources.proofs.kept.push_memories.Given as goal

-- what is there, and what is to come, is all
abbrev pub invariant-loop-memory : goal.invariant-loop-memory
invariant-loop-memory l =
    sources_view l.sources.items ++ map (memory_source (sight_view l.sight) (all_asked_view l.modes)) (map memory_view (drop l.memory-index l.memories))
    ≡ sources_view l.initial.sources.items ++ map (memory_source (sight_view l.sight) (all_asked_view l.modes)) (map memory_view l.memories)
