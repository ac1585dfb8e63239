use Rattle.std.proofs.Common.{◌≡◌, ◌++◌, ◌+◌, map, drop}
use Rattle.sys_conditions.specs.Views.{memory_view}
use Rattle.sys_texts.specs.Views.{sight_view}
use Rattle.trace_fits.specs.Views.{slotted_view}
use Rattle.trace_fits.specs.Walked.{memories_listed}
use Rattle.trace_fits.proofs.streams.push_memories.Given as goal

-- what is there, and what is to come, is all
abbrev pub invariant-loop-memory : goal.invariant-loop-memory
invariant-loop-memory l = record {
  at : l.slot ≡ l.first + l.memory-index;
  made : map slotted_view l.list.items ++ memories_listed (sight_view l.sight) l.path l.slot (map memory_view (drop l.memory-index l.memories))
      ≡ map slotted_view l.initial.list.items ++ memories_listed (sight_view l.sight) l.path l.first (map memory_view l.memories);
}
