use Rattle.std.proofs.Common.{◌≡◌, ◌++◌, map, drop}
use Rattle.lus_tree.specs.View.{exprs_view, joined}
use Rattle.lus_streams.specs.Clocks.{clock_seen}
use Rattle.lus_streams.specs.Names.{names_view}
use Rattle.sys_conditions.specs.Views.{memory_view}
use Rattle.sys_occurrences.specs.Occurring.{memories_among}
use Rattle.sys_occurrences.proofs.memories.+memories.Given as goal

-- what is there, and what is to come, is all
abbrev pub invariant-push_memories_among-loop-value : goal.invariant-push_memories_among-loop-value
invariant-push_memories_among-loop-value l =
    map memory_view l.memories.items ++ memories_among (names_view l.names) (clock_seen l.clock) (joined (exprs_view (drop l.value-index l.values)))
    ≡ map memory_view l.initial.memories.items ++ memories_among (names_view l.names) (clock_seen l.clock) (joined (exprs_view l.values))
