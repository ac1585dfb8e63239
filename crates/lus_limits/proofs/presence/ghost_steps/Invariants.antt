use Rattle.std.proofs.Common.{◌≡◌, ◌+◌, ℕ, length, map, take}
use Rattle.lus_tree.specs.View.{contract_item_view}
use Rattle.lus_meaning.specs.Scene.{ghosts}
use Rattle.lus_streams.specs.Clocks.{clock_seen}
use Rattle.lus_limits.specs.Measured.{passes, size_view}
use Rattle.lus_streams.specs.Names.{names_view}
use Rattle.lus_limits.proofs.presence.ghost_steps.Given as goal

-- a step for each ghost variable so far
abbrev pub invariant-loop-item : goal.invariant-loop-item
invariant-loop-item l =
    (d : ℕ) → passes d (names_view l.names) (clock_seen l.passing.clock) (size_view l.passing.size)
    ≡ passes (d + length (ghosts (map contract_item_view (take l.item-index l.items)))) (names_view l.names)
    (clock_seen l.fn.passing.clock) (size_view l.fn.passing.size)
