use Rattle.std.proofs.Common.{◌≡◌, ◌+◌, drop, length, map}
use Rattle.lus_tree.specs.View.{contract_item_view}
use Rattle.lus_meaning.specs.Scene.{ghosts}
use Rattle.lus_limits.specs.Summaries.{cut}
use Rattle.lus_limits.proofs.summing.ghost_count.Given as goal

-- what is counted, with what is to come, is all, up to the cut
abbrev pub invariant-loop-item : goal.invariant-loop-item
invariant-loop-item l = (cut l.count ≡ l.count)
    × (cut (l.count + length (ghosts (map contract_item_view (drop l.item-index l.items)))) ≡ cut (length (ghosts (map contract_item_view l.items))))
