use Rattle.std.proofs.Common.{◌≡◌, ◌+◌, drop, map}
use Rattle.lus_tree.specs.View.{item_view}
use Rattle.lus_limits.specs.Counts.{body_count}
use Rattle.lus_limits.specs.Summaries.{cut}
use Rattle.lus_limits.proofs.summing.body_count.Given as goal

-- what is counted, with what is to come, is all, up to the cut
abbrev pub invariant-loop-item : goal.invariant-loop-item
invariant-loop-item l = (cut l.count ≡ l.count) × (cut (l.count + body_count (map item_view (drop l.item-index l.items))) ≡ cut
    (body_count (map item_view l.items)))
