use Rattle.std.proofs.Common.{◌≡◌, drop, map}
use Rattle.lus_tree.specs.View.{contract_item_view}
use Rattle.lus_limits.specs.Counts.{contract_counts, cut_counts, with_counts}
use Rattle.lus_limits.specs.Summaries.{bound, counts_view, link_counts}
use Rattle.lus_limits.proofs.summing.contract_counts.Given as goal

-- what is counted, with what is to come, is all, up to the cut
abbrev pub invariant-loop-item : goal.invariant-loop-item
invariant-loop-item l = (cut_counts bound (counts_view l.counts) ≡ counts_view l.counts)
    × (cut_counts bound (with_counts (counts_view l.counts) (contract_counts (link_counts l.links) (map contract_item_view (drop l.item-index l.items))))
    ≡ cut_counts bound (contract_counts (link_counts l.links) (map contract_item_view l.items)))
