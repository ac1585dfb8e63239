use Rattle.std.proofs.Common.{◌≡◌, drop, map}
use Rattle.lus_tree.specs.View.{contract_item_view}
use Rattle.lus_limits.specs.Contracted.{IsCut, contract_seen, summaries_seen}
use Rattle.lus_limits.specs.SizeCuts.{cut_peaks}
use Rattle.lus_limits.specs.SizeSummaries.{contract_at, no_peaks, peaks_after}
use Rattle.lus_streams.specs.Names.{names_view}
use Rattle.lus_limits.proofs.contract_size.contract_size.Given as goal

-- what is known so far, with what is to come, is the contract's, cut
abbrev pub invariant-loop-item : goal.invariant-loop-item
invariant-loop-item l = IsCut (contract_seen l.contract) × (contract_seen l.none ≡ no_peaks)
    × (cut_peaks (peaks_after (names_view l.names) (contract_at (summaries_seen l.links)) (contract_seen l.contract)
    (map contract_item_view (drop l.item-index l.items)))
    ≡ cut_peaks (peaks_after (names_view l.names) (contract_at (summaries_seen l.links)) no_peaks (map contract_item_view l.items)))
