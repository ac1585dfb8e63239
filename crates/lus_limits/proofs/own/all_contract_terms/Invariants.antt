use Rattle.std.proofs.Common.{◌≡◌, drop, map}
use Rattle.lus_tree.specs.View.{contract_item_view}
use Rattle.lus_limits.specs.Measured.{modes_view, size_view}
use Rattle.lus_streams.specs.Names.{names_view}
use Rattle.lus_limits.specs.OwnTerms.{all_contract_terms}
use Rattle.lus_limits.specs.Peaks.{greater}
use Rattle.lus_limits.specs.SizeCuts.{cut_term}
use Rattle.lus_limits.proofs.own.all_contract_terms.Given as goal

-- the greatest so far, with what is to come, is the greatest of all, cut
abbrev pub invariant-loop-item : goal.invariant-loop-item
invariant-loop-item l = (cut_term (size_view l.size) ≡ size_view l.size)
    × (cut_term (greater (size_view l.size) (all_contract_terms (names_view l.scope.names) (modes_view l.scope.modes.now)
    (map contract_item_view (drop l.item-index l.items)))) ≡ cut_term
    (all_contract_terms (names_view l.scope.names) (modes_view l.scope.modes.now) (map contract_item_view l.items)))
