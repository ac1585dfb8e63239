use Rattle.std.proofs.Common.{◌≡◌, drop, map}
use Rattle.lus_tree.specs.View.{contract_item_view}
use Rattle.lus_meaning.specs.Scene.{ghosts}
use Rattle.lus_limits.specs.Measured.{size_view}
use Rattle.lus_limits.specs.OwnTerms.{free_terms}
use Rattle.lus_limits.specs.Peaks.{greater}
use Rattle.lus_limits.specs.SizeCuts.{cut_term}
use Rattle.lus_streams.specs.Names.{names_view}
use Rattle.lus_limits.proofs.frame_size.free_ghosts.Given as goal

-- the greatest so far, with what is to come, is the greatest of all, cut
abbrev pub invariant-loop-item : goal.invariant-loop-item
invariant-loop-item l = (cut_term (size_view l.size) ≡ size_view l.size)
    × (cut_term (greater (size_view l.size) (free_terms l.known (names_view l.names) (ghosts (map contract_item_view (drop l.item-index l.items)))))
    ≡ cut_term (free_terms l.known (names_view l.names) (ghosts (map contract_item_view l.items))))
