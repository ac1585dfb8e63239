use Rattle.std.proofs.Common.{◌≡◌, drop, map}
use Rattle.lus_tree.specs.View.{named_view}
use Rattle.lus_meaning.specs.Sizes.{asked_size, sizes_of}
use Rattle.lus_limits.specs.Measured.{modes_view, size_view}
use Rattle.lus_limits.specs.Peaks.{greater, peak}
use Rattle.lus_limits.specs.SizeCuts.{cut_term}
use Rattle.lus_streams.specs.Names.{names_view}
use Rattle.lus_limits.proofs.contract_size.ensured.Given as goal

-- the greatest so far, with what is to come, is the greatest of all, cut
abbrev pub invariant-loop-named : goal.invariant-loop-named
invariant-loop-named l = (cut_term (size_view l.size) ≡ size_view l.size)
    × (cut_term (greater (size_view l.size) (peak (map (asked_size (size_view l.asked)) (sizes_of (names_view l.scope.names)
    (modes_view l.scope.modes.now) (map named_view (drop l.named-index l.labelled))))))
    ≡ cut_term (peak (map (asked_size (size_view l.asked)) (sizes_of (names_view l.scope.names) (modes_view l.scope.modes.now)
    (map named_view l.labelled)))))
