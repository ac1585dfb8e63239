use Rattle.std.proofs.Common.{◌≡◌, drop, map}
use Rattle.lus_tree.specs.View.{named_view}
use Rattle.lus_limits.specs.Measured.{modes_view, size_view}
use Rattle.lus_streams.specs.Names.{names_view}
use Rattle.lus_limits.specs.OwnTerms.{inner_labelled}
use Rattle.lus_limits.specs.Peaks.{greater}
use Rattle.lus_limits.specs.SizeCuts.{cut_term}
use Rattle.lus_limits.proofs.own.inner_labelled.Given as goal

-- the greatest so far, with what is to come, is the greatest of all, cut
abbrev pub invariant-loop-named : goal.invariant-loop-named
invariant-loop-named l = (cut_term (size_view l.size) ≡ size_view l.size)
    × (cut_term (greater (size_view l.size) (inner_labelled (names_view l.scope.names) (modes_view l.scope.modes.now)
    (map named_view (drop l.named-index l.labelled)))) ≡ cut_term
    (inner_labelled (names_view l.scope.names) (modes_view l.scope.modes.now) (map named_view l.labelled)))
