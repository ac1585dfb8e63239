use Rattle.std.proofs.Common.{◌≡◌, drop, map}
use Rattle.lus_tree.specs.View.{definition_view}
use Rattle.lus_limits.specs.Measured.{modes_view, size_view}
use Rattle.lus_streams.specs.Names.{names_view}
use Rattle.lus_limits.specs.OwnTerms.{constant_terms}
use Rattle.lus_limits.specs.Peaks.{greater}
use Rattle.lus_limits.specs.SizeCuts.{cut_term}
use Rattle.lus_limits.proofs.own.constant_terms.Given as goal

-- the greatest so far, with what is to come, is the greatest of all, cut
abbrev pub invariant-loop-constant : goal.invariant-loop-constant
invariant-loop-constant l = (cut_term (size_view l.size) ≡ size_view l.size)
    × (cut_term (greater (size_view l.size) (constant_terms (names_view l.scope.names) (modes_view l.scope.modes.now)
    (map definition_view (drop l.constant-index l.constants)))) ≡ cut_term
    (constant_terms (names_view l.scope.names) (modes_view l.scope.modes.now) (map definition_view l.constants)))
