use Rattle.std.proofs.Common.{◌≡◌, drop, map}
use Rattle.lus_tree.specs.View.{expr_view}
use Rattle.lus_limits.specs.Inner.{argument_terms}
use Rattle.lus_limits.specs.Measured.{modes_view, size_view}
use Rattle.lus_limits.specs.Peaks.{greater}
use Rattle.lus_limits.specs.SizeCuts.{cut_term}
use Rattle.lus_streams.specs.Names.{names_view}
use Rattle.lus_limits.proofs.inner.argument_terms.Given as goal

-- the greatest so far, with what is to come, is the greatest of all, cut
abbrev pub invariant-loop-argument : goal.invariant-loop-argument
invariant-loop-argument l = (cut_term (size_view l.size) ≡ size_view l.size)
    × (cut_term (greater (size_view l.size) (argument_terms (names_view l.scope.names) (modes_view l.scope.modes.now)
    (map expr_view (drop l.argument-index l.arguments))))
    ≡ cut_term (argument_terms (names_view l.scope.names) (modes_view l.scope.modes.now) (map expr_view l.arguments)))
