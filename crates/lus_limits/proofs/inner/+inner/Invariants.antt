use Rattle.std.proofs.Common.{◌≡◌, drop}
use Rattle.std.specs.Prelude.{◌+◌, ◌*◌, max}
use Rattle.lus_tree.specs.declared.expression.Expr.{size-Expr}
use Rattle.lus_tree.specs.View.{exprs_view, joined}
use Rattle.lus_streams.specs.Clocks.{clock_seen}
use Rattle.lus_limits.specs.Inner.{inner_among}
use Rattle.lus_limits.specs.Measured.{modes_view, size_view}
use Rattle.lus_streams.specs.Names.{names_view}
use Rattle.lus_limits.specs.Peaks.{greater}
use Rattle.lus_limits.specs.SizeCuts.{cut_term}
use Rattle.lus_limits.proofs.inner.+inner.Given as goal

abbrev pub decreases-inner : goal.decreases-inner
decreases-inner l = 3 * size-Expr l.e.now

abbrev pub decreases-inner_of_two : goal.decreases-inner_of_two
decreases-inner_of_two l = 3 * max (size-Expr l.first.now) (size-Expr l.second.now) + 1

abbrev pub decreases-merged : goal.decreases-merged
decreases-merged l = 3 * max (size-Expr l.first.now) (size-Expr l.second.now) + 1

abbrev pub decreases-inner_among : goal.decreases-inner_among
decreases-inner_among l = 3 * goal.size-inner_among l + 1

-- the greatest so far, with what is to come, is the greatest of all, cut
abbrev pub invariant-inner_among-loop-value : goal.invariant-inner_among-loop-value
invariant-inner_among-loop-value l = (cut_term (size_view l.size) ≡ size_view l.size)
    × (cut_term (greater (size_view l.size) (inner_among (names_view l.scope.names) (modes_view l.scope.modes.now) (clock_seen l.clock)
    (joined (exprs_view (drop l.value-index l.values)))))
    ≡ cut_term (inner_among (names_view l.scope.names) (modes_view l.scope.modes.now) (clock_seen l.clock) (joined (exprs_view l.values))))
