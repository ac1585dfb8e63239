use Rattle.std.proofs.Common.{◌≡◌, ◌++◌, drop, map}
use Rattle.std.specs.Prelude.{◌+◌, ◌*◌, max}
use Rattle.lus_tree.specs.declared.expression.Expr.{size-Expr}
use Rattle.lus_tree.specs.View.{exprs_view, joined}
use Rattle.lus_limits.specs.Calls.{call_view, calls_among}
use Rattle.lus_limits.proofs.calls.+calls.Given as goal

abbrev pub decreases-push_calls : goal.decreases-push_calls
decreases-push_calls l = 4 * size-Expr l.e.now

abbrev pub decreases-push_calls_of_two : goal.decreases-push_calls_of_two
decreases-push_calls_of_two l = 4 * max (size-Expr l.first.now) (size-Expr l.second.now) + 1

abbrev pub decreases-push_calls_of_three : goal.decreases-push_calls_of_three
decreases-push_calls_of_three l = 4 * max (size-Expr l.first.now) (max (size-Expr l.second.now) (size-Expr l.third.now)) + 2

abbrev pub decreases-push_calls_among : goal.decreases-push_calls_among
decreases-push_calls_among l = 4 * goal.size-push_calls_among l + 1

abbrev pub invariant-push_calls_among-loop-value : goal.invariant-push_calls_among-loop-value
invariant-push_calls_among-loop-value l = map call_view l.calls.items ++ calls_among (joined (exprs_view (drop l.value-index l.values)))
    ≡ map call_view l.initial.calls.items ++ calls_among (joined (exprs_view l.values))
