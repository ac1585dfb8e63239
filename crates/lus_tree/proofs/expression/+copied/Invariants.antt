use Rattle.std.proofs.Common.{◌≡◌, take}
use Rattle.lus_tree.specs.View.{exprs_view}
use Rattle.lus_tree.proofs.expression.+copied.Given as goal

abbrev pub invariant-copied_exprs-loop-expr : goal.invariant-copied_exprs-loop-expr
invariant-copied_exprs-loop-expr l = exprs_view l.copies.items ≡ exprs_view (take l.expr-index l.exprs)
