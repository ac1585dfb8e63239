use Rattle.std.specs.Prelude.{◌+◌, ◌*◌, max}
use Rattle.lus_tree.specs.declared.expression.Expr.{size-Expr}
use Rattle.sys_texts.proofs.texts.+folded.Given as goal

abbrev pub decreases-folded : goal.decreases-folded
decreases-folded l = 3 * size-Expr l.e.now

abbrev pub decreases-folded_pair : goal.decreases-folded_pair
decreases-folded_pair l = 3 * max (size-Expr l.a.now) (size-Expr l.b.now) + 1

abbrev pub decreases-one_of : goal.decreases-one_of
decreases-one_of l = 3 * max (size-Expr l.a.now) (size-Expr l.b.now) + 2

abbrev pub decreases-folded_binary : goal.decreases-folded_binary
decreases-folded_binary l = 3 * max (size-Expr l.a.now) (size-Expr l.b.now) + 2

abbrev pub decreases-folded_if : goal.decreases-folded_if
decreases-folded_if l = 3 * max (size-Expr l.c.now) (max (size-Expr l.a.now) (size-Expr l.b.now)) + 2
