use Rattle.std.specs.Prelude.{◌+◌, ◌*◌, max}
use Rattle.lus_tree.specs.declared.expression.Expr.{size-Expr}
use Rattle.slot_resolver.proofs.resolving.+resolve.Given as goal

abbrev pub decreases-resolve : goal.decreases-resolve
decreases-resolve t l = 4 * size-Expr l.e.now

abbrev pub decreases-boxed : goal.decreases-boxed
decreases-boxed t l = 4 * size-Expr l.e.now + 1

abbrev pub decreases-pair : goal.decreases-pair
decreases-pair t l = 4 * max (size-Expr l.a.now) (size-Expr l.b.now) + 2

abbrev pub decreases-choice : goal.decreases-choice
decreases-choice t l = 4 * max (size-Expr l.c.now) (max (size-Expr l.a.now) (size-Expr l.b.now)) + 3
