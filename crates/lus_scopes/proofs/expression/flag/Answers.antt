use Rattle.std.proofs.Common.{false, ◌++◌}
use Rattle.lus_tree.specs.declared.place.Sort.TheVariants.{Bool as Flags}
use Rattle.lus_tree.specs.View.{expr_view}
use Rattle.lus_meaning.specs.ExpressionFaults.{flag_faults, needs_sort}
use Rattle.lus_scopes.specs.Least.{least_view}
use Rattle.lus_scopes.specs.Scopes.{scope_view}
use Rattle.lus_scopes.specs.Walk.{whole_walk}
use Rattle.lus_scopes.proofs.Walks.{flag_noted}
use Rattle.lus_scopes.proofs.Alike.{least_behind}
use Rattle.lus_scopes.proofs.Arms.{sort_behind}
use Rattle.lus_scopes.proofs.expression.flag.Goals as goal

pub returns : goal.returns
returns c =
    λ fs i. least_behind (least_view c.args.least.now) (least_view c.needs_sort.new.least) fs
    (whole_walk (scope_view c.args.scope.now) false false (expr_view c.args.e.now) ++ needs_sort (scope_view c.args.scope.now) Flags
    (expr_view c.args.e.now)) (flag_faults (scope_view c.args.scope.now) (expr_view c.args.e.now))
    (sort_behind (scope_view c.args.scope.now) Flags (expr_view c.args.e.now) c.part-found.result
    (whole_walk (scope_view c.args.scope.now) false false (expr_view c.args.e.now)) (least_view c.args.least.now)
    (least_view c.part-found.new.least) (least_view c.needs_sort.new.least) c.part-found.ensures.part c.part-found.ensures.least
    c.needs_sort.ensures)
    (λ p. flag_noted p (scope_view c.args.scope.now) (expr_view c.args.e.now)) i
