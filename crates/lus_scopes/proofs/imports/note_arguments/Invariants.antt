use Rattle.std.proofs.Common.{◌≡◌, drop, map}
use Rattle.lus_tree.specs.View.{expr_view, param_view}
use Rattle.lus_meaning.specs.ExpressionFaults.{sorts_fit}
use Rattle.lus_scopes.specs.Least.{least_view, noted_all}
use Rattle.lus_scopes.specs.Scopes.{scope_view}
use Rattle.lus_scopes.proofs.imports.note_arguments.Given as goal

abbrev pub invariant-loop-stream : goal.invariant-loop-stream
invariant-loop-stream l =
    noted_all (least_view l.least) (sorts_fit (scope_view l.scope) (map param_view (drop l.stream-index l.streams)) (map expr_view l.left))
    ≡ noted_all (least_view l.initial.least) (sorts_fit (scope_view l.scope) (map param_view l.streams) (map expr_view l.arguments))
