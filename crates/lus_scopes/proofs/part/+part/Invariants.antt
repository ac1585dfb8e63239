use Rattle.std.proofs.Common.{◌≡◌, drop, map}
use Rattle.std.specs.Prelude.{◌+◌, ◌*◌, max}
use Rattle.lus_tree.specs.declared.expression.Expr.{size-Expr}
use Rattle.lus_tree.specs.declared.expression.Form.{size-Form}
use Rattle.lus_tree.specs.View.{expr_view, joined, param_view}
use Rattle.lus_scopes.specs.Least.{least_view, noted_all}
use Rattle.lus_scopes.specs.Scopes.{scope_view}
use Rattle.lus_scopes.specs.Walk.{walk_among}
use Rattle.lus_scopes.proofs.part.+part.Given as goal

abbrev pub decreases-form_part : goal.decreases-form_part
decreases-form_part l = 6 * size-Form l.form.now

abbrev pub decreases-part : goal.decreases-part
decreases-part l = 6 * size-Expr l.e.now

abbrev pub decreases-operand : goal.decreases-operand
decreases-operand l = 6 * size-Expr l.e.now + 1

abbrev pub decreases-operand_of : goal.decreases-operand_of
decreases-operand_of l = 6 * size-Expr l.e.now + 2

abbrev pub decreases-value_part : goal.decreases-value_part
decreases-value_part l = 6 * size-Expr l.value.now + 2

abbrev pub decreases-arrow : goal.decreases-arrow
decreases-arrow l = 6 * max (size-Expr l.a.now) (size-Expr l.b.now) + 2

abbrev pub decreases-choice : goal.decreases-choice
decreases-choice l = 6 * max (size-Expr l.a.now) (max (size-Expr l.b.now) (size-Expr l.c.now)) + 2

abbrev pub decreases-sampled : goal.decreases-sampled
decreases-sampled l = 6 * size-Expr l.a.now + 2

abbrev pub decreases-merge : goal.decreases-merge
decreases-merge l = 6 * max (size-Expr l.a.now) (size-Expr l.b.now) + 2

abbrev pub decreases-values : goal.decreases-values
decreases-values l = 6 * goal.size-values l + 3

abbrev pub decreases-arguments_of : goal.decreases-arguments_of
decreases-arguments_of l = 6 * goal.size-arguments_of l + 4

abbrev pub decreases-defaults_of : goal.decreases-defaults_of
decreases-defaults_of l = 6 * goal.size-defaults_of l + 4

abbrev pub decreases-call : goal.decreases-call
decreases-call l = 6 * goal.size-call l + 5

-- what was noted, followed by what is to come, is all
abbrev pub invariant-values-loop-value : goal.invariant-values-loop-value
invariant-values-loop-value l = record {
  counted : l.i ≡ l.value-index;
  noted : noted_all (least_view l.least) (walk_among (scope_view l.scope) l.constant (map param_view l.streams) l.value-index
      (joined (map expr_view (drop l.value-index l.values))))
      ≡ noted_all (least_view l.initial.least) (walk_among (scope_view l.scope) l.constant (map param_view l.streams) 0 (joined (map expr_view l.values)));
}
