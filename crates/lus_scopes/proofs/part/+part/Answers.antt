use Rattle.std.proofs.Common.{◌∙◌, ap, false, ◌++◌, length, map, option_map, arith}
use Rattle.std.specs.Prelude.{slice_get}
use Rattle.lus_tree.specs.Tree.{Place}
use Rattle.lus_tree.specs.View.{expr_view, node_view, param_view, word_view}
use Rattle.lus_scopes.specs.Least.{least_view, noted_all}
use Rattle.lus_scopes.specs.Scopes.{scope_view}
use Rattle.lus_scopes.specs.Walk.{fits_stream, whole_walk}
use Rattle.lus_scopes.proofs.Shapes.{is_minus, is_pre, is_arrow, is_binary, is_choice, is_sampled, is_merged, is_call, is_condact, is_mode}
use Rattle.lus_scopes.proofs.Arms.{part_of, minus_is, pre_is, arrow_is, merged_is, operator_is, choice_is, condact_is, mode_is, walk_of, arrow_noted, operator_noted_all, choice_noted, sampled_noted, merged_noted, call_noted, condact_noted, values_step}
use Rattle.lus_scopes.proofs.part.+part.Goals as goal

pub form_part-returns-in-Minus-clause-part : goal.form_part-returns-in-Minus-clause-part
form_part-returns-in-Minus-clause-part t c =
    let p : Place = record { from = c.args.from; at = c.args.at } in
    part_of (scope_view c.args.scope.now) _ _ _ (is_minus c.args.form.now p _ _ c.in-Minus.is (cc))
    (minus_is (scope_view c.args.scope.now) p _ _ _ c.operand_of-in-Minus.ensures.part c.minus_part.ensures)

pub form_part-returns-in-Pre-clause-part : goal.form_part-returns-in-Pre-clause-part
form_part-returns-in-Pre-clause-part t c = let p : Place = record { from = c.args.from; at = c.args.at } in part_of
    (scope_view c.args.scope.now) _ _ _ (is_pre c.args.form.now p _ _ _ c.in-Pre.is (cc))
    (pre_is (scope_view c.args.scope.now) p _ _ _ _ c.operand.ensures.part c.pre_part.ensures)

pub form_part-returns-in-Pre-clause-least : goal.form_part-returns-in-Pre-clause-least
form_part-returns-in-Pre-clause-least t c = let p : Place = record { from = c.args.from; at = c.args.at } in walk_of
    (scope_view c.args.scope.now) c.args.manner.whole_side c.args.manner.constant _ _ _ _ (is_pre c.args.form.now p _ _ _ c.in-Pre.is (cc))
    (c.operand.ensures.least)

pub form_part-returns-in-Arrow-clause-part : goal.form_part-returns-in-Arrow-clause-part
form_part-returns-in-Arrow-clause-part t c =
    let p : Place = record { from = c.args.from; at = c.args.at } in
    part_of (scope_view c.args.scope.now) _ _ _ (is_arrow c.args.form.now p _ _ _ c.deref-in-Arrow.result.now c.deref-in-Arrow-2.result.now c.in-Arrow.is (cc) (cc))
    (c.arrow.ensures.part c.args.at c.in-Arrow.field-0)

pub form_part-returns-in-Arrow-clause-least : goal.form_part-returns-in-Arrow-clause-least
form_part-returns-in-Arrow-clause-least t c =
    let p : Place = record { from = c.args.from; at = c.args.at } in
    walk_of (scope_view c.args.scope.now) c.args.manner.whole_side c.args.manner.constant _ _ _ _ (is_arrow c.args.form.now p _ _ _ c.deref-in-Arrow.result.now c.deref-in-Arrow-2.result.now c.in-Arrow.is (cc) (cc))
    (c.arrow.ensures.least p c.in-Arrow.field-0)

pub form_part-returns-in-Binary-clause-part : goal.form_part-returns-in-Binary-clause-part
form_part-returns-in-Binary-clause-part t c =
    let p : Place = record { from = c.args.from; at = c.args.at } in
    part_of (scope_view c.args.scope.now) _ _ _ (is_binary c.args.form.now p _ _ _ _ _ c.in-Binary.is (cc) (cc))
    (operator_is (scope_view c.args.scope.now) p _ _ _ _ _ _ c.operand-left.ensures.part c.operand-right.ensures.part
    c.operator_part.ensures.part)

pub form_part-returns-in-Binary-clause-least : goal.form_part-returns-in-Binary-clause-least
form_part-returns-in-Binary-clause-least t c =
    let p : Place = record { from = c.args.from; at = c.args.at } in
    walk_of (scope_view c.args.scope.now) c.args.manner.whole_side c.args.manner.constant _ _ _ _
    (is_binary c.args.form.now p _ _ _ _ _ c.in-Binary.is (cc) (cc))
    (operator_noted_all (scope_view c.args.scope.now) c.args.manner.whole_side c.args.manner.constant p c.in-Binary.operator _ _ _ _
    c.is_wanted.result (least_view c.args.least.now) (least_view c.operand-left.new.least) (least_view c.operand-right.new.least)
    (least_view c.operator_part.new.least)
    c.operand-left.ensures.part c.operand-right.ensures.part c.is_wanted.ensures c.operand-left.ensures.least
    c.operand-right.ensures.least c.operator_part.ensures.least)

pub form_part-returns-in-If-clause-part : goal.form_part-returns-in-If-clause-part
form_part-returns-in-If-clause-part t c =
    let p : Place = record { from = c.args.from; at = c.args.at } in
    part_of (scope_view c.args.scope.now) _ _ _ (is_choice c.args.form.now p _ _ _ c.deref-in-If.result.now c.deref-in-If-2.result.now c.deref-in-If-3.result.now c.in-If.is (cc) (cc) (cc))
    (c.choice.ensures.part c.args.at)

pub form_part-returns-in-If-clause-least : goal.form_part-returns-in-If-clause-least
form_part-returns-in-If-clause-least t c =
    let p : Place = record { from = c.args.from; at = c.args.at } in
    walk_of (scope_view c.args.scope.now) c.args.manner.whole_side c.args.manner.constant _ _ _ _ (is_choice c.args.form.now p _ _ _ c.deref-in-If.result.now c.deref-in-If-2.result.now c.deref-in-If-3.result.now c.in-If.is (cc) (cc) (cc))
    (c.choice.ensures.least p)

pub form_part-returns-in-When-clause-part : goal.form_part-returns-in-When-clause-part
form_part-returns-in-When-clause-part t c =
    let p : Place = record { from = c.args.from; at = c.args.at } in
    part_of (scope_view c.args.scope.now) _ _ _ (is_sampled c.args.form.now p _ _ _ c.deref-in-When.result.now c.in-When.is (cc))
    (c.sampled.ensures.part c.args.at c.in-When.field-1)

pub form_part-returns-in-When-clause-least : goal.form_part-returns-in-When-clause-least
form_part-returns-in-When-clause-least t c =
    let p : Place = record { from = c.args.from; at = c.args.at } in
    walk_of (scope_view c.args.scope.now) c.args.manner.whole_side c.args.manner.constant _ _ _ _ (is_sampled c.args.form.now p _ _ _ c.deref-in-When.result.now c.in-When.is (cc))
    (c.sampled.ensures.least p c.in-When.field-1)

pub form_part-returns-in-Merge-clause-part : goal.form_part-returns-in-Merge-clause-part
form_part-returns-in-Merge-clause-part t c =
    let p : Place = record { from = c.args.from; at = c.args.at } in
    part_of (scope_view c.args.scope.now) _ _ _ (is_merged c.args.form.now p _ _ _ c.deref-in-Merge.result.now c.deref-in-Merge-2.result.now c.in-Merge.is (cc) (cc))
    (c.merge.ensures.part c.args.at)

pub form_part-returns-in-Merge-clause-least : goal.form_part-returns-in-Merge-clause-least
form_part-returns-in-Merge-clause-least t c =
    let p : Place = record { from = c.args.from; at = c.args.at } in
    walk_of (scope_view c.args.scope.now) c.args.manner.whole_side c.args.manner.constant _ _ _ _ (is_merged c.args.form.now p _ _ _ c.deref-in-Merge.result.now c.deref-in-Merge-2.result.now c.in-Merge.is (cc) (cc))
    (c.merge.ensures.least p)

pub form_part-returns-in-Call-clause-part : goal.form_part-returns-in-Call-clause-part
form_part-returns-in-Call-clause-part t c =
    let p : Place = record { from = c.args.from; at = c.args.at } in
    part_of (scope_view c.args.scope.now) _ _ _ (is_call c.args.form.now p _ _ _ c.deref-in-Call.result.now c.in-Call.is (cc c.deref-in-Call.ensures.value))
    (c.call.ensures.part c.args.at c.in-Call.field-0)

pub form_part-returns-in-Call-clause-least : goal.form_part-returns-in-Call-clause-least
form_part-returns-in-Call-clause-least t c =
    let p : Place = record { from = c.args.from; at = c.args.at } in
    walk_of (scope_view c.args.scope.now) c.args.manner.whole_side c.args.manner.constant _ _ _ _ (is_call c.args.form.now p _ _ _ c.deref-in-Call.result.now c.in-Call.is (cc c.deref-in-Call.ensures.value))
    (c.call.ensures.least p c.in-Call.field-0)

pub form_part-returns-in-Condact-clause-part : goal.form_part-returns-in-Condact-clause-part
form_part-returns-in-Condact-clause-part t c =
    let p : Place = record { from = c.args.from; at = c.args.at } in
    part_of (scope_view c.args.scope.now) _ _ _ (is_condact c.args.form.now p _ _ _ _ _ c.deref-in-Condact.result.now c.deref-in-Condact-2.result.now
    c.deref-in-Condact-3.result.now c.in-Condact.is (cc) (cc c.deref-in-Condact-2.ensures.value)
    (cc c.deref-in-Condact-3.ensures.value))
    (condact_is (scope_view c.args.scope.now) p c.in-Condact.field-0 (expr_view c.deref-in-Condact.result.now)
    (word_view c.in-Condact.callee) c.deref-in-Condact-2.result.now c.deref-in-Condact-3.result.now
    (option_map (λ n. node_view n.now) c.arguments_of-node.result) _ c.arguments_of-node.ensures.callee c.condact_part.ensures.part)

pub form_part-returns-in-Condact-clause-least : goal.form_part-returns-in-Condact-clause-least
form_part-returns-in-Condact-clause-least t c =
    let p : Place = record { from = c.args.from; at = c.args.at } in
    walk_of (scope_view c.args.scope.now) c.args.manner.whole_side c.args.manner.constant _ _ _ _ (is_condact c.args.form.now p _ _ _ _ _ c.deref-in-Condact.result.now c.deref-in-Condact-2.result.now
    c.deref-in-Condact-3.result.now c.in-Condact.is (cc) (cc c.deref-in-Condact-2.ensures.value)
    (cc c.deref-in-Condact-3.ensures.value))
    (condact_noted (scope_view c.args.scope.now) c.args.manner.whole_side c.args.manner.constant p c.in-Condact.field-0
    (expr_view c.deref-in-Condact.result.now) (word_view c.in-Condact.callee) c.deref-in-Condact-2.result.now
    c.deref-in-Condact-3.result.now (option_map (λ n. node_view n.now) c.arguments_of-node.result)
    (length c.deref-in-Condact-4.result.now) (length c.deref-in-Condact-5.result.now) (least_view c.args.least.now) (least_view c.operand_of-in-Condact.new.least) (least_view c.arguments_of-node.new.least)
    (least_view c.defaults_of.new.least) (least_view c.condact_part.new.least) c.arguments_of-node.ensures.callee
    (cc (c.deref-in-Condact-4.ensures.value, c.deref-in-Condact-2.ensures.value))
    (cc (c.deref-in-Condact-5.ensures.value, c.deref-in-Condact-3.ensures.value))
    c.operand_of-in-Condact.ensures.least c.arguments_of-node.ensures.least c.defaults_of.ensures c.condact_part.ensures.least)

pub form_part-returns-in-ModeName-clause-part : goal.form_part-returns-in-ModeName-clause-part
form_part-returns-in-ModeName-clause-part t c = let p : Place = record { from = c.args.from; at = c.args.at } in part_of
    (scope_view c.args.scope.now) _ _ _ (is_mode c.args.form.now p _ _ c.in-ModeName.is)
    (mode_is (scope_view c.args.scope.now) p _ _ _ c.mode_part.ensures.part)

pub form_part-returns-in-ModeName-clause-least : goal.form_part-returns-in-ModeName-clause-least
form_part-returns-in-ModeName-clause-least t c = let p : Place = record { from = c.args.from; at = c.args.at } in walk_of
    (scope_view c.args.scope.now) c.args.manner.whole_side c.args.manner.constant _ _ _ _ (is_mode c.args.form.now p _ _ c.in-ModeName.is)
    (c.mode_part.ensures.least)

pub arrow-returns-clause-part : goal.arrow-returns-clause-part
arrow-returns-clause-part t c = λ at n. arrow_is (scope_view c.args.scope.now) _ n _ _ _ _ _
    c.operand-initial.ensures.part c.operand-later.ensures.part c.arrow_part.ensures.part

pub arrow-returns-clause-least : goal.arrow-returns-clause-least
arrow-returns-clause-least t c = λ p n. arrow_noted (scope_view c.args.scope.now) false c.args.constant p n _ _ _ _
    (least_view c.args.least.now) (least_view c.operand-initial.new.least) (least_view c.operand-later.new.least)
    (least_view c.arrow_part.new.least) c.operand-initial.ensures.part c.operand-later.ensures.part c.operand-initial.ensures.least
    c.operand-later.ensures.least c.arrow_part.ensures.least

pub choice-returns-clause-part : goal.choice-returns-clause-part
choice-returns-clause-part t c = λ at. choice_is (scope_view c.args.scope.now) _ _ _ _ _ _ _ _
    c.operand-condition.ensures.part c.operand-chosen.ensures.part c.operand-otherwise.ensures.part c.choice_part.ensures.part

pub choice-returns-clause-least : goal.choice-returns-clause-least
choice-returns-clause-least t c = λ p. choice_noted (scope_view c.args.scope.now) false c.args.constant p _ _ _ _ _ _
    (least_view c.args.least.now) (least_view c.operand-condition.new.least) (least_view c.operand-chosen.new.least)
    (least_view c.operand-otherwise.new.least) (least_view c.choice_part.new.least) c.operand-condition.ensures.part
    c.operand-chosen.ensures.part c.operand-otherwise.ensures.part c.operand-condition.ensures.least
    c.operand-chosen.ensures.least c.operand-otherwise.ensures.least c.choice_part.ensures.least

pub sampled-returns-clause-least : goal.sampled-returns-clause-least
sampled-returns-clause-least t c = λ p b. sampled_noted (scope_view c.args.scope.now) false c.args.constant p
    (expr_view c.args.a.now) b (word_view c.args.clock.now) (least_view c.args.least.now) (least_view c.operand-found.new.least)
    (least_view c.sampled_part.new.least) c.operand-found.ensures.least c.sampled_part.ensures.least

pub merge-returns-clause-part : goal.merge-returns-clause-part
merge-returns-clause-part t c = λ at. merged_is (scope_view c.args.scope.now) _ _ _ _ _ _ _
    c.operand-on.ensures.part c.operand-off.ensures.part c.merged_part.ensures.part

pub merge-returns-clause-least : goal.merge-returns-clause-least
merge-returns-clause-least t c = λ p. merged_noted (scope_view c.args.scope.now) false c.args.constant p _ _ _ _ _
    (least_view c.args.least.now) (least_view c.operand-on.new.least) (least_view c.operand-off.new.least)
    (least_view c.merged_part.new.least) c.operand-on.ensures.part c.operand-off.ensures.part c.operand-on.ensures.least
    c.operand-off.ensures.least c.merged_part.ensures.least

pub call-returns-clause-least : goal.call-returns-clause-least
call-returns-clause-least t c = λ p n. call_noted (scope_view c.args.scope.now) c.args.manner.whole_side c.args.manner.constant p n
    (word_view c.args.callee.now) c.args.arguments.now (option_map (λ n. node_view n.now) c.arguments_of-node.result)
    (least_view c.args.least.now) (least_view c.arguments_of-node.new.least) (least_view c.call_part.new.least)
    c.arguments_of-node.ensures.callee c.arguments_of-node.ensures.least c.call_part.ensures.least

pub values-loop-value-preserved : goal.values-loop-value-preserved
values-loop-value-preserved t c = record {
  counted = omega arith;
  noted =
      values_step (scope_view c.args.scope.now) c.args.constant (map param_view c.args.streams.now) c.args.values.now
      c.loop-value.value-index c.value-item.result (least_view c.loop-value.least) (least_view c.value_part.new.least)
      (omega arith) c.value-item.is
      (c.value_part.ensures ∙ ap (λ o. noted_all (least_view c.loop-value.least)
      (whole_walk (scope_view c.args.scope.now) false c.args.constant (expr_view c.value-item.result) ++ fits_stream
      (scope_view c.args.scope.now) o (expr_view c.value-item.result)))
      (c.stream_at.ensures ∙ ap (slice_get (map param_view c.args.streams.now)) c.loop-value.invariant.counted))
      ∙ c.loop-value.invariant.noted;
}
