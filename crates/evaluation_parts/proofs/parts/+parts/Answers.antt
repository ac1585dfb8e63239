use Rattle.std.proofs.Common.{[], refl}
use Rattle.lus_tree.specs.View.{expr_view, exprs_view, joined}
use Rattle.lus_streams.specs.Clocks.{clock_seen}
use Rattle.lus_evaluation.specs.Part.{whole_parts, parts, argument_parts, operand_parts}
use Rattle.evaluation_parts.specs.PartViews.{filled_each, needed_in}
use Rattle.evaluation_parts.specs.Texts.{setting_view}
use Rattle.evaluation_parts.proofs.Steps.{one_added}
use Rattle.evaluation_parts.proofs.parts.+parts.Goals as goal

pub push_arguments-loop-argument-preserved : goal.push_arguments-loop-argument-preserved
push_arguments-loop-argument-preserved t c =
    λ ns. one_added (λ z. whole_parts (setting_view c.args.setting.now) [] (clock_seen c.args.clock) (expr_view z)) (λ zs. argument_parts (setting_view c.args.setting.now) (clock_seen c.args.clock) (joined (exprs_view zs)))
    (λ z zs. refl) c.args.arguments.now c.loop-argument.argument-index c.argument-item.result
    (filled_each ns c.loop-argument.all.items)
    (filled_each ns c.push_own.new.all.items) _ c.loop-argument-test.true c.argument-item.is (c.loop-argument.invariant ns)
    (c.in_ok-push_own.ensures ns)

pub push_operands-loop-operand-preserved : goal.push_operands-loop-operand-preserved
push_operands-loop-operand-preserved t c =
    λ ns. one_added (λ z. parts (setting_view c.args.setting.now) (needed_in ns c.args.whole.now) [] (clock_seen c.args.clock) (expr_view z)) (λ zs. operand_parts (setting_view c.args.setting.now) (needed_in ns c.args.whole.now) (clock_seen c.args.clock) (joined (exprs_view zs)))
    (λ z zs. refl) c.args.operands.now c.loop-operand.operand-index c.operand-item.result
    (filled_each ns c.loop-operand.all.items)
    (filled_each ns c.push_operand.new.all.items) _ c.loop-operand-test.true c.operand-item.is (c.loop-operand.invariant ns)
    (c.in_ok-push_operand.ensures ns)
