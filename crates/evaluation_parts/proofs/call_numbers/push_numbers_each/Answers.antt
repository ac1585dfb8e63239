use Rattle.std.proofs.Common.{refl, flat_map}
use Rattle.lus_tree.specs.View.{expr_view, exprs_view}
use Rattle.evaluation_parts.specs.CallNumbers.{call_numbers}
use Rattle.evaluation_parts.proofs.Steps.{one_added}
use Rattle.evaluation_parts.proofs.call_numbers.push_numbers_each.Goals as goal

pub loop-value-preserved : goal.loop-value-preserved
loop-value-preserved c =
    one_added (λ z. call_numbers (expr_view z)) (λ zs. flat_map call_numbers (exprs_view zs))
    (λ z zs. refl) c.args.values.now c.loop-value.value-index c.value-item.result
    (c.loop-value.numbers.items)
    (c.push_numbers.new.numbers.items) _ c.loop-value-test.true c.value-item.is (c.loop-value.invariant)
    (c.in_ok-push_numbers.ensures)
