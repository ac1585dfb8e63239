use Rattle.std.proofs.Common.{refl}
use Rattle.lus_tree.specs.View.{expr_view, exprs_view, joined}
use Rattle.evaluation_parts.specs.CallNumbers.{call_numbers, call_numbers_among}
use Rattle.evaluation_parts.proofs.Steps.{one_added}
use Rattle.evaluation_parts.proofs.call_numbers.+numbers.Goals as goal

pub push_numbers_among-loop-value-preserved : goal.push_numbers_among-loop-value-preserved
push_numbers_among-loop-value-preserved t c =
    one_added (λ z. call_numbers (expr_view z)) (λ zs. call_numbers_among (joined (exprs_view zs)))
    (λ z zs. refl) c.args.values.now c.loop-value.value-index c.value-item.result
    (c.loop-value.numbers.items)
    (c.push_numbers.new.numbers.items) _ c.loop-value-test.true c.value-item.is (c.loop-value.invariant)
    (c.in_ok-push_numbers.ensures)
