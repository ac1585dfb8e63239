use Rattle.std.proofs.Common.{refl, map, flat_map}
use Rattle.lus_tree.specs.View.{contract_item_view}
use Rattle.evaluation_parts.specs.CallNumbers.{clause_numbers}
use Rattle.evaluation_parts.proofs.Steps.{one_added}
use Rattle.evaluation_parts.proofs.call_numbers.push_clauses.Goals as goal

pub loop-item-preserved : goal.loop-item-preserved
loop-item-preserved c =
    one_added (λ z. clause_numbers (contract_item_view z)) (λ zs. flat_map clause_numbers (map contract_item_view zs))
    (λ z zs. refl) c.args.items.now c.loop-item.item-index c.item-item.result
    (c.loop-item.numbers.items)
    (c.push_clause.new.numbers.items) _ c.loop-item-test.true c.item-item.is (c.loop-item.invariant)
    (c.in_ok-push_clause.ensures)
