use Rattle.std.proofs.Common.{arith, flat_map, map}
use Rattle.lus_tree.specs.View.{contract_item_view}
use Rattle.lus_meaning.specs.NameFaults.{restricted}
use Rattle.lus_types.specs.Reads.{read_in, read_view}
use Rattle.lus_types.proofs.Steps.{one_given}
use Rattle.lus_types.proofs.reads.restricted_reads.Goals as goal

pub loop-item-preserved : goal.loop-item-preserved
loop-item-preserved c =
    one_given (λ s. flat_map read_in (restricted s)) contract_item_view c.args.items.now c.loop-item.item-index c.item-item.result (map read_view c.loop-item.reads.items)
    (map read_view c.push_restricted.new.reads.items) _ (omega arith) c.item-item.is c.loop-item.invariant c.in_ok-push_restricted.ensures
