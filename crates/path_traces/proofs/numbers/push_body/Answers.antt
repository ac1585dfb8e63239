use Rattle.std.proofs.Common.{arith}
use Rattle.lus_tree.specs.Numbers.{statement_expressions}
use Rattle.lus_tree.specs.View.{item_view}
use Rattle.path_traces.specs.Kinds.{numbers_of}
use Rattle.path_traces.proofs.Steps.{one_spread}
use Rattle.path_traces.proofs.numbers.push_body.Goals as goal

pub loop-item-preserved : goal.loop-item-preserved
loop-item-preserved c =
    one_spread (numbers_of c.args.kind) statement_expressions item_view c.args.items.now c.loop-item.item-index c.item-item.result c.loop-item.numbers.items
    c.push_item.new.numbers.items _ (omega arith) c.item-item.is c.loop-item.invariant c.in_ok-push_item.ensures
