use Rattle.std.proofs.Common.{◌+◌, ap, ◌∙◌, arith}
use Rattle.lus_meaning.proofs.Lists.{map_append}
use Rattle.lus_checked.specs.Program.{tree_of}
use Rattle.evaluation_parts.specs.Framed.{orders_view}
use Rattle.evaluation_turns.proofs.Orders.{one_more}
use Rattle.evaluation_turns.proofs.turns.orders_of.Goals as goal

pub loop-number-preserved : goal.loop-number-preserved
loop-number-preserved c = one_more (tree_of c.args.checked.now) c.loop-number.number (c.loop-number.number + 1) (orders_view c.loop-number.orders.items)
    (orders_view c.push.new.self.items) c.order.result.now (omega arith)
    (ap orders_view c.in_ok-push.ensures.items ∙ map_append (λ b. b.now) c.loop-number.orders.items _) c.loop-number.invariant c.order.ensures
