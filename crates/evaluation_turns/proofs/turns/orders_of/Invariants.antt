use Rattle.lus_checked.specs.Program.{tree_of}
use Rattle.evaluation_parts.specs.Framed.{orders_view}
use Rattle.evaluation_turns.specs.Turned.{AreFirstOrders}
use Rattle.evaluation_turns.proofs.turns.orders_of.Given as goal

abbrev pub invariant-loop-number : goal.invariant-loop-number
invariant-loop-number l = AreFirstOrders (tree_of l.checked) l.number (orders_view l.orders.items)
