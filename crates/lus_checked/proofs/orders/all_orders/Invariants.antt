use Rattle.std.proofs.Common.{◌≡◌, map, take}
use Rattle.lus_order.specs.Dependences.{orders_seen}
use Rattle.lus_checked.proofs.orders.all_orders.Given as goal

abbrev pub invariant-loop-dependence : goal.invariant-loop-dependence
invariant-loop-dependence l = map (λ o. o.items) l.all.items ≡ orders_seen (take l.dependence-index l.found)
