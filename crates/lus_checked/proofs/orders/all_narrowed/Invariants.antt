use Rattle.std.proofs.Common.{◌≡◌, map, take}
use Rattle.lus_checked.proofs.orders.all_narrowed.Given as goal

abbrev pub invariant-loop-list : goal.invariant-loop-list
invariant-loop-list l = map (λ o. o.items) l.all.items ≡ map (λ o. o.items) (take l.list-index l.lists)
