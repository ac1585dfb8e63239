use Rattle.std.proofs.Common.{◌≡◌, ◌++◌, drop, map}
use Rattle.lus_order.specs.Declarations.{declared_view, with_calls}
use Rattle.lus_streams.specs.Owner.{owner_view}
use Rattle.lus_order.proofs.declarations.with_calls.Given as goal

abbrev pub invariant-loop-owner : goal.invariant-loop-owner
invariant-loop-owner l = map declared_view l.all.items ++ map (λ o. with_calls (owner_view o)) (drop l.owner-index l.owners)
    ≡ map (λ o. with_calls (owner_view o)) l.owners
