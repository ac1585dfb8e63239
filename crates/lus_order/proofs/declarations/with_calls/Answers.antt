use Rattle.std.proofs.Common.{map}
use Rattle.lus_order.specs.Declarations.{declared_view, with_calls}
use Rattle.lus_streams.specs.Owner.{owner_view}
use Rattle.lus_order.proofs.CalleesFirst.{one_mapped}
use Rattle.lus_order.proofs.declarations.with_calls.Goals as goal

pub loop-owner-preserved : goal.loop-owner-preserved
loop-owner-preserved c = one_mapped (λ o. with_calls (owner_view o)) c.args.owners.now c.loop-owner.owner-index c.owner-item.result
    (map declared_view c.loop-owner.all.items) (map declared_view c.push_with_calls.new.all.items)
    (map (λ o. with_calls (owner_view o)) c.args.owners.now) c.loop-owner-test.true c.owner-item.is c.loop-owner.invariant
    c.in_ok-push_with_calls.ensures
