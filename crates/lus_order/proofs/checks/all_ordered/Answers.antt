use Rattle.std.proofs.Common.{[], ◌∷◌, ap, ◌∙◌, map}
use Rattle.lus_meaning.proofs.Lists.{map_append}
use Rattle.lus_scopes.specs.Least.{least_view}
use Rattle.lus_order.specs.declared.dependence.Dependence.{Dependence}
use Rattle.lus_order.specs.Dependences.{inputs_seen, orders_seen, reads_seen}
use Rattle.lus_order.specs.Library.{library_view}
use Rattle.lus_streams.specs.Owner.{owner_view}
use Rattle.lus_order.proofs.AllOrdered.{turn_noted, turn_ordered}
use Rattle.lus_order.proofs.OutputReads.{turn_read}
use Rattle.lus_order.proofs.checks.all_ordered.Goals as goal

pub loop-owner-preserved : goal.loop-owner-preserved
loop-owner-preserved c = record {
  noted = turn_noted owner_view c.args.owners.now c.loop-owner.owner-index c.owner-item.result c.loop-owner-test.true c.owner-item.is
      (library_view c.args.library.now) (least_view c.args.least.now) (least_view c.loop-owner.least) (least_view c.ordered.new.least)
      c.loop-owner.invariant.noted c.in_ok-dependence.ensures.noted;
  orders = turn_ordered owner_view c.args.owners.now c.loop-owner.owner-index c.owner-item.result c.loop-owner-test.true c.owner-item.is
      (library_view c.args.library.now) (orders_seen c.loop-owner.all.items) (orders_seen c.push.new.self.items) c.in_ok-dependence.dependence.order.items
      c.loop-owner.invariant.orders c.in_ok-dependence.ensures.order
      (ap orders_seen c.in_ok-push.ensures.items ∙ map_append (λ (d : Dependence). d.order.items) c.loop-owner.all.items (c.in_ok-dependence.dependence ∷ []));
  reads = turn_read owner_view c.args.owners.now c.loop-owner.owner-index c.owner-item.result c.loop-owner-test.true c.owner-item.is
      (library_view c.args.library.now) (reads_seen c.loop-owner.all.items) (reads_seen c.push.new.self.items) (inputs_seen c.in_ok-dependence.dependence)
      c.loop-owner.invariant.reads c.in_ok-dependence.ensures.reads
      (ap reads_seen c.in_ok-push.ensures.items ∙ map_append inputs_seen c.loop-owner.all.items (c.in_ok-dependence.dependence ∷ []));
}
