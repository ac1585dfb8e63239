use Rattle.std.proofs.Common.{◌<◌, length, arith, rules}
use Rattle.std.proofs.lemmas.Grind.{common_steps}
use Rattle.lus_meaning.proofs.Orders.{whole_order}
use Rattle.number_graphs.specs.Graphs.{graph_view, leads}
use Rattle.number_graphs.proofs.Rounds.{listed_next, none_open, nothing_listed, nothing_passed, open_next, passed_listed}
use Rattle.number_graphs.proofs.least_order.least_order.Goals as goal

pub loop-done-init : goal.loop-done-init
loop-done-init c =
    let rows = graph_view c.args.graph.now in
    let n = nothing_listed (length rows) c.len-count.result c.in_ok-done.done.items (search rules) c.len-count.ensures in
    record {
      whole = n.0;
      listed = rw c.new-order.ensures.items n.1;
      passed = nothing_passed rows c.len-count.result c.in_ok-done.done.items c.in_ok-passed.passed.items (search rules) c.len-count.ensures;
      next = rw c.new-order.ensures.items tt;
      within = rw c.new-order.ensures.items (omega arith);
    }

pub returns-in_default : goal.returns-in_default
returns-in_default c = (
  c.loop-done.order.items,
  none_open (graph_view c.args.graph.now) (length (graph_view c.args.graph.now)) c.loop-done.done.items c.loop-done.order.items
      c.loop-done.invariant.whole c.loop-done.invariant.listed (search rules)
      (rw c.deref.ensures.value at c.in_default.ensures.open),
)

pub loop-done-smaller : goal.loop-done-smaller
loop-done-smaller c = search rules

pub loop-done-preserved : goal.loop-done-preserved
loop-done-preserved c =
    let rows = graph_view c.args.graph.now in
    let below : c.in-Some.number < length rows = c.in-Some.ensures.open.0 in
    record {
      whole = grind (arith, common_steps);
      listed = rw c.in_ok-push.ensures.items (listed_next rows (length rows) c.loop-done.done.items c.loop-done.order.items
          c.loop-done.invariant.whole c.loop-done.invariant.listed c.in-Some.number below);
      passed = passed_listed rows c.loop-done.done.items c.next_open.new.passed.items c.in-Some.number
          (rw c.deref.ensures.value at c.in-Some.ensures.passed);
      next = rw c.in_ok-push.ensures.items (open_next rows
          (length rows) c.loop-done.done.items c.loop-done.order.items c.loop-done.invariant.whole c.loop-done.invariant.listed
          c.in-Some.number c.loop-done.invariant.next below (rw c.deref.ensures.value at c.in-Some.ensures.open.1)
          (rw c.deref.ensures.value at c.in-Some.ensures.open.2));
      within = grind (arith, common_steps);
    }

pub returns : goal.returns
returns c = whole_order (length (graph_view c.args.graph.now)) (leads (graph_view c.args.graph.now)) c.loop-done.order.items c.loop-done.invariant.next
    (grind (arith, common_steps))
