use Rattle.std.proofs.Common.{length, map, subst}
use Rattle.std.specs.Prelude.{MatchOption}
use Rattle.std.proofs.Math.Logic.{inl, inr}
use Rattle.lus_scopes.specs.Least.{least_view}
use Rattle.number_graphs.specs.Graphs.{HasCircle, graph_view}
use Rattle.lus_order.specs.OwnOrders.{IsOrderOf}
use Rattle.lus_streams.specs.Owner.{owner_view}
use Rattle.lus_order.proofs.OwnCircles.{circles_noted, closed_rows, flagged_nodes, within_rows}
use Rattle.lus_order.proofs.OutputReads.{reads_own}
use Rattle.lus_order.proofs.ordered.ordered.Goals as goal

pub note_circles-requires-clause-within : goal.note_circles-requires-clause-within
note_circles-requires-clause-within c = within_rows
    (owner_view c.args.owner) c.args.library.now c.in_ok-own.own c.requires.flags c.requires.distinct c.in_ok-own.ensures

pub note_circles-requires-clause-closed : goal.note_circles-requires-clause-closed
note_circles-requires-clause-closed c = closed_rows
    (owner_view c.args.owner) c.args.library.now c.in_ok-own.own c.requires.flags c.requires.distinct c.in_ok-own.ensures

pub returns-in-Some-clause-noted : goal.returns-in-Some-clause-noted
returns-in-Some-clause-noted c = circles_noted
    (owner_view c.args.owner) c.args.library.now c.in_ok-own.own c.requires.flags c.requires.distinct c.in_ok-own.ensures
    (least_view c.args.least.now) (least_view c.note_circles.new.least) c.in_ok-note_circles.ensures

pub returns-in-Some-clause-order : goal.returns-in-Some-clause-order
returns-in-Some-clause-order c = record {
  names = c.in_ok-own.own.clocks.names;
  rows = graph_view c.in_ok-own.own.graph;
  nodes = flagged_nodes (owner_view c.args.owner) c.args.library.now c.in_ok-own.own c.requires.flags c.requires.distinct c.in_ok-own.ensures;
  order = inr (subst (λ o. MatchOption o (HasCircle (graph_view c.in_ok-own.own.graph))
      (λ v. IsOrderOf (length c.in_ok-own.own.clocks.names) (graph_view c.in_ok-own.own.graph) v.items)) c.in-Some.is c.in_ok-order.ensures);
}

pub returns-clause-noted : goal.returns-clause-noted
returns-clause-noted c = circles_noted (owner_view c.args.owner) c.args.library.now c.in_ok-own.own c.requires.flags c.requires.distinct c.in_ok-own.ensures
    (least_view c.args.least.now) (least_view c.note_circles.new.least) c.in_ok-note_circles.ensures

pub returns-clause-order : goal.returns-clause-order
returns-clause-order c = record {
  names = c.in_ok-own.own.clocks.names;
  rows = graph_view c.in_ok-own.own.graph;
  nodes = flagged_nodes (owner_view c.args.owner) c.args.library.now c.in_ok-own.own c.requires.flags c.requires.distinct c.in_ok-own.ensures;
  order = inl (subst (λ o. MatchOption o (HasCircle (graph_view c.in_ok-own.own.graph))
      (λ v. IsOrderOf (length c.in_ok-own.own.clocks.names) (graph_view c.in_ok-own.own.graph) v.items)) c.in-None.is c.in_ok-order.ensures);
}

pub returns-in-Some-clause-reads : goal.returns-in-Some-clause-reads
returns-in-Some-clause-reads c = reads_own (owner_view c.args.owner) c.args.library.now c.in_ok-own.own c.requires.flags c.requires.distinct c.in_ok-own.ensures
    (map (λ r. r.items) c.in_ok-reads.reads.items) c.in_ok-reads.ensures

pub returns-clause-reads : goal.returns-clause-reads
returns-clause-reads c = reads_own (owner_view c.args.owner) c.args.library.now c.in_ok-own.own c.requires.flags c.requires.distinct c.in_ok-own.ensures
    (map (λ r. r.items) c.in_ok-reads.reads.items) c.in_ok-reads.ensures
