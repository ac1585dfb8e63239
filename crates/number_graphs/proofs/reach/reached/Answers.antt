use Rattle.std.proofs.Common.{rules}
use Rattle.number_graphs.specs.Graphs.{graph_view}
use Rattle.number_graphs.specs.Visits.{state_view}
use Rattle.number_graphs.proofs.Searches.{search_begins, search_ends, search_step, turns_left}
use Rattle.number_graphs.proofs.reach.reached.Goals as goal

pub loop-turn-init : goal.loop-turn-init
loop-turn-init c = search_begins (graph_view c.args.graph.now) c.args.start c.len.result c.in_ok-vec.field-0.items c.new.result.items c.row.result.now
    (state_view c.visit_all.new.self) (search rules) c.len.ensures c.new.ensures.items c.row.ensures c.in_ok-visit_all.ensures

pub loop-turn-smaller : goal.loop-turn-smaller
loop-turn-smaller c = turns_left (graph_view c.args.graph.now) c.args.start (state_view c.loop-turn.search) c.loop-turn.turn c.loop-turn.invariant
    (search rules)

pub loop-turn-preserved : goal.loop-turn-preserved
loop-turn-preserved c = search_step (graph_view c.args.graph.now) c.args.start _ c.row-in-loop-turn.result.now (state_view c.loop-turn.search)
    (state_view c.visit_all-in-loop-turn.new.self) c.loop-turn.turn c.loop-turn.invariant (search rules) c.index-number.ensures c.row-in-loop-turn.ensures
    c.in_ok-visit_all-2.ensures

pub returns : goal.returns
returns c = search_ends (graph_view c.args.graph.now) c.args.start (state_view c.loop-turn.search) c.loop-turn.turn c.loop-turn.invariant (search rules)
