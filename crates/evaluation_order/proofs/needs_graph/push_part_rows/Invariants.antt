use Rattle.std.proofs.Common.{◌≡◌, ◌++◌, drop}
use Rattle.number_graphs.specs.Graphs.{graph_view}
use Rattle.evaluation_parts.specs.PartViews.{parts_view, places_view}
use Rattle.evaluation_order.specs.Numbered.{part_rows}
use Rattle.evaluation_order.proofs.needs_graph.push_part_rows.Given as goal

abbrev pub invariant-loop-part : goal.invariant-loop-part
invariant-loop-part l = graph_view l.graph ++ part_rows (places_view l.places) (parts_view (drop l.part-index l.parts))
    ≡ graph_view l.initial.graph ++ part_rows (places_view l.places) (parts_view l.parts)
