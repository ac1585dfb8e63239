use Rattle.std.proofs.Common.{◌≡◌, ◌++◌, drop}
use Rattle.number_graphs.specs.Graphs.{graph_view}
use Rattle.evaluation_parts.specs.PartViews.{places_view}
use Rattle.evaluation_parts.specs.Views.{frame_instance}
use Rattle.evaluation_order.specs.Numbered.{place_rows}
use Rattle.evaluation_order.proofs.needs_graph.push_place_rows.Given as goal

abbrev pub invariant-loop-place : goal.invariant-loop-place
invariant-loop-place l = graph_view l.graph ++ place_rows (frame_instance l.frame) (places_view l.places) (places_view (drop l.place-index l.places))
    ≡ graph_view l.initial.graph ++ place_rows (frame_instance l.frame) (places_view l.places) (places_view l.places)
