use Rattle.std.proofs.Common.{◌≡◌, ◌∙◌, ap, sym, length, rules}
use Rattle.lus_meaning.proofs.Exists.{length_mapped}
use Rattle.number_graphs.specs.Graphs.{graph_view}
use Rattle.evaluation_parts.specs.PartViews.{parts_view, place_view, places_view}
use Rattle.evaluation_parts.specs.Views.{frame_instance}
use Rattle.evaluation_order.specs.GiverViews.{givers_view}
use Rattle.evaluation_order.specs.Givers.{givers_from}
use Rattle.evaluation_order.specs.Numbered.{need_rows}
use Rattle.evaluation_order.proofs.Found.{least_found, stuck_found}
use Rattle.evaluation_order.proofs.waits.order_of.Goals as goal

pub returns-in-Some : goal.returns-in-Some
returns-in-Some c =
    let i = frame_instance c.args.frame in
    let qs = parts_view c.args.parts.now in
    let many : c.len.result ≡ length c.in_ok-places.places.items = search rules in
    least_found i (places_view c.in_ok-places.places.items) qs c.in_ok-places.ensures (graph_view c.in_ok-graph.graph) (graph_view c.in_ok-waits.waits)
    (givers_view c.deref-3.result.now) c.len.result
    (c.in_ok-graph.ensures ∙ ap (λ z. need_rows i (places_view z) qs) c.deref.ensures.value)
    (ap givers_view c.deref-3.ensures.value ∙ c.in_ok-givers.ensures ∙ ap (λ z. givers_from (places_view z) qs 0 qs) c.deref-2.ensures.value)
    (many ∙ sym (length_mapped place_view c.in_ok-places.places.items)) c.in_ok-waits.ensures c.in-Some.order.items
    (rw c.in-Some.is at c.in_ok-order.ensures)

pub returns : goal.returns
returns c =
    let i = frame_instance c.args.frame in
    let qs = parts_view c.args.parts.now in
    let many : c.len.result ≡ length c.in_ok-places.places.items = search rules in
    let s = rw c.in-None.is at c.in_ok-order.ensures in (
      s.0,
      stuck_found i (places_view c.in_ok-places.places.items) qs c.in_ok-places.ensures (graph_view c.in_ok-graph.graph) (graph_view c.in_ok-waits.waits)
          (givers_view c.deref-3.result.now) c.len.result
          (c.in_ok-graph.ensures ∙ ap (λ z. need_rows i (places_view z) qs) c.deref.ensures.value)
          (ap givers_view c.deref-3.ensures.value ∙ c.in_ok-givers.ensures ∙ ap (λ z. givers_from (places_view z) qs 0 qs) c.deref-2.ensures.value)
          (many ∙ sym (length_mapped place_view c.in_ok-places.places.items)) c.in_ok-waits.ensures s.0 s.1,
    )
