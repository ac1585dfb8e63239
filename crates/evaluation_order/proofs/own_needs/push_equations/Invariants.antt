use Rattle.std.proofs.Common.{◌≡◌, ◌++◌, map, drop}
use Rattle.lus_tree.specs.View.{item_view}
use Rattle.lus_meaning.specs.Cycle.{defined_needs}
use Rattle.lus_meaning.specs.Run.{body_equations}
use Rattle.evaluation_parts.specs.Needed.{needs_view}
use Rattle.evaluation_parts.specs.Views.{frame_instance}
use Rattle.evaluation_order.proofs.own_needs.push_equations.Given as goal

abbrev pub invariant-loop-item : goal.invariant-loop-item
invariant-loop-item l = needs_view l.needs.items
    ++ defined_needs (frame_instance l.frame) l.name (body_equations (map item_view (drop l.item-index l.items)))
    ≡ needs_view l.initial.needs.items ++ defined_needs (frame_instance l.frame) l.name (body_equations (map item_view l.items))
