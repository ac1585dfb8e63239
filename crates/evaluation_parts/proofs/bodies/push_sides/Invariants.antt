use Rattle.std.proofs.Common.{◌≡◌, ◌++◌, flat_map, drop}
use Rattle.lus_evaluation.specs.Frame.{equation_parts, picked}
use Rattle.evaluation_parts.specs.Bodies.{sides_view}
use Rattle.evaluation_parts.specs.PartViews.{parts_view}
use Rattle.evaluation_parts.specs.Texts.{setting_view}
use Rattle.evaluation_parts.proofs.bodies.push_sides.Given as goal

abbrev pub invariant-loop-number : goal.invariant-loop-number
invariant-loop-number l = parts_view l.all.items
    ++ flat_map (equation_parts (setting_view l.setting)) (picked (drop l.number-index l.order) (sides_view l.sides))
    ≡ parts_view l.initial.all.items ++ flat_map (equation_parts (setting_view l.setting)) (picked l.order (sides_view l.sides))
