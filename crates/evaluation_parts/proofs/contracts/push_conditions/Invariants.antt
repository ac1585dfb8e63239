use Rattle.std.proofs.Common.{◌≡◌, ◌++◌, map, drop}
use Rattle.lus_tree.specs.View.{named_view}
use Rattle.lus_evaluation.specs.Frame.{conditions_of}
use Rattle.evaluation_parts.specs.PartViews.{parts_view}
use Rattle.evaluation_parts.specs.Texts.{setting_view}
use Rattle.evaluation_parts.proofs.contracts.push_conditions.Given as goal

abbrev pub invariant-loop-condition : goal.invariant-loop-condition
invariant-loop-condition l = parts_view l.all.items ++ conditions_of (setting_view l.setting) (map named_view (drop l.condition-index l.conditions))
    ≡ parts_view l.initial.all.items ++ conditions_of (setting_view l.setting) (map named_view l.conditions)
