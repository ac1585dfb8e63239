use Rattle.std.proofs.Common.{◌≡◌, ◌++◌, map, drop}
use Rattle.lus_tree.specs.View.{named_view}
use Rattle.evaluation_parts.specs.Conditions.{ensured_of}
use Rattle.evaluation_parts.specs.PartViews.{parts_view}
use Rattle.evaluation_parts.specs.Texts.{setting_view}
use Rattle.evaluation_parts.proofs.contracts.ensured_by.Given as goal

abbrev pub invariant-loop-one : goal.invariant-loop-one
invariant-loop-one l = parts_view l.all.items
    ++ ensured_of (setting_view l.setting) (map named_view l.asked) (map named_view (drop l.one-index l.ensured))
    ≡ ensured_of (setting_view l.setting) (map named_view l.asked) (map named_view l.ensured)
