use Rattle.std.proofs.Common.{◌≡◌, ◌++◌, List, map, drop}
use Rattle.lus_tree.specs.View.{named_view}
use Rattle.lus_meaning.specs.Cycle.{Place}
use Rattle.evaluation_parts.specs.Conditions.{asked_of}
use Rattle.evaluation_parts.specs.PartViews.{filled_each}
use Rattle.evaluation_parts.specs.Texts.{setting_view}
use Rattle.evaluation_parts.proofs.contracts.asked_by.Given as goal

abbrev pub invariant-loop-one : goal.invariant-loop-one
invariant-loop-one l = (ns : List Place) → filled_each ns l.all.items ++ asked_of (setting_view l.setting) (map named_view (drop l.one-index l.asked)) ns
    ≡ asked_of (setting_view l.setting) (map named_view l.asked) ns
