use Rattle.std.proofs.Common.{◌≡◌, ◌++◌, drop}
use Rattle.lus_tree.specs.View.{exprs_view}
use Rattle.lus_streams.specs.Clocks.{clock_seen}
use Rattle.lus_evaluation.specs.Part.{wholes}
use Rattle.evaluation_parts.specs.PartViews.{parts_view}
use Rattle.evaluation_parts.specs.Texts.{setting_view}
use Rattle.evaluation_parts.proofs.bodies.push_wholes.Given as goal

abbrev pub invariant-loop-value : goal.invariant-loop-value
invariant-loop-value l = parts_view l.all.items ++ wholes (setting_view l.setting) (clock_seen l.clock) (exprs_view (drop l.value-index l.values))
    ≡ parts_view l.initial.all.items ++ wholes (setting_view l.setting) (clock_seen l.clock) (exprs_view l.values)
