use Rattle.std.proofs.Common.{◌≡◌, ◌++◌, List, drop}
use Rattle.lus_tree.specs.View.{exprs_view, joined}
use Rattle.lus_meaning.specs.Cycle.{Place}
use Rattle.lus_streams.specs.Clocks.{clock_seen}
use Rattle.lus_evaluation.specs.Part.{argument_parts, operand_parts}
use Rattle.evaluation_parts.specs.PartViews.{filled_each, needed_in}
use Rattle.evaluation_parts.specs.Texts.{setting_view}
use Rattle.evaluation_parts.proofs.parts.+parts.Given as goal

abbrev pub invariant-push_arguments-loop-argument : goal.invariant-push_arguments-loop-argument
invariant-push_arguments-loop-argument l = (ns : List Place) → filled_each ns l.all.items
    ++ argument_parts (setting_view l.setting) (clock_seen l.clock) (joined (exprs_view (drop l.argument-index l.arguments)))
    ≡ filled_each ns l.initial.all.items
    ++ argument_parts (setting_view l.setting) (clock_seen l.clock) (joined (exprs_view l.arguments))

abbrev pub invariant-push_operands-loop-operand : goal.invariant-push_operands-loop-operand
invariant-push_operands-loop-operand l = (ns : List Place) → filled_each ns l.all.items
    ++ operand_parts (setting_view l.setting) (needed_in ns l.whole) (clock_seen l.clock) (joined (exprs_view (drop l.operand-index l.operands)))
    ≡ filled_each ns l.initial.all.items
    ++ operand_parts (setting_view l.setting) (needed_in ns l.whole) (clock_seen l.clock) (joined (exprs_view l.operands))
