use Rattle.std.proofs.Common.{◌≡◌, ◌++◌, drop}
use Rattle.evaluation_parts.specs.PartViews.{parts_view}
use Rattle.evaluation_parts.specs.Texts.{mode_texts_view}
use Rattle.evaluation_parts.specs.Turns.{ensured_each}
use Rattle.evaluation_parts.proofs.turn.push_ensured.Given as goal

abbrev pub invariant-loop-mode : goal.invariant-loop-mode
invariant-loop-mode l = parts_view l.all.items ++ ensured_each (mode_texts_view (drop l.mode-index l.modes))
    ≡ parts_view l.initial.all.items ++ ensured_each (mode_texts_view l.modes)
