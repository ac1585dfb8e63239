use Rattle.std.proofs.Common.{◌≡◌, ◌++◌, map, drop}
use Rattle.lus_tree.specs.View.{word_view}
use Rattle.lus_evaluation.specs.Frame.{imported_mode}
use Rattle.evaluation_parts.specs.Texts.{mode_texts_view}
use Rattle.evaluation_parts.proofs.contracts.push_modes.Given as goal

abbrev pub invariant-loop-mode : goal.invariant-loop-mode
invariant-loop-mode l = mode_texts_view l.modes.items
    ++ map (imported_mode (word_view l.contract).text) (mode_texts_view (drop l.mode-index l.more))
    ≡ mode_texts_view l.initial.modes.items ++ map (imported_mode (word_view l.contract).text) (mode_texts_view l.more)
