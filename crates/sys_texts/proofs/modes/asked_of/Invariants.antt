use Rattle.std.proofs.Common.{◌≡◌, option_map, drop}
use Rattle.lus_tree.specs.Tree.{text_of}
use Rattle.lus_tree.specs.View.{word_view}
use Rattle.sys_texts.specs.Sights.{asked_of}
use Rattle.sys_texts.specs.Views.{modes_view}
use Rattle.sys_texts.proofs.modes.asked_of.Given as goal

-- none was of that name so far
abbrev pub invariant-loop-entry : goal.invariant-loop-entry
invariant-loop-entry l =
    asked_of (modes_view (drop l.entry-index l.modes)) (option_map text_of (option_map word_view l.contract)) (word_view l.mode).text
    ≡ asked_of (modes_view l.modes) (option_map text_of (option_map word_view l.contract)) (word_view l.mode).text
