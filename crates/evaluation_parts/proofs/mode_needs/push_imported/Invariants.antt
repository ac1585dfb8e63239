use Rattle.std.proofs.Common.{◌≡◌, ◌++◌, map, drop}
use Rattle.lus_tree.specs.View.{word_view}
use Rattle.lus_meaning.specs.Depends.{imported_needs}
use Rattle.evaluation_parts.specs.Needed.{modes_needs_view}
use Rattle.evaluation_parts.proofs.mode_needs.push_imported.Given as goal

abbrev pub invariant-loop-mode : goal.invariant-loop-mode
invariant-loop-mode l = modes_needs_view l.modes.items
    ++ map (imported_needs l.call (word_view l.contract).text) (modes_needs_view (drop l.mode-index l.more))
    ≡ modes_needs_view l.initial.modes.items ++ map (imported_needs l.call (word_view l.contract).text) (modes_needs_view l.more)
