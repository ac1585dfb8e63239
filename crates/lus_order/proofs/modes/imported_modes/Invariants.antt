use Rattle.std.proofs.Common.{◌≡◌, ◌++◌, drop, map}
use Rattle.lus_tree.specs.View.{expr_view, word_view}
use Rattle.lus_order.specs.Library.{known_modes, known_view}
use Rattle.lus_order.specs.Rows.{imported_row, imported_rows, modes_view}
use Rattle.lus_order.proofs.modes.imported_modes.Given as goal

abbrev pub invariant-loop-mode : goal.invariant-loop-mode
invariant-loop-mode l = modes_view l.imported.items ++ map (imported_row l.clocks l.callees (modes_view l.modes)
    (word_view l.import.contract.now).text (known_view l.known) (map expr_view l.import.arguments.now) (map word_view l.import.outputs.now))
    (known_modes (drop l.mode-index l.known.modes.items))
    ≡ imported_rows l.clocks l.callees (modes_view l.modes) (word_view l.import.contract.now).text (known_view l.known)
    (map expr_view l.import.arguments.now) (map word_view l.import.outputs.now)
