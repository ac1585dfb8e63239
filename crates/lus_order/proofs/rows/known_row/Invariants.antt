use Rattle.std.proofs.Common.{◌≡◌, drop, option_to_list}
use Rattle.lus_order.specs.Reads.{text_seen}
use Rattle.lus_order.specs.Rows.{known_row, modes_view}
use Rattle.lus_order.proofs.rows.known_row.Given as goal

abbrev pub invariant-loop-mode : goal.invariant-loop-mode
invariant-loop-mode l = known_row (modes_view (drop l.mode-index l.modes)) (option_to_list (text_seen l.contract), l.name)
    ≡ known_row (modes_view l.modes) (option_to_list (text_seen l.contract), l.name)
