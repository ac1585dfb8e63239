use Rattle.std.proofs.Common.{◌≡◌, ◌++◌, drop}
use Rattle.lus_order.specs.Reads.{reads_view}
use Rattle.lus_order.specs.Rows.{modes_view, read_rows}
use Rattle.lus_order.proofs.rows.push_read_all.Given as goal

abbrev pub invariant-loop-read : goal.invariant-loop-read
invariant-loop-read l = l.row.items ++ read_rows l.names (modes_view l.modes) (reads_view (drop l.read-index l.reads))
    ≡ l.initial.row.items ++ read_rows l.names (modes_view l.modes) (reads_view l.reads)
