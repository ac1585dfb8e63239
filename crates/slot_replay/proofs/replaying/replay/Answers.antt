use Rattle.std.proofs.Common.{map}
use Rattle.slot_sources.specs.Source.{source_view}
use Rattle.slot_rows.specs.Table.{rows, table_view}
use Rattle.slot_replay.specs.Conditions.{conditions_view}
use Rattle.slot_replay.specs.Marks.{marks_view}
use Rattle.slot_replay.proofs.Marked.{table_breaks, table_lawful}
use Rattle.slot_replay.proofs.replaying.replay.Goals as goal

pub returns-clause-breaks : goal.returns-clause-breaks
returns-clause-breaks g c =
    let us = rows (g.C.Chosen.choices c.args.chosen.now) (map source_view c.args.sources.now) c.args.order.now c.args.instants in
    table_breaks (table_view c.in_ok-table.table) us (conditions_view c.args.conditions.now) c.args.instants (marks_view c.in_ok-marks.marks)
    c.in_ok-table.ensures c.in_ok-marks.ensures.marks

pub returns-clause-lawful : goal.returns-clause-lawful
returns-clause-lawful g c =
    let us = rows (g.C.Chosen.choices c.args.chosen.now) (map source_view c.args.sources.now) c.args.order.now c.args.instants in
    table_lawful (table_view c.in_ok-table.table) us (conditions_view c.args.conditions.now) c.args.instants (marks_view c.in_ok-marks.marks)
    c.in_ok-table.ensures c.in_ok-marks.ensures.marks
