use Rattle.slot_rows.specs.Table.{table_view}
use Rattle.slot_replay.specs.Conditions.{conditions_view}
use Rattle.slot_replay.specs.Answer.{seen_in}
use Rattle.slot_replay.proofs.Told.{at_err, told_within}
use Rattle.slot_replay.proofs.watching.watch.Goals as goal

pub returns-in_err-progress-clause-past : goal.returns-in_err-progress-clause-past
returns-in_err-progress-clause-past g c = at_err _ _ _ c.from_residual.ensures.1
    (told_within (seen_in (table_view c.args.table.now)) (conditions_view c.args.conditions.now) (g.P.Parts.are_parts c.args.parts.now) c.args.instants
    c.loop-instant.instant c.in_err-progress.field-0.0 c.loop-instant-test.true c.in_err-progress.ensures.past)
