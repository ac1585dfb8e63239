use Rattle.std.proofs.Common.{◌||◌, ap, ◌∙◌}
use Rattle.slot_values.specs.Evaluated.{slots_in}
use Rattle.slot_rows.specs.Table.{slots_of, table_view, value_in}
use Rattle.slot_rows.proofs.Slots.{slots_same}
use Rattle.slot_replay.specs.Conditions.{conditions_view}
use Rattle.slot_replay.specs.Parts.{kept_view}
use Rattle.slot_replay.specs.Answer.{seen_in}
use Rattle.slot_replay.specs.Marks.{marks_view}
use Rattle.slot_replay.proofs.Told.{kept_here, kept_on, marks_here, met_here, told_here}
use Rattle.slot_replay.proofs.watching.watch_instant.Goals as goal

pub returns-in-Ok-clause-kept : goal.returns-in-Ok-clause-kept
returns-in-Ok-clause-kept g c =
    let rs = table_view c.args.table.now in
    let q = conditions_view c.args.conditions.now in
    let z = slots_in c.row-row.result.now in
    let same = slots_same c.row-row.result.now ∙ ap slots_of c.row-row.ensures in
    kept_on (seen_in rs) q (g.P.Parts.are_parts c.args.parts.now) c.args.instant z (kept_view c.in_ok-parts.parts) same
    (kept_here (seen_in rs) q (g.P.Parts.are_parts c.args.parts.now) c.args.instant (kept_view c.args.progress.parts) (kept_view c.in_ok-parts.parts)
    (c.met_outside.result || c.in_ok-marks.past)
    (met_here rs q c.args.instant z c.met_outside.result c.in_ok-marks.past same c.met_outside.ensures c.in_ok-marks.ensures.outside)
    c.requires.kept c.in_ok-parts.ensures) c.in-Ok.ensures.none

pub returns-in-Ok-clause-marks : goal.returns-in-Ok-clause-marks
returns-in-Ok-clause-marks g c = marks_here (conditions_view c.args.conditions.now) c.args.instant (marks_view c.args.progress.marks)
    (marks_view c.in_ok-marks.marks) (slots_in c.row-row.result.now) (value_in (table_view c.args.table.now) c.args.instant)
    (slots_same c.row-row.result.now ∙ ap slots_of c.row-row.ensures) c.in_ok-marks.ensures.marks

pub returns-clause-past : goal.returns-clause-past
returns-clause-past g c =
    let rs = table_view c.args.table.now in
    let q = conditions_view c.args.conditions.now in
    let z = slots_in c.row-row.result.now in
    let same = slots_same c.row-row.result.now ∙ ap slots_of c.row-row.ensures in
    told_here (seen_in rs) q (g.P.Parts.are_parts c.args.parts.now) c.args.instant z (kept_view c.in_ok-parts.parts) c.in-Err.fault same
    (kept_here (seen_in rs) q (g.P.Parts.are_parts c.args.parts.now) c.args.instant (kept_view c.args.progress.parts) (kept_view c.in_ok-parts.parts)
    (c.met_outside.result || c.in_ok-marks.past)
    (met_here rs q c.args.instant z c.met_outside.result c.in_ok-marks.past same c.met_outside.ensures c.in_ok-marks.ensures.outside)
    c.requires.kept c.in_ok-parts.ensures) c.in-Err.ensures.past
