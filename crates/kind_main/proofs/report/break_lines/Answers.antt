use Rattle.std.proofs.Common.{arith}
use Rattle.lus_properties.specs.Texts.{mark_text}
use Rattle.lus_properties.specs.Views.{property_view}
use Rattle.program_replay.specs.Answer.{replay_view}
use Rattle.kind_main.proofs.Reporting.{report-start, report-next, report-end}
use Rattle.kind_main.proofs.report.break_lines.Goals as goal

pub push_property-requires : goal.push_property-requires
push_property-requires c =
    let same = c.loop-property.invariant.counted in
    let few = c.requires in
    omega (arith, same, few)

pub loop-property-preserved : goal.loop-property-preserved
loop-property-preserved c =
    report-next (λ q. mark_text (property_view q)) c.args.properties.now (replay_view c.args.replay.now).breaks _ _ _ _ c.loop-property.property-index _
    (omega arith) c.property-item.is c.in_ok-number.ensures.next c.in_ok-number.ensures.added c.loop-property.invariant

pub loop-property-init : goal.loop-property-init
loop-property-init c = rw c.new-lines.ensures.items (report-start (λ q. mark_text (property_view q)) c.args.properties.now (replay_view c.args.replay.now).breaks)

pub returns : goal.returns
returns c =
    report-end (λ q. mark_text (property_view q)) c.args.properties.now (replay_view c.args.replay.now).breaks _ _ c.loop-property.property-index
    (omega arith) c.loop-property.invariant
