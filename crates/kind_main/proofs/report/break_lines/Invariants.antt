use Rattle.lus_properties.specs.Texts.{mark_text}
use Rattle.lus_properties.specs.Views.{property_view}
use Rattle.program_replay.specs.Answer.{replay_view}
use Rattle.kind_main.specs.Ending.{lines_view}
use Rattle.kind_main.proofs.Reporting.{Reporting}
use Rattle.kind_main.proofs.report.break_lines.Given as goal

abbrev pub invariant-loop-property : goal.invariant-loop-property
invariant-loop-property l =
    Reporting (λ q. mark_text (property_view q)) l.properties (replay_view l.replay).breaks (lines_view l.lines.items) l.number l.property-index
