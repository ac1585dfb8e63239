use Rattle.std.proofs.Common.{◌≡◌, ◌++◌, map}
use Rattle.lus_tree.specs.View.{node_view, program_view}
use Rattle.lus_meaning.specs.Program.{instance_of}
use Rattle.lus_properties.specs.Texts.{mark_text}
use Rattle.lus_properties.specs.Views.{property_view}
use Rattle.kind_main.specs.Ending.{lines_view}
use Rattle.kind_main.specs.Verdicts.{outcomes_view, verdict_report}
use Rattle.kind_main.proofs.Lining.{report_from}
use Rattle.kind_main.proofs.verdicts.verdict_report.Given as goal

abbrev pub invariant-loop-i : goal.invariant-loop-i
invariant-loop-i l =
    lines_view l.lines.items
    ++ report_from (instance_of (program_view l.program) (node_view l.node)) (λ q. mark_text (property_view q)) l.properties l.outcomes l.i
    ≡ verdict_report (instance_of (program_view l.program) (node_view l.node)) (map (λ q. mark_text (property_view q)) l.properties)
    (outcomes_view l.outcomes)
