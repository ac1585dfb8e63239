use Rattle.std.proofs.Common.{arith}
use Rattle.lus_tree.specs.View.{node_view, program_view}
use Rattle.lus_meaning.specs.Program.{instance_of}
use Rattle.lus_properties.specs.Texts.{mark_text}
use Rattle.lus_properties.specs.Views.{property_view}
use Rattle.kind_main.proofs.Lining.{report_done}
use Rattle.kind_main.proofs.verdicts.verdict_report.Goals as goal

pub returns : goal.returns
returns c =
    let same = c.requires.many in
    report_done (instance_of (program_view c.args.program.now) (node_view c.args.node.now)) (λ q. mark_text (property_view q))
    c.args.properties.now c.args.outcomes.now c.loop-i.i (omega (arith, same)) _ _ c.loop-i.invariant
