use Rattle.std.proofs.Common.{◌≡◌, ◌≤◌, length, map, refl, ap, ◌∙◌, sym, subst}
use Rattle.lus_tree.specs.View.{node_view, program_view}
use Rattle.lus_meaning.specs.Program.{instance_of}
use Rattle.lus_meaning.specs.Property.{properties}
use Rattle.lus_properties.specs.Marks.{mark_of}
use Rattle.lus_properties.specs.Texts.{mark_text}
use Rattle.lus_properties.specs.Views.{property_view}
use Rattle.kind_engine.specs.Ready.{IsReady}
use Rattle.kind_main.specs.Options.{options_plan}
use Rattle.kind_main.specs.Ending.{line_bytes, lines_view}
use Rattle.kind_main.specs.Verdicts.{counts_of, outcome_view, outcomes_view, tally_of, verdict_report}
use Rattle.kind_main.proofs.Completing.{complete}
use Rattle.kind_main.proofs.Deciding.{as_many_verdicts}
use Rattle.kind_main.proofs.Lists.{as_long}
use Rattle.kind_main.proofs.Proofs.{proof_made}
use Rattle.kind_main.proofs.Ready.{component, narrow_enough, few_properties, ready_system}
use Rattle.kind_main.proofs.Reporting.{pushed-line}
use Rattle.kind_main.proofs.proving.proof_report.Goals as goal

pub system-requires-clause-declared : goal.system-requires-clause-declared
system-requires-clause-declared c = component (program_view c.args.program.now) (node_view c.args.node.now) c.requires.analysed

pub system-requires-clause-small : goal.system-requires-clause-small
system-requires-clause-small c =
    narrow_enough (program_view c.args.program.now) (node_view c.args.node.now) c.requires.analysed c.small_systems.ensures

pub outcomes-requires-clause-ready : goal.outcomes-requires-clause-ready
outcomes-requires-clause-ready c =
    subst (λ m. IsReady m (options_plan c.args.options)) (sym c.in_ok-system.ensures.exact)
    (ready_system (program_view c.args.program.now) (node_view c.args.node.now) c.requires.analysed c.mild_systems.ensures c.small_systems.ensures
    c.args.options c.requires.range)

pub verdict_report-requires-clause-many : goal.verdict_report-requires-clause-many
verdict_report-requires-clause-many c =
    let p = program_view c.args.program.now in
    let d = node_view c.args.node.now in
    let marks : length (map property_view c.in_ok-properties.properties.items) ≡ length (map mark_of (properties (instance_of p d))) =
    ap length c.in_ok-properties.ensures in
    let many : length (properties (instance_of p d)) ≡ length (outcomes_view c.in_ok-outcomes.outcomes.items) =
    as_many_verdicts c.args.options p d c.in_ok-outcomes.ensures.book 0 _ _ c.in_ok-outcomes.ensures.each in
    rw (c.deref.ensures.value, c.deref-2.ensures.value)
    (sym (as_long property_view c.in_ok-properties.properties.items)
    ∙ (marks ∙ (as_long mark_of (properties (instance_of p d)) ∙ (many ∙ as_long outcome_view c.in_ok-outcomes.outcomes.items))))

pub of-tally-requires : goal.of-tally-requires
of-tally-requires c =
    let p = program_view c.args.program.now in
    let d = node_view c.args.node.now in
    let many : length (properties (instance_of p d)) ≡ length c.in_ok-outcomes.outcomes.items =
    as_many_verdicts c.args.options p d c.in_ok-outcomes.ensures.book 0 _ _ c.in_ok-outcomes.ensures.each ∙ as_long outcome_view c.in_ok-outcomes.outcomes.items in
    rw c.deref-3.ensures.value
    (subst (λ n. n ≤ 500) many (few_properties p d c.requires.analysed c.small_systems.ensures c.as_many_formulas.ensures))

pub returns : goal.returns
returns c =
    let p = program_view c.args.program.now in
    let d = node_view c.args.node.now in
    let counts : counts_of c.of-tally.result ≡ tally_of (outcomes_view c.in_ok-outcomes.outcomes.items) = rw c.deref-3.ensures.value at c.of-tally.ensures in
    let fit =
    (ready_system p d c.requires.analysed c.mild_systems.ensures c.small_systems.ensures c.args.options c.requires.range).mild.fit in
    let decided =
    complete c.whole_causes_are_depths.ensures c.depths_of_runs.ensures.depths c.depth_of_step.ensures.inductive c.inductive_runs_hold.ensures
    c.args.options p d c.requires.analysed fit c.in_ok-outcomes.ensures.book c.in_ok-outcomes.ensures.sound
    (outcomes_view c.in_ok-outcomes.outcomes.items) c.in_ok-outcomes.ensures.each in
    let report : lines_view c.in_ok-lines.lines.items
    ≡ verdict_report (instance_of p d) (map (λ q. mark_text (property_view q)) c.in_ok-properties.properties.items)
    (outcomes_view c.in_ok-outcomes.outcomes.items) =
    rw (c.deref.ensures.value, c.deref-2.ensures.value) at c.in_ok-lines.ensures in
    proof_made c.args.options p d (outcomes_view c.in_ok-outcomes.outcomes.items) c.in_ok-outcomes.ensures decided
    property_view c.in_ok-properties.properties.items c.in_ok-properties.ensures
    (lines_view c.in_ok-lines.lines.items) _ report (counts_of c.of-tally.result) counts
    (line_bytes c.into_bytes.result) (ap line_bytes c.into_bytes.ensures.value ∙ c.in_ok-summary.ensures)
    (pushed-line line_bytes c.in_ok-lines.lines.items _ c.into_bytes.result _ c.in_ok-push.ensures.items refl)
    _ c.status.ensures
