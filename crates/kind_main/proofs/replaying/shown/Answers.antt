use Rattle.std.proofs.Common.{◌≡◌, ◌≤◌, ap, ◌∙◌, length, map, subst, sym, None}
use Rattle.std.specs.Prelude.{Contains}
use Rattle.lus_tree.specs.Tree.{declared_node}
use Rattle.lus_meaning.specs.Refusals.{IsWithinLimits}
use Rattle.lus_tree.specs.View.{node_view}
use Rattle.lus_meaning.specs.Label.{label_of}
use Rattle.lus_meaning.specs.Program.{instance_of}
use Rattle.lus_meaning.specs.Property.{properties}
use Rattle.lus_meaning.specs.TraceView.{trace_view}
use Rattle.lus_checked.specs.Program.{tree_of}
use Rattle.lus_properties.specs.Marks.{mark_of}
use Rattle.lus_properties.specs.Texts.{mark_text}
use Rattle.lus_properties.specs.Views.{property_view}
use Rattle.program_replay.specs.Answer.{replay_view}
use Rattle.kind_main.specs.Ending.{line_bytes, lines_view}
use Rattle.kind_main.specs.Report.{code_of}
use Rattle.kind_main.specs.Source.{FollowsAll}
use Rattle.kind_main.proofs.Few.{few}
use Rattle.kind_main.proofs.Lists.{as_long, map_map}
use Rattle.kind_main.proofs.Proofs.{labels_so, node_declared}
use Rattle.kind_main.proofs.Reporting.{pushed-line}
use Rattle.kind_main.proofs.Replayed.{node_inside, stays}
use Rattle.kind_main.proofs.replaying.shown.Goals as goal

pub replayed_node-node-requires : goal.replayed_node-node-requires
replayed_node-node-requires c =
    rw c.node.ensures (node_inside (tree_of c.args.checked.now) (trace_view c.args.trace.now) (replay_view c.args.replay.now) c.requires)

pub break_lines-requires : goal.break_lines-requires
break_lines-requires c =
    let p = tree_of c.args.checked.now in
    let d = node_view c.replayed_node-node.result.now in
    let follows : FollowsAll p = record { rules = c.program-program.ensures.rules; limits = c.program-program.ensures.within } in
    let declared : Contains p (declared_node d) = node_declared p (replay_view c.args.replay.now).node d (rw c.node.ensures at c.replayed_node-node.ensures) in
    let marks : map property_view c.in_ok-properties.properties.items ≡ map mark_of (properties (instance_of p d)) =
    rw c.program-program.ensures.same at c.in_ok-properties.ensures in
    let many : length c.in_ok-properties.properties.items ≡ length (properties (instance_of p d)) =
    sym (as_long property_view c.in_ok-properties.properties.items) ∙ (ap length marks ∙ as_long mark_of (properties (instance_of p d))) in
    rw c.deref.ensures.value (subst (λ n. n ≤ 500) (sym many) (few p d follows declared c.small_systems.ensures c.as_many_formulas.ensures))

pub returns : goal.returns
returns c =
    let p = tree_of c.args.checked.now in
    let d = node_view c.replayed_node-node.result.now in
    let marks : map property_view c.in_ok-properties.properties.items ≡ map mark_of (properties (instance_of p d)) =
    rw c.program-program.ensures.same at c.in_ok-properties.ensures in
    let labels : map (λ q. mark_text (property_view q)) c.in_ok-properties.properties.items ≡ map label_of (properties (instance_of p d)) =
    sym (map_map property_view mark_text c.in_ok-properties.properties.items) ∙ labels_so _ (properties (instance_of p d)) marks in
    let report = rw c.deref.ensures.value at c.in_ok-lines.ensures in
    stays p (trace_view c.args.trace.now) (replay_view c.args.replay.now) c.requires d (rw c.node.ensures at c.replayed_node-node.ensures)
    _ labels (lines_view c.in_ok-lines.lines.items) report
    _ (pushed-line line_bytes c.in_ok-lines.lines.items _ c.into_bytes.result _ c.in_ok-push.ensures.items
    (ap line_bytes c.into_bytes.ensures.value ∙ (rw c.lawful.ensures at c.in_ok-last.ensures)))
    _ (c.break_status-status.ensures ∙ ap (λ l. code_of (lines_view l)) c.deref-2.ensures.value)
