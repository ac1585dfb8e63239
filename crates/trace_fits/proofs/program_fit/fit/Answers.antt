use Rattle.std.proofs.Common.{rules, ◌≡◌, Some, None}
use Rattle.lus_tree.specs.Lookup.{nodes_of}
use Rattle.lus_tree.specs.View.{node_view, program_view}
use Rattle.lus_meaning.specs.Fits.{first_named}
use Rattle.lus_meaning.specs.TraceView.{trace_view}
use Rattle.lus_layouts.proofs.Fits.{nodes_fit}
use Rattle.trace_fits.proofs.Fits.{node_declared}
use Rattle.trace_fits.proofs.Named.{named_contained}
use Rattle.trace_fits.proofs.program_fit.fit.Goals as goal

pub listable-requires-clause-declared : goal.listable-requires-clause-declared
listable-requires-clause-declared c =
    let named : first_named (trace_view c.args.trace.now).node (nodes_of (program_view c.args.program.now)) ≡ Some (node_view c.in-Some.node.now) = search rules in
    node_declared (program_view c.args.program.now) (trace_view c.args.trace.now).node (node_view c.in-Some.node.now) named

pub listable-requires-clause-small : goal.listable-requires-clause-small
listable-requires-clause-small c =
    let named : first_named (trace_view c.args.trace.now).node (nodes_of (program_view c.args.program.now)) ≡ Some (node_view c.in-Some.node.now) = search rules in
    nodes_fit (program_view c.args.program.now) None c.requires.within (node_view c.in-Some.node.now)
    (named_contained (nodes_of (program_view c.args.program.now)) (trace_view c.args.trace.now).node (node_view c.in-Some.node.now) named)
