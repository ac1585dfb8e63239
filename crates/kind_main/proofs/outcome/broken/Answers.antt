use Rattle.std.proofs.Common.{◌≡◌, length, arith, ◌∙◌}
use Rattle.lus_tree.specs.View.{node_view, program_view}
use Rattle.lus_meaning.specs.TraceView.{trace_view}
use Rattle.sys_terms.specs.View.{state_view, states_view}
use Rattle.kind_main.specs.Ending.{lines_view}
use Rattle.kind_main.proofs.BrokenBy.{broken_by}
use Rattle.kind_main.proofs.Cutting.{trace_ends}
use Rattle.kind_main.proofs.Lists.{as_long, some_there}
use Rattle.kind_main.proofs.Ready.{component, narrow_of_all}
use Rattle.kind_main.proofs.outcome.broken.Goals as goal

pub trace_of-requires-clause-declared : goal.trace_of-requires-clause-declared
trace_of-requires-clause-declared c = component (program_view c.args.program.now) (node_view c.args.node.now) c.requires.analysed

pub trace_of-requires-clause-small : goal.trace_of-requires-clause-small
trace_of-requires-clause-small c =
    narrow_of_all (program_view c.args.program.now) (node_view c.args.node.now) c.requires.analysed c.small_systems.ensures

pub text_lines-requires : goal.text_lines-requires
text_lines-requires c = rw (c.deref.ensures.value, c.in-Ok.ensures.text) (trace_ends (trace_view c.in_ok-trace.trace))

pub returns : goal.returns
returns c =
    let many : length (states_view c.args.path.now) ≡ length c.args.path.now = as_long state_view c.args.path.now in
    let short = c.requires.broken.short in
    let some = some_there (states_view c.args.path.now) c.requires.broken.breaks.path.loose.some in
    broken_by c.each_has_traces.ensures c.each_verdicts.ensures.broken c.each_replays.ensures c.each_read_back.ensures c.small_runs_stay_within.ensures.paths
    (program_view c.args.program.now) (node_view c.args.node.now) c.requires.analysed c.args.property (states_view c.args.path.now) short
    c.requires.broken.breaks (c.narrow_are_small.ensures (states_view c.args.path.now) c.requires.broken.narrow)
    (trace_view c.in_ok-trace.trace) (c.in_ok-trace.ensures.exact c.requires.broken.breaks.path)
    (lines_view c.in_ok-lines.lines.items) c.in_ok-lines.ensures.each
    (c.in_ok-lines.ensures.whole ∙ (c.deref.ensures.value ∙ c.in-Ok.ensures.text))
    _ (omega (arith, many, short, some))
