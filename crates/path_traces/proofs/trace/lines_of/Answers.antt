use Rattle.std.proofs.Common.{rules, ◌≡◌, map, length, sym, ◌∙◌}
use Rattle.lus_tree.specs.View.{decl_view, param_view, program_view}
use Rattle.lus_meaning.proofs.Exists.{length_mapped}
use Rattle.lus_streams.specs.Owner.{owner_view}
use Rattle.sys_terms.specs.View.{states_view}
use Rattle.path_traces.specs.Plans.{plan_view}
use Rattle.path_traces.proofs.Made.{room_so, lines_so}
use Rattle.path_traces.proofs.trace.lines_of.Goals as goal

pub frame_lines-requires-clause-room : goal.frame_lines-requires-clause-room
frame_lines-requires-clause-room c =
    let many : c.len.result ≡ length c.args.program.now.decls.items = search rules in
    let deep : c.len.result ≡ length (program_view c.args.program.now) = many ∙ sym (length_mapped decl_view c.args.program.now.decls.items) in
    room_so (program_view c.args.program.now) c.requires.checked (owner_view c.args.node) c.requires.declared (states_view c.args.states.now)
    (map plan_view c.in_ok-tables.tables.plans.items) (plan_view c.in_ok-plan.plan) c.len.result c.in_ok-tables.ensures c.in_ok-plan.ensures deep
    4294967296 c.requires.small

pub returns : goal.returns
returns c =
    let many : c.len.result ≡ length c.args.program.now.decls.items = search rules in
    let deep : c.len.result ≡ length (program_view c.args.program.now) = many ∙ sym (length_mapped decl_view c.args.program.now.decls.items) in
    lines_so (program_view c.args.program.now) c.requires.checked (owner_view c.args.node) c.requires.declared (states_view c.args.states.now)
    (map plan_view c.in_ok-tables.tables.plans.items) (plan_view c.in_ok-plan.plan) c.len.result c.in_ok-tables.ensures c.in_ok-plan.ensures deep
    c.frame_lines.result (map param_view c.inputs.result.now) c.inputs.ensures c.frame_lines.ensures
