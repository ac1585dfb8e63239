use Rattle.std.proofs.Common.{rules, ◌≡◌, map, length, sym, ◌∙◌}
use Rattle.lus_tree.specs.View.{decl_view, program_view}
use Rattle.lus_meaning.proofs.Exists.{length_mapped}
use Rattle.lus_streams.specs.Owner.{owner_view}
use Rattle.path_traces.specs.Plans.{plan_view}
use Rattle.path_traces.proofs.Placed.{all_placed}
use Rattle.path_traces.proofs.places.places_of.Goals as goal

pub returns : goal.returns
returns c =
    let many : c.len.result ≡ length c.args.program.now.decls.items = search rules in
    let deep : c.len.result ≡ length (program_view c.args.program.now) = many ∙ sym (length_mapped decl_view c.args.program.now.decls.items) in
    record {
      exact = all_placed (program_view c.args.program.now) c.requires.checked (owner_view c.args.node) c.requires.declared c.frame_places.result
          (map plan_view c.in_ok-tables.tables.plans.items) (plan_view c.in_ok-plan.plan) c.len.result c.in_ok-tables.ensures c.in_ok-plan.ensures deep
          c.frame_places.ensures;
    }
