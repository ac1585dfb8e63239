use Rattle.std.proofs.Common.{◌≡◌, OnOk, map, subst}
use Rattle.lus_tree.specs.View.{contract_item_view, item_view, program_view}
use Rattle.lus_streams.specs.Names.{names_view}
use Rattle.evaluation_parts.specs.Needed.{needs_view}
use Rattle.evaluation_parts.specs.Views.{all_view, frame_declared, frame_instance}
use Rattle.evaluation_parts.proofs.Called.{component_there}
use Rattle.evaluation_order.proofs.Own.{own_is}
use Rattle.evaluation_order.proofs.own_needs.push_own.Goals as goal

pub returns : goal.returns
returns c =
    subst (λ z. OnOk c.push_equations.result (needs_view c.push_equations.new.needs.items ≡ z))
    (own_is (frame_instance c.args.frame) (names_view c.args.frame.declared.now.names) c.args.name.now (needs_view c.args.needs.now.items)
    (needs_view c.push_declared.new.needs.items) (needs_view c.push_ghosts.new.needs.items) (map contract_item_view c.contract.result.now)
    (map item_view c.body.result.now)
    (component_there (program_view c.args.frame.program.now) (all_view c.args.frame.all.now) c.args.frame.depth (frame_declared c.args.frame))
    c.contract.ensures c.body.ensures c.in_ok-push_declared.ensures c.in_ok-push_ghosts.ensures)
    c.push_equations.ensures
