use Rattle.std.proofs.Common.{◌≡◌, ◌++◌, ◌∙◌, OnOk, ap, subst}
use Rattle.lus_tree.specs.View.{expr_view, param_view, program_view}
use Rattle.lus_meaning.specs.Cycle.{declared_needs}
use Rattle.lus_meaning.specs.Scene.{clock_of}
use Rattle.lus_streams.specs.Clocks.{clock_seen}
use Rattle.lus_streams.specs.Names.{names_view}
use Rattle.evaluation_parts.specs.Needed.{modes_needs_view, needs_view}
use Rattle.evaluation_parts.specs.Views.{all_view, frame_declared, frame_instance}
use Rattle.evaluation_parts.proofs.Called.{component_there}
use Rattle.evaluation_order.proofs.Own.{ghost_is}
use Rattle.evaluation_order.proofs.own_needs.push_ghost_side.Goals as goal

pub returns : goal.returns
returns c =
    subst (λ z. OnOk c.push_needs.result (needs_view c.push_needs.new.found.items ≡ z))
    (ghost_is (frame_instance c.args.frame) (names_view c.args.frame.declared.now.names) (modes_needs_view c.args.modes.now)
    (clock_seen c.clock_or_base-clock.result) (needs_view c.args.needs.now.items) (needs_view c.push_declared.new.needs.items)
    (param_view c.args.stream.now).name.text (expr_view c.args.right.now)
    (component_there (program_view c.args.frame.program.now) (all_view c.args.frame.all.now) c.args.frame.depth (frame_declared c.args.frame))
    c.requires (c.clock_or_base-clock.ensures ∙ ap (clock_of (names_view c.args.frame.declared.now.names)) c.deref-2.ensures)
    (c.in_ok-push_declared.ensures
    ∙ ap (λ z. needs_view c.args.needs.now.items ++ declared_needs (names_view c.args.frame.declared.now.names) z) c.deref.ensures))
    c.push_needs.ensures
