use Rattle.std.proofs.Common.{◌≡◌, OnOk, map, subst}
use Rattle.lus_tree.specs.Tree.{text_of}
use Rattle.lus_tree.specs.View.{expr_view, program_view, word_view}
use Rattle.lus_streams.specs.Clocks.{clock_seen}
use Rattle.lus_streams.specs.Names.{names_view}
use Rattle.evaluation_parts.specs.Needed.{modes_needs_view, needs_view}
use Rattle.evaluation_parts.specs.Views.{all_view, frame_declared, frame_instance}
use Rattle.evaluation_parts.proofs.Called.{component_there}
use Rattle.evaluation_order.proofs.Own.{side_is}
use Rattle.evaluation_order.proofs.own_needs.push_side.Goals as goal

pub returns : goal.returns
returns c =
    subst (λ z. OnOk c.push_needs.result (needs_view c.push_needs.new.found.items ≡ z))
    (side_is (frame_instance c.args.frame) (names_view c.args.frame.declared.now.names) (modes_needs_view c.args.modes.now)
    (clock_seen c.side_clock-clock.result) (needs_view c.args.needs.now.items) (needs_view c.push_declared_each.new.needs.items)
    (map text_of (map word_view c.args.words.now)) (expr_view c.args.right.now)
    (component_there (program_view c.args.frame.program.now) (all_view c.args.frame.all.now) c.args.frame.depth (frame_declared c.args.frame))
    c.requires c.side_clock-clock.ensures c.in_ok-push_declared_each.ensures)
    c.push_needs.ensures
