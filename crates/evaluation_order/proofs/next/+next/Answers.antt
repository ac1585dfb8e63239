use Rattle.std.proofs.Common.{◌≡◌, ◌++◌, ◌∙◌, OnOk, ap, pred, option_map, subst}
use Rattle.lus_tree.specs.View.{program_view}
use Rattle.evaluation_parts.specs.PartViews.{places_view}
use Rattle.evaluation_parts.specs.Unfolded.{called_instance}
use Rattle.evaluation_parts.specs.Views.{all_view, frame_declared, frame_instance, instance_there, link_view}
use Rattle.evaluation_order.specs.Steps.{all_under}
use Rattle.evaluation_order.proofs.Steps.{by_first, through_is}
use Rattle.evaluation_order.proofs.next.+next.Goals as goal

pub push_next-returns-in-len1-up : goal.push_next-returns-in-len1-up
push_next-returns-in-len1-up t c =
    subst (λ z. OnOk c.push_through.result (places_view c.push_through.new.found.items ≡ places_view c.args.found.now.items ++ all_under c.args.before.now z))
    (by_first (program_view c.args.frame.program.now) (all_view c.args.frame.all.now) c.args.frame.depth (frame_declared c.args.frame) c.args.way.now _
    (option_map (λ x. x.now) c.args.name) (option_map link_view c.link_at-link.result) c.in-len1-up.len_at_least c.link_at-link.ensures)
    c.push_through.ensures

pub push_through-returns-in_ok-before-in-Some : goal.push_through-returns-in_ok-before-in-Some
push_through-returns-in_ok-before-in-Some t c =
    subst (λ z. OnOk c.push_below.result (places_view c.push_below.new.found.items ≡ z))
    (through_is (frame_instance c.args.frame)
    (called_instance (program_view c.args.frame.program.now) (all_view c.args.frame.all.now) (pred c.args.frame.depth))
    c.args.before.now c.deref.result.now c.args.call c.args.rest.now (option_map (λ x. x.now) c.args.name) (option_map link_view c.args.link)
    (link_view c.in-Some.link) (instance_there (program_view c.args.frame.program.now) c.below-called.result) (places_view c.args.found.now.items)
    (places_view c.push_callers.new.found.items) (ap (option_map link_view) c.in-Some.is) c.below-called.ensures
    (c.deref.ensures.value ∙ c.in_ok-before-in-Some.ensures) c.in_ok-push_callers-in-Some.ensures)
    c.push_below.ensures
