use Rattle.std.proofs.Common.{◌∙◌, refl, ap, pred}
use Rattle.lus_tree.specs.View.{program_view}
use Rattle.lus_meaning.specs.Depends.{modes_need, modes_need_each}
use Rattle.evaluation_parts.specs.Needed.{modes_needs_view}
use Rattle.evaluation_parts.specs.Unfolded.{called_instance, calls_with}
use Rattle.evaluation_parts.specs.Views.{all_view, link_view, links_view}
use Rattle.evaluation_parts.proofs.Steps.{one_pushed}
use Rattle.evaluation_parts.proofs.mode_needs.+modes.Goals as goal

pub each_called-loop-link-preserved : goal.each_called-loop-link-preserved
each_called-loop-link-preserved t c =
    one_pushed (λ v. modes_needs_view v.items) (λ z. modes_need (called_instance (program_view c.args.frame.program.now) (all_view c.args.frame.all.now) (pred c.args.frame.depth) (link_view z).place)) (λ zs. modes_need_each (calls_with (called_instance (program_view c.args.frame.program.now) (all_view c.args.frame.all.now) (pred c.args.frame.depth)) (links_view zs)))
    (λ z zs. refl) c.args.links.now c.loop-link.link-index c.link-item.result
    (c.loop-link.all.items)
    (c.push.new.self.items) (c.in_ok-modes_there.field-0) _ c.loop-link-test.true c.link-item.is (c.loop-link.invariant)
    (c.in_ok-push.ensures.items)
    (c.in_ok-modes_there.ensures ∙ ap modes_need c.below.ensures.instance)
