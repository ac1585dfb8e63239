use Rattle.std.proofs.Common.{arith, ap, subst, ◌∙◌, IfOk}
use Rattle.lus_tree.specs.View.{contract_item_view}
use Rattle.lus_meaning.specs.NameFaults.{guarantee_tags, tags_twice}
use Rattle.lus_scopes.specs.Least.{least_view}
use Rattle.lus_scopes.specs.Notes.{Notes}
use Rattle.lus_types.specs.Labels.{labels_view}
use Rattle.lus_types.proofs.Steps.{all_given, one_given}
use Rattle.lus_types.proofs.labels.guarantees_twice.Goals as goal

pub loop-item-preserved : goal.loop-item-preserved
loop-item-preserved c =
    one_given guarantee_tags contract_item_view c.args.items.now c.loop-item.item-index c.item-item.result (labels_view c.loop-item.labels.items)
    (labels_view c.push_guaranteed.new.labels.items) _ (omega arith) c.item-item.is c.loop-item.invariant c.in_ok-push_guaranteed.ensures

pub returns : goal.returns
returns c =
    subst (λ ts. IfOk c.note_twice.result (λ _. Notes (least_view c.args.least.now) (least_view c.note_twice.new.least) (tags_twice ts)))
    (ap labels_view c.deref.ensures.value
    ∙ all_given guarantee_tags contract_item_view c.args.items.now c.loop-item.item-index (labels_view c.loop-item.labels.items) _ (omega arith)
    c.loop-item.invariant)
    c.note_twice.ensures
