use Rattle.std.proofs.Common.{ap, ◌∙◌, map}
use Rattle.lus_tree.specs.View.{contract_item_view}
use Rattle.lus_meaning.specs.Scene.{contract_statements}
use Rattle.evaluation_parts.specs.Conditions.{calls_view}
use Rattle.evaluation_parts.specs.PartViews.{parts_view}
use Rattle.evaluation_parts.specs.Texts.{contract_text_view, mode_texts_view}
use Rattle.evaluation_parts.specs.Views.{frame_instance}
use Rattle.evaluation_parts.proofs.Framed.{over_by}
use Rattle.evaluation_parts.proofs.frames.text_of.Goals as goal

pub returns : goal.returns
returns c = over_by (frame_instance c.args.bare.now.frame) c.args.bare.now.way.now (calls_view c.args.bare.now) c.args.order.now
    (contract_text_view c.in_ok-contract.contract) (mode_texts_view c.deref.result.now) (map contract_item_view c.contract.result.now)
    (parts_view c.in_ok-body.body.items) (parts_view c.in_ok-asserted.asserted.items) (ap mode_texts_view c.deref.ensures.value)
    (c.contract.ensures ∙ ap contract_statements c.names.ensures) c.in_ok-contract.ensures c.in_ok-body.ensures c.in_ok-asserted.ensures
