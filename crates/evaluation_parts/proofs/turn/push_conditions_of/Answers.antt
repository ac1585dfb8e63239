use Rattle.std.proofs.Common.{◌++◌, List, map, sym, ap, ◌∙◌}
use Rattle.lus_tree.specs.View.{item_view, program_view}
use Rattle.lus_meaning.specs.Scene.{base, Instance}
use Rattle.lus_evaluation.specs.Frame.{Calls, FrameText}
use Rattle.lus_evaluation.specs.Part.{Part, Setting, wholes}
use Rattle.lus_evaluation.specs.Turn.{property_texts}
use Rattle.evaluation_parts.specs.Conditions.{calls_view}
use Rattle.evaluation_parts.specs.PartViews.{parts_view}
use Rattle.evaluation_parts.specs.Texts.{frame_text_view, mode_texts_view}
use Rattle.evaluation_parts.specs.Turns.{ensured_each, required_each, owed_each, top}
use Rattle.evaluation_parts.specs.Views.{all_view, frame_declared, frame_instance}
use Rattle.evaluation_parts.proofs.Turns.{conditions_by, owed_is}
use Rattle.evaluation_parts.proofs.turn.push_conditions_of.Goals as goal

pub returns : goal.returns
returns c =
    let sub : Calls = calls_view c.args.setting.now in
    let t : FrameText = frame_text_view c.args.text.now in
    let i : Instance = frame_instance c.args.setting.now.frame in
    let g : Setting = top i sub t.contract.modes in
    let asserts : List Part = parts_view c.push_all-2.new.all.items in
    let promises : List Part = parts_view c.push_all-3.new.all.items in
    let requires : List Part = parts_view c.push_required.new.all.items in
    conditions_by sub t i (parts_view c.args.all.now.items) (parts_view c.push_all.new.all.items) asserts (parts_view c.push_properties.new.all.items)
    promises (parts_view c.push_ensured.new.all.items) requires (parts_view c.push_owed_each.new.all.items)
    (c.in_ok-push_all.ensures ∙ ap (λ z. parts_view c.args.all.now.items ++ parts_view z) c.deref.ensures.value)
    (c.in_ok-push_all-2.ensures ∙ ap (λ z. parts_view c.push_all.new.all.items ++ parts_view z) c.deref-2.ensures.value)
    (c.in_ok-push_properties.ensures
    ∙ ap (λ z. asserts ++ wholes z base (property_texts (map item_view c.body.result.now))) c.requires.top
    ∙ ap (λ z. asserts ++ wholes g base (property_texts z)) (c.body.ensures ∙ ap (λ n. n.body) c.names.ensures))
    (c.in_ok-push_all-3.ensures ∙ ap (λ z. parts_view c.push_properties.new.all.items ++ parts_view z) c.deref-3.ensures.value)
    (c.in_ok-push_ensured.ensures ∙ ap (λ z. promises ++ ensured_each (mode_texts_view z)) c.deref-4.ensures.value)
    (c.in_ok-push_required.ensures ∙ ap (λ z. parts_view c.push_ensured.new.all.items ++ required_each (mode_texts_view z)) c.deref-5.ensures.value)
    (c.in_ok-push_owed_each.ensures
    ∙ ap (λ z. requires ++ owed_each sub z) c.links.ensures
    ∙ ap (λ z. requires ++ z)
    (sym (owed_is sub (program_view c.args.setting.now.frame.program.now) (all_view c.args.setting.now.frame.all.now) c.args.setting.now.frame.depth
    (frame_declared c.args.setting.now.frame))))
