use Rattle.std.proofs.Common.{[], ◌∷◌, ◌++◌, map}
use Rattle.lus_tree.specs.View.{named_view}
use Rattle.lus_evaluation.specs.Frame.{conditions_of}
use Rattle.evaluation_parts.specs.PartViews.{parts_view}
use Rattle.evaluation_parts.specs.Texts.{setting_view}
use Rattle.evaluation_parts.proofs.ContractItems.{one_added}
use Rattle.evaluation_parts.proofs.contracts.ensured_by.Goals as goal

pub loop-one-preserved : goal.loop-one-preserved
loop-one-preserved c = one_added named_view
    (λ e. conditions_of (setting_view c.args.setting.now) (map named_view c.args.asked.now) ++ conditions_of (setting_view c.args.setting.now) (e ∷ []))
    c.args.ensured.now c.loop-one.one-index c.one-item.result (parts_view c.loop-one.all.items) (parts_view c.push_ensure.new.all.items) _
    c.loop-one-test.true c.one-item.is c.loop-one.invariant c.in_ok-push_ensure.ensures
