-- An instant is evaluated in one order alone: that of its parts is the least one, and so is that of each frame's equations.
use Rattle.std.proofs.Common.{◌≡◌, length, ap, ◌∙◌, sym, subst}
use Rattle.std.proofs.Math.Path.{fun_ext}
use Rattle.lus_meaning.specs.Run.{equations}
use Rattle.lus_meaning.specs.Scene.{component_of}
use Rattle.lus_meaning.specs.Order.{IsLeastOrder, NeedsEquation}
use Rattle.lus_evaluation.specs.Frame.{picked}
use Rattle.lus_evaluation.specs.Turn.{in_turn}
use Rattle.lus_evaluation.specs.Evaluation.{Waits, instance_on}
use Rattle.lus_evaluation.specs.Laws.{OneEvaluation}
use Rattle.lus_evaluation.proofs.OneOrder.{one_least_order}

pub one_evaluation : OneEvaluation
one_evaluation i qs rs a b =
    let e : a.orders ≡ b.orders =
    fun_ext (λ w. one_least_order (length (equations (component_of (instance_on i w))))
    (NeedsEquation (instance_on i w) (equations (component_of (instance_on i w)))) (a.orders w) (b.orders w) (a.least w) (b.least w)) in
    let turn : IsLeastOrder (length (in_turn a.orders i)) (Waits i (in_turn a.orders i)) b.numbers =
    subst (λ o. IsLeastOrder (length (in_turn o i)) (Waits i (in_turn o i)) b.numbers) (sym e) b.turn in
    let n : a.numbers ≡ b.numbers =
    one_least_order (length (in_turn a.orders i)) (Waits i (in_turn a.orders i)) a.numbers b.numbers a.turn turn in
    a.parts ∙ ap (λ ks. picked ks (in_turn a.orders i)) n ∙ ap (λ o. picked b.numbers (in_turn o i)) e ∙ sym b.parts
