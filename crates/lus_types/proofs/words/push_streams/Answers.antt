use Rattle.std.proofs.Common.{arith, refl, map}
use Rattle.lus_tree.specs.View.{param_view, word_view}
use Rattle.lus_types.proofs.Steps.{one_pushed}
use Rattle.lus_types.proofs.words.push_streams.Goals as goal

pub loop-param-preserved : goal.loop-param-preserved
loop-param-preserved c =
    one_pushed (λ r. word_view r.now) (λ z. (param_view z).name) (λ zs. map (λ v. v.name) (map param_view zs)) (λ z zs. refl) c.args.params.now c.loop-param.param-index c.param-item.result c.loop-param.words.items
    c.push.new.self.items _ _ (omega arith) c.param-item.is c.loop-param.invariant c.in_ok-push.ensures.items refl
