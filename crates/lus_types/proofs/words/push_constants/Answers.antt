use Rattle.std.proofs.Common.{arith, refl, map}
use Rattle.lus_tree.specs.View.{definition_view, word_view}
use Rattle.lus_types.proofs.Steps.{one_pushed}
use Rattle.lus_types.proofs.words.push_constants.Goals as goal

pub loop-definition-preserved : goal.loop-definition-preserved
loop-definition-preserved c =
    one_pushed (λ r. word_view r.now) (λ z. (definition_view z).name) (λ zs. map (λ d. d.name) (map definition_view zs)) (λ z zs. refl) c.args.definitions.now c.loop-definition.definition-index c.definition-item.result c.loop-definition.words.items
    c.push.new.self.items _ _ (omega arith) c.definition-item.is c.loop-definition.invariant c.in_ok-push.ensures.items refl
