use Rattle.std.proofs.Common.{refl, map}
use Rattle.lus_tree.specs.View.{word_view}
use Rattle.lus_order.proofs.Steps.{one_pushed}
use Rattle.lus_order.proofs.words.push_words.Goals as goal

pub loop-name-preserved : goal.loop-name-preserved
loop-name-preserved c =
    one_pushed (λ r. word_view r.now) word_view (map word_view) (λ z zs. refl) c.args.names.now c.loop-name.name-index c.name-item.result
    c.loop-name.words.items c.push.new.self.items _ _ c.loop-name-test.true c.name-item.is c.loop-name.invariant c.in_ok-push.ensures.items refl
