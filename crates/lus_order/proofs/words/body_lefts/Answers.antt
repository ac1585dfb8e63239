use Rattle.std.proofs.Common.{◌≡◌, ◌<◌, length, get_or, subst, ◌∷◌, [], map}
use Rattle.lus_tree.specs.View.{item_view}
use Rattle.lus_order.specs.Names.{words_view}
use Rattle.lus_order.proofs.Firsts.{left_words, lefts_first}
use Rattle.lus_order.proofs.Steps.{one_added}
use Rattle.lus_order.proofs.words.body_lefts.Goals as goal

pub loop-item-preserved : goal.loop-item-preserved
loop-item-preserved c =
    one_added (λ z. left_words (item_view z ∷ [])) (λ zs. left_words (map item_view zs)) (λ z zs. lefts_first (item_view z) (map item_view zs))
    c.args.node.now.items.items c.loop-item.item-index c.item-item.result (words_view c.loop-item.words.items) (words_view c.push_left.new.words.items) _
    (subst (λ zs. c.loop-item.item-index < length zs) c.deref-item-items.ensures.value c.loop-item-test.true)
    (subst (λ zs. c.item-item.result ≡ get_or zs c.loop-item.item-index c.item-item.result) c.deref-item-items.ensures.value c.item-item.is)
    c.loop-item.invariant c.in_ok-push_left.ensures
