use Rattle.std.proofs.Common.{arith, subst, sym, ◌++◌, map, take}
use Rattle.std.proofs.lemmas.List.{take_all}
use Rattle.lus_tree.specs.View.{contract_item_view}
use Rattle.lus_meaning.specs.Scene.{ghosts}
use Rattle.lus_streams.specs.Streams.{AreOf}
use Rattle.lus_streams.proofs.Firsts.{next_ghosts}
use Rattle.lus_streams.proofs.streams.add_ghosts.Goals as goal

pub loop-item-preserved : goal.loop-item-preserved
loop-item-preserved c = λ vs a.
    subst (λ zs. AreOf c.add_ghost.new.streams zs)
    (sym (next_ghosts contract_item_view c.args.items.now c.loop-item.item-index c.item-item.result vs (omega arith) c.item-item.is))
    (c.in_ok-add_ghost.ensures (vs ++ ghosts (map contract_item_view (take c.loop-item.item-index c.args.items.now))) (c.loop-item.invariant vs a))

pub returns : goal.returns
returns c = λ vs a.
    subst (λ is. AreOf c.loop-item.streams (vs ++ ghosts (map contract_item_view is)))
    (take_all c.loop-item.item-index c.args.items.now (omega arith)) (c.loop-item.invariant vs a)
