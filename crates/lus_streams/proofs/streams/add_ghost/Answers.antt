use Rattle.std.proofs.Common.{subst, sym, ◌++◌, ◌∷◌, []}
use Rattle.lus_tree.specs.View.{contract_item_view}
use Rattle.lus_meaning.specs.Scene.{ghosts}
use Rattle.lus_streams.specs.Streams.{AreOf}
use Rattle.lus_streams.proofs.streams.add_ghost.Goals as goal

pub returns-in_ok-add : goal.returns-in_ok-add
returns-in_ok-add c = λ vs a.
    subst (λ i. AreOf c.add.new.streams (vs ++ ghosts (contract_item_view i ∷ [])))
    (sym c.in-Ghost.is) (c.in_ok-add.ensures vs a)
