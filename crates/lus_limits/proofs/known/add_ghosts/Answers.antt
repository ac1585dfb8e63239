use Rattle.lus_tree.specs.View.{contract_item_view}
use Rattle.lus_meaning.specs.Run.{ghost_equations}
use Rattle.lus_limits.specs.Known.{lefts_of}
use Rattle.lus_limits.proofs.KnownNames.{next_these, ghost_lefts}
use Rattle.lus_limits.proofs.known.add_ghosts.Goals as goal

pub loop-item-preserved : goal.loop-item-preserved
loop-item-preserved c =
    next_these (λ xs. lefts_of (ghost_equations xs)) ghost_lefts contract_item_view c.args.items.now c.loop-item.item-index c.item-item.result c.args.names.now c.loop-item.names
    c.add_ghost.new.names c.loop-item-test.true c.item-item.is c.loop-item.invariant c.in_ok-add_ghost.ensures
