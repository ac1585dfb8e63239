use Rattle.lus_tree.specs.View.{item_view}
use Rattle.lus_meaning.specs.Run.{body_equations}
use Rattle.lus_limits.specs.Known.{lefts_of}
use Rattle.lus_limits.proofs.KnownNames.{next_these, body_lefts}
use Rattle.lus_limits.proofs.known.add_lefts.Goals as goal

pub loop-item-preserved : goal.loop-item-preserved
loop-item-preserved c =
    next_these (λ xs. lefts_of
    (body_equations xs)) body_lefts item_view c.args.items.now c.loop-item.item-index c.item-item.result c.args.names.now c.loop-item.names
    c.add_left.new.names c.loop-item-test.true c.item-item.is c.loop-item.invariant c.in_ok-add_left.ensures
