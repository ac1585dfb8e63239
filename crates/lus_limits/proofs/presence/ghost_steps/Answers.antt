use Rattle.std.proofs.Common.{◌+◌, ◌∷◌, [], length, ap, ◌∙◌}
use Rattle.lus_tree.specs.View.{contract_item_view}
use Rattle.lus_meaning.specs.Scene.{ghosts}
use Rattle.lus_streams.specs.Clocks.{clock_seen}
use Rattle.lus_limits.specs.Measured.{passes, size_view}
use Rattle.lus_streams.specs.Names.{names_view}
use Rattle.lus_limits.proofs.Measures.{ghosts_counted}
use Rattle.lus_limits.proofs.presence.ghost_steps.Goals as goal

pub loop-item-preserved : goal.loop-item-preserved
loop-item-preserved c = λ d.
    c.ghost_step-passing.ensures d ∙ c.loop-item.invariant (d + length (ghosts (contract_item_view c.item-item.result ∷ [])))
    ∙ ap (λ k. passes k (names_view c.args.names) (clock_seen c.args.passing.clock) (size_view c.args.passing.size))
    (ghosts_counted contract_item_view c.args.items.now c.loop-item.item-index c.item-item.result d c.loop-item-test.true c.item-item.is)
