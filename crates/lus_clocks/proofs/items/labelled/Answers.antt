use Rattle.std.proofs.Common.{arith, ◌∙◌}
use Rattle.lus_tree.specs.View.{named_view}
use Rattle.lus_meaning.specs.Scene.{base}
use Rattle.lus_clocks.specs.Items.{placed_walk}
use Rattle.lus_streams.specs.Names.{names_view}
use Rattle.lus_scopes.specs.Least.{least_view}
use Rattle.lus_clocks.proofs.Sides.{one_more}
use Rattle.lus_clocks.proofs.items.labelled.Goals as goal

pub loop-named-preserved : goal.loop-named-preserved
loop-named-preserved c = one_more (λ z. placed_walk (names_view c.args.names) base z.value) named_view
    c.args.all.now c.loop-named.named-index c.named-item.result (least_view c.loop-named.least)
    (least_view c.placed.new.least) (omega arith) c.named-item.is c.placed.ensures ∙ c.loop-named.invariant
