use Rattle.std.proofs.Common.{arith, ◌∙◌}
use Rattle.lus_tree.specs.View.{expr_view}
use Rattle.lus_meaning.specs.Scene.{base}
use Rattle.lus_clocks.specs.Items.{placed_walk}
use Rattle.lus_streams.specs.Names.{names_view}
use Rattle.lus_scopes.specs.Least.{least_view}
use Rattle.lus_clocks.proofs.Sides.{one_more}
use Rattle.lus_clocks.proofs.items.arguments.Goals as goal

pub loop-argument-preserved : goal.loop-argument-preserved
loop-argument-preserved c = one_more (placed_walk (names_view c.args.names) base) expr_view
    c.args.all.now c.loop-argument.argument-index c.argument-item.result (least_view c.loop-argument.least)
    (least_view c.placed.new.least) (omega arith) c.argument-item.is c.placed.ensures ∙ c.loop-argument.invariant
