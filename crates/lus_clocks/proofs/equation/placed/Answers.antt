use Rattle.std.proofs.Common.{refl}
use Rattle.lus_tree.specs.View.{expr_view}
use Rattle.lus_scopes.specs.Least.{least_view}
use Rattle.lus_streams.specs.Clocks.{clock_seen}
use Rattle.lus_streams.specs.Names.{names_view}
use Rattle.lus_clocks.proofs.Arms.{stand_behind}
use Rattle.lus_clocks.proofs.equation.placed.Goals as goal

pub returns : goal.returns
returns c = stand_behind (names_view c.args.names) (clock_seen c.args.clock) (clock_seen c.args.clock) (expr_view c.args.e.now)
    c.part-found.result (least_view c.args.least.now) (least_view c.part-found.new.least) (least_view c.stands_on.new.least)
    c.part-found.ensures.part refl c.part-found.ensures.least c.stands_on.ensures
