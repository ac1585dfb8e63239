use Rattle.std.proofs.Common.{map}
use Rattle.lus_types.specs.Marks.{row_view}
use Rattle.lus_types.proofs.Spread.{spreads_on}
use Rattle.lus_types.proofs.marks.spread_by.Goals as goal

pub returns-clause-marked : goal.returns-clause-marked
returns-clause-marked c = spreads_on (map row_view c.args.rows.now) c.args.marks.now c.pass_by.new.marks c.spread.new.marks c.pass_by.ensures c.spread.ensures.marked
