use Rattle.std.proofs.Common.{rules}
use Rattle.lus_types.proofs.Ordered.{scope_is}
use Rattle.lus_types.proofs.before.scope_behind.Goals as goal

pub returns : goal.returns
returns c =
    scope_is c.args.home.now c.args.before.now c.within.result c.args.hidden c.len.result (0, 0) (0, 0) c.within.ensures.entries
    c.within.ensures.extent (search rules)
