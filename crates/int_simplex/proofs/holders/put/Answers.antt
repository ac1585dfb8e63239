use Rattle.int_simplex.proofs.Holding.{put_is}
use Rattle.int_simplex.proofs.holders.put.Goals as goal

pub returns-in-Ok : goal.returns-in-Ok
returns-in-Ok c = put_is c.args.lists.now.items c.args.column c.args.k c.index_mut.result.now c.push.new.self c.requires c.index_mut.ensures.value
    c.in-Ok.ensures.items
