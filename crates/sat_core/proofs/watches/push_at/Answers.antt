use Rattle.sat_core.proofs.Rows.{pushed, unpushed}
use Rattle.sat_core.proofs.watches.push_at.Goals as goal

pub returns-in-Err-clause-err : goal.returns-in-Err-clause-err
returns-in-Err-clause-err c = unpushed c.args.lists.now.items c.widen.new.lists.items c.args.place c.index_mut.result.now c.push.new.self
    c.in_ok-widen.ensures.same c.in_ok-widen.ensures.ok c.index_mut.ensures.value c.in-Err.ensures.items

pub returns-in-Ok-clause-ok : goal.returns-in-Ok-clause-ok
returns-in-Ok-clause-ok c = pushed c.args.lists.now.items c.widen.new.lists.items c.args.place c.index_mut.result.now c.push.new.self c.args.number
    c.in_ok-widen.ensures.same c.in_ok-widen.ensures.ok c.index_mut.ensures.value c.in-Ok.ensures.items
