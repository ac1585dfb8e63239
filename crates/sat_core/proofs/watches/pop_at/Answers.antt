use Rattle.std.specs.Prelude.{◌<◌, length}
use Rattle.std.proofs.Common.{arith}
use Rattle.sat_core.proofs.Rows.{popped}
use Rattle.sat_core.proofs.watches.pop_at.Goals as goal

pub returns-then-place-len : goal.returns-then-place-len
returns-then-place-len c =
    let a = c.if-place-len.true in let o = c.args.lists.now.ok in
    let h : c.args.place < length c.args.lists.now.items = omega arith in
    popped c.args.lists.now.items c.args.place c.index.result.now c.index_mut.result.now c.truncate.new.self
    c.len-then-place-len.result c.saturating_sub-kept.result h c.index.ensures c.index_mut.ensures.value
    c.len-then-place-len.ensures c.index.result.now.ok.0 c.saturating_sub-kept.ensures c.truncate.ensures.items
