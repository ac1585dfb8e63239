use Rattle.std.specs.Prelude.{◌≡◌, ◌+◌, length}
use Rattle.std.proofs.Common.{arith}
use Rattle.sat_core.proofs.Rows.{removed, row-set-other}
use Rattle.sat_core.proofs.watches.remove_at.Goals as goal

pub returns-then-place-len-clause-from : goal.returns-then-place-len-clause-from
returns-then-place-len-clause-from c =
    let a = c.swap_remove-entry.ensures.len in let x = c.swap_remove-entry.new.self.ok in let y = c.index_mut.result.now.ok in
    let l : length c.swap_remove-entry.new.self.items + 1 ≡ length c.index_mut.result.now.items = omega arith in
    let n : c.index_mut.result.now.len ≡ length c.index_mut.result.now.items = omega arith in
    removed c.args.lists.now.items c.args.place c.args.at c.index_mut.result.now
    c.swap_remove-entry.new.self c.swap_remove-entry.result c.index_mut.result.now.len c.requires c.index_mut.ensures.value n l
    c.swap_remove-entry.ensures.by_index.0 c.swap_remove-entry.ensures.by_index.1

pub returns-then-place-len-clause-others : goal.returns-then-place-len-clause-others
returns-then-place-len-clause-others c = λ q ne. row-set-other c.args.lists.now.items c.args.place c.swap_remove-entry.new.self q ne
