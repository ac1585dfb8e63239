use Rattle.std.proofs.Common.{◌≡◌, ◌+◌, suc, map, ap, arith}
use Rattle.sys_conditions.specs.Views.{memory_view}
use Rattle.sys_tables.specs.Numbers.{sight_at}
use Rattle.sys_tables.specs.Views.{named_view, table_view}
use Rattle.sys_texts.specs.Views.{sight_view}
use Rattle.trace_fits.proofs.Steps.{own_on}
use Rattle.trace_fits.proofs.walk.push_own.Goals as goal

pub returns : goal.returns
returns c =
    let one : c.args.base + 1 ≡ suc c.args.base = omega arith in
    own_on c.push_memories.result (sight_view c.in_ok-sight.sight) (sight_at (table_view c.args.table.now) c.args.way c.args.base c.args.tables.missing)
    c.args.tables.instants c.args.way c.args.base (c.args.base + 1) c.first_memory-first.result c.args.path.now (table_view c.args.table.now)
    (map named_view c.deref.result.now) (map memory_view c.deref-2.result.now) _ _ _ c.in_ok-sight.ensures one c.first_memory-first.ensures
    (ap (map named_view) c.deref.ensures.value) (ap (map memory_view) c.deref-2.ensures.value) c.in_ok-push_free.ensures c.push_memories.ensures
