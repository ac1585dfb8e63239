use Rattle.std.proofs.Common.{ap, ◌∙◌, sym, map, arith}
use Rattle.lus_meaning.proofs.Lists.{map_append}
use Rattle.lus_streams.specs.Owner.{owner_view}
use Rattle.lus_layouts.specs.Layouts.{layout_view}
use Rattle.sys_tables.specs.Made.{tables_by}
use Rattle.sys_tables.specs.Views.{fixed_view, table_view, tables_view}
use Rattle.sys_tables.proofs.Joined.{tables_all, tables_step}
use Rattle.sys_tables.proofs.tables.all_tables.Goals as goal

pub loop-place-preserved : goal.loop-place-preserved
loop-place-preserved c =
    let ps = map owner_view c.args.parts.now in
    tables_step c.args.names.now ps (map fixed_view c.args.outer.now) c.loop-place.place c.args.parts.now c.args.layouts.now c.index-parts-place.result
    c.index-layouts-place.result (tables_view c.loop-place.tables.items) (tables_view c.push.new.self.items)
    (tables_by c.args.names.now ps (map fixed_view c.args.outer.now) ps (map layout_view c.args.layouts.now)) (table_view c.in_ok-table.field-0)
    (omega arith) (omega arith) (sym c.index-parts-place.is) (sym c.index-layouts-place.is) c.in_ok-table.ensures
    (ap tables_view c.in_ok-push.ensures.items ∙ map_append table_view c.loop-place.tables.items _) c.loop-place.invariant

pub returns : goal.returns
returns c =
    let ps = map owner_view c.args.parts.now in
    tables_all c.args.names.now ps (map fixed_view c.args.outer.now) c.loop-place.place c.args.parts.now c.args.layouts.now
    (tables_view c.loop-place.tables.items)
    (tables_by c.args.names.now ps (map fixed_view c.args.outer.now) ps (map layout_view c.args.layouts.now)) (omega arith) c.loop-place.invariant
