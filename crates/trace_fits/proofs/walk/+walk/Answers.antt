use Rattle.std.proofs.Common.{rules, ◌≡◌, ◌-◌, suc, map, ap}
use Rattle.sys_tables.specs.Views.{linked_view, table_view, tables_view}
use Rattle.trace_fits.proofs.Steps.{calls_below, calls_room, frame_on}
use Rattle.trace_fits.proofs.walk.+walk.Goals as goal

pub visit_frame-visit_calls-requires : goal.visit_frame-visit_calls-requires
visit_frame-visit_calls-requires t c =
    let e : c.args.depth ≡ suc (c.args.depth - 1) = search rules in (
      search rules,
      (
        calls_room c.args.depth (tables_view c.args.tables.all.now) (table_view c.args.table.now) c.args.way c.args.base c.behind_own-from.result
            (map linked_view c.deref.result.now) c.behind_own-from.ensures (ap (map linked_view) c.deref.ensures.value) c.requires,
        calls_below c.args.depth (c.args.depth - 1) (tables_view c.args.tables.all.now) (table_view c.args.table.now) c.args.way c.args.base
            c.behind_own-from.result (map linked_view c.deref.result.now) e c.behind_own-from.ensures (ap (map linked_view) c.deref.ensures.value) c.requires,
      ),
    )

pub visit_frame-returns : goal.visit_frame-returns
visit_frame-returns t c =
    let e : c.args.depth ≡ suc (c.args.depth - 1) = search rules in
    let q : map linked_view c.deref.result.now ≡ (table_view c.args.table.now).calls = ap (map linked_view) c.deref.ensures.value in
    frame_on c.visit_calls.result (tables_view c.args.tables.all.now) c.args.tables.missing c.args.tables.instants c.args.depth (c.args.depth - 1) c.args.way
    c.args.base c.behind_own-from.result c.args.path.now (table_view c.args.table.now) (map linked_view c.deref.result.now) _ _ _ e c.behind_own-from.ensures q
    c.in_ok-push_own.ensures c.visit_calls.ensures
