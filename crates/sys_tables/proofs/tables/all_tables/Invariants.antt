use Rattle.std.proofs.Common.{◌≡◌, ◌++◌, drop, map}
use Rattle.lus_streams.specs.Owner.{owner_view}
use Rattle.lus_layouts.specs.Layouts.{layout_view}
use Rattle.sys_tables.specs.Made.{tables_by}
use Rattle.sys_tables.specs.Views.{fixed_view, tables_view}
use Rattle.sys_tables.proofs.tables.all_tables.Given as goal

-- what is there, followed by what is to come, is all
abbrev pub invariant-loop-place : goal.invariant-loop-place
invariant-loop-place l =
    tables_view l.tables.items
    ++ tables_by l.names (map owner_view l.parts) (map fixed_view l.outer) (map owner_view (drop l.place l.parts)) (map layout_view (drop l.place l.layouts))
    ≡ tables_by l.names (map owner_view l.parts) (map fixed_view l.outer) (map owner_view l.parts) (map layout_view l.layouts)
