use Rattle.std.proofs.Common.{◌≡◌, ◌++◌, drop, map}
use Rattle.std.specs.List.{AllByRecursion}
use Rattle.sys_tables.specs.Views.{tables_view}
use Rattle.frame_names.specs.Known.{HasNamesOnce, known_of}
use Rattle.frame_names.specs.Views.{known_view}
use Rattle.frame_names.proofs.tables.all_known.Given as goal

-- what is there, followed by what is to come, is all
abbrev pub invariant-loop-table : goal.invariant-loop-table
invariant-loop-table l = record {
  once : AllByRecursion (λ t. HasNamesOnce t.streams) (tables_view (drop l.table-index l.tables));
  all :
      map known_view l.all.items ++ map known_of (tables_view (drop l.table-index l.tables))
      ≡ map known_of (tables_view l.tables);
}
