use Rattle.std.proofs.Common.{◌≡◌, ◌++◌, drop}
use Rattle.sys_tables.specs.Views.{tables_view}
use Rattle.evaluation_turns.specs.Sources.{sources_view}
use Rattle.evaluation_turns.proofs.sources.sources_of.Given as goal

abbrev pub invariant-loop-table : goal.invariant-loop-table
invariant-loop-table l = sources_view l.sources.items ++ tables_view (drop l.table-index l.tables) ≡ tables_view l.tables
