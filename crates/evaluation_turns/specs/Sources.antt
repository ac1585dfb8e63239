-- What contracts see of declarations with their streams.
use Rattle.std.specs.Prelude.{List, map}
use Rattle.sys_tables.specs.Tabled.{Tabled}
use Rattle.sys_tables.specs.Views.{table_view}
use Rattle.evaluation_turns.specs.declared.named.Source.{Source}

abbrev pub sources_view : List Source → List Tabled
sources_view ss = map (λ s. table_view s.table.now) ss
