-- The clocks of numbered occurrences that a table keeps.
use Rattle.std.specs.Prelude.{◌≡◌, Option}
use Rattle.lus_meaning.specs.Scene.{Clock}
use Rattle.lus_meaning.specs.ClockFaults.{or_else}
use Rattle.lus_clocks.specs.declared.occurrence.Occurrence.{Occurrence}
use Rattle.lus_clocks.specs.declared.occurrence.Occurrence.TheVariants.{Pre, Arrow, Call}
use Rattle.lus_clocks.specs.declared.table.Table.{Table}
use Rattle.lus_clocks.specs.Cells.{cell_at}

abbrev pub kept : Table → Occurrence → Option Clock
kept t (Pre k) = cell_at t.pres.items k
kept t (Arrow k) = cell_at t.arrows.items k
kept t (Call k) = cell_at t.calls.items k

-- behind what a table keeps, what is found so
abbrev pub Writes : Table → Table → (Occurrence → Option Clock) → Type 0
Writes old new found = (s : Occurrence) → kept new s ≡ or_else (kept old s) (found s)
