-- What contracts see of a table of what may be listed.
use Rattle.std.specs.Prelude.{List, map}
use Rattle.trace_fits.specs.declared.table.ListableTable.{ListableTable}
use Rattle.trace_fits.specs.Slotted.{Slotted}
use Rattle.trace_fits.specs.Views.{slotted_view}

abbrev pub listables_in : ListableTable → List Slotted
listables_in t = map slotted_view t.listables.now
