-- What is known of a declaration, whatever frame it has.
use Rattle.std.specs.Prelude.{ℕ, List, map}
use Rattle.lus_tree.specs.Tree.{Name}
use Rattle.lus_meaning.specs.WellMade.{AreDistinct}
use Rattle.lus_limits.specs.declared.calls.Way.{Way}
use Rattle.lus_limits.specs.declared.calls.Way.TheVariants.{Plain, Condition, Import}
use Rattle.lus_limits.specs.Calls.{way_of}
use Rattle.sys_tables.specs.Tabled.{Linked, Named, Tabled}
use Rattle.frame_names.specs.declared.tables.Callee.{Callee}

-- the names of its streams in the order of their slots, how many cells its frames have of their own, or as imports, and its calls and imports by number
pub record Known : Type 0 where
  pub names : List Name
  pub own : ℕ
  pub imported : ℕ
  pub calls : List Callee

abbrev pub stream_names : List Named → List Name
stream_names ss = map (λ s. s.variable.name.text) ss

abbrev pub HasNamesOnce : List Named → Type 0
HasNamesOnce ss = AreDistinct (stream_names ss)

abbrev pub callee_of : Linked → Callee
callee_of l = record { place = l.place; frame = l.slots.frame; way = way_of l.site.manner }

abbrev pub known_of : Tabled → Known
known_of t = record { names = stream_names t.streams; own = t.layout.own; imported = t.layout.imported; calls = map callee_of t.calls }

-- how many cells a frame that runs so has of its own
abbrev pub own_cells_of : Way → Known → ℕ
own_cells_of Import k = k.imported
own_cells_of Plain k = k.own
own_cells_of Condition k = k.own
