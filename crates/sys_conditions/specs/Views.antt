-- What contracts see of occurrences.
use Rattle.std.specs.Prelude.{map}
use Rattle.lus_tree.specs.Tree.{text_of}
use Rattle.lus_tree.specs.View.{expr_view, word_view}
use Rattle.lus_meaning.specs.Scene.{Manner, plain, while_true, as_import}
use Rattle.lus_meaning.specs.Occurrences.{Memory, Start}
use Rattle.lus_streams.specs.Clocks.{clock_seen}
use Rattle.sys_conditions.specs.declared.occurrences.Memory.{Memory as MemoryCode}
use Rattle.sys_conditions.specs.declared.occurrences.Start.{Start as StartCode}
use Rattle.sys_conditions.specs.declared.occurrences.Manner.{Manner as MannerCode}
use Rattle.sys_conditions.specs.declared.occurrences.Manner.TheVariants.{Plain, While, Import}
use Rattle.sys_conditions.specs.declared.occurrences.Right.{Right as RightCode}
use Rattle.sys_conditions.specs.Named.{Right}

abbrev pub memory_view : MemoryCode → Memory
memory_view m = record { number = m.number; clock = clock_seen m.clock; operand = expr_view m.operand.now }

abbrev pub start_view : StartCode → Start
start_view a = record { number = a.number; clock = clock_seen a.clock }

abbrev pub manner_view : MannerCode → Manner
manner_view Plain = plain
manner_view (While a) = while_true (expr_view a.now)
manner_view (Import xs) = as_import (map text_of (map word_view xs.now))

abbrev pub right_view : RightCode → Right
right_view r = record { side = expr_view r.side.now; place = r.place }
