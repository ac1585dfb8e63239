-- What contracts see of the reads of slots.
use Rattle.std.specs.Prelude.{map}
use Rattle.slot_rows.specs.Order.{Reads}
use Rattle.slot_rows.specs.declared.slot_reads.SlotReads.{SlotReads}

abbrev pub reads_view : SlotReads → Reads
reads_view s = map (λ r. r.items) s.rows.items
