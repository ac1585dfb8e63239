-- What contracts see of names of frames.
use Rattle.std.specs.Prelude.{ℕ, List, map, Option}
use Rattle.lus_tree.specs.Tree.{Name}
use Rattle.frame_names.specs.declared.names.FrameNames.{FrameNames}
use Rattle.frame_names.specs.declared.tables.Known.{Known as CodeKnown}
use Rattle.frame_names.specs.Known.{Known}
use Rattle.frame_names.specs.Walk.{slot_of}

abbrev pub known_view : CodeKnown → Known
known_view k = record { names = k.names; own = k.own; imported = k.imported; calls = k.calls.items }

-- the number of the slot of a name in the frame at the end of a way of calls
abbrev pub slot_by : FrameNames → List ℕ → Name → Option ℕ
slot_by f = slot_of (map known_view f.all.items) f.root
