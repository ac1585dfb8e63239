-- What clauses read of a `FileShelf` and a `StdSink`, which tell no bytes.
use Rattle.std.specs.Prelude.{ℕ}
use Rattle.kind_io.specs.declared.file_shelf.FileShelf.{FileShelf}
use Rattle.kind_io.specs.declared.std_sink.StdSink.{StdSink}

-- how many calls have failed
abbrev pub shelf_faults : {R : Type 0} → FileShelf R → ℕ
shelf_faults shelf = shelf.faults

-- how many puts have failed
abbrev pub sink_faults : {R : Type 0} → StdSink R → ℕ
sink_faults sink = sink.faults
