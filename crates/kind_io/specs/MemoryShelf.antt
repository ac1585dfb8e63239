-- What clauses read of a `MemoryShelf`.
use Rattle.std.specs.Prelude.{ℕ, List, Some, Contains}
use Rattle.kind_io.specs.Told.{Told}
use Rattle.kind_io.specs.Held.{held_of}
use Rattle.kind_io.specs.declared.memory_shelf.MemoryShelf.{MemoryShelf}

-- what it tells of a name: that it is missing, or its bytes
abbrev pub told_of : MemoryShelf → List ℕ → Told
told_of shelf name = Some (held_of shelf.files.items name)

-- how many calls have failed
abbrev pub faults_of : MemoryShelf → ℕ
faults_of shelf = shelf.schedule.faults

-- how many calls there were, which is the next call's number
abbrev pub calls_of : MemoryShelf → ℕ
calls_of shelf = shelf.schedule.calls

-- the numbers of the calls that fail
abbrev pub failing_of : MemoryShelf → List ℕ
failing_of shelf = shelf.schedule.failing.items

-- the next call fails by its number
abbrev pub IsDue : MemoryShelf → Type 0
IsDue shelf = Contains (failing_of shelf) (calls_of shelf)
