-- What clauses read of a `MemorySink`.
use Rattle.std.specs.Prelude.{ℕ, ◌-◌, List, Contains, vec_len, vec_capacity}
use Rattle.kind_io.specs.declared.memory_sink.MemorySink.{MemorySink}

-- the bytes that were written
abbrev pub bytes_of : MemorySink → List ℕ
bytes_of sink = sink.held.items

-- how many bytes can be put before more memory is needed
abbrev pub room_of : MemorySink → ℕ
room_of sink = vec_capacity sink.held - vec_len sink.held

-- how many puts have failed
abbrev pub faults_of : MemorySink → ℕ
faults_of sink = sink.schedule.faults

-- how many puts there were, which is the next put's number
abbrev pub calls_of : MemorySink → ℕ
calls_of sink = sink.schedule.calls

-- the numbers of the puts that fail
abbrev pub failing_of : MemorySink → List ℕ
failing_of sink = sink.schedule.failing.items

-- the next put fails by its number
abbrev pub IsDue : MemorySink → Type 0
IsDue sink = Contains (failing_of sink) (calls_of sink)
