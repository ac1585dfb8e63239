-- What clauses read of a `NeverShelf` and a `NeverSink`.
use Rattle.std.specs.Prelude.{ℕ, List, [], unwrap_or}
use Rattle.kind_io.specs.Held.{held_of}
use Rattle.kind_io.specs.declared.never.NeverShelf.{NeverShelf}
use Rattle.kind_io.specs.declared.never.NeverSink.{NeverSink}

-- the bytes of that name, none where it was not given
abbrev pub held_by : NeverShelf → List ℕ → List ℕ
held_by shelf name = unwrap_or (held_of shelf.files.items name) []

-- the bytes that were written
abbrev pub written_by : NeverSink → List ℕ
written_by sink = sink.held.items
