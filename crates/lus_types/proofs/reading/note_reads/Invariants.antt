use Rattle.std.proofs.Common.{◌≡◌, drop, map}
use Rattle.lus_scopes.specs.Least.{least_view, noted_all}
use Rattle.lus_types.specs.Reads.{read_faults, read_view}
use Rattle.lus_types.proofs.reading.note_reads.Given as goal

abbrev pub invariant-loop-read : goal.invariant-loop-read
invariant-loop-read l = noted_all (least_view l.least) (read_faults l.given.names l.given.marks.items (map read_view (drop l.read-index l.reads)))
    ≡ noted_all (least_view l.initial.least) (read_faults l.given.names l.given.marks.items (map read_view l.reads))
