use Rattle.kind_io.proofs.Transfers.{gave_all}
use Rattle.std.proofs.Common.{rules}
use Rattle.kind_io.proofs.file_shelf.read_within.Goals as goal

pub returns-then-count-most-clause-bytes : goal.returns-then-count-most-clause-bytes
returns-then-count-most-clause-bytes g c =
    gave_all (g.T.Read.remaining c.args.from) c.min-most.result c.new-read.result.items c.read_to_end.new.buf.items c.new-read.ensures.items
    (rw (c.take.ensures.limit, c.take.ensures.inner) at c.in_default.ensures.bytes) (search rules)
