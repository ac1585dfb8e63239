use Rattle.std.proofs.Common.{rules}
use Rattle.std.proofs.lemmas.List.{map-set}
use Rattle.trace_fits.proofs.fitting.line_fits.Goals as goal

pub returns-then-slot-len-clause-seats : goal.returns-then-slot-len-clause-seats
returns-then-slot-len-clause-seats c = search (rules, map-set)
