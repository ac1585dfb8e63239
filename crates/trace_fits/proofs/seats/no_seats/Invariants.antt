use Rattle.std.proofs.Common.{◌≡◌}
use Rattle.trace_fits.specs.Filling.{no_seats}
use Rattle.trace_fits.specs.Views.{seats_view}
use Rattle.trace_fits.proofs.seats.no_seats.Given as goal

abbrev pub invariant-loop-index : goal.invariant-loop-index
invariant-loop-index l = seats_view l.seats.items ≡ no_seats l.index
