use Rattle.std.proofs.Common.{◌≡◌, map, drop}
use Rattle.trace_fits.specs.Filling.{seats_needed}
use Rattle.trace_fits.specs.Views.{slotted_view}
use Rattle.trace_fits.proofs.seats.seats_needed.Given as goal

-- those to come decide
abbrev pub invariant-loop-listable : goal.invariant-loop-listable
invariant-loop-listable l =
    seats_needed l.count (map slotted_view (drop l.listable-index l.listables)) ≡ seats_needed 0 (map slotted_view l.listables)
