use Rattle.std.proofs.Common.{◌≡◌, map, drop}
use Rattle.lus_meaning.specs.TraceView.{line_view}
use Rattle.trace_fits.specs.Filling.{filled, lines_misfit}
use Rattle.trace_fits.specs.Tables.{listables_in}
use Rattle.trace_fits.specs.Views.{seats_view}
use Rattle.trace_fits.proofs.fitting.lines_fit.Given as goal

-- those to come decide, with what is seated
abbrev pub invariant-loop-line : goal.invariant-loop-line
invariant-loop-line l =
    (lines_misfit (listables_in l.table) (seats_view l.seats.items) (map line_view (drop l.line-index l.lines))
    ≡ lines_misfit (listables_in l.table) (seats_view l.initial.seats.items) (map line_view l.lines))
    × (filled (listables_in l.table) (seats_view l.seats.items) (map line_view (drop l.line-index l.lines))
    ≡ filled (listables_in l.table) (seats_view l.initial.seats.items) (map line_view l.lines))
