use Rattle.std.proofs.Common.{◌≡◌, map, drop}
use Rattle.lus_tree.specs.View.{param_view}
use Rattle.trace_fits.specs.Filling.{are_given}
use Rattle.trace_fits.specs.Tables.{listables_in}
use Rattle.trace_fits.specs.Views.{seats_view}
use Rattle.trace_fits.proofs.fitting.are_given.Given as goal

-- those to come decide
abbrev pub invariant-loop-input : goal.invariant-loop-input
invariant-loop-input l = are_given (listables_in l.table) (seats_view l.seats) (map param_view (drop l.input-index l.inputs))
    ≡ are_given (listables_in l.table) (seats_view l.seats) (map param_view l.inputs)
