use Rattle.std.proofs.Common.{◌≡◌, map, length}
use Rattle.lus_meaning.specs.TraceView.{placed_view}
use Rattle.trace_fits.specs.Filling.{values_misfit}
use Rattle.trace_fits.specs.Views.{listable_view}
use Rattle.trace_fits.proofs.fitting.values_fit.Given as goal

-- what is left decides
abbrev pub invariant-loop-rest : goal.invariant-loop-rest
invariant-loop-rest l = values_misfit (listable_view l.listable) l.left (map placed_view l.rest)
    ≡ values_misfit (listable_view l.listable) (listable_view l.listable).count (map placed_view l.values)

abbrev pub decreases-loop-rest : goal.decreases-loop-rest
decreases-loop-rest l = length l.rest
