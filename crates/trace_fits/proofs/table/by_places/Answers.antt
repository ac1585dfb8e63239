use Rattle.std.proofs.Common.{arith}
use Rattle.trace_fits.specs.Views.{found_at}
use Rattle.trace_fits.proofs.Keys.{grown}
use Rattle.trace_fits.proofs.table.by_places.Goals as goal

pub loop-listable-preserved : goal.loop-listable-preserved
loop-listable-preserved c = λ path x.
    grown c.args.listables.now c.loop-listable.listable-index c.listable-item.result (omega arith) c.listable-item.is
    c.place_of.result.way.now c.place_of.result.what c.place_of.ensures.way c.place_of.ensures.what path x
    (found_at c.loop-listable.places path x) (found_at c.note.new.places path x) (c.in_ok-note.ensures path x) (c.loop-listable.invariant path x)
