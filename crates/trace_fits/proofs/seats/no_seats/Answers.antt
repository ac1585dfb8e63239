use Rattle.trace_fits.proofs.Room.{one_more}
use Rattle.trace_fits.proofs.seats.no_seats.Goals as goal

pub loop-index-preserved : goal.loop-index-preserved
loop-index-preserved c = one_more c.loop-index.seats.items c.push.new.self.items c.loop-index.index c.loop-index.invariant c.in_ok-push.ensures.items
