use Rattle.trace_fits.proofs.Keys.{value_read}
use Rattle.trace_fits.proofs.fitted.value_at.Goals as goal

pub returns-then-instant-values : goal.returns-then-instant-values
returns-then-instant-values c = value_read c.args.values.now c.args.instant _ c.if-instant-values.true
