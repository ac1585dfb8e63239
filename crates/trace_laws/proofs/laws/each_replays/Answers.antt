use Rattle.trace_laws.proofs.Replayed.{each_replays}
use Rattle.trace_laws.proofs.laws.each_replays.Goals as goal

pub returns : goal.returns
returns c = each_replays c.each_has_traces.ensures c.each_verdicts.ensures.broken
