use Rattle.trace_laws.proofs.Narrow.{narrow_are_small}
use Rattle.trace_laws.proofs.laws.narrow_are_small.Goals as goal

pub returns : goal.returns
returns c = narrow_are_small
