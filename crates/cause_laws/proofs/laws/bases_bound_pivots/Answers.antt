use Rattle.cause_laws.proofs.Pivoted.{bases-bound}
use Rattle.cause_laws.proofs.laws.bases_bound_pivots.Goals as goal

pub returns : goal.returns
returns c = bases-bound
