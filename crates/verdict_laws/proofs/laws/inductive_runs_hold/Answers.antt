use Rattle.verdict_laws.proofs.Runs.{inductive-hold}
use Rattle.verdict_laws.proofs.laws.inductive_runs_hold.Goals as goal

pub returns : goal.returns
returns c = inductive-hold c.inductive_hold.ensures c.each_verdicts.ensures.valid
