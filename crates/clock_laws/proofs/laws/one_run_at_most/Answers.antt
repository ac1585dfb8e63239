use Rattle.clock_laws.proofs.RunLaws.{one_run_at_most}
use Rattle.clock_laws.proofs.laws.one_run_at_most.Goals as goal

pub returns : goal.returns
returns c = one_run_at_most
