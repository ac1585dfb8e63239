use Rattle.cause_laws.proofs.Crossed.{checks-end}
use Rattle.cause_laws.proofs.laws.checks_always_end.Goals as goal

pub returns : goal.returns
returns c = checks-end
