use Rattle.bland_laws.proofs.Firsts.{checks_end, small_budgets}
use Rattle.bland_laws.proofs.laws.checks_end.Goals as goal

pub returns : goal.returns
returns c = record { run = checks_end; budget = small_budgets }
