use Rattle.check_laws.proofs.Checks.{large_budgets}
use Rattle.check_laws.proofs.laws.large_budgets_are_enough.Goals as goal

pub returns : goal.returns
returns c = large_budgets
