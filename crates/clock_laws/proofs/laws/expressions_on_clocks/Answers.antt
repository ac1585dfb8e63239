use Rattle.clock_laws.proofs.Clocks.{expressions_on_clocks, contracts_on_clocks}
use Rattle.clock_laws.proofs.Runs.{runs_on_clocks}
use Rattle.clock_laws.proofs.laws.expressions_on_clocks.Goals as goal

pub returns-clause-expressions : goal.returns-clause-expressions
returns-clause-expressions c = expressions_on_clocks

pub returns-clause-contracts : goal.returns-clause-contracts
returns-clause-contracts c = contracts_on_clocks

pub returns-clause-runs : goal.returns-clause-runs
returns-clause-runs c = runs_on_clocks
