use Rattle.contract_reader.proofs.Leads.{at_err, stops}
use Rattle.contract_reader.proofs.ContractItems.{into_guarantee, adds_guarantee}
use Rattle.contract_reader.proofs.contract.read_guarantee.Goals as goal

pub returns-in_err-named-clause-stop : goal.returns-in_err-named-clause-stop
returns-in_err-named-clause-stop c = at_err _ _ _ c.from_residual.ensures.1 (stops (into_guarantee _ _ _ c.requires.word) c.in_err-named.ensures.stop)

pub returns-clause-run : goal.returns-clause-run
returns-clause-run c = adds_guarantee c.requires.word c.in_ok-named.ensures.run
