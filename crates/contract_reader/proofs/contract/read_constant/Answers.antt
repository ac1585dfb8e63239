use Rattle.contract_reader.proofs.Leads.{at_err, stops}
use Rattle.contract_reader.proofs.ContractItems.{into_constant, adds_constant}
use Rattle.contract_reader.proofs.contract.read_constant.Goals as goal

pub returns-in_err-definition-clause-stop : goal.returns-in_err-definition-clause-stop
returns-in_err-definition-clause-stop c = at_err _ _ _ c.from_residual.ensures.1 (stops (into_constant _ _ _ c.requires.word) c.in_err-definition.ensures.stop)

pub returns-clause-run : goal.returns-clause-run
returns-clause-run c = adds_constant c.requires.word c.in_ok-definition.ensures.run
