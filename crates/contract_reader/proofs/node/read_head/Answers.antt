use Rattle.contract_reader.proofs.Leads.{at_err, here, behind, stops_first}
use Rattle.contract_reader.proofs.node.read_head.Goals as goal

pub returns-in_err-name-clause-stop : goal.returns-in_err-name-clause-stop
returns-in_err-name-clause-stop c = at_err _ _ _ c.from_residual.ensures.1 (λ n h. stops_first here (c.in_err-name.ensures.stop n))

pub returns-in_err-inputs-clause-stop : goal.returns-in_err-inputs-clause-stop
returns-in_err-inputs-clause-stop c = at_err _ _ _ c.from_residual-in_err-inputs.ensures.1
    (λ n h. stops_first (behind here (c.in_ok-name.ensures.run n)) (c.in_err-inputs.ensures.stop n))

pub returns-in_err-given-clause-stop : goal.returns-in_err-given-clause-stop
returns-in_err-given-clause-stop c = at_err _ _ _ c.from_residual-in_err-given.ensures.1
    (λ n h. stops_first (behind (behind here (c.in_ok-name.ensures.run n)) (c.in_ok-inputs.ensures.run n).run)
    (c.in_err-given.ensures.stop n))

pub returns-in_err-outputs-clause-stop : goal.returns-in_err-outputs-clause-stop
returns-in_err-outputs-clause-stop c = at_err _ _ _ c.from_residual-in_err-outputs.ensures.1
    (λ n h. stops_first (behind (behind (behind here (c.in_ok-name.ensures.run n)) (c.in_ok-inputs.ensures.run n).run)
    (c.in_ok-given.ensures.run n)) (c.in_err-outputs.ensures.stop n))

pub returns-clause-run : goal.returns-clause-run
returns-clause-run c = λ n. record {
  named = _;
  taken = _;
  returns = _;
  given = _;
  leads = λ h. behind (behind (behind (behind here (c.in_ok-name.ensures.run n)) (c.in_ok-inputs.ensures.run n).run)
      (c.in_ok-given.ensures.run n)) (c.in_ok-outputs.ensures.run n).run;
  are_named = c.in_ok-name.ensures.word;
  are_taken = (c.in_ok-inputs.ensures.run n).is;
  are_given = (c.in_ok-outputs.ensures.run n).is;
}
