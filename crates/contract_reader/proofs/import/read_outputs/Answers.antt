use Rattle.contract_reader.proofs.Leads.{at_err, here, behind, stops, stops_first}
use Rattle.contract_reader.proofs.import.read_outputs.Goals as goal

pub returns-in_err-first-clause-stop : goal.returns-in_err-first-clause-stop
returns-in_err-first-clause-stop c = at_err _ _ _ c.from_residual.ensures.1 (λ n. stops_first here (c.in_err-first.ensures.stop n))

pub returns-in_err-words-clause-stop : goal.returns-in_err-words-clause-stop
returns-in_err-words-clause-stop c = at_err _ _ _ c.from_residual-in_err-words.ensures.1
    (λ n. stops_first (behind here (c.in_ok-first.ensures.run n)) (c.in_err-words.ensures.stop n))

pub returns-in_err-end-clause-stop : goal.returns-in_err-end-clause-stop
returns-in_err-end-clause-stop c = at_err _ _ _ c.from_residual-in_err-end.ensures.1
    (λ n. stops_first (behind (behind here (c.in_ok-first.ensures.run n)) (c.in_ok-words.ensures.run n).run) (c.in_err-end.ensures.stop n))

pub returns-in_err-next-clause-stop : goal.returns-in_err-next-clause-stop
returns-in_err-next-clause-stop c = at_err _ _ _ c.from_residual-in_err-next.ensures.1
    (λ n. stops (behind (behind (behind here (c.in_ok-first.ensures.run n)) (c.in_ok-words.ensures.run n).run) (c.in_ok-end.ensures.run n))
    (c.in_err-next.ensures.stop n))

pub returns-clause-run : goal.returns-clause-run
returns-clause-run c = λ n. record {
  opening = _;
  names = _;
  closing = _;
  last = _;
  run = (behind (behind (behind here (c.in_ok-first.ensures.run n)) (c.in_ok-words.ensures.run n).run) (c.in_ok-end.ensures.run n)).reads _
      _ _ (c.in_ok-next.ensures.run n);
  is = (c.in_ok-words.ensures.run n).is;
}
