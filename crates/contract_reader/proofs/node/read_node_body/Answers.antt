use Rattle.contract_reader.proofs.Leads.{at_err, here, behind, stops_first}
use Rattle.contract_reader.proofs.node.read_node_body.Goals as goal

pub returns-in_err-first-clause-stop : goal.returns-in_err-first-clause-stop
returns-in_err-first-clause-stop c = at_err _ _ _ c.from_residual.ensures.1 (stops_first here (c.in_err-first.ensures.stop _))

pub returns-in_err-items-clause-stop : goal.returns-in_err-items-clause-stop
returns-in_err-items-clause-stop c =
    let l1 = behind here (c.in_ok-first.ensures.run _) in
    at_err _ _ _ c.from_residual-in_err-items.ensures.1 (stops_first l1 c.in_err-items.ensures.stop)

pub returns-in_err-past-clause-stop : goal.returns-in_err-past-clause-stop
returns-in_err-past-clause-stop c =
    let l1 = behind here (c.in_ok-first.ensures.run _) in
    let l2 = behind l1 c.in_ok-items.ensures.run.run in
    at_err _ _ _ c.from_residual-in_err-past.ensures.1 (stops_first l2 (c.in_err-past.ensures.stop _))

pub returns-clause-run : goal.returns-clause-run
returns-clause-run c =
    let l1 = behind here (c.in_ok-first.ensures.run _) in
    let l2 = behind l1 c.in_ok-items.ensures.run.run in
    let l3 = behind l2 (c.in_ok-past.ensures.run _) in
    record {
      opening = _;
      items = _;
      closing = _;
      last = _;
      run = l3.reads _ _ _ (c.past_semicolon.ensures.run c.args.bytes.now _).1;
      is = c.in_ok-items.ensures.run.is;
    }
