use Rattle.contract_reader.proofs.Leads.{at_err, behind, stops, stops_first}
use Rattle.contract_reader.proofs.ContractItems.{into_mode, adds_mode}
use Rattle.contract_reader.proofs.contract.read_mode.Goals as goal

pub returns-in_err-name-clause-stop : goal.returns-in_err-name-clause-stop
returns-in_err-name-clause-stop c =
    let l0 = into_mode _ _ _ c.requires.word in
    at_err _ _ _ c.from_residual.ensures.1 (stops_first l0 (c.in_err-name.ensures.stop _))

pub returns-in_err-first-clause-stop : goal.returns-in_err-first-clause-stop
returns-in_err-first-clause-stop c =
    let l0 = into_mode _ _ _ c.requires.word in
    let l1 = behind l0 (c.in_ok-name.ensures.run _) in
    at_err _ _ _ c.from_residual-in_err-first.ensures.1 (stops_first l1 (c.in_err-first.ensures.stop _))

pub returns-in_err-items-clause-stop : goal.returns-in_err-items-clause-stop
returns-in_err-items-clause-stop c =
    let l0 = into_mode _ _ _ c.requires.word in
    let l1 = behind l0 (c.in_ok-name.ensures.run _) in
    let l2 = behind l1 (c.in_ok-first.ensures.run _) in
    at_err _ _ _ c.from_residual-in_err-items.ensures.1 (stops_first l2 (c.in_err-items.ensures.stop))

pub returns-in_err-end-clause-stop : goal.returns-in_err-end-clause-stop
returns-in_err-end-clause-stop c =
    let l0 = into_mode _ _ _ c.requires.word in
    let l1 = behind l0 (c.in_ok-name.ensures.run _) in
    let l2 = behind l1 (c.in_ok-first.ensures.run _) in
    let l3 = behind l2 c.in_ok-items.ensures.run.run in
    at_err _ _ _ c.from_residual-in_err-end.ensures.1 (stops_first l3 (c.in_err-end.ensures.stop _))

pub returns-in_err-next-clause-stop : goal.returns-in_err-next-clause-stop
returns-in_err-next-clause-stop c =
    let l0 = into_mode _ _ _ c.requires.word in
    let l1 = behind l0 (c.in_ok-name.ensures.run _) in
    let l2 = behind l1 (c.in_ok-first.ensures.run _) in
    let l3 = behind l2 c.in_ok-items.ensures.run.run in
    let l4 = behind l3 (c.in_ok-end.ensures.run _) in
    at_err _ _ _ c.from_residual-in_err-next.ensures.1 (stops l4 (c.in_err-next.ensures.stop _))

pub returns-clause-run : goal.returns-clause-run
returns-clause-run c =
    let l0 = into_mode _ _ _ c.requires.word in
    let l1 = behind l0 (c.in_ok-name.ensures.run _) in
    let l2 = behind l1 (c.in_ok-first.ensures.run _) in
    let l3 = behind l2 c.in_ok-items.ensures.run.run in
    let l4 = behind l3 (c.in_ok-end.ensures.run _) in
    adds_mode l4 c.in_ok-name.ensures.word c.in_ok-items.ensures.run.is (c.in_ok-next.ensures.run _)
