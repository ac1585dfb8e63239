use Rattle.contract_reader.proofs.Leads.{at_err, behind, stops, stops_first}
use Rattle.contract_reader.proofs.ContractItems.{into_ghost, adds_ghost}
use Rattle.contract_reader.proofs.contract.read_ghost.Goals as goal

pub returns-in_err-name-clause-stop : goal.returns-in_err-name-clause-stop
returns-in_err-name-clause-stop c =
    let l0 = into_ghost _ _ _ c.requires.word in
    at_err _ _ _ c.from_residual.ensures.1 (stops_first l0 (c.in_err-name.ensures.stop _))

pub returns-in_err-kind-clause-stop : goal.returns-in_err-kind-clause-stop
returns-in_err-kind-clause-stop c =
    let l0 = into_ghost _ _ _ c.requires.word in
    let l1 = behind l0 (c.in_ok-name.ensures.run _) in
    at_err _ _ _ c.from_residual-in_err-kind.ensures.1 (stops_first l1 (c.in_err-kind.ensures.stop _))

pub returns-in_err-sort-clause-stop : goal.returns-in_err-sort-clause-stop
returns-in_err-sort-clause-stop c =
    let l0 = into_ghost _ _ _ c.requires.word in
    let l1 = behind l0 (c.in_ok-name.ensures.run _) in
    let l2 = behind l1 (c.in_ok-kind.ensures.run _) in
    at_err _ _ _ c.from_residual-in_err-sort.ensures.1 (stops_first l2 (c.in_err-sort.ensures.stop _))

pub returns-in_err-first-clause-stop : goal.returns-in_err-first-clause-stop
returns-in_err-first-clause-stop c =
    let l0 = into_ghost _ _ _ c.requires.word in
    let l1 = behind l0 (c.in_ok-name.ensures.run _) in
    let l2 = behind l1 (c.in_ok-kind.ensures.run _) in
    let l3 = behind l2 (c.in_ok-sort.ensures.run _).run in
    at_err _ _ _ c.from_residual-in_err-first.ensures.1 (stops_first l3 (c.in_err-first.ensures.stop _))

pub returns-in_err-value-clause-stop : goal.returns-in_err-value-clause-stop
returns-in_err-value-clause-stop c =
    let l0 = into_ghost _ _ _ c.requires.word in
    let l1 = behind l0 (c.in_ok-name.ensures.run _) in
    let l2 = behind l1 (c.in_ok-kind.ensures.run _) in
    let l3 = behind l2 (c.in_ok-sort.ensures.run _).run in
    let l4 = behind l3 (c.in_ok-first.ensures.run _) in
    at_err _ _ _ c.from_residual-in_err-value.ensures.1 (stops l4 (c.in_err-value.ensures.stop))

pub returns-clause-run : goal.returns-clause-run
returns-clause-run c =
    let l0 = into_ghost _ _ _ c.requires.word in
    let l1 = behind l0 (c.in_ok-name.ensures.run _) in
    let l2 = behind l1 (c.in_ok-kind.ensures.run _) in
    let l3 = behind l2 (c.in_ok-sort.ensures.run _).run in
    let l4 = behind l3 (c.in_ok-first.ensures.run _) in
    adds_ghost l4 c.in_ok-value.ensures.run c.in_ok-name.ensures.word (c.in_ok-sort.ensures.run _).is
