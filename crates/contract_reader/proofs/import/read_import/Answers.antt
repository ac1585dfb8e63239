use Rattle.std.proofs.Common.{◌≡◌, ◌+◌, arith}
use Rattle.contract_reader.proofs.Leads.{at_err, behind, stops, stops_first}
use Rattle.contract_reader.proofs.ContractItems.{into_import, adds_import}
use Rattle.contract_reader.proofs.import.read_import.Goals as goal

pub returns-in_err-contract-clause-stop : goal.returns-in_err-contract-clause-stop
returns-in_err-contract-clause-stop c =
    let k : c.in-Some.number ≡ c.args.counts.now.calls + 1 = omega (arith, c.in-Some.ensures) in
    let l0 = into_import _ _ _ c.in-Some.number k c.requires.word in
    at_err _ _ _ c.from_residual.ensures.1 (stops_first l0 (c.in_err-contract.ensures.stop _))

pub returns-in_err-first-clause-stop : goal.returns-in_err-first-clause-stop
returns-in_err-first-clause-stop c =
    let k : c.in-Some.number ≡ c.args.counts.now.calls + 1 = omega (arith, c.in-Some.ensures) in
    let l0 = into_import _ _ _ c.in-Some.number k c.requires.word in
    let l1 = behind l0 (c.in_ok-contract.ensures.run _) in
    at_err _ _ _ c.from_residual-in_err-first.ensures.1 (stops_first l1 (c.in_err-first.ensures.stop _))

pub returns-in_err-arguments-clause-stop : goal.returns-in_err-arguments-clause-stop
returns-in_err-arguments-clause-stop c =
    let k : c.in-Some.number ≡ c.args.counts.now.calls + 1 = omega (arith, c.in-Some.ensures) in
    let l0 = into_import _ _ _ c.in-Some.number k c.requires.word in
    let l1 = behind l0 (c.in_ok-contract.ensures.run _) in
    let l2 = behind l1 (c.in_ok-first.ensures.run _) in
    at_err _ _ _ c.from_residual-in_err-arguments.ensures.1 (stops_first l2 (c.in_err-arguments.ensures.stop))

pub returns-in_err-end-clause-stop : goal.returns-in_err-end-clause-stop
returns-in_err-end-clause-stop c =
    let k : c.in-Some.number ≡ c.args.counts.now.calls + 1 = omega (arith, c.in-Some.ensures) in
    let l0 = into_import _ _ _ c.in-Some.number k c.requires.word in
    let l1 = behind l0 (c.in_ok-contract.ensures.run _) in
    let l2 = behind l1 (c.in_ok-first.ensures.run _) in
    let l3 = behind l2 c.in_ok-arguments.ensures.run.run in
    at_err _ _ _ c.from_residual-in_err-end.ensures.1 (stops_first l3 (c.in_err-end.ensures.stop _))

pub returns-in_err-given-clause-stop : goal.returns-in_err-given-clause-stop
returns-in_err-given-clause-stop c =
    let k : c.in-Some.number ≡ c.args.counts.now.calls + 1 = omega (arith, c.in-Some.ensures) in
    let l0 = into_import _ _ _ c.in-Some.number k c.requires.word in
    let l1 = behind l0 (c.in_ok-contract.ensures.run _) in
    let l2 = behind l1 (c.in_ok-first.ensures.run _) in
    let l3 = behind l2 c.in_ok-arguments.ensures.run.run in
    let l4 = behind l3 (c.in_ok-end.ensures.run _) in
    at_err _ _ _ c.from_residual-in_err-given.ensures.1 (stops_first l4 (c.in_err-given.ensures.stop _))

pub returns-in_err-outputs-clause-stop : goal.returns-in_err-outputs-clause-stop
returns-in_err-outputs-clause-stop c =
    let k : c.in-Some.number ≡ c.args.counts.now.calls + 1 = omega (arith, c.in-Some.ensures) in
    let l0 = into_import _ _ _ c.in-Some.number k c.requires.word in
    let l1 = behind l0 (c.in_ok-contract.ensures.run _) in
    let l2 = behind l1 (c.in_ok-first.ensures.run _) in
    let l3 = behind l2 c.in_ok-arguments.ensures.run.run in
    let l4 = behind l3 (c.in_ok-end.ensures.run _) in
    let l5 = behind l4 (c.in_ok-given.ensures.run _) in
    at_err _ _ _ c.from_residual-in_err-outputs.ensures.1 (stops l5 (c.in_err-outputs.ensures.stop _))

pub returns-clause-run : goal.returns-clause-run
returns-clause-run c =
    let k : c.in-Some.number ≡ c.args.counts.now.calls + 1 = omega (arith, c.in-Some.ensures) in
    let l0 = into_import _ _ _ c.in-Some.number k c.requires.word in
    let l1 = behind l0 (c.in_ok-contract.ensures.run _) in
    let l2 = behind l1 (c.in_ok-first.ensures.run _) in
    let l3 = behind l2 c.in_ok-arguments.ensures.run.run in
    let l4 = behind l3 (c.in_ok-end.ensures.run _) in
    let l5 = behind l4 (c.in_ok-given.ensures.run _) in
    adds_import l5 c.in_ok-contract.ensures.word c.in_ok-arguments.ensures.run.is (c.in_ok-outputs.ensures.run _)
