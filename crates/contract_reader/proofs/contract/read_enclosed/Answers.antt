use Rattle.lus_reader.specs.View.{counts_view}
use Rattle.contract_reader.proofs.Leads.{at_err, behind, stops, stops_first}
use Rattle.contract_reader.proofs.Contracts.{into_contract, enclosed}
use Rattle.contract_reader.proofs.contract.read_enclosed.Goals as goal

pub returns-in_err-items-clause-stop : goal.returns-in_err-items-clause-stop
returns-in_err-items-clause-stop c = at_err _ _ _ c.from_residual.ensures.1 (stops_first (into_contract _ _ _ _ c.requires.word) c.in_err-items.ensures.stop)

pub returns-in_err-next-clause-stop : goal.returns-in_err-next-clause-stop
returns-in_err-next-clause-stop c =
    let l = behind (into_contract _ _ _ _ c.requires.word) c.in_ok-items.ensures.run.run in
    let h = rw c.closing.ensures at (c.in_err-next.ensures.stop (counts_view c.read_contract_items.new.counts)) in
    at_err _ _ _ c.from_residual-in_err-next.ensures.1 (stops l h)

pub returns-clause-run : goal.returns-clause-run
returns-clause-run c =
    let h = rw c.closing.ensures at (c.in_ok-next.ensures.run (counts_view c.read_contract_items.new.counts)) in
    enclosed _ c.requires.word c.in_ok-items.ensures.run h
