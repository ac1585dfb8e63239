use Rattle.std.proofs.Common.{ap, sym, ◌∙◌}
use Rattle.contract_reader.specs.Begin.{contract_start_of}
use Rattle.contract_reader.proofs.Leads.{at_err, here, stops, to_once}
use Rattle.contract_reader.proofs.Firsts.{begins_contract, no_contract as no_opening}
use Rattle.contract_reader.proofs.Contracts.{some_contract, no_contract}
use Rattle.contract_reader.proofs.contract.read_contract.Goals as goal

pub returns-in_default-clause-run : goal.returns-in_default-clause-run
returns-in_default-clause-run c =
    let e = ap contract_start_of (c.class_at.ensures.class c.args.bytes.now) ∙ (sym c.contract_start.ensures ∙ c.in_default.is) in
    no_contract (no_opening _ e)

pub returns-in_err-items-clause-stop : goal.returns-in_err-items-clause-stop
returns-in_err-items-clause-stop c =
    let e = ap contract_start_of (c.class_at.ensures.class c.args.bytes.now) ∙ (sym c.contract_start.ensures ∙ c.in-Some.is) in
    at_err _ _ _ c.from_residual.ensures.1 (stops (to_once here (begins_contract _ _ e)) c.in_err-items.ensures.stop)

pub returns-clause-run : goal.returns-clause-run
returns-clause-run c =
    let e = ap contract_start_of (c.class_at.ensures.class c.args.bytes.now) ∙ (sym c.contract_start.ensures ∙ c.in-Some.is) in
    some_contract (begins_contract _ _ e) c.in_ok-items.ensures.run
