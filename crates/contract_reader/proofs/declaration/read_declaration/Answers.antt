use Rattle.std.proofs.Common.{ap, ◌∙◌, Some, true, false}
use Rattle.contract_reader.specs.Begin.{declaration_class}
use Rattle.contract_reader.proofs.Leads.{at_err, stops}
use Rattle.contract_reader.proofs.Declarations.{into_constant, into_node, into_contract, stops_anew, adds_constant, adds_node, adds_contract}
use Rattle.contract_reader.proofs.declaration.read_declaration.Goals as goal

pub returns-in_err-definition-in-Constant-clause-stop : goal.returns-in_err-definition-in-Constant-clause-stop
returns-in_err-definition-in-Constant-clause-stop c = at_err _ _ _ c.from_residual.ensures.1
    (λ n. stops_anew (stops (into_constant _ _ _ (c.requires.word ∙ ap (λ z. Some (declaration_class z)) c.in-Constant.is))
    c.in_err-definition-in-Constant.ensures.stop))

pub returns-in_ok-definition-in-Constant-clause-run : goal.returns-in_ok-definition-in-Constant-clause-run
returns-in_ok-definition-in-Constant-clause-run c = λ n. adds_constant
    (c.requires.word ∙ ap (λ z. Some (declaration_class z)) c.in-Constant.is) c.in_ok-definition-in-Constant.ensures.run

pub returns-in_err-node-in-Node-clause-stop : goal.returns-in_err-node-in-Node-clause-stop
returns-in_err-node-in-Node-clause-stop c = at_err _ _ _ c.from_residual-in_err-node-in-Node.ensures.1
    (λ n. stops_anew (stops (into_node _ _ _ false (c.requires.word ∙ ap (λ z. Some (declaration_class z)) c.in-Node.is))
    c.in_err-node-in-Node.ensures.stop))

pub returns-in_ok-node-in-Node-clause-run : goal.returns-in_ok-node-in-Node-clause-run
returns-in_ok-node-in-Node-clause-run c = λ n. adds_node false (c.requires.word ∙ ap (λ z. Some (declaration_class z)) c.in-Node.is)
    c.in_ok-node-in-Node.ensures.run

pub returns-in_err-node-in-Function-clause-stop : goal.returns-in_err-node-in-Function-clause-stop
returns-in_err-node-in-Function-clause-stop c = at_err _ _ _ c.from_residual-in_err-node-in-Function.ensures.1
    (λ n. stops_anew (stops (into_node _ _ _ true (c.requires.word ∙ ap (λ z. Some (declaration_class z)) c.in-Function.is))
    c.in_err-node-in-Function.ensures.stop))

pub returns-in_ok-node-in-Function-clause-run : goal.returns-in_ok-node-in-Function-clause-run
returns-in_ok-node-in-Function-clause-run c = λ n. adds_node true
    (c.requires.word ∙ ap (λ z. Some (declaration_class z)) c.in-Function.is) c.in_ok-node-in-Function.ensures.run

pub returns-in_err-contract-in-Contract-clause-stop : goal.returns-in_err-contract-in-Contract-clause-stop
returns-in_err-contract-in-Contract-clause-stop c = at_err _ _ _ c.from_residual-in_err-contract-in-Contract.ensures.1
    (λ n. stops_anew (stops (into_contract _ _ _ (c.requires.word ∙ ap (λ z. Some (declaration_class z)) c.in-Contract.is))
    c.in_err-contract-in-Contract.ensures.stop))

pub returns-in_ok-contract-in-Contract-clause-run : goal.returns-in_ok-contract-in-Contract-clause-run
returns-in_ok-contract-in-Contract-clause-run c = λ n. adds_contract
    (c.requires.word ∙ ap (λ z. Some (declaration_class z)) c.in-Contract.is) c.in_ok-contract-in-Contract.ensures.run
