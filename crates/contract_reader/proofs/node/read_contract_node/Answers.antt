use Rattle.std.proofs.Common.{refl, ap, Some}
use Rattle.lus_reader.specs.View.{counts_view}
use Rattle.contract_reader.proofs.Leads.{at_err, behind, then, stops, stops_first}
use Rattle.contract_reader.proofs.Nodes.{behind_contract_head, into_contract_node, reads_contract_node}
use Rattle.contract_reader.proofs.node.read_contract_node.Goals as goal

pub returns-in_err-head-clause-stop : goal.returns-in_err-head-clause-stop
returns-in_err-head-clause-stop c =
    let l0 = into_contract_node _ _ _ c.requires.word in
    at_err _ _ _ c.from_residual.ensures.1 (stops l0 (c.in_err-head.ensures.stop _ behind_contract_head))

pub returns-in_err-word-clause-stop : goal.returns-in_err-word-clause-stop
returns-in_err-word-clause-stop c =
    let l0 = into_contract_node _ _ _ c.requires.word in
    let l1 = then l0 ((c.in_ok-head.ensures.run _).leads behind_contract_head) in
    at_err _ _ _ c.from_residual-in_err-word.ensures.1 (stops_first l1 (c.in_err-word.ensures.stop _))

pub returns-in_err-first-clause-stop : goal.returns-in_err-first-clause-stop
returns-in_err-first-clause-stop c =
    let l0 = into_contract_node _ _ _ c.requires.word in
    let l1 = then l0 ((c.in_ok-head.ensures.run _).leads behind_contract_head) in
    let l2 = behind l1 (c.in_ok-word.ensures.run _) in
    at_err _ _ _ c.from_residual-in_err-first.ensures.1 (stops_first l2 (c.in_err-first.ensures.stop _))

pub returns-in_err-items-clause-stop : goal.returns-in_err-items-clause-stop
returns-in_err-items-clause-stop c =
    let l0 = into_contract_node _ _ _ c.requires.word in
    let l1 = then l0 ((c.in_ok-head.ensures.run _).leads behind_contract_head) in
    let l2 = behind l1 (c.in_ok-word.ensures.run _) in
    let l3 = behind l2 (c.in_ok-first.ensures.run _) in
    at_err _ _ _ c.from_residual-in_err-items.ensures.1 (stops_first l3 c.in_err-items.ensures.stop)

pub returns-in_err-past-clause-stop : goal.returns-in_err-past-clause-stop
returns-in_err-past-clause-stop c =
    let l0 = into_contract_node _ _ _ c.requires.word in
    let l1 = then l0 ((c.in_ok-head.ensures.run _).leads behind_contract_head) in
    let l2 = behind l1 (c.in_ok-word.ensures.run _) in
    let l3 = behind l2 (c.in_ok-first.ensures.run _) in
    let l4 = behind l3 c.in_ok-items.ensures.run.run in
    at_err _ _ _ c.from_residual-in_err-past.ensures.1 (stops_first l4 (c.in_err-past.ensures.stop _))

pub returns-clause-run : goal.returns-clause-run
returns-clause-run c =
    let head = c.in_ok-head.ensures.run (counts_view c.args.counts.now) in
    let l0 = into_contract_node _ _ _ c.requires.word in
    let l1 = then l0 ((c.in_ok-head.ensures.run _).leads behind_contract_head) in
    let l2 = behind l1 (c.in_ok-word.ensures.run _) in
    let l3 = behind l2 (c.in_ok-first.ensures.run _) in
    let l4 = behind l3 c.in_ok-items.ensures.run.run in
    let l5 = behind l4 (c.in_ok-past.ensures.run _) in
    reads_contract_node _ refl refl refl refl l5 (c.past_semicolon.ensures.run c.args.bytes.now _).1 head.are_named head.are_taken
    head.are_given (ap (λ y. Some y) c.in_ok-items.ensures.run.is)
