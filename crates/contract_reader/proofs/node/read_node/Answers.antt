use Rattle.lus_reader.specs.View.{counts_view}
use Rattle.contract_reader.proofs.Leads.{at_err, behind, then, stops, stops_first}
use Rattle.contract_reader.proofs.Nodes.{behind_head, into_node, reads_node}
use Rattle.contract_reader.proofs.node.read_node.Goals as goal

pub returns-in_err-head-clause-stop : goal.returns-in_err-head-clause-stop
returns-in_err-head-clause-stop c =
    let l0 = into_node _ _ _ _ c.requires.word in
    at_err _ _ _ c.from_residual.ensures.1 (stops l0 (c.in_err-head.ensures.stop _ behind_head))

pub returns-in_err-contract-clause-stop : goal.returns-in_err-contract-clause-stop
returns-in_err-contract-clause-stop c =
    let l0 = into_node _ _ _ _ c.requires.word in
    let l1 = then l0 ((c.in_ok-head.ensures.run _).leads behind_head) in
    let l2 = behind l1 (c.past_semicolon-begin.ensures.run c.args.bytes.now _).1 in
    at_err _ _ _ c.from_residual-in_err-contract.ensures.1 (stops_first l2 c.in_err-contract.ensures.stop)

pub returns-in_err-locals-clause-stop : goal.returns-in_err-locals-clause-stop
returns-in_err-locals-clause-stop c =
    let l0 = into_node _ _ _ _ c.requires.word in
    let l1 = then l0 ((c.in_ok-head.ensures.run _).leads behind_head) in
    let l2 = behind l1 (c.past_semicolon-begin.ensures.run c.args.bytes.now _).1 in
    let l3 = behind l2 c.in_ok-contract.ensures.run.run in
    at_err _ _ _ c.from_residual-in_err-locals.ensures.1 (stops_first l3 c.in_err-locals.ensures.stop)

pub returns-in_err-items-clause-stop : goal.returns-in_err-items-clause-stop
returns-in_err-items-clause-stop c =
    let l0 = into_node _ _ _ _ c.requires.word in
    let l1 = then l0 ((c.in_ok-head.ensures.run _).leads behind_head) in
    let l2 = behind l1 (c.past_semicolon-begin.ensures.run c.args.bytes.now _).1 in
    let l3 = behind l2 c.in_ok-contract.ensures.run.run in
    let l4 = behind l3 c.in_ok-locals.ensures.run.run in
    at_err _ _ _ c.from_residual-in_err-items.ensures.1 (stops l4 c.in_err-items.ensures.stop)

pub returns-clause-run : goal.returns-clause-run
returns-clause-run c =
    let head = c.in_ok-head.ensures.run (counts_view c.args.counts.now) in
    let l0 = into_node _ _ _ _ c.requires.word in
    let l1 = then l0 ((c.in_ok-head.ensures.run _).leads behind_head) in
    let l2 = behind l1 (c.past_semicolon-begin.ensures.run c.args.bytes.now _).1 in
    let l3 = behind l2 c.in_ok-contract.ensures.run.run in
    let l4 = behind l3 c.in_ok-locals.ensures.run.run in
    reads_node _ c.requires.word l4 head.are_named head.are_taken head.are_given c.in_ok-contract.ensures.run.is
    c.in_ok-locals.ensures.run.is c.in_ok-items.ensures.run
