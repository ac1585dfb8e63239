use Rattle.lus_tree.specs.View.{node_view}
use Rattle.lus_checked.specs.Program.{main_of, tree_of}
use Rattle.kind_main.proofs.Answering.{stop_as, handed_on, held_source}
use Rattle.kind_main.proofs.Proofs.{analysed_main, proof_of_bad_source, proof_done}
use Rattle.kind_main.proofs.proving.prove_file.Goals as goal

pub returns-in_err-checked-clause-ended : goal.returns-in_err-checked-clause-ended
returns-in_err-checked-clause-ended g c =
    let held = c.in_ok-bytes.ensures.fetched in
    let stopped = rw c.deref.ensures.value at c.in_err-checked.ensures in
    handed_on _ _ _ c.from_residual-in_err-checked.ensures.1
    (stop_as _ _ (proof_of_bad_source c.args.options (g.H.Shelf.told c.args.shelf.now) _ _ c.args.source.now c.in_ok-bytes.bytes.items held.0 held.1) _ stopped)

pub proof_report-requires-clause-analysed : goal.proof_report-requires-clause-analysed
proof_report-requires-clause-analysed g c =
    let read = rw c.deref.ensures.value at c.in_ok-checked.ensures in
    let same = c.program-program.ensures.same in
    rw same (analysed_main c.identified_sources.ensures c.in_ok-bytes.bytes.items (tree_of c.in_ok-checked.checked) read.0 read.1
    (main_of c.in_ok-checked.checked) (node_view c.main_node-node.result.now) c.main_node-node.ensures)

pub returns-clause-ended : goal.returns-clause-ended
returns-clause-ended g c =
    let held = c.in_ok-bytes.ensures.fetched in
    let read = rw c.deref.ensures.value at c.in_ok-checked.ensures in
    let same = c.program-program.ensures.same in
    proof_done c.args.options (g.H.Shelf.told c.args.shelf.now) (g.H.Shelf.faults c.args.shelf.now) (g.H.Shelf.faults c.fetch.new.shelf) c.args.source.now
    (tree_of c.in_ok-checked.checked)
    (held_source _ (tree_of c.in_ok-checked.checked) c.in_ok-bytes.bytes.items held.0 held.1 read.0 read.1)
    (main_of c.in_ok-checked.checked) read.2 (node_view c.main_node-node.result.now) c.main_node-node.ensures
    _ _ (rw same at c.in_ok-proof_report.ensures)
