use Rattle.number_graphs.specs.Graphs.{graph_view}
use Rattle.lus_order.specs.Library.{texts_seen}
use Rattle.lus_order.proofs.MarkedNames.{marks_found}
use Rattle.lus_order.proofs.found.found_names.Goals as goal

pub returns-clause-found : goal.returns-clause-found
returns-clause-found c = marks_found (graph_view c.args.graph.now) c.args.names.now c.args.row.items c.in_ok-marks.marks.items
    (texts_seen c.args.inputs.now) (texts_seen c.args.outputs.now) c.new-table.result c.add_marked.new.table c.add_marked-2.new.table
    c.in_ok-marks.ensures.reached c.requires c.new-table.ensures (rw c.deref.ensures.value at c.in_ok-add_marked.ensures)
    (rw c.deref-2.ensures.value at c.in_ok-add_marked-2.ensures)
