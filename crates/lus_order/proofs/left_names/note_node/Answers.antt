use Rattle.lus_tree.specs.View.{node_view}
use Rattle.lus_scopes.specs.Least.{least_view}
use Rattle.lus_order.specs.Names.{words_view}
use Rattle.lus_order.proofs.LeftFaults.{node_noted}
use Rattle.lus_order.proofs.left_names.note_node.Goals as goal

pub returns : goal.returns
returns c = node_noted (node_view c.args.node.now) c.in_ok-table.table (words_view c.in_ok-lefts.lefts.items) (least_view c.args.least.now)
    (least_view c.words_twice.new.least) (least_view c.note_outside.new.least) c.in_ok-lefts.ensures c.in_ok-table.ensures
    (rw c.deref.ensures.value at c.in_ok-words_twice.ensures) (rw c.deref-2.ensures.value at c.note_outside.ensures)
