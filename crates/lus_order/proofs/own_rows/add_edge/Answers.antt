use Rattle.std.proofs.Common.{arith}
use Rattle.lus_order.proofs.OwnEdges.{edge_added}
use Rattle.lus_order.proofs.own_rows.add_edge.Goals as goal

pub returns-in_ok-push : goal.returns-in_ok-push
returns-in_ok-push c = edge_added c.args.graph.now.rows.items c.args.number c.args.to c.index_mut-row.result.now c.push.new.self (omega arith)
    c.index_mut-row.ensures.value c.in_ok-push.ensures.items
