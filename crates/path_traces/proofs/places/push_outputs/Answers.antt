use Rattle.std.proofs.Common.{arith}
use Rattle.path_traces.proofs.Placed.{outputs_done}
use Rattle.path_traces.proofs.places.push_outputs.Goals as goal

pub returns : goal.returns
returns c =
    let end = c.min-index-end.ensures in
    let past = c.loop-index-test.false in
    outputs_done _ _ c.args.path.now c.args.outputs.now c.loop-index.index c.args.defaults (omega (arith, end, past)) c.loop-index.invariant
