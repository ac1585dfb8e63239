use Rattle.std.proofs.Common.{arith, subst, sym, ◌++◌, map, take}
use Rattle.std.proofs.lemmas.List.{take_all}
use Rattle.lus_tree.specs.View.{param_view}
use Rattle.lus_streams.specs.Streams.{AreOf}
use Rattle.lus_streams.proofs.Firsts.{next_stream}
use Rattle.lus_streams.proofs.streams.add_all.Goals as goal

pub loop-stream-preserved : goal.loop-stream-preserved
loop-stream-preserved c = λ vs a.
    subst (λ zs. AreOf c.add.new.streams zs)
    (sym (next_stream param_view c.args.all.now c.loop-stream.stream-index c.stream-item.result vs (omega arith) c.stream-item.is))
    (c.in_ok-add.ensures (vs ++ map param_view (take c.loop-stream.stream-index c.args.all.now)) (c.loop-stream.invariant vs a))

pub returns : goal.returns
returns c = λ vs a.
    subst (λ ps. AreOf c.loop-stream.streams (vs ++ map param_view ps))
    (take_all c.loop-stream.stream-index c.args.all.now (omega arith)) (c.loop-stream.invariant vs a)
