use Rattle.std.proofs.Common.{◌≡◌, ◌+◌, suc, arith}
use Rattle.sys_terms.specs.View.{state_view}
use Rattle.path_traces.proofs.Bare.{firsts_on}
use Rattle.path_traces.proofs.lines.push_firsts.Goals as goal

pub loop-index-preserved : goal.loop-index-preserved
loop-index-preserved c =
    let q : c.loop-index.index + 1 ≡ suc c.loop-index.index = omega arith in
    firsts_on c.loop-index.lines.items c.push.new.self.items c.in_ok-first_line.field-0 _ c.args.path.now (state_view c.args.first.now) c.args.variable
    c.loop-index.index (c.loop-index.index + 1) c.args.count q c.loop-index-test.true c.in_ok-push.ensures.items
    c.loop-index.invariant c.in_ok-first_line.ensures
