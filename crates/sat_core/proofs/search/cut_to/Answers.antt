use Rattle.std.specs.Prelude.{◌≡◌, ◌<◌, length}
use Rattle.std.proofs.Common.{ap, arith}
use Rattle.sat_core.proofs.Waits.{ready_then}
use Rattle.sat_core.proofs.search.cut_to.Goals as goal

pub returns-then-back-entries-clause-ready : goal.returns-then-back-entries-clause-ready
returns-then-back-entries-clause-ready c = λ known w r.
    let l : length c.entries.result.now ≡ length c.args.assignment.now = ap length c.entries.ensures.entries in
    let h : c.args.back < length c.args.assignment.now = omega arith in
    ready_then known c.args.assignment.now c.cut.new.self w c.args.head.now c.args.back c.args.waiting.now.items c.clear.new.self.items
    c.args.stuck.now c.requires.decided h c.cut.ensures c.clear.ensures.items r
