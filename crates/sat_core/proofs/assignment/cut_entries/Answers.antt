use Rattle.std.specs.Prelude.{◌<◌, length}
use Rattle.std.proofs.Common.{arith}
use Rattle.sat_core.proofs.Assigning.{fewer, fewer_taken}
use Rattle.sat_core.proofs.Decisions.{fewer_decisions}
use Rattle.sat_core.proofs.assignment.cut_entries.Goals as goal

pub loop-entries-preserved-in-Some : goal.loop-entries-preserved-in-Some
loop-entries-preserved-in-Some c =
    let k = fewer _ _ c.loop-entries.entries.items c.pop.new.self.items c.in-Some.entry c.in-Some.ensures.items c.loop-entries.invariant.0
    c.loop-entries.invariant.1
    c.mark.ensures in
    let h : c.args.length < length c.loop-entries.entries.items = omega arith in (
      k.0,
      k.1,
      fewer_decisions c.loop-entries.entries.items c.pop.new.self.items c.in-Some.entry c.loop-entries.decisions.items
          c.pop_if.new.decisions.items c.in-Some.ensures.items c.loop-entries.invariant.2 c.pop_if.ensures,
      fewer_taken c.args.length c.args.entries.now.items c.loop-entries.entries.items c.pop.new.self.items c.in-Some.entry
          c.in-Some.ensures.items h c.loop-entries.invariant.3,
    )
