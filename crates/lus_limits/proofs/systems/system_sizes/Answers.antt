use Rattle.std.proofs.Common.{arith, ◌≡◌, ◌<◌, length, map, ap}
use Rattle.lus_tree.specs.View.{program_view}
use Rattle.lus_meaning.specs.ClockFaults.{components}
use Rattle.lus_streams.specs.Owner.{owner_view}
use Rattle.lus_limits.specs.SystemSizes.{system_size}
use Rattle.lus_limits.proofs.Needed.{many_mapped}
use Rattle.lus_limits.proofs.SystemSizes.{one_more}
use Rattle.lus_limits.proofs.systems.system_sizes.Goals as goal

pub loop-number-preserved : goal.loop-number-preserved
loop-number-preserved c =
    let m : length (map owner_view c.in_ok-table.table.parts.items) ≡ length c.in_ok-table.table.parts.items =
    many_mapped owner_view c.in_ok-table.table.parts.items in
    let l : c.loop-number.number < length (components (program_view c.args.program.now)) =
    omega (arith, c.loop-number-test.true, c.len-number-end.ensures, m, ap length c.in_ok-table.ensures.parts) in
    one_more (system_size (program_view c.args.program.now)) (components (program_view c.args.program.now)) c.loop-number.number
    c.loop-number.sizes.items c.push.new.self.items c.in_ok-system_size.field-0
    (map (system_size (program_view c.args.program.now)) (components (program_view c.args.program.now))) l c.in_ok-system_size.ensures
    c.in_ok-push.ensures.items c.loop-number.invariant
