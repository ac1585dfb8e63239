use Rattle.std.proofs.Common.{arith, [], ◌∷◌, ◌≡◌, ◌<◌, length, map, ap, ◌∙◌}
use Rattle.lus_tree.specs.View.{program_view}
use Rattle.lus_meaning.specs.ClockFaults.{components}
use Rattle.lus_meaning.proofs.Lists.{map_append}
use Rattle.lus_streams.specs.Owner.{owner_view}
use Rattle.lus_limits.specs.Framed.{frame_of, frame_view}
use Rattle.lus_limits.proofs.Needed.{many_mapped}
use Rattle.lus_limits.proofs.SystemSizes.{one_more}
use Rattle.lus_limits.proofs.framed.all_framed.Goals as goal

pub loop-number-preserved : goal.loop-number-preserved
loop-number-preserved c =
    let m : length (map owner_view c.args.table.now.parts.items) ≡ length c.args.table.now.parts.items =
    many_mapped owner_view c.args.table.now.parts.items in
    let l : c.loop-number.number < length (components (program_view c.args.program.now)) =
    omega (arith, c.loop-number-test.true, c.len-number-end.ensures, m, ap length c.requires.known.parts) in
    one_more (frame_of (program_view c.args.program.now)) (components (program_view c.args.program.now)) c.loop-number.number
    (map frame_view c.loop-number.frames.items) (map frame_view c.push.new.self.items) (frame_view c.in_ok-framed.field-0)
    (map (frame_of (program_view c.args.program.now)) (components (program_view c.args.program.now))) l c.in_ok-framed.ensures
    (ap (map frame_view) c.in_ok-push.ensures.items ∙ map_append frame_view c.loop-number.frames.items (c.in_ok-framed.field-0 ∷ []))
    c.loop-number.invariant
