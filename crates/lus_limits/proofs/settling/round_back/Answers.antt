use Rattle.std.proofs.Common.{arith, ◌-◌, length, map, ◌∙◌}
use Rattle.lus_streams.specs.Owner.{owner_view}
use Rattle.lus_limits.proofs.Settled.{tried_next}
use Rattle.lus_limits.proofs.settling.round_back.Goals as goal

pub loop-left-preserved : goal.loop-left-preserved
loop-left-preserved c = record {
  below = omega (arith, c.loop-left.invariant.below);
  known = c.in_ok-one.ensures.many ∙ c.loop-left.invariant.known;
  tried = tried_next c.args.names.now (map owner_view c.args.parts.now) c.args.known.now.items c.loop-left.known.items c.try_one.new.known.items
      c.loop-left.left (c.loop-left.left - 1) (length c.args.parts.now) c.loop-left.more c.in_ok-one.one (omega (arith, c.loop-left-test.true))
      c.if-more.false c.loop-left.invariant.tried c.in_ok-one.ensures;
}
