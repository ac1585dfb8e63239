use Rattle.sat_core.proofs.Marking.{tied_more}
use Rattle.sat_core.proofs.set.LiteralSet.add.Goals as goal

pub invariant_of-self-2 : goal.invariant_of-self-2
invariant_of-self-2 c = tied_more _ _ _ _ _ c.args.literal c.self.invariant c.in_ok-widen.ensures.widened c.in_ok-widen.ensures.ok
    c.mark.ensures c.in_ok-push.ensures.items
