use Rattle.lus_limits.proofs.Needed.{tried_more, tried_none}
use Rattle.lus_limits.proofs.needs.try_one.Goals as goal

pub returns-in-Some : goal.returns-in-Some
returns-in-Some c =
    tried_more c.args.names.now c.args.parts.now c.args.known.now.items c.args.number c.index-parts-number.result c.in-Some.needs c.is_known.result
    c.requires.below c.index-parts-number.is c.requires.known c.requires.parts (rw c.deref.ensures.value at c.is_known.ensures) c.if-is_known.false
    (let r = rw c.in-Some.is at c.in_ok-needs.ensures in rw c.deref-2.ensures.value at r)

pub returns-in-None : goal.returns-in-None
returns-in-None c =
    tried_none c.args.names.now c.args.parts.now c.args.known.now.items c.args.number c.index-parts-number.result
    c.requires.below c.index-parts-number.is
    (let r = rw c.in-None.is at c.in_ok-needs.ensures in rw c.deref-2.ensures.value at r)
