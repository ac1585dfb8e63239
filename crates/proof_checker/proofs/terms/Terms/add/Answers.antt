use Rattle.std.specs.Prelude.{◌≡◌}
use Rattle.std.specs.Int.{w128}
use mir.Val.{SFits}
use Rattle.std.proofs.lemmas.Int.{to_z-of_z}
use Rattle.proof_checker.specs.Theory.{plus}
use Rattle.proof_checker.proofs.Slots.{slots_more}
use Rattle.proof_checker.proofs.terms.Terms.add.Goals as goal

pub invariant_of-self-2 : goal.invariant_of-self-2
invariant_of-self-2 c =
    let f : SFits w128 c.args.more = c.ranges.more in
    let s = simp to_z-of_z at c.in_ok-slot.ensures.sum in
    let e : c.write_term.new.terms.items ≡ plus c.self.inside.items.items c.args.number c.args.more = cc in
    slots_more _ _ _ _ c.args.number c.args.more _ c.self.invariant c.in_ok-slot.ensures.slot e c.set_slot.ensures
