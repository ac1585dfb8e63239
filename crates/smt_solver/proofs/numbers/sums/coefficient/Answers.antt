use Rattle.std.specs.Int.{w128}
use Rattle.std.specs.Prelude.{get_or, refl}
use Rattle.std.proofs.Common.{rules, sym, ◌∙◌}
use Rattle.std.proofs.lemmas.Int.{to_z-of_z}
use mir.Val.{SFits}
use lib.IntN.{pos}
use Rattle.line_laws.proofs.Fitting.{in-order-differ}
use Rattle.smt_solver.proofs.Shares.{front-entry}
use Rattle.smt_solver.proofs.numbers.sums.coefficient.Goals as goal

pub loop-y-init : goal.loop-y-init
loop-y-init c = (refl, in-order-differ c.args.terms.now c.requires)

pub returns-then-y-x : goal.returns-then-y-x
returns-then-y-x c =
    let f : SFits w128 (get_or c.args.terms.now c.loop-y.y-index (0, pos 0)).1 = search rules in
    to_z-of_z w128 (get_or c.args.terms.now c.loop-y.y-index (0, pos 0)).1 f
    ∙ sym (front-entry c.loop-y.y-index c.args.terms.now c.args.x (0, pos 0) c.loop-y-test.true c.loop-y.invariant.1 c.if-y-x.true)
    ∙ c.loop-y.invariant.0
