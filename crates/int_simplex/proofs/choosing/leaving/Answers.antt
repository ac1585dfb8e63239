use Rattle.std.specs.Prelude.{◌≡◌, ℕ, length, None}
use Rattle.std.proofs.Common.{subst, get_or, arith}
use Rattle.std.proofs.lemmas.Option.{slice_get-get_or}
use lib.IntN.{pos}
use Rattle.int_simplex.specs.Choosing.{IsLeavingOf}
use Rattle.int_simplex.proofs.Choices.{sooner_more, limit-is}
use Rattle.int_simplex.proofs.choosing.leaving.Goals as goal

pub loop-at-preserved : goal.loop-at-preserved
loop-at-preserved c =
    let b = c.requires.in_range c.loop-at.at 0 c.loop-at-test.true in
    let l = c.requires.lowers in let u = c.requires.uppers in
    sooner_more c.args.basis.now c.args.values.now c.args.lowers.now c.args.uppers.now c.loop-at.at
    (get_or c.args.basis.now c.loop-at.at 0) c.loop-at.best c.sooner-best.result
    (get_or c.args.values.now (get_or c.args.basis.now c.loop-at.at 0) (pos 0, pos 0)) _ _
    (slice_get-get_or c.args.basis.now c.loop-at.at 0 c.loop-at-test.true)
    (slice_get-get_or c.args.values.now (get_or c.args.basis.now c.loop-at.at 0) (pos 0, pos 0) b)
    (limit-is c.args.lowers.now (get_or c.args.basis.now c.loop-at.at 0) None (omega arith))
    (limit-is c.args.uppers.now (get_or c.args.basis.now c.loop-at.at 0) None (omega arith))
    c.sooner-best.ensures c.loop-at.invariant

pub returns : goal.returns
returns c =
    let e : c.loop-at.at ≡ length c.args.basis.now = (let a = c.loop-at.auto.at-end in let b = c.loop-at-test.false in omega arith) in
    subst (λ (n : ℕ). IsLeavingOf c.args.basis.now c.args.values.now c.args.lowers.now c.args.uppers.now n c.loop-at.best) e c.loop-at.invariant
