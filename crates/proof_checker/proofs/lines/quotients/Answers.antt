use Rattle.std.specs.Prelude.{◌≡◌, ◌++◌, [], drop}
use Rattle.std.proofs.Common.{sym, ◌∙◌, ap, arith}
use Rattle.std.specs.Int.{w128}
use mir.Val.{SFits}
use Rattle.std.proofs.lemmas.Int.{to_z-of_z}
use Rattle.std.proofs.lemmas.List.{drop_all}
use Rattle.proof_checker.specs.Theory.{quotients as quotients_of}
use Rattle.proof_checker.proofs.Folds.{quotients_more, append-nil}
use Rattle.proof_checker.proofs.lines.quotients.Goals as goal

pub loop-term-preserved : goal.loop-term-preserved
loop-term-preserved c =
    quotients_more _ _ _ c.args.terms.now c.loop-term.term-index _ c.loop-term-test.true c.in_ok-push_quotient.ensures
    ∙ c.loop-term.invariant

pub returns : goal.returns
returns c =
    let f : SFits w128 c.args.d = c.ranges.d in
    let e : drop c.loop-term.term-index c.args.terms.now ≡ [] = drop_all c.loop-term.term-index c.args.terms.now (omega arith) in
    let i = simp to_z-of_z at c.loop-term.invariant in
    sym (append-nil c.loop-term.out.items) ∙ ap (λ z. c.loop-term.out.items ++ quotients_of c.args.d z) (sym e) ∙ i
