use Rattle.std.specs.Int.{w128}
use Rattle.std.specs.Prelude.{Err}
use Rattle.std.proofs.Common.{rules, sym, subst}
use Rattle.std.proofs.lemmas.Int.{to_z-of_z}
use mir.Val.{SFits}
use Rattle.int_simplex.specs.Answers.{IsAsserted, a_bound}
use Rattle.smt_solver.proofs.Meant.{crossed-as}
use Rattle.smt_solver.proofs.numbers.asserting.assert_atom.Goals as goal

pub returns-in-Some-bound : goal.returns-in-Some-bound
returns-in-Some-bound c =
    let f : SFits w128 c.signed-upper.result.1 = search rules in
    crossed-as c.args.search.now.trail c.args.tableau.now c.assert_bound.new.self c.args.number c.args.meaning c.in-Some.sign
    c.signed-upper.result.0 c.signed-upper.result.1 c.in-Err-Crosses.field-0-0
    c.in-Err-Crosses.field-0 (c.in-Some-bound.field-0-0, c.in-Some-bound.first)
    (sym c.in-Some.ensures) c.signed-upper.ensures.side c.signed-upper.ensures.limit c.in-Err-Crosses.field-0-is
    (subst (λ z. IsAsserted c.args.tableau.now c.assert_bound.new.self
    (a_bound c.args.meaning.column c.signed-upper.result.0 z c.args.number) (Err c.in-Err-Crosses.field-0))
    (to_z-of_z w128 c.signed-upper.result.1 f) c.in-Err-Crosses.ensures)
    (sym c.in-Some-bound.ensures)
