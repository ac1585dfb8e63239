use Rattle.std.specs.Int.{w128}
use Rattle.std.proofs.Common.{rules, sym, ap, ◌∙◌}
use Rattle.std.proofs.lemmas.Int.{to_z-of_z}
use mir.Val.{SFits}
use Rattle.smt_solver.specs.Shares.{factor_at}
use Rattle.smt_solver.proofs.numbers.sums.factor_of.Goals as goal

pub returns-in-Some : goal.returns-in-Some
returns-in-Some c =
    let f : SFits w128 c.factor.result = search rules in
    to_z-of_z w128 c.factor.result f ∙ c.factor.ensures ∙ sym (ap (λ o. factor_at o c.args.x) c.in-Some.ensures)
