use Rattle.std.specs.Int.{w128}
use Rattle.std.specs.Prelude.{false, List, [], ◌∷◌, ◌++◌, ◌+◌, get_or}
use Rattle.std.proofs.Common.{rules, sym, ap, ◌∙◌}
use Rattle.std.proofs.lemmas.Int.{to_z-of_z}
use mir.Val.{SFits}
use lib.IntN.{ℤ, pos}
use Rattle.proof_steps.specs.declared.Source.{Source}
use Rattle.proof_steps.specs.declared.Source.TheVariants as s
use Rattle.smt_solver.specs.declared.numbers.steps.Used.{Used}
use Rattle.smt_solver.proofs.Used.{parts-more}
use Rattle.smt_solver.proofs.numbers.steps.sum_line.Goals as goal

pub loop-i-preserved : goal.loop-i-preserved
loop-i-preserved c =
    let d : Used = record { multiplier = pos 0; atom = 0; sign = false; divisor = pos 0 } in
    let f : SFits w128 (get_or c.args.used.now c.loop-i.i d).multiplier = search rules in
    let p = simp to_z-of_z at c.in_ok-push.ensures.items in
    p
    ∙ ap (λ (ps : List (ℤ × Source)). ps ++ ((get_or c.args.used.now c.loop-i.i d).multiplier, s.Line (c.loop-i.i + 1)) ∷ []) c.loop-i.invariant
    ∙ sym (parts-more c.loop-i.i c.args.used.now d c.loop-i-test.true)
