use Rattle.std.specs.Int.{w128}
use Rattle.std.specs.Prelude.{false, [], ◌∷◌, ◌++◌, map, take, get_or}
use Rattle.std.proofs.Common.{rules, sym, ap, ◌∙◌}
use Rattle.std.proofs.lemmas.Int.{to_z-of_z}
use Rattle.std.proofs.lemmas.List.{map-append}
use mir.Val.{SFits}
use lib.IntN.{pos}
use Rattle.proof_steps.specs.View.{line_view}
use Rattle.smt_solver.specs.declared.numbers.steps.Used.{Used}
use Rattle.smt_solver.specs.Used.{own_lines_by}
use Rattle.smt_solver.proofs.Used.{lines-more}
use Rattle.smt_solver.proofs.numbers.steps.own_lines.Goals as goal

pub loop-i-preserved : goal.loop-i-preserved
loop-i-preserved c =
    let d : Used = record { multiplier = pos 0; atom = 0; sign = false; divisor = pos 0 } in
    let f : SFits w128 (get_or c.args.used.now c.loop-i.i d).divisor = search rules in
    let p = simp to_z-of_z at c.in_ok-own_line.ensures in
    ap (map line_view) c.in_ok-push.ensures.items
    ∙ map-append line_view c.loop-i.lines.items (c.in_ok-own_line.field-0 ∷ [])
    ∙ ap (λ ls. ls ++ line_view c.in_ok-own_line.field-0 ∷ []) c.loop-i.invariant
    ∙ ap (λ l. own_lines_by 1 (take c.loop-i.i c.args.used.now) ++ l ∷ []) p
    ∙ sym (lines-more c.loop-i.i c.args.used.now d c.loop-i-test.true)
