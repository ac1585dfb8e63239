use Rattle.std.specs.Prelude.{[], ◌∷◌, ◌++◌, map}
use Rattle.std.proofs.Common.{ap, ◌∙◌}
use Rattle.std.proofs.lemmas.List.{map-append}
use Rattle.proof_steps.specs.View.{theory, line_view}
use Rattle.smt_solver.specs.Used.{denied_by, own_lines_by}
use Rattle.smt_solver.proofs.numbers.steps.refuting_step.Goals as goal

pub returns : goal.returns
returns c =
    ap (λ c2. theory c2 (map line_view c.push.new.self.items)) c.in_ok-clause.ensures
    ∙ ap (theory (map denied_by c.args.used.now))
    (ap (map line_view) c.in_ok-push.ensures.items
    ∙ map-append line_view c.in_ok-lines.lines.items (c.in_ok-sum_line.field-0 ∷ [])
    ∙ ap (λ ls. ls ++ line_view c.in_ok-sum_line.field-0 ∷ []) c.in_ok-lines.ensures
    ∙ ap (λ l. own_lines_by 1 c.args.used.now ++ l ∷ []) c.in_ok-sum_line.ensures)
