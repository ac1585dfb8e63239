use Rattle.std.specs.Prelude.{ℕ, List, ◌≡◌, map}
use Rattle.std.proofs.Common.{sym, ◌∙◌}
use lib.IntN.{ℤ}
use Rattle.proof_steps.specs.View.{step_view}
use Rattle.line_laws.specs.Lines.{Part}
use Rattle.line_laws.specs.Steps.{conflict_step as conflict_move}
use Rattle.smt_solver.specs.Growing.{split_move, split_parts}
use Rattle.smt_solver.specs.Used.{used_of}
use Rattle.smt_solver.proofs.Valued.{if-ok}
use Rattle.smt_solver.proofs.numbers.turns.split_step.Goals as goal

pub returns : goal.returns
returns c =
    if-ok (λ s. (parts : List Part) → map used_of parts ≡ c.deref.result.now → step_view s ≡ conflict_move parts)
    (λ s. (x : ℕ) (z : ℤ) → step_view s ≡ split_move c.args.number x z) c.conflict_step.result
    (λ s h x z. h (split_parts c.args.number x z) (sym (c.deref.ensures.value ∙ c.in_ok-used.ensures.items)))
    c.conflict_step.ensures
