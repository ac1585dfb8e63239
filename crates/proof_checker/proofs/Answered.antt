-- The answer that is the verdict, in words.
use Rattle.std.specs.Prelude.{ℕ, ◌≡◌, List, Result, Ok, Err, IfOk}
use Rattle.std.proofs.Common.{sym, ap, refl, ◌∙◌}
use Rattle.kind_num.specs.declared.Shape.{Shape}
use Rattle.proof_steps.specs.declared.Literal.{Literal}
use Rattle.proof_steps.specs.View.{Inequality, Refutation}
use Rattle.proof_checker.specs.declared.rule.Rule.{Rule}
use Rattle.proof_checker.specs.declared.refute.Fault.{Fault}
use Rattle.proof_checker.specs.declared.refute.Fault.TheVariants.{Step, Open, Memory}
use Rattle.proof_checker.specs.declared.refute.Refuted.{Refuted}
use Rattle.proof_checker.specs.Check.{Verdict, refuted, broken, unfinished, verdict}
use Rattle.proof_checker.specs.Fault.{Answers, IsFault, IsAnswer}
use Rattle.proof_steps.specs.Meaning.{HaveNoSolution}
use Rattle.proof_checker.proofs.VerdictSound.{verdict_sound}
use Rattle.proof_checker.proofs.Firsts.{broken_first, refuted_right, unfinished_right}

module _ (shapes : List Shape) (atoms : List Inequality) (clauses : List (List Literal)) (proof : Refutation) where
  step-answer : (v : Verdict) (n : ℕ) (rule : Rule) → verdict shapes atoms clauses proof.atoms proof.moves ≡ v → IsFault (Step n rule) v
      → IsAnswer shapes atoms clauses proof (Err (Step n rule))
  step-answer refuted n rule e h = absurd h
  step-answer unfinished n rule e h = absurd h
  step-answer (broken m other) n rule e (p, q) =
      (m, p, broken_first shapes atoms clauses proof.atoms proof.moves m rule (e ∙ ap (broken m) (sym q)))

  pub answer_is : (r : Result Refuted Fault) → Answers (verdict shapes atoms clauses proof.atoms proof.moves) r → IsAnswer shapes atoms clauses proof r
  answer_is (Ok u) h = refuted_right shapes atoms clauses proof.atoms proof.moves h
  answer_is (Err (Step n rule)) h = step-answer (verdict shapes atoms clauses proof.atoms proof.moves) n rule refl h
  answer_is (Err Open) h = unfinished_right shapes atoms clauses proof.atoms proof.moves h
  answer_is (Err Memory) h = tt

  pub answer_sound : (r : Result Refuted Fault) → Answers (verdict shapes atoms clauses proof.atoms proof.moves) r → IfOk r (λ _. HaveNoSolution atoms clauses)
  answer_sound (Ok u) h = verdict_sound shapes atoms clauses proof.atoms proof.moves h
  answer_sound (Err f) h = tt
