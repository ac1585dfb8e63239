use Rattle.proof_checker.proofs.VerdictSound.{verdict_sound}
use Rattle.proof_checker.proofs.Firsts.{right_refuted}
use Rattle.proof_checker.proofs.laws.refutations_leave_no_values.Goals as goal

pub returns : goal.returns
returns c = λ shapes atoms clauses more moves w e.
    verdict_sound shapes atoms clauses more moves (right_refuted shapes atoms clauses more moves (w, e))
