use Rattle.proof_checker.specs.Check.{atoms_fit}
use Rattle.std.proofs.Common.{length}
use Rattle.proof_checker.proofs.VerdictSound.{theory-holds}
use Rattle.proof_checker.proofs.laws.theory_steps_hold.Goals as goal

pub returns : goal.returns
returns c = λ shapes atoms known clause lines v e. theory-holds atoms v clause lines (atoms_fit (length atoms) clause) e
