use Rattle.proof_checker.proofs.Sets.{meets_are_met, are_met_meets}
use Rattle.proof_checker.proofs.laws.hints_that_are_met.Goals as goal

pub returns : goal.returns
returns c = λ known set hints. (meets_are_met known set hints, are_met_meets known set hints)
