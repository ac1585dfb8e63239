use Rattle.proof_checker.proofs.Sound.{derived-sound}
use Rattle.proof_checker.proofs.Sets.{are_met_meets}
use Rattle.proof_checker.proofs.laws.derived_steps_follow.Goals as goal

pub returns : goal.returns
returns c = λ atoms known clause hints v m s. derived-sound atoms v known clause hints s (are_met_meets known clause hints m)
