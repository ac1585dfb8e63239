use Rattle.proof_checker.proofs.Combination.{line_is}
use Rattle.proof_checker.proofs.laws.lines_are_combinations.Goals as goal

pub returns : goal.returns
returns c = line_is
