use Rattle.line_laws.proofs.Followed.{followed}
use Rattle.line_laws.proofs.laws.following_atoms_give_steps.Goals as goal

pub returns : goal.returns
returns c = followed
