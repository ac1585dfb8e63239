use Rattle.bland_laws.proofs.Begun.{premises_pass_on}
use Rattle.bland_laws.proofs.laws.premises_pass_on.Goals as goal

pub returns : goal.returns
returns c = premises_pass_on
