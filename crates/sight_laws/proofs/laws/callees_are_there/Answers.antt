use Rattle.sight_laws.proofs.There.{callees_are_there, callees_stand}
use Rattle.sight_laws.proofs.laws.callees_are_there.Goals as goal

pub returns-clause-stand : goal.returns-clause-stand
returns-clause-stand c = callees_stand

pub returns-clause-there : goal.returns-clause-there
returns-clause-there c = callees_are_there
