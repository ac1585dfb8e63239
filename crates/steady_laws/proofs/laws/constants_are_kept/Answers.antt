use Rattle.steady_laws.proofs.Constants.{outer_constants_are_kept, own_constants_are_kept, constants_are_kept, constants_are_small}
use Rattle.steady_laws.proofs.Declarations.{constants_of_instances}
use Rattle.steady_laws.proofs.laws.constants_are_kept.Goals as goal

pub returns-clause-outer : goal.returns-clause-outer
returns-clause-outer c = outer_constants_are_kept

pub returns-clause-constants : goal.returns-clause-constants
returns-clause-constants c = constants_are_kept

pub returns-clause-small : goal.returns-clause-small
returns-clause-small c = constants_are_small

pub returns-clause-instances : goal.returns-clause-instances
returns-clause-instances c = constants_of_instances

pub returns-clause-own : goal.returns-clause-own
returns-clause-own c = own_constants_are_kept
