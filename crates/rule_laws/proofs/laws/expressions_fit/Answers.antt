use Rattle.rule_laws.proofs.ConstantsTyped.{constants_typed}
use Rattle.rule_laws.proofs.Goods.{expressions_fit}
use Rattle.rule_laws.proofs.laws.expressions_fit.Goals as goal

pub returns-clause-parts : goal.returns-clause-parts
returns-clause-parts c = expressions_fit

pub returns-clause-constants : goal.returns-clause-constants
returns-clause-constants c = constants_typed
