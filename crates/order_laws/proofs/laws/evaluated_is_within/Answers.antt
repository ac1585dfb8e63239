use Rattle.order_laws.proofs.NoneOutside.{given_names_are_within, arguments_are_within, conditions_are_within, remembered_operands_are_within}
use Rattle.order_laws.proofs.laws.evaluated_is_within.Goals as goal

pub returns-clause-given : goal.returns-clause-given
returns-clause-given c = given_names_are_within

pub returns-clause-remembered : goal.returns-clause-remembered
returns-clause-remembered c = remembered_operands_are_within

pub returns-clause-arguments : goal.returns-clause-arguments
returns-clause-arguments c = arguments_are_within

pub returns-clause-conditions : goal.returns-clause-conditions
returns-clause-conditions c = conditions_are_within
