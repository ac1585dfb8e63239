use Rattle.sys_places.proofs.Held.{call_variables_stand, each_call_variables_stand, others_are_missing}
use Rattle.sys_places.proofs.laws.call_variables_stand.Goals as goal

pub returns-clause-all : goal.returns-clause-all
returns-clause-all c = call_variables_stand

pub returns-clause-each : goal.returns-clause-each
returns-clause-each c = each_call_variables_stand

pub returns-clause-others : goal.returns-clause-others
returns-clause-others c = others_are_missing
