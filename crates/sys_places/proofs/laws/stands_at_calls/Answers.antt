use Rattle.sys_places.proofs.Calls.{stands_at_calls, stands_at_each_call}
use Rattle.sys_places.proofs.laws.stands_at_calls.Goals as goal

pub returns-clause-all : goal.returns-clause-all
returns-clause-all c = stands_at_calls

pub returns-clause-each : goal.returns-clause-each
returns-clause-each c = stands_at_each_call
