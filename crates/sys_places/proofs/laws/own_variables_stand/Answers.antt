use Rattle.sys_places.proofs.Own.{own_stands}
use Rattle.sys_places.proofs.laws.own_variables_stand.Goals as goal

pub returns : goal.returns
returns c = own_stands
