use Rattle.sys_places.proofs.Numbers.{stands_at_root}
use Rattle.sys_places.proofs.laws.stands_at_root.Goals as goal

pub returns : goal.returns
returns c = stands_at_root
