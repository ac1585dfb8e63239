use Rattle.path_laws.proofs.Main.{each_is_well_typed}
use Rattle.path_laws.proofs.laws.each_is_well_typed.Goals as goal

pub returns : goal.returns
returns c = each_is_well_typed
