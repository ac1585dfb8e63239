use Rattle.boolean_laws.proofs.Trees.{each_has_none}
use Rattle.boolean_laws.proofs.laws.each_has_none.Goals as goal

pub returns : goal.returns
returns c = each_has_none
