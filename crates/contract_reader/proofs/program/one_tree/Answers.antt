use Rattle.contract_reader.proofs.OneTree.{one_tree}
use Rattle.contract_reader.proofs.program.one_tree.Goals as goal

pub returns : goal.returns
returns c = one_tree
