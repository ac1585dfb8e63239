use Rattle.std.proofs.Common.{rules}
use Rattle.evaluation_parts.proofs.ContractItems.{mode_is}
use Rattle.evaluation_parts.proofs.contracts.own_mode.Goals as goal

pub returns : goal.returns
returns c = mode_is _ _ _ _ _ _ _ _ (search rules) (λ ns. search rules) (search rules) (search rules)
