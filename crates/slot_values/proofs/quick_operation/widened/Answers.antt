use Rattle.std.proofs.Common.{rules}
use Rattle.std.proofs.lemmas.Int.{to_z-of_z}
use Rattle.std.specs.Int.{w128}
use mir.Val.{SFits}
use Rattle.kind_num.proofs.Within.{within-fits}
use Rattle.slot_values.proofs.quick_operation.widened.Goals as goal

pub returns-clause-within : goal.returns-clause-within
returns-clause-within c =
    let f : SFits w128 c.from.result = search rules in
    simp to_z-of_z (within-fits _ f)
