use Rattle.std.proofs.lemmas.List.{map-set}
use Rattle.slot_rows.proofs.giving.write.Goals as goal
use Rattle.slot_values.specs.Evaluated.{slot_view}

pub returns-then-slot-len : goal.returns-then-slot-len
returns-then-slot-len c = map-set slot_view c.args.values.now.items c.args.slot c.args.value
