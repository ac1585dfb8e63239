use Rattle.std.proofs.Common.{ap, ◌∙◌}
use Rattle.slot_rows.specs.Table.{slots_of}
use Rattle.slot_rows.proofs.Slots.{slot_same}
use Rattle.slot_rows.proofs.table.Table.value.Goals as goal

pub returns : goal.returns
returns c =
    c.value.ensures ∙ c.slot_value.ensures ∙ slot_same c.row.result.now c.args.slot ∙ ap (λ vs. slots_of vs c.args.slot) c.row.ensures
