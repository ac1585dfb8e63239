use Rattle.std.proofs.Common.{true, ap, ◌∙◌}
use Rattle.lus_meaning.specs.Value.{is}
use Rattle.slot_rows.proofs.Slots.{slot_same}
use Rattle.slot_rows.proofs.table.Row.is_true.Goals as goal

pub returns : goal.returns
returns c =
    let own = rw c.deref.ensures.value at c.slot_value.ensures in
    c.is_truth.ensures ∙ ap (is true) (own ∙ slot_same c.args.self.now.values.items c.args.slot)
