use Rattle.std.proofs.Common.{ap, ◌∙◌}
use Rattle.slot_sources.specs.Rows.{is_on}
use Rattle.slot_rows.proofs.Slots.{slots_same}
use Rattle.slot_rows.proofs.table.Row.is_running.Goals as goal

pub returns : goal.returns
returns c =
    let on = rw c.deref.ensures.value at c.is_on.ensures in
    on ∙ ap (λ s. is_on s c.args.clock.now) (slots_same c.args.self.now.values.items)
