use Rattle.std.proofs.Common.{ap, ◌∙◌}
use Rattle.slot_values.specs.Resolution.{resolved_view}
use Rattle.slot_values.specs.Outcome.{value_within}
use Rattle.slot_rows.proofs.Slots.{slots_same}
use Rattle.slot_rows.proofs.table.Row.outcome.Goals as goal

pub returns : goal.returns
returns c =
    let outcome = rw c.deref.ensures.value at c.value_within.ensures in
    outcome ∙ ap (λ s. value_within s c.args.on (resolved_view c.args.e.now)) (slots_same c.args.self.now.values.items)
