use Rattle.within_laws.proofs.Slots.{parts_stand_at_calls, parts_are_over_slots}
use Rattle.within_laws.proofs.laws.parts_over_slots.Goals as goal

pub returns-clause-ways : goal.returns-clause-ways
returns-clause-ways c = parts_stand_at_calls

pub returns-clause-operations : goal.returns-clause-operations
returns-clause-operations c = parts_are_over_slots
