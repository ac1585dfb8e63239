use Rattle.slot_values.proofs.WorthOff.{worth_is_absent}
use Rattle.slot_values.proofs.laws.off_the_clock.Goals as goal

pub returns : goal.returns
returns c = worth_is_absent
