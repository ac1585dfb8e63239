use Rattle.slot_values.proofs.WorthSeen.{worth_is_seen, rights_are_seen}
use Rattle.slot_values.proofs.laws.on_the_clock.Goals as goal

pub returns-clause-expression : goal.returns-clause-expression
returns-clause-expression c = worth_is_seen

pub returns-clause-right_side : goal.returns-clause-right_side
returns-clause-right_side c = rights_are_seen
