use Rattle.within_laws.proofs.Quiet.{quiet_parts_are_within, parts_within_are_quiet}
use Rattle.within_laws.proofs.laws.quiet_parts_are_within.Goals as goal

pub returns-clause-within : goal.returns-clause-within
returns-clause-within c = quiet_parts_are_within

pub returns-clause-quiet : goal.returns-clause-quiet
returns-clause-quiet c = parts_within_are_quiet
