use Rattle.condition_laws.proofs.Following.{conditions_read_slots, following_rows_tell_conditions, following_rows_break, following_rows_are_lawful}
use Rattle.condition_laws.proofs.laws.following_rows_break.Goals as goal

pub returns-clause-read : goal.returns-clause-read
returns-clause-read c = conditions_read_slots

pub returns-clause-conditions : goal.returns-clause-conditions
returns-clause-conditions c = following_rows_tell_conditions

pub returns-clause-breaks : goal.returns-clause-breaks
returns-clause-breaks c = following_rows_break

pub returns-clause-lawful : goal.returns-clause-lawful
returns-clause-lawful c = following_rows_are_lawful
