use Rattle.row_laws.proofs.Within.{modes_stay_within, rows_tell_parts}
use Rattle.row_laws.proofs.laws.rows_tell_parts.Goals as goal

pub returns-clause-modes : goal.returns-clause-modes
returns-clause-modes c = modes_stay_within

pub returns-clause-parts : goal.returns-clause-parts
returns-clause-parts c = rows_tell_parts
