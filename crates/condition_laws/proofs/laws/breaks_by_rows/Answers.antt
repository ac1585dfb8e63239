use Rattle.condition_laws.proofs.Runs.{breaks_by_rows, lawful_by_rows}
use Rattle.condition_laws.proofs.laws.breaks_by_rows.Goals as goal

pub returns-clause-breaks : goal.returns-clause-breaks
returns-clause-breaks c = breaks_by_rows

pub returns-clause-lawful : goal.returns-clause-lawful
returns-clause-lawful c = lawful_by_rows
