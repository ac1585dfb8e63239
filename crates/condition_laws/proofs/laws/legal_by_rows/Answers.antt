use Rattle.condition_laws.proofs.Runs.{legal_by_rows}
use Rattle.condition_laws.proofs.laws.legal_by_rows.Goals as goal

pub returns : goal.returns
returns c = legal_by_rows
