use Rattle.evaluation_laws.proofs.RowFrames.{rows_show, rows_give_values}
use Rattle.evaluation_laws.proofs.laws.rows_show.Goals as goal

pub returns-clause-shown : goal.returns-clause-shown
returns-clause-shown c = rows_show

pub returns-clause-values : goal.returns-clause-values
returns-clause-values c = rows_give_values
