use Rattle.row_laws.proofs.Frames.{following_rows_give_values, following_rows_tell_parts}
use Rattle.row_laws.proofs.laws.following_rows_give_values.Goals as goal

pub returns-clause-values : goal.returns-clause-values
returns-clause-values c = following_rows_give_values

pub returns-clause-operations : goal.returns-clause-operations
returns-clause-operations c = following_rows_tell_parts
