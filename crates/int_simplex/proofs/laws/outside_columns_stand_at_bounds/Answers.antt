use Rattle.int_simplex.proofs.Calls.{columns_stand}
use Rattle.int_simplex.proofs.laws.outside_columns_stand_at_bounds.Goals as goal

pub returns : goal.returns
returns c = columns_stand
