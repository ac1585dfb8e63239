use Rattle.stop_rows.proofs.Halves.{one-pivot}
use Rattle.stop_rows.proofs.numbers.one_pivot_is_more_than_none.Goals as goal

pub returns : goal.returns
returns c = one-pivot
