use Rattle.stop_rows.proofs.Stops.{listed-twice}
use Rattle.stop_rows.proofs.numbers.column_listed_twice.Goals as goal

pub returns : goal.returns
returns c = listed-twice
