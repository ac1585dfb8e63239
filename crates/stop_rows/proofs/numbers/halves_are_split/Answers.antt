use Rattle.stop_rows.proofs.Halves.{halves-split}
use Rattle.stop_rows.proofs.numbers.halves_are_split.Goals as goal

pub returns : goal.returns
returns c = halves-split
