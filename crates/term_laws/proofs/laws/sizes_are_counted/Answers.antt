use Rattle.term_laws.proofs.Counted.{sizes_are_counted}
use Rattle.term_laws.proofs.laws.sizes_are_counted.Goals as goal

pub returns : goal.returns
returns c = sizes_are_counted
