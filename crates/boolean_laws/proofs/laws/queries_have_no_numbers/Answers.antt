use Rattle.boolean_laws.proofs.Queries.{no_numbers}
use Rattle.boolean_laws.proofs.laws.queries_have_no_numbers.Goals as goal

pub returns : goal.returns
returns c = no_numbers
