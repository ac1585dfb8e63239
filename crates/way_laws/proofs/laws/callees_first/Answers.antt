use Rattle.way_laws.proofs.Callees.{callees_lower, all_summaries_exact}
use Rattle.way_laws.proofs.laws.callees_first.Goals as goal

pub returns-clause-lower : goal.returns-clause-lower
returns-clause-lower c = callees_lower

pub returns-clause-exact : goal.returns-clause-exact
returns-clause-exact c = all_summaries_exact
