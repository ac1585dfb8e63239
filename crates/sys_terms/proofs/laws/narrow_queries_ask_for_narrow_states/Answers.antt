use Rattle.sys_terms.proofs.NarrowStates.{narrow-queries}
use Rattle.sys_terms.proofs.laws.narrow_queries_ask_for_narrow_states.Goals as goal

pub returns : goal.returns
returns c = narrow-queries
