use Rattle.cause_laws.proofs.Complete.{answers-complete}
use Rattle.cause_laws.proofs.laws.answers_are_complete.Goals as goal

pub returns : goal.returns
returns c = answers-complete c.queries_are_complete.ensures c.flags_bound_conflicts.ensures c.boolean_queries_have_no_atoms.ensures
