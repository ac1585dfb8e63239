use Rattle.boolean_laws.proofs.Complete.{answers_are_decided}
use Rattle.boolean_laws.proofs.laws.answers_are_decided.Goals as goal

pub returns : goal.returns
returns c = answers_are_decided c.boolean_queries_have_no_atoms.ensures c.systems_are_of_flags.ensures c.queries_never_stop.ensures
