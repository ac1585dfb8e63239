use Rattle.boolean_laws.proofs.Complete.{queries_never_stop}
use Rattle.boolean_laws.proofs.laws.queries_never_stop.Goals as goal

pub returns : goal.returns
returns c = queries_never_stop c.plain_forms_are_complete.ensures c.boolean_queries_have_no_atoms.ensures c.queries_have_no_numbers.ensures
    c.systems_are_of_flags.ensures
