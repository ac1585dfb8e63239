use Rattle.boolean_laws.proofs.Books.{causes_need_none, conflicts_need_large}
use Rattle.boolean_laws.proofs.laws.causes_need_no_numbers.Goals as goal

pub returns-clause-causes : goal.returns-clause-causes
returns-clause-causes c = causes_need_none c.systems_are_of_flags.ensures c.queries_never_stop.ensures

pub returns-clause-conflicts : goal.returns-clause-conflicts
returns-clause-conflicts c = conflicts_need_large c.systems_are_of_flags.ensures c.queries_never_stop.ensures
