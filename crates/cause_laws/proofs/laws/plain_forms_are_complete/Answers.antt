use Rattle.cause_laws.proofs.Complete.{plain-complete}
use Rattle.cause_laws.proofs.laws.plain_forms_are_complete.Goals as goal

pub returns : goal.returns
returns c = plain-complete c.flags_bound_conflicts.ensures c.stops_need_atoms.ensures c.ranges_suffice.ensures c.bases_bound_pivots.ensures c.small_numbers_stay_within.ensures
