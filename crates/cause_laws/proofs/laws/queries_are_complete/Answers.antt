use Rattle.cause_laws.proofs.Complete.{queries-complete}
use Rattle.cause_laws.proofs.laws.queries_are_complete.Goals as goal

pub returns : goal.returns
returns c = queries-complete c.plain_forms_are_complete.ensures c.mild_queries_have_small_forms.ensures
