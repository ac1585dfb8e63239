use Rattle.cnf_maker.proofs.Light.{queries-are-small}
use Rattle.cnf_maker.proofs.laws.mild_queries_have_small_forms.Goals as goal

pub returns : goal.returns
returns c = queries-are-small
