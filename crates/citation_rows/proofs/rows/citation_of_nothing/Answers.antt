use Rattle.citation_rows.proofs.Citing.{none_before, past_the_list}
use Rattle.citation_rows.proofs.rows.citation_of_nothing.Goals as goal

pub returns : goal.returns
returns c = record { none_before = none_before; past_the_list = past_the_list }
