use Rattle.citation_rows.proofs.Citing.{another_term}
use Rattle.citation_rows.proofs.rows.another_term.Goals as goal

pub returns : goal.returns
returns c = another_term
