use Rattle.citation_rows.proofs.Citing.{nothing_to_cite}
use Rattle.citation_rows.proofs.rows.nothing_to_cite.Goals as goal

pub returns : goal.returns
returns c = nothing_to_cite
