use Rattle.citation_rows.proofs.Citing.{no_lemma}
use Rattle.citation_rows.proofs.rows.no_lemma.Goals as goal

pub returns : goal.returns
returns c = no_lemma
