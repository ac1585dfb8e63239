use Rattle.citation_rows.proofs.Citing.{earlier_lemma}
use Rattle.citation_rows.proofs.rows.earlier_lemma.Goals as goal

pub returns : goal.returns
returns c = earlier_lemma
