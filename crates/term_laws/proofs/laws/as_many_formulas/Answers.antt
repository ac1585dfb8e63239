use Rattle.term_laws.proofs.Formulas.{each_formulas}
use Rattle.term_laws.proofs.laws.as_many_formulas.Goals as goal

pub returns : goal.returns
returns c = each_formulas
