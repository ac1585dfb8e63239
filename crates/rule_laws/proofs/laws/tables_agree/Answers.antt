use Rattle.rule_laws.proofs.Tables.{tables_agree}
use Rattle.rule_laws.proofs.laws.tables_agree.Goals as goal

pub returns : goal.returns
returns c = tables_agree
