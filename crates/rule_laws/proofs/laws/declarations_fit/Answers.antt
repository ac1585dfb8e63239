use Rattle.rule_laws.proofs.Items.{declarations_fit}
use Rattle.rule_laws.proofs.laws.declarations_fit.Goals as goal

pub returns : goal.returns
returns c = declarations_fit
