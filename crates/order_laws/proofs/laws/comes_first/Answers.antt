use Rattle.order_laws.proofs.Earlier.{comes_first}
use Rattle.order_laws.proofs.laws.comes_first.Goals as goal

pub returns : goal.returns
returns c = comes_first
