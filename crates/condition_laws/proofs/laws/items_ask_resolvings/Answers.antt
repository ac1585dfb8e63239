use Rattle.condition_laws.proofs.Known.{items_ask_resolvings}
use Rattle.condition_laws.proofs.laws.items_ask_resolvings.Goals as goal

pub returns : goal.returns
returns c = items_ask_resolvings
