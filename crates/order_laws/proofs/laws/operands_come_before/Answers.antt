use Rattle.order_laws.proofs.FirstByRows.{operands_come_before}
use Rattle.order_laws.proofs.laws.operands_come_before.Goals as goal

pub returns : goal.returns
returns c = operands_come_before
