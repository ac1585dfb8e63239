use Rattle.lus_order.specs.Dependences.{inputs_seen}
use Rattle.lus_checked.proofs.OutputReads.{seen_at}
use Rattle.lus_checked.proofs.reads.found_at.Goals as goal

pub returns : goal.returns
returns c = seen_at inputs_seen c.item_at.result c.args.found.now c.args.number c.item_at.ensures
