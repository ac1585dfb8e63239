use Rattle.std.proofs.Common.{map}
use Rattle.lus_order.specs.Declarations.{declared_view}
use Rattle.lus_order.proofs.NextLearned.{one_next}
use Rattle.lus_order.proofs.learned.next_of.Goals as goal

pub returns-in_default : goal.returns-in_default
returns-in_default c = one_next c.args.names.now (map declared_view c.args.all.now) c.first_next.result c.first_next.ensures
