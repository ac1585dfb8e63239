use Rattle.lus_tree.specs.View.{program_view}
use Rattle.lus_order.proofs.AllOrdered.{refused_for, sound_of}
use Rattle.lus_order.proofs.checks.equations.Goals as goal

pub returns-in-Ok-clause-faulty : goal.returns-in-Ok-clause-faulty
returns-in-Ok-clause-faulty c = λ r f. refused_for (program_view c.args.program.now) c.with_orders.result
    (sound_of _ _ (program_view c.args.program.now) c.with_orders.result (c.with_orders.ensures.judged (program_view c.args.program.now) c.in-Ok.ensures.checked)) r f
