use Rattle.kind_main.proofs.Leaving.{leaves_printed, leaves_without}
use Rattle.kind_main.proofs.top.run.Goals as goal

pub returns-in-Ok-clause-leaves : goal.returns-in-Ok-clause-leaves
returns-in-Ok-clause-leaves g c = leaves_printed _ _ _ _ _ _ _ _ _ _ _ c.in-Ok.ensures.answer (rw c.deref.ensures.value at c.print.ensures)

pub returns-in-Err-clause-leaves : goal.returns-in-Err-clause-leaves
returns-in-Err-clause-leaves g c = leaves_without _ _ _ _ _ _ _ _ _ c.out_of_memory.ensures.said
