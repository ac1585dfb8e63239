use Rattle.std.proofs.Common.{IfOk, IsErr, Result, Ok, Err, refl}
use Rattle.lus_tree.specs.Tree.{Program}
use Rattle.lus_tree.specs.Reason.{Refused}
use Rattle.lus_tree.specs.View.{program_view}
use Rattle.lus_meaning.specs.Refusals.{IsClocked, IsClockFault}
use Rattle.lus_clocks.proofs.clocked.clocks.Goals as goal

-- where there is a fault nothing is taken
refused_for : {A E : Type 0} (p : Program) (r : Result A E) → IfOk r (λ _. IsClocked p) → (x : Refused) → IsClockFault p x → IsErr r
refused_for p (Ok a) h x f = absurd (h.clocks x f)
refused_for p (Err e) h x f = refl

pub returns-in-Ok-clause-faulty : goal.returns-in-Ok-clause-faulty
returns-in-Ok-clause-faulty c = λ r f.
    refused_for (program_view c.args.typed) c.with_clocks.result c.with_clocks.ensures.clocked r f
