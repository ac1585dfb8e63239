use Rattle.std.proofs.Common.{Err, IfOk, IsErr, Ok, Result, refl}
use Rattle.lus_tree.specs.Tree.{Program}
use Rattle.lus_tree.specs.Reason.{Refused}
use Rattle.lus_tree.specs.View.{program_view}
use Rattle.lus_meaning.specs.Refusals.{IsTyped, IsTypingFault}
use Rattle.lus_types.proofs.typed.types.Goals as goal

-- where there is a fault nothing is taken
refused_for : {A E : Type 0} (p : Program) (r : Result A E) → IfOk r (λ _. IsTyped p) → (x : Refused) → IsTypingFault p x → IsErr r
refused_for p (Ok a) h x f = absurd (h x f)
refused_for p (Err e) h x f = refl

pub returns-in-Ok-clause-faulty : goal.returns-in-Ok-clause-faulty
returns-in-Ok-clause-faulty c = λ r f. refused_for (program_view c.args.program) c.with_names.result c.with_names.ensures.typed r f
