use Rattle.std.proofs.Common.{subst}
use Rattle.lus_tree.specs.View.{program_view}
use Rattle.lus_meaning.specs.Refusals.{IsTyped}
use Rattle.lus_types.proofs.typed.Typed.program.Goals as goal

pub returns-clause-typed : goal.returns-clause-typed
returns-clause-typed c = subst (λ p. IsTyped (program_view p)) c.self.view_is c.self.invariant.0
