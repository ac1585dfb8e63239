use Rattle.lus_tree.specs.View.{named_view}
use Rattle.lus_meaning.specs.ExpressionFaults.{flag_faults}
use Rattle.lus_scopes.specs.Least.{least_view}
use Rattle.lus_scopes.specs.Scopes.{scope_view}
use Rattle.lus_scopes.proofs.Loops.{OnTheWay}
use Rattle.lus_scopes.proofs.contracts.flags.Given as goal

abbrev pub invariant-loop-named : goal.invariant-loop-named
invariant-loop-named l =
    OnTheWay (λ n. flag_faults (scope_view l.scope) (named_view n).value) l.all l.named-index (least_view l.initial.least) (least_view l.least)
