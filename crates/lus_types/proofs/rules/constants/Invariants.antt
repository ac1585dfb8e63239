use Rattle.lus_types.specs.Before.{earlier_view, home_view}
use Rattle.lus_scopes.specs.Least.{least_view}
use Rattle.lus_types.proofs.Earlier.{OnConstants}
use Rattle.lus_types.proofs.rules.constants.Given as goal

abbrev pub invariant-loop-constant : goal.invariant-loop-constant
invariant-loop-constant l =
    OnConstants (home_view l.home) l.definitions l.constant-index (least_view l.initial.least) (least_view l.least) (earlier_view l.before)
