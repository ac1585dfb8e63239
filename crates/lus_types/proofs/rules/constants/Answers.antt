use Rattle.std.proofs.Common.{arith}
use Rattle.std.proofs.lemmas.List.{take_all}
use Rattle.lus_types.specs.Before.{earlier_view, home_view}
use Rattle.lus_scopes.specs.Least.{least_view}
use Rattle.lus_types.proofs.Earlier.{constants_next, constants_end, all_constants}
use Rattle.lus_types.proofs.rules.constants.Goals as goal

pub loop-constant-preserved : goal.loop-constant-preserved
loop-constant-preserved c =
    constants_next (home_view c.args.home.now) c.args.definitions.now c.loop-constant.constant-index c.constant-item.result
    (least_view c.args.least.now) (least_view c.loop-constant.least) (least_view c.next_constant.new.least) (earlier_view c.loop-constant.before)
    (earlier_view c.next_constant.new.before) (omega arith) c.constant-item.is c.loop-constant.invariant c.in_ok-next_constant.ensures.before
    c.in_ok-next_constant.ensures.noted

pub returns-clause-noted : goal.returns-clause-noted
returns-clause-noted c =
    constants_end (home_view c.args.home.now) c.args.definitions.now c.loop-constant.constant-index (least_view c.args.least.now)
    (least_view c.loop-constant.least) (earlier_view c.loop-constant.before) (omega arith) c.loop-constant.invariant

pub returns-clause-before : goal.returns-clause-before
returns-clause-before c =
    all_constants (home_view c.args.home.now) c.args.definitions.now c.loop-constant.constant-index (least_view c.args.least.now)
    (least_view c.loop-constant.least) (earlier_view c.loop-constant.before)
    (take_all c.loop-constant.constant-index c.args.definitions.now (omega arith)) c.loop-constant.invariant
