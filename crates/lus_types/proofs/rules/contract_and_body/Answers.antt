use Rattle.std.proofs.Common.{[], ◌++◌, subst}
use Rattle.lus_meaning.specs.Scene.{contract_statements}
use Rattle.lus_meaning.specs.Scope.{body_scope}
use Rattle.lus_meaning.specs.NameFaults.{assumption_faults, body_faults, contract_faults}
use Rattle.lus_types.specs.Before.{home_view}
use Rattle.lus_scopes.specs.Least.{least_view}
use Rattle.lus_scopes.specs.Notes.{Notes}
use Rattle.lus_scopes.proofs.Noting.{both_noted}
use Rattle.lus_types.proofs.rules.contract_and_body.Goals as goal

pub returns : goal.returns
returns c = both_noted (least_view c.args.least.now) (least_view c.next_items.new.least) (least_view c.body.new.least)
    (contract_faults (home_view c.args.home.now) [] (contract_statements (home_view c.args.home.now).owner))
    (body_faults (home_view c.args.home.now) ++ assumption_faults (body_scope (home_view c.args.home.now)))
    (subst (λ s. Notes (least_view c.args.least.now) (least_view c.next_items.new.least) (contract_faults (home_view c.args.home.now) [] s))
    c.contract.ensures c.in_ok-next_items.ensures.noted)
    c.in_ok-body.ensures
