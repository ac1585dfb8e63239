use Rattle.std.proofs.Common.{◌∙◌, map, subst}
use Rattle.lus_tree.specs.View.{definition_view, item_view, param_view}
use Rattle.lus_meaning.specs.Scene.{contract_statements}
use Rattle.lus_meaning.specs.Scope.{body_scope}
use Rattle.lus_meaning.specs.NameFaults.{assumption_faults, body_faults}
use Rattle.lus_types.specs.Before.{home_view}
use Rattle.lus_scopes.specs.Notes.{Notes}
use Rattle.lus_scopes.proofs.Noting.{both_noted}
use Rattle.lus_scopes.specs.Least.{least_view}
use Rattle.lus_scopes.specs.Scopes.{scope_view}
use Rattle.lus_types.proofs.Earlier.{behind_all_constants, body_noted}
use Rattle.lus_types.proofs.rules.body.Goals as goal

pub returns : goal.returns
returns c = both_noted (least_view c.args.least.now) (least_view c.statements.new.least) (least_view c.assumption.new.least)
    (body_faults (home_view c.args.home.now)) (assumption_faults (body_scope (home_view c.args.home.now)))
    (body_noted (home_view c.args.home.now) (scope_view c.body_scope-scope.result) (map definition_view c.constants.result.now)
    (map param_view c.locals.result.now) (map item_view c.body.result.now) (least_view c.args.least.now)
    (least_view c.constants-2.new.least) (least_view c.clocks.new.least) (least_view c.statements.new.least)
    (c.body_scope-scope.ensures (contract_statements (home_view c.args.home.now).owner) (map definition_view c.constants.result.now)
    c.in_ok-constants.ensures.before ∙ behind_all_constants (home_view c.args.home.now) (map definition_view c.constants.result.now) c.constants.ensures)
    c.constants.ensures c.locals.ensures c.body.ensures c.in_ok-constants.ensures.noted c.clocks.ensures c.statements.ensures)
    (subst (λ s. Notes (least_view c.statements.new.least) (least_view c.assumption.new.least) (assumption_faults s))
    (c.body_scope-scope.ensures (contract_statements (home_view c.args.home.now).owner) (map definition_view c.constants.result.now)
    c.in_ok-constants.ensures.before ∙ behind_all_constants (home_view c.args.home.now) (map definition_view c.constants.result.now) c.constants.ensures)
    c.in_ok-assumption.ensures)
