use Rattle.std.proofs.Common.{List, ap, subst, ◌∙◌}
use Rattle.lus_tree.specs.View.{program_view}
use Rattle.lus_meaning.specs.Scope.{Entry, Home}
use Rattle.lus_types.specs.Declarations.{inner_faults}
use Rattle.lus_scopes.specs.Least.{least_view}
use Rattle.lus_scopes.specs.Notes.{Notes}
use Rattle.lus_scopes.specs.Scopes.{owner_view}
use Rattle.lus_types.proofs.component.inner.Goals as goal

pub returns-clause-noted : goal.returns-clause-noted
returns-clause-noted c =
    subst (λ h. Notes (least_view c.args.least.now) (least_view c.contract_and_body.new.least) (inner_faults h))
    (c.with_names-home.ensures
    ∙ ap (λ (es : List Entry). let h : Home = record { program = program_view c.args.setting.now.declarations.now; owner = owner_view c.args.owner; outer = es } in h)
    c.constants_before-outer.ensures)
    c.in_ok-contract_and_body.ensures
