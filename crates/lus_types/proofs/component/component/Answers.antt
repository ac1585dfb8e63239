use Rattle.lus_tree.specs.View.{program_view}
use Rattle.lus_meaning.specs.NameFaults.{constant_words, home, state_faults}
use Rattle.lus_types.specs.Declarations.{inner_faults, marks_twice, own_twice}
use Rattle.lus_scopes.specs.Least.{least_view}
use Rattle.lus_scopes.specs.Scopes.{owner_view}
use Rattle.lus_scopes.proofs.Noting.{all_noted, four_noted}
use Rattle.lus_types.proofs.component.component.Goals as goal

pub returns-clause-noted : goal.returns-clause-noted
returns-clause-noted c =
    four_noted (least_view c.args.least.now) (least_view c.names_twice.new.least) (least_view c.marks_twice.new.least)
    (least_view c.state.new.least) (least_view c.inner.new.least)
    (own_twice (constant_words (program_view c.args.setting.now.declarations.now)) (owner_view c.args.owner)) (marks_twice (owner_view c.args.owner))
    (state_faults (program_view c.args.setting.now.declarations.now) (owner_view c.args.owner))
    (inner_faults (home (program_view c.args.setting.now.declarations.now) c.args.known (owner_view c.args.owner)))
    c.in_ok-names_twice.ensures c.in_ok-marks_twice.ensures
    (all_noted (least_view c.marks_twice.new.least) (least_view c.state.new.least)
    (state_faults (program_view c.args.setting.now.declarations.now) (owner_view c.args.owner)) c.in_ok-state.ensures)
    c.in_ok-names.ensures.noted
