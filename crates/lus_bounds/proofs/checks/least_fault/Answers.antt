use Rattle.std.proofs.Common.{map, ap, ◌∙◌}
use Rattle.lus_tree.specs.View.{decl_view, program_view}
use Rattle.lus_scopes.specs.Least.{least_view, noted_all}
use Rattle.lus_bounds.specs.Passed.{limit_faults_by, name_seen}
use Rattle.lus_bounds.proofs.FirstPassed.{least_of_sizes}
use Rattle.lus_bounds.proofs.checks.least_fault.Goals as goal

pub returns : goal.returns
returns c =
    least_of_sizes (program_view c.args.program.now) (name_seen c.args.main) c.args.sizes.now (least_view c.new-least.result)
    (least_view c.note_main.new.least) (least_view c.note_limits.new.least) c.requires c.new-least.ensures c.note_main.ensures
    (c.note_limits.ensures
    ∙ ap (λ ds. noted_all (least_view c.note_main.new.least) (limit_faults_by c.args.sizes.now 0 (map decl_view ds))) c.deref.ensures.value)
