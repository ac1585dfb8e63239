use Rattle.std.proofs.Common.{ap, map, ◌∙◌}
use Rattle.lus_tree.specs.View.{decl_view, program_view}
use Rattle.lus_bounds.specs.Widths.{widths_by}
use Rattle.lus_bounds.proofs.Widths.{all_cut}
use Rattle.lus_bounds.proofs.checks.checked.Goals as goal

pub least_fault-least-requires : goal.least_fault-least-requires
least_fault-least-requires c = c.deref.ensures.value ∙ c.in_ok-sizes.ensures

pub returns-clause-widths : goal.returns-clause-widths
returns-clause-widths c =
    c.in_ok-widths.ensures
    ∙ ap (λ ds. widths_by c.deref-2.result.now 0 (map decl_view ds)) c.deref-3.ensures.value
    ∙ all_cut (program_view c.args.program.now) c.deref-2.result.now 0 (program_view c.args.program.now)
    (c.deref-2.ensures.value ∙ c.in_ok-sizes.ensures)
