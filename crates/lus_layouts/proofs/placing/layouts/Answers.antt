use Rattle.std.proofs.Common.{map, ap, ◌∙◌}
use Rattle.lus_tree.specs.View.{program_view}
use Rattle.lus_limits.specs.Framed.{frame_view}
use Rattle.lus_layouts.specs.Layouts.{layout_view}
use Rattle.lus_layouts.proofs.Placed.{layouts_right}
use Rattle.lus_layouts.proofs.placing.layouts.Goals as goal

pub returns : goal.returns
returns c =
    layouts_right (λ v. map layout_view v.items) (program_view c.args.program.now) (map frame_view c.deref.result.now) c.all_laid_out.result
    (ap (map frame_view) c.deref.ensures.value ∙ c.in_ok-frames.ensures) c.all_laid_out.ensures
