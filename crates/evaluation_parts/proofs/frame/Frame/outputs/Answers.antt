use Rattle.std.proofs.Common.{ap, sym, ◌∙◌}
use Rattle.lus_tree.specs.View.{program_view}
use Rattle.evaluation_parts.specs.Unfolded.{linked_outputs}
use Rattle.evaluation_parts.specs.Views.{all_view, frame_declared}
use Rattle.evaluation_parts.proofs.Called.{outputs_called}
use Rattle.evaluation_parts.proofs.frame.Frame.outputs.Goals as goal

pub returns : goal.returns
returns c = c.outputs_there.ensures ∙ ap (linked_outputs (all_view c.args.self.all.now)) c.link.ensures
    ∙ sym (outputs_called (program_view c.args.self.program.now) (all_view c.args.self.all.now) c.args.self.depth (frame_declared c.args.self)
    c.args.number)
