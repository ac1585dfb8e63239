use Rattle.std.proofs.Common.{◌≡◌, ◌++◌, ◌+◌, ◌*◌, pred, drop}
use Rattle.lus_tree.specs.View.{program_view}
use Rattle.lus_meaning.specs.Depends.{modes_need_each}
use Rattle.evaluation_parts.specs.Needed.{all_modes_view}
use Rattle.evaluation_parts.specs.Unfolded.{called_instance, calls_with}
use Rattle.evaluation_parts.specs.Views.{all_view, links_view, depth_there}
use Rattle.evaluation_parts.proofs.mode_needs.+modes.Given as goal

abbrev pub decreases-modes_need : goal.decreases-modes_need
decreases-modes_need l = 4 * l.frame.depth + 2

abbrev pub decreases-called_modes : goal.decreases-called_modes
decreases-called_modes l = 4 * l.frame.depth + 1

abbrev pub decreases-each_called : goal.decreases-each_called
decreases-each_called l = 4 * l.frame.depth

abbrev pub decreases-modes_there : goal.decreases-modes_there
decreases-modes_there l = 4 * depth_there l.frame + 3

abbrev pub invariant-each_called-loop-link : goal.invariant-each_called-loop-link
invariant-each_called-loop-link l = all_modes_view l.all.items ++ modes_need_each (calls_with
    (called_instance (program_view l.frame.program.now) (all_view l.frame.all.now) (pred l.frame.depth)) (links_view (drop l.link-index l.links)))
    ≡ modes_need_each (calls_with
    (called_instance (program_view l.frame.program.now) (all_view l.frame.all.now) (pred l.frame.depth)) (links_view l.links))
