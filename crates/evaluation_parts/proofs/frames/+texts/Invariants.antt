use Rattle.std.proofs.Common.{◌≡◌, ◌++◌, ◌+◌, ◌*◌, pred, drop}
use Rattle.lus_tree.specs.View.{program_view}
use Rattle.evaluation_parts.specs.Framed.{called_texts, orders_view, text_called}
use Rattle.evaluation_parts.specs.Texts.{frame_texts_view}
use Rattle.evaluation_parts.specs.Views.{all_view, links_view}
use Rattle.evaluation_parts.proofs.frames.+texts.Given as goal

abbrev pub decreases-frame_text : goal.decreases-frame_text
decreases-frame_text l = 4 * l.frame.depth + 3

abbrev pub decreases-texts_below : goal.decreases-texts_below
decreases-texts_below l = 4 * l.frame.depth + 2

abbrev pub decreases-each_text : goal.decreases-each_text
decreases-each_text l = 4 * l.frame.depth + 1

abbrev pub decreases-text_called : goal.decreases-text_called
decreases-text_called l = 4 * l.frame.depth

abbrev pub invariant-each_text-loop-link : goal.invariant-each_text-loop-link
invariant-each_text-loop-link l = frame_texts_view l.all.items
    ++ called_texts (text_called (program_view l.frame.program.now) (all_view l.frame.all.now) (orders_view l.orders) (pred l.frame.depth)) l.way
    (links_view (drop l.link-index l.links))
    ≡ called_texts (text_called (program_view l.frame.program.now) (all_view l.frame.all.now) (orders_view l.orders) (pred l.frame.depth)) l.way
    (links_view l.links)
