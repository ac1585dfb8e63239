use Rattle.std.proofs.Common.{◌≡◌, ◌++◌, drop}
use Rattle.lus_evaluation.specs.Frame.{text_at}
use Rattle.evaluation_parts.specs.PartViews.{parts_view}
use Rattle.evaluation_parts.specs.Texts.{frame_texts_view}
use Rattle.evaluation_parts.specs.Turns.{owed_each}
use Rattle.evaluation_parts.specs.Views.{links_view}
use Rattle.evaluation_parts.proofs.turn.push_owed_each.Given as goal

abbrev pub invariant-loop-link : goal.invariant-loop-link
invariant-loop-link l = parts_view l.all.items ++ owed_each (text_at (frame_texts_view l.texts)) (links_view (drop l.link-index l.links))
    ≡ parts_view l.initial.all.items ++ owed_each (text_at (frame_texts_view l.texts)) (links_view l.links)
