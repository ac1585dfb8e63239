use Rattle.std.proofs.Common.{◌≡◌, ◌++◌, map, drop}
use Rattle.lus_tree.specs.Tree.{text_of}
use Rattle.lus_tree.specs.View.{word_view}
use Rattle.evaluation_parts.specs.PartViews.{parts_view, places_view}
use Rattle.evaluation_order.specs.GiverViews.{givers_view}
use Rattle.evaluation_order.specs.Givers.{givers_of}
use Rattle.evaluation_order.proofs.givers.push_each.Given as goal

abbrev pub invariant-loop-word : goal.invariant-loop-word
invariant-loop-word l = givers_view l.givers.items
    ++ givers_of (places_view l.places) (parts_view l.parts) l.number l.way (map text_of (map word_view (drop l.word-index l.words)))
    ≡ givers_view l.initial.givers.items
    ++ givers_of (places_view l.places) (parts_view l.parts) l.number l.way (map text_of (map word_view l.words))
