use Rattle.std.proofs.Common.{◌≡◌, ◌++◌, map, flat_map, drop}
use Rattle.lus_tree.specs.Tree.{text_of}
use Rattle.lus_tree.specs.View.{word_view}
use Rattle.lus_meaning.specs.Cycle.{declared_needs}
use Rattle.lus_streams.specs.Owner.{owner_view}
use Rattle.evaluation_parts.specs.Needed.{needs_view}
use Rattle.evaluation_order.proofs.own_needs.push_declared_each.Given as goal

abbrev pub invariant-loop-word : goal.invariant-loop-word
invariant-loop-word l = needs_view l.needs.items
    ++ flat_map (declared_needs (owner_view l.owner)) (map text_of (map word_view (drop l.word-index l.words)))
    ≡ needs_view l.initial.needs.items ++ flat_map (declared_needs (owner_view l.owner)) (map text_of (map word_view l.words))
