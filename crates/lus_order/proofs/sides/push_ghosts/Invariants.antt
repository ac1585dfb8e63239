use Rattle.std.proofs.Common.{◌≡◌, ◌++◌, drop, map}
use Rattle.lus_tree.specs.View.{contract_item_view}
use Rattle.lus_meaning.specs.EquationFaults.{ghost_sides}
use Rattle.lus_meaning.specs.Run.{ghost_equations}
use Rattle.lus_order.specs.Sides.{equations_view, words_of}
use Rattle.lus_order.proofs.sides.push_ghosts.Given as goal

abbrev pub invariant-loop-item : goal.invariant-loop-item
invariant-loop-item l = record {
  equations : equations_view l.sides.items ++ ghost_equations (map contract_item_view (drop l.item-index l.items))
      ≡ equations_view l.initial.sides.items ++ ghost_equations (map contract_item_view l.items);
  words : words_of l.sides.items ++ ghost_sides (map contract_item_view (drop l.item-index l.items))
      ≡ words_of l.initial.sides.items ++ ghost_sides (map contract_item_view l.items);
}
