use Rattle.std.proofs.Common.{◌≡◌, map, drop}
use Rattle.std.specs.List.{list_any}
use Rattle.lus_tree.specs.View.{item_view}
use Rattle.lus_checked.specs.Main.{is_mark}
use Rattle.lus_checked.proofs.main_node.is_marked_main.Given as goal

abbrev pub invariant-loop-item : goal.invariant-loop-item
invariant-loop-item l = list_any is_mark (map item_view l.node.items.items)
    ≡ list_any is_mark (map item_view (drop l.item-index l.node.items.items))
