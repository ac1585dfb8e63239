use Rattle.std.proofs.Common.{◌≡◌, ◌++◌, map, drop}
use Rattle.lus_tree.specs.View.{contract_item_view}
use Rattle.lus_meaning.specs.Scene.{ghosts}
use Rattle.lus_streams.specs.Streams.{params_view}
use Rattle.sys_tables.proofs.streams.push_ghosts.Given as goal

-- what is there, and what is to come, is all
abbrev pub invariant-loop-item : goal.invariant-loop-item
invariant-loop-item l = params_view l.streams.items ++ ghosts (map contract_item_view (drop l.item-index l.items))
    ≡ params_view l.initial.streams.items ++ ghosts (map contract_item_view l.items)
