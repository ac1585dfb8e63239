use Rattle.std.proofs.Common.{map, take}
use Rattle.lus_tree.specs.View.{contract_item_view}
use Rattle.lus_meaning.specs.Scene.{ghosts}
use Rattle.lus_streams.specs.Streams.{Adds}
use Rattle.lus_streams.proofs.streams.add_ghosts.Given as goal

-- behind those that were there stand those that were gone through
abbrev pub invariant-loop-item : goal.invariant-loop-item
invariant-loop-item l = Adds l.fn.streams l.streams (ghosts (map contract_item_view (take l.item-index l.items)))
