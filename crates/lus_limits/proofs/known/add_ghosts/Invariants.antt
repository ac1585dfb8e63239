use Rattle.std.proofs.Common.{map, take}
use Rattle.lus_tree.specs.View.{contract_item_view}
use Rattle.lus_meaning.specs.Run.{ghost_equations}
use Rattle.lus_limits.specs.Known.{HasThese, lefts_of}
use Rattle.lus_limits.proofs.known.add_ghosts.Given as goal

-- the names that there were, and those so far
abbrev pub invariant-loop-item : goal.invariant-loop-item
invariant-loop-item l = HasThese l.initial.names l.names (lefts_of (ghost_equations (map contract_item_view (take l.item-index l.items))))
