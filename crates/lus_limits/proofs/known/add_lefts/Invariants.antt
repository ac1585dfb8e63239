use Rattle.std.proofs.Common.{map, take}
use Rattle.lus_tree.specs.View.{item_view}
use Rattle.lus_meaning.specs.Run.{body_equations}
use Rattle.lus_limits.specs.Known.{HasThese, lefts_of}
use Rattle.lus_limits.proofs.known.add_lefts.Given as goal

-- the names that there were, and those so far
abbrev pub invariant-loop-item : goal.invariant-loop-item
invariant-loop-item l = HasThese l.initial.names l.names (lefts_of (body_equations (map item_view (take l.item-index l.items))))
