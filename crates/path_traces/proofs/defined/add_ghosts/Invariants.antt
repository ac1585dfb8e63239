use Rattle.std.proofs.Common.{◌≡◌, ◌||◌, map, drop}
use Rattle.lus_tree.specs.Tree.{Name}
use Rattle.lus_tree.specs.View.{contract_item_view}
use Rattle.lus_meaning.specs.Depends.{named_in}
use Rattle.lus_meaning.specs.Run.{ghost_equations}
use Rattle.path_traces.specs.Plans.{is_left}
use Rattle.path_traces.proofs.defined.add_ghosts.Given as goal

-- what is there, and what is to come, is all
abbrev pub invariant-loop-item : goal.invariant-loop-item
invariant-loop-item l = (x : Name) → (named_in x l.names || is_left (ghost_equations (map contract_item_view (drop l.item-index l.items))) x)
    ≡ (named_in x l.initial.names || is_left (ghost_equations (map contract_item_view l.items)) x)
