use Rattle.std.proofs.Common.{◌≡◌, map, drop}
use Rattle.std.specs.Option.{option_or}
use Rattle.lus_tree.specs.Tree.{Name}
use Rattle.lus_tree.specs.View.{item_view}
use Rattle.lus_meaning.specs.Run.{body_equations}
use Rattle.sys_conditions.specs.Named.{right_of}
use Rattle.sys_tables.specs.Rights.{right_in}
use Rattle.sys_tables.proofs.rights.note_body.Given as goal

-- what is noted, and what is to come, is all
abbrev pub invariant-loop-item : goal.invariant-loop-item
invariant-loop-item l =
    (x : Name) → option_or (right_in l.rights x) (right_of (body_equations (map item_view (drop l.item-index l.items))) x)
    ≡ option_or (right_in l.initial.rights x) (right_of (body_equations (map item_view l.items)) x)
