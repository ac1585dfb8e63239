use Rattle.std.proofs.Common.{◌≡◌, drop, false, map}
use Rattle.std.specs.Option.{option_or}
use Rattle.lus_tree.specs.Tree.{Name}
use Rattle.lus_scopes.specs.declared.scope.Extent.TheVariants.{All}
use Rattle.lus_scopes.specs.Scopes.{entry_view}
use Rattle.lus_types.specs.Names.{found_in, known_among, known_from}
use Rattle.lus_types.proofs.tables.note_names.Given as goal

-- what is noted, and what is to come, is all
abbrev pub invariant-loop-number : goal.invariant-loop-number
invariant-loop-number l =
    (x : Name) → option_or (found_in l.table x) (known_from l.number (map (entry_view All false) (drop l.number l.names)) x)
    ≡ option_or (found_in l.initial.table x) (known_among (map (entry_view All false) l.names) x)
