use Rattle.std.proofs.Common.{◌≡◌, ◌≤◌, [], drop, map, false}
use Rattle.lus_tree.specs.View.{program_view}
use Rattle.lus_meaning.specs.Scope.{entries_from}
use Rattle.lus_scopes.specs.declared.scope.Extent.TheVariants.{All}
use Rattle.lus_types.specs.Entries.{AreOrdered, behind_all}
use Rattle.lus_scopes.specs.Scopes.{entry_view, layer_view}
use Rattle.lus_types.specs.Homes.{declared_view}
use Rattle.lus_types.proofs.entries.push_entries.Given as goal

-- those to come, behind those that are there, are all; each knows how many constants stand before it
abbrev pub invariant-loop-name : goal.invariant-loop-name
invariant-loop-name l =
    (entries_from (program_view l.declarations) (layer_view l.outer false) (map (entry_view All false) l.own)
    (map declared_view (drop l.name-index l.names))
    ≡ entries_from (program_view l.declarations) (layer_view l.outer false) [] (map declared_view l.names))
    × AreOrdered 0 l.own × (l.order ≡ behind_all 0 l.own) × (l.order ≤ l.name-index)
