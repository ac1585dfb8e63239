use Rattle.std.proofs.Common.{◌≡◌, ◌++◌, map, flat_map, drop}
use Rattle.lus_tree.specs.View.{contract_item_view}
use Rattle.lus_meaning.specs.Program.{import_site}
use Rattle.sys_occurrences.specs.Views.{site_view}
use Rattle.sys_occurrences.proofs.sites.push_imports.Given as goal

-- what is there, and what is to come, is all
abbrev pub invariant-loop-item : goal.invariant-loop-item
invariant-loop-item l =
    map site_view l.sites.items ++ flat_map import_site (map contract_item_view (drop l.item-index l.items))
    ≡ map site_view l.initial.sites.items ++ flat_map import_site (map contract_item_view l.items)
