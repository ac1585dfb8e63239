use Rattle.std.proofs.Common.{◌≡◌, ◌++◌, drop, map}
use Rattle.lus_tree.specs.Lookup.{nodes_of}
use Rattle.lus_tree.specs.View.{decl_view, program_view}
use Rattle.lus_checked.specs.Properties.{listed_in, lists_seen}
use Rattle.lus_checked.proofs.listing.all_properties.Given as goal

-- what is there, followed by what is to come, is all
abbrev pub invariant-loop-decl : goal.invariant-loop-decl
invariant-loop-decl l = lists_seen l.all.items
    ++ map (listed_in (program_view l.program)) (nodes_of (map decl_view (drop l.decl-index l.program.decls.items)))
    ≡ map (listed_in (program_view l.program)) (nodes_of (map decl_view l.program.decls.items))
