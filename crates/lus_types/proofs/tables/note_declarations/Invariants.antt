use Rattle.std.proofs.Common.{◌≡◌, drop, map}
use Rattle.std.specs.Option.{option_or}
use Rattle.indexmap.specs.IndexMap.{get_by_text}
use Rattle.lus_tree.specs.Tree.{Name}
use Rattle.lus_tree.specs.View.{decl_view}
use Rattle.lus_types.specs.Names.{declaration_named, declared_from}
use Rattle.lus_types.proofs.tables.note_declarations.Given as goal

-- what is noted, and what is to come, is all
abbrev pub invariant-loop-number : goal.invariant-loop-number
invariant-loop-number l =
    (x : Name) → option_or (get_by_text l.declared x) (declared_from l.number (map decl_view (drop l.number l.decls)) x)
    ≡ option_or (get_by_text l.initial.declared x) (declaration_named (map decl_view l.decls) x)
