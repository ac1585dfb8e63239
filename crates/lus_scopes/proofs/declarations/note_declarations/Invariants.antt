use Rattle.std.proofs.Common.{◌≡◌, map, drop, option_map}
use Rattle.std.specs.Option.{option_or}
use Rattle.lus_tree.specs.Tree.{Name}
use Rattle.lus_tree.specs.View.{decl_view}
use Rattle.lus_scopes.specs.Meanings.{by_name, callee_view, first_named}
use Rattle.lus_scopes.proofs.declarations.note_declarations.Given as goal

-- what is noted, and what is to come, is all
abbrev pub invariant-loop-decl : goal.invariant-loop-decl
invariant-loop-decl l =
    (x : Name) → option_or (option_map callee_view (by_name l.table x)) (first_named (map decl_view (drop l.decl-index l.decls)) x)
    ≡ option_or (option_map callee_view (by_name l.initial.table x)) (first_named (map decl_view l.decls) x)
