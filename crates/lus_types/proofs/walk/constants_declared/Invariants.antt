use Rattle.std.proofs.Common.{◌≡◌, ◌++◌, drop, map}
use Rattle.lus_tree.specs.View.{decl_view}
use Rattle.lus_meaning.specs.Scope.{constants_declared}
use Rattle.lus_types.specs.Homes.{declared_view}
use Rattle.lus_types.proofs.walk.constants_declared.Given as goal

-- what is there, followed by what is to come, is all
abbrev pub invariant-loop-decl : goal.invariant-loop-decl
invariant-loop-decl l = map declared_view l.names.items ++ constants_declared (map decl_view (drop l.decl-index l.program.decls.items))
    ≡ constants_declared (map decl_view l.program.decls.items)
