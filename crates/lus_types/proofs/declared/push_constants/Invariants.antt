use Rattle.std.proofs.Common.{◌≡◌, ◌++◌, drop, map}
use Rattle.lus_tree.specs.View.{definition_view}
use Rattle.lus_meaning.specs.Scope.{a_fixed}
use Rattle.lus_types.specs.Homes.{declared_view}
use Rattle.lus_types.proofs.declared.push_constants.Given as goal

-- what is there, followed by what is to come, is all
abbrev pub invariant-loop-definition : goal.invariant-loop-definition
invariant-loop-definition l =
    map declared_view l.names.items ++ map a_fixed (map definition_view (drop l.definition-index l.definitions))
    ≡ map declared_view l.initial.names.items ++ map a_fixed (map definition_view l.definitions)
