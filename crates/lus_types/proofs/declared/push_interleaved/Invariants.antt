use Rattle.std.proofs.Common.{◌≡◌, ◌++◌, drop, map}
use Rattle.lus_tree.specs.View.{definition_view, param_view}
use Rattle.lus_meaning.specs.Scope.{a_fixed, a_local, a_stream, interleaved}
use Rattle.lus_types.specs.Homes.{declared_view}
use Rattle.lus_types.proofs.declared.push_interleaved.Given as goal

-- what is there, followed by what is to come, is all
abbrev pub invariant-loop-param : goal.invariant-loop-param
invariant-loop-param l =
    map declared_view l.names.items
    ++ interleaved (map a_fixed (map definition_view l.rest)) (map (a_stream a_local) (map param_view (drop l.param-index l.params)))
    ≡ map declared_view l.initial.names.items
    ++ interleaved (map a_fixed (map definition_view l.definitions)) (map (a_stream a_local) (map param_view l.params))
