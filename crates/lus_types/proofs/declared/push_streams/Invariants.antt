use Rattle.std.proofs.Common.{◌≡◌, ◌++◌, drop, map}
use Rattle.lus_tree.specs.View.{param_view}
use Rattle.lus_meaning.specs.Scope.{a_stream}
use Rattle.lus_scopes.specs.Scopes.{role_view}
use Rattle.lus_types.specs.Homes.{declared_view}
use Rattle.lus_types.proofs.declared.push_streams.Given as goal

-- what is there, followed by what is to come, is all
abbrev pub invariant-loop-param : goal.invariant-loop-param
invariant-loop-param l =
    map declared_view l.names.items ++ map (a_stream (role_view l.role)) (map param_view (drop l.param-index l.params))
    ≡ map declared_view l.initial.names.items ++ map (a_stream (role_view l.role)) (map param_view l.params)
