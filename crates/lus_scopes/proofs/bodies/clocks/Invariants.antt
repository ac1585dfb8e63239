use Rattle.std.proofs.Common.{◌≡◌, drop, map, flat_map}
use Rattle.lus_tree.specs.View.{param_view}
use Rattle.lus_meaning.specs.ExpressionFaults.{used_as_clock}
use Rattle.lus_meaning.specs.NameFaults.{clock_words}
use Rattle.lus_scopes.specs.Least.{least_view, noted_all}
use Rattle.lus_scopes.specs.Scopes.{scope_view}
use Rattle.lus_scopes.proofs.bodies.clocks.Given as goal

abbrev pub invariant-loop-param : goal.invariant-loop-param
invariant-loop-param l =
    noted_all (least_view l.least) (flat_map (used_as_clock (scope_view l.scope)) (flat_map clock_words (map param_view (drop l.param-index l.params))))
    ≡ noted_all (least_view l.initial.least) (flat_map (used_as_clock (scope_view l.scope)) (flat_map clock_words (map param_view l.params)))
