use Rattle.std.specs.Prelude.{◌≡◌, map, drop}
use Rattle.sys_terms.specs.View.{placed_view}
use Rattle.sys_terms.specs.Fits.{places_fit}
use Rattle.sys_terms.proofs.systems.all_places_fit.Given as goal

abbrev pub invariant-loop-state : goal.invariant-loop-state
invariant-loop-state l =
    places_fit l.shapes l.states (map placed_view (drop l.state-index l.at))
    ≡ places_fit l.fn.shapes l.fn.states (map placed_view l.fn.at)
