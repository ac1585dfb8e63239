use Rattle.std.specs.Prelude.{◌≡◌, ◌++◌, map, drop}
use Rattle.sys_terms.specs.View.{placed_view}
use Rattle.sys_terms.specs.NarrowQuery.{bounds_at}
use Rattle.kind_engine.proofs.narrow.push_state.Given as goal

-- what is there and what is to come are all
abbrev pub invariant-loop-variable : goal.invariant-loop-variable
invariant-loop-variable l =
    map placed_view l.at.items ++ bounds_at l.state l.variable (drop l.variable l.shapes)
    ≡ map placed_view l.fn.at.items ++ bounds_at l.state 0 l.shapes
