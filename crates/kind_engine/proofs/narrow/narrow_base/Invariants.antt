use Rattle.std.specs.Prelude.{◌≡◌, ◌+◌, ◌-◌, ◌++◌, ◌∷◌, map}
use Rattle.sys_terms.specs.View.{placed_view, system_view, negation}
use Rattle.sys_terms.specs.Queries.{property_term}
use Rattle.sys_terms.specs.NarrowQuery.{bounds_from}
use Rattle.kind_engine.proofs.narrow.narrow_base.Given as goal

-- what is there and what is to come are all
abbrev pub invariant-loop-state : goal.invariant-loop-state
invariant-loop-state l =
    map placed_view l.at.items ++ bounds_from l.system.shapes.items l.state ((l.instant + 1) - l.state)
    ≡ (l.instant, negation (property_term (system_view l.system) l.property))
    ∷ bounds_from l.system.shapes.items 0 (l.instant + 1)
