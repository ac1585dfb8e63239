use Rattle.std.proofs.Common.{rules, ◌+◌, ◌-◌, ◌∷◌, map}
use Rattle.sys_terms.specs.View.{placed_view, system_view, negation}
use Rattle.sys_terms.specs.Queries.{property_term}
use Rattle.sys_terms.specs.NarrowQuery.{bounds_at, bounds_from}
use Rattle.kind_engine.proofs.Narrowing.{one-on, bounds-more}
use Rattle.kind_engine.proofs.narrow.narrow_base.Goals as goal

pub loop-state-preserved : goal.loop-state-preserved
loop-state-preserved c =
    let m = system_view c.args.system.now in
    let shapes = c.args.system.now.shapes.items in
    let i = c.args.instant in
    let k = c.loop-state.state in
    one-on (map placed_view c.loop-state.at.items) (map placed_view c.push_state.new.at.items) (bounds_at k 0 shapes)
    (bounds_from shapes k ((i + 1) - k)) (bounds_from shapes (k + 1) ((i + 1) - (k + 1)))
    ((i, negation (property_term m c.args.property)) ∷ bounds_from shapes 0 (i + 1))
    (search rules) (bounds-more shapes k (i + 1) (search rules)) c.loop-state.invariant
