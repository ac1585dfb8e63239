use Rattle.std.proofs.Common.{rules, arith, ◌≡◌, ◌<◌, ◌+◌, ◌++◌, ◌∷◌, [], suc, drop, length, get_or, map, ap, ◌∙◌}
use Rattle.std.proofs.Math.Seq.{drop-cons}
use Rattle.kind_num.specs.declared.Shape.TheVariants as s
use Rattle.sys_terms.specs.View.{placed_view}
use Rattle.sys_terms.specs.NarrowQuery.{bounds_at}
use Rattle.kind_engine.proofs.Narrowing.{one-on, bounds-from-one}
use Rattle.kind_engine.proofs.narrow.push_state.Goals as goal

pub loop-variable-preserved : goal.loop-variable-preserved
loop-variable-preserved c =
    let shapes = c.args.shapes.now in
    let state = c.args.state in
    let v = c.loop-variable.variable in
    let h = get_or shapes v s.Flag in
    let below : v < length shapes = search (rules, arith) in
    let next : suc v ≡ v + 1 = omega arith in
    let e : drop v shapes ≡ h ∷ drop (v + 1) shapes =
    drop-cons shapes v s.Flag below ∙ ap (λ n. h ∷ drop n shapes) next in
    one-on (map placed_view c.loop-variable.at.items) (map placed_view c.push_bounds.new.at.items)
    (bounds_at state v (h ∷ [])) (bounds_at state v (drop v shapes)) (bounds_at state (v + 1) (drop (v + 1) shapes))
    (map placed_view c.args.at.now.items ++ bounds_at state 0 shapes)
    (search rules) (bounds-from-one state v shapes h e) c.loop-variable.invariant
