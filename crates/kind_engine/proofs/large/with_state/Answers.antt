use Rattle.std.proofs.Common.{rules, arith, ◌≡◌, ◌<◌, ◌≤◌, true, subst}
use Rattle.std.specs.Prelude.{Some, None}
use Rattle.std.specs.Int.{w128}
use Rattle.std.proofs.lemmas.Int.{to_z-of_z}
use mir.Val.{SFits}
use Rattle.sys_terms.specs.Fits.{is_narrow}
use Rattle.kind_engine.specs.Larges.{IsLeast}
use Rattle.kind_engine.proofs.Least.{least-same, least-kept, least-new, least-less}
use Rattle.kind_engine.proofs.large.with_state.Goals as goal

pub returns-in_default : goal.returns-in_default
returns-in_default c =
    let narrow : is_narrow c.args.values.now ≡ true = search rules in
    λ path e h. least-same path c.args.values.now c.args.least narrow h

pub returns-in-None : goal.returns-in-None
returns-in-None c =
    let none : c.args.least ≡ None = search rules in
    let fits : SFits w128 c.in-Some.value = search rules in
    let l = c.in-Some.ensures in
    λ path e h.
    simp to_z-of_z (least-new path c.args.values.now c.in-Some.number c.args.instant c.in-Some.value e l.some.0 l.some.1
    l.first (subst (IsLeast path) none h))

pub returns-then-large-number : goal.returns-then-large-number
returns-then-large-number c =
    let large = c.in-Some-least.large in
    let some : c.args.least ≡ Some large = search rules in
    let less : large.number ≤ c.in-Some.number = search rules in
    λ path e h.
    least-kept path c.args.values.now large c.in-Some.number less c.in-Some.ensures.first (subst (IsLeast path) some h)

pub returns-else-large-number : goal.returns-else-large-number
returns-else-large-number c =
    let large = c.in-Some-least.large in
    let some : c.args.least ≡ Some large = search rules in
    let less : c.in-Some.number < large.number = search (rules, arith) in
    let fits : SFits w128 c.in-Some.value = search rules in
    let l = c.in-Some.ensures in
    λ path e h.
    simp to_z-of_z (least-less path c.args.values.now c.in-Some.number c.args.instant c.in-Some.value large.number
    large.instant less e l.some.0 l.some.1 l.first (subst (IsLeast path) some h).1)
