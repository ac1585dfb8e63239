use Rattle.std.proofs.Common.{◌≡◌, true, false, arith, subst, sym, ◌++◌, ◌∷◌, []}
use Rattle.std.proofs.lemmas.List.{map-append}
use Rattle.std.specs.Borrow.{Bor}
use Rattle.lus_tree.specs.declared.place.Param.{Param}
use Rattle.lus_tree.specs.View.{param_view}
use Rattle.lus_streams.specs.Streams.{AreFirst, params_view}
use Rattle.lus_streams.proofs.Firsts.{add_seen, add_new}
use Rattle.lus_streams.proofs.streams.add.Goals as goal

pub returns-then-not-branch : goal.returns-then-not-branch
returns-then-not-branch c = λ vs a.
    let t : c.in_ok-add.field-0 ≡ false = grind (arith, c.if-not-branch.true) in
    add_seen c.deref.result.now c.args.streams.now.numbers c.add.new.self c.in_ok-add.field-0 (params_view c.args.streams.now.firsts.items) vs
    (param_view c.args.stream.now) c.deref.ensures c.in_ok-add.ensures.new c.in_ok-add.ensures.names t a

pub returns : goal.returns
returns c = λ vs a.
    let t : c.in_ok-add.field-0 ≡ true = grind (arith, c.if-not-branch.false) in
    subst (λ bs. AreFirst c.add.new.self (params_view bs) (vs ++ param_view c.args.stream.now ∷ [])) (sym c.in_ok-push.ensures.items)
    (subst (λ fs. AreFirst c.add.new.self fs (vs ++ param_view c.args.stream.now ∷ []))
    (sym (map-append (λ (v : Bor Param). param_view v.now) c.args.streams.now.firsts.items (c.args.stream ∷ [])))
    (add_new c.deref.result.now c.args.streams.now.numbers c.add.new.self c.in_ok-add.field-0 (params_view c.args.streams.now.firsts.items) vs
    (param_view c.args.stream.now) c.deref.ensures c.in_ok-add.ensures.new c.in_ok-add.ensures.names t a))
