use Rattle.std.specs.Int.{w128}
use Rattle.std.specs.Prelude.{◌≡◌, ◌++◌, ◌∷◌, [], length, IfSome}
use Rattle.std.proofs.Common.{rules, subst, ap, ◌∙◌, arith}
use Rattle.std.proofs.lemmas.Int.{to_z-of_z}
use mir.Val.{SFits}
use Rattle.int_cuts.specs.Splits.{IsSplitOf}
use Rattle.smt_solver.specs.Kept.{own_form, solver_view}
use Rattle.smt_solver.specs.Near.{IsRoomy}
use Rattle.smt_solver.specs.Run.{work_view}
use Rattle.smt_solver.specs.Turning.{IsSplitOff, meaning_of_split}
use Rattle.smt_solver.proofs.Kept.{plain-form}
use Rattle.smt_solver.proofs.Ends.{whole-end, next-split, after-split}
use Rattle.smt_solver.proofs.run.at_fit.Goals as goal

pub returns-in-None : goal.returns-in-None
returns-in-None c =
    let s = solver_view c.args.solver.now in
    whole-end (own_form s) s c.requires.fit (subst (IsSplitOf s.tableau.values) c.in-None.is c.broken_value.ensures.split)

pub returns-then-len-budgets : goal.returns-then-len-budgets
returns-then-len-budgets c =
    let s = solver_view c.args.solver.now in
    let n : c.len.result ≡ length s.pairs = c.len.ensures ∙ c.args.solver.now.pairs.ok.0 in
    let a = c.if-len-budgets.true in let b = c.requires.within.splits in (
      (c.requires.fit.kept.splits, omega arith),
      c.in-Some.broken.0,
      c.in-Some.broken.1,
      next-split c.broken_numbers_split.ensures (own_form s) s c.requires.fit c.in-Some.broken.0 c.in-Some.broken.1
          (subst (IsSplitOf s.tableau.values) c.in-Some.is c.broken_value.ensures.split),
    )

pub split-requires-clause-plain : goal.split-requires-clause-plain
split-requires-clause-plain c =
    let s = solver_view c.args.solver.now in plain-form (own_form s) s c.requires.fit.kept

pub split-requires-clause-number : goal.split-requires-clause-number
split-requires-clause-number c =
    let s = solver_view c.args.solver.now in
    (next-split c.broken_numbers_split.ensures (own_form s) s c.requires.fit c.in-Some.broken.0 c.in-Some.broken.1
    (subst (IsSplitOf s.tableau.values) c.in-Some.is c.broken_value.ensures.split)).number

pub returns : goal.returns
returns c =
    let s = solver_view c.args.solver.now in
    let n : c.len.result ≡ length s.pairs = c.len.ensures ∙ c.args.solver.now.pairs.ok.0 in
    let a = c.if-len-budgets.false in
    let w : SFits w128 c.in-Some.broken.1 = search rules in
    let e = to_z-of_z w128 c.in-Some.broken.1 w in
    after-split c.split_steps_fit.ensures (own_form s) c.args.budgets s c.requires.fit.kept c.requires.within
    c.in-Some.broken.0 c.in-Some.broken.1
    (next-split c.broken_numbers_split.ensures (own_form s) s c.requires.fit c.in-Some.broken.0 c.in-Some.broken.1
    (subst (IsSplitOf s.tableau.values) c.in-Some.is c.broken_value.ensures.split))
    (subst (λ o. IfSome o (λ p. IsRoomy p.1)) c.in-Some.is c.broken_value.ensures.near)
    (omega arith) _ _ _
    (subst (λ z. IsSplitOff c.in-Some.broken.0 z s.work (work_view c.split.new.work) c.split.new.meanings.items) e c.in_ok-split.ensures.split)
    (c.in_ok-split.ensures.meaning ∙ ap (λ z. s.meanings ++ meaning_of_split c.in-Some.broken.0 z ∷ []) e)
    (c.in_ok-push.ensures.items ∙ ap (λ z. s.pairs ++ (c.in-Some.broken.0, z) ∷ []) e)
