use Rattle.std.specs.Prelude.{All}
use Rattle.std.proofs.Common.{subst, sym, ◌∙◌}
use Rattle.proof_steps.specs.Rows.{Form}
use Rattle.smt_solver.specs.declared.numbers.looking.Look.TheVariants.{Fits, Counted, Pivots, Past}
use Rattle.smt_solver.specs.Asserting.{HasColumnBelow}
use Rattle.smt_solver.specs.Kept.{IsKept, IsAtFit, Turns, TurnsCounted, own_form, solver_view}
use Rattle.smt_solver.specs.Looking.{Looks}
use Rattle.smt_solver.specs.Run.{work_view}
use Rattle.smt_solver.proofs.Forms.{columns-below}
use Rattle.smt_solver.proofs.Kept.{plain-form, rows-form, columns-form, own}
use Rattle.smt_solver.proofs.Ends.{looked, at-fit, same-form, turns-on, kept-looked, turns-counted, long-stop, past-stop}
use Rattle.smt_solver.proofs.Valued.{if-ok}
use Rattle.smt_solver.proofs.run.at_full.Goals as goal

pub look_at_numbers-requires-clause-plain : goal.look_at_numbers-requires-clause-plain
look_at_numbers-requires-clause-plain c =
    let s = solver_view c.args.solver.now in plain-form (own_form s) s c.requires.full.kept

pub look_at_numbers-requires-clause-in_range : goal.look_at_numbers-requires-clause-in_range
look_at_numbers-requires-clause-in_range c =
    let s = solver_view c.args.solver.now in
    let k = c.requires.full.kept in
    subst (λ ms. All (HasColumnBelow s.tableau.columns) ms) (sym c.deref.ensures.value)
    (subst (λ n. All (HasColumnBelow n) s.meanings) (columns-form (own_form s) s k ∙ sym k.columns)
    (columns-below s.work.form s.meanings (plain-form (own_form s) s k) k.meanings))

pub look_at_numbers-requires-clause-given : goal.look_at_numbers-requires-clause-given
look_at_numbers-requires-clause-given c =
    let s = solver_view c.args.solver.now in
    let k = c.requires.full.kept in k.given ∙ sym (rows-form (own_form s) s k)

pub at_fit-requires-clause-fit : goal.at_fit-requires-clause-fit
at_fit-requires-clause-fit c =
    let s = solver_view c.args.solver.now in
    let f : Form = own_form s in
    let new = work_view c.look_at_numbers.new.work in
    let u = c.look_at_numbers.new.tableau in
    let most = c.args.budgets.pivots in
    let h : Looks s.work new s.tableau u s.meanings most Fits =
    subst (λ ms. Looks s.work new s.tableau u ms most Fits) c.deref.ensures.value
    (subst (Looks s.work new s.tableau u c.deref.result.now most) c.in-Fits.is c.in_ok-look.ensures) in
    subst (λ g. IsAtFit g (looked f s c.requires.full new u most)) (sym (same-form f s c.requires.full new u most h))
    (at-fit f s c.requires.full new u most h)

pub counted-requires-clause-kept : goal.counted-requires-clause-kept
counted-requires-clause-kept c =
    let s = solver_view c.args.solver.now in
    let f : Form = own_form s in
    let new = work_view c.look_at_numbers.new.work in
    let u = c.look_at_numbers.new.tableau in
    let most = c.args.budgets.pivots in
    let h : Looks s.work new s.tableau u s.meanings most Counted =
    subst (λ ms. Looks s.work new s.tableau u ms most Counted) c.deref.ensures.value
    (subst (Looks s.work new s.tableau u c.deref.result.now most) c.in-Counted.is c.in_ok-look.ensures) in
    let k = kept-looked f s c.requires.full new u most h in
    subst (λ g. IsKept g (looked f s c.requires.full new u most)) (sym (own f (looked f s c.requires.full new u most) k)) k

pub returns-in-Fits : goal.returns-in-Fits
returns-in-Fits c =
    let s = solver_view c.args.solver.now in
    let f : Form = own_form s in
    let new = work_view c.look_at_numbers.new.work in
    let u = c.look_at_numbers.new.tableau in
    let most = c.args.budgets.pivots in
    let h : Looks s.work new s.tableau u s.meanings most Fits =
    subst (λ ms. Looks s.work new s.tableau u ms most Fits) c.deref.ensures.value
    (subst (Looks s.work new s.tableau u c.deref.result.now most) c.in-Fits.is c.in_ok-look.ensures) in
    let mid = looked f s c.requires.full new u most in
    let last = solver_view c.at_fit.new.solver in
    if-ok (Turns (own_form mid) c.args.budgets mid last) (Turns f c.args.budgets s last) c.at_fit.result
    (λ o t. turns-on f s c.requires.full new u most h c.args.budgets last o
    (subst (λ g. Turns g c.args.budgets mid last o) (same-form f s c.requires.full new u most h) t))
    c.at_fit.ensures

pub returns-in-Counted : goal.returns-in-Counted
returns-in-Counted c =
    let s = solver_view c.args.solver.now in
    let f : Form = own_form s in
    let new = work_view c.look_at_numbers.new.work in
    let u = c.look_at_numbers.new.tableau in
    let most = c.args.budgets.pivots in
    let h : Looks s.work new s.tableau u s.meanings most Counted =
    subst (λ ms. Looks s.work new s.tableau u ms most Counted) c.deref.ensures.value
    (subst (Looks s.work new s.tableau u c.deref.result.now most) c.in-Counted.is c.in_ok-look.ensures) in
    let mid = looked f s c.requires.full new u most in
    let last = solver_view c.counted.new.solver in
    turns-counted f s c.requires.full new u most h c.args.budgets c.requires.within last c.counted.result
    (subst (λ g. TurnsCounted g c.args.budgets mid last c.counted.result) (own f mid (kept-looked f s c.requires.full new u most h))
    c.counted.ensures)

pub returns-in-Pivots : goal.returns-in-Pivots
returns-in-Pivots c =
    let s = solver_view c.args.solver.now in
    let f : Form = own_form s in
    let new = work_view c.look_at_numbers.new.work in
    let u = c.look_at_numbers.new.tableau in
    let most = c.args.budgets.pivots in
    let h : Looks s.work new s.tableau u s.meanings most (Pivots c.in-Pivots.start) =
    subst (λ ms. Looks s.work new s.tableau u ms most (Pivots c.in-Pivots.start)) c.deref.ensures.value
    (subst (Looks s.work new s.tableau u c.deref.result.now most) c.in-Pivots.is c.in_ok-look.ensures) in
    long-stop f s c.requires.full new u most c.long_checks_are_long.ensures c.args.budgets c.in-Pivots.start h

pub returns-in-Past : goal.returns-in-Past
returns-in-Past c =
    let s = solver_view c.args.solver.now in
    let f : Form = own_form s in
    let new = work_view c.look_at_numbers.new.work in
    let u = c.look_at_numbers.new.tableau in
    let most = c.args.budgets.pivots in
    let h : Looks s.work new s.tableau u s.meanings most (Past c.in-Past.step) =
    subst (λ ms. Looks s.work new s.tableau u ms most (Past c.in-Past.step)) c.deref.ensures.value
    (subst (Looks s.work new s.tableau u c.deref.result.now most) c.in-Past.is c.in_ok-look.ensures) in
    past-stop f s c.requires.full new u most c.past_checks_are_past.ensures c.args.budgets c.in-Past.step h
