use Rattle.std.specs.Prelude.{◌≡◌, ◌<◌, length, map, Some, slice_get}
use Rattle.std.proofs.Common.{arith, inr, sym, subst, ap, ◌∙◌}
use Rattle.std.proofs.lemmas.List.{length-map}
use Rattle.std.proofs.lemmas.Option.{slice_get-get_or}
use Rattle.proof_steps.specs.View.{row_view}
use Rattle.int_simplex.specs.Farkas.{IsRefuted}
use Rattle.int_simplex.proofs.Places.{mapped_at}
use Rattle.smt_solver.specs.Run.{work_view}
use Rattle.smt_solver.proofs.Looking.{step-past, some-row, refuted-so}
use Rattle.smt_solver.proofs.numbers.looking.checked.Goals as goal

pub returns : goal.returns
returns c =
    let n : 0 < length c.check.new.self.given = some-row c.args.tableau.now c.check.new.self c.args.pivots c.in_ok-check.field-0
    c.in-Refuted.farkas c.in-Refuted.is c.in_ok-check.ensures.answer in
    let m : length (map row_view c.given.result.now) ≡ length c.given.result.now = length-map c.given.result.now row_view in
    let e : length (map row_view c.given.result.now) ≡ length c.check.new.self.given = ap length c.given.ensures in
    let h : 0 < length c.given.result.now = omega arith in
    let r = refuted-so c.args.tableau.now c.check.new.self c.args.pivots c.in_ok-check.field-0
    c.in-Refuted.farkas c.in-Refuted.is c.in_ok-check.ensures.answer in
    inr (step-past (work_view c.args.work.now) (work_view c.refuted.new.work) c.args.tableau.now c.check.new.self c.args.meanings.now
    c.args.pivots
    (row_view c.index-given-0.result) c.deref.result.now c.in_ok-refuted-in-Refuted.field-0 c.in-Some.step c.in-Some.is
    c.in_ok-refuted-in-Refuted.ensures
    (sym (ap (λ rows. slice_get rows 0) c.given.ensures)
    ∙ mapped_at row_view c.given.result.now 0 c.index-given-0.result
    (slice_get-get_or c.given.result.now 0 c.index-given-0.result h ∙ ap (λ r. Some r) (sym c.index-given-0.is)))
    c.columns-columns-in-Refuted.ensures.sound r.0
    (subst (IsRefuted c.check.new.self.given c.check.new.self.columns c.check.new.self.bounds) (sym c.deref.ensures.value) r.1))
