use Rattle.std.specs.Prelude.{◌≡◌, ◌+◌, length, map}
use Rattle.std.proofs.Common.{subst, sym, ap, ◌∙◌, arith}
use Rattle.std.proofs.lemmas.List.{length-map}
use Rattle.proof_steps.specs.View.{atom_view, row_view}
use Rattle.proof_steps.specs.Rows.{Form, defining_rows, rows_of, columns_of}
use Rattle.cnf_maker.specs.View.{form_view}
use Rattle.int_simplex.specs.Given.{AreGiven}
use Rattle.smt_solver.proofs.Sums.{rows-given}
use Rattle.smt_solver.proofs.numbers.rows.tableau.Goals as goal

pub new-requires : goal.new-requires
new-requires c =
    let f : Form = form_view c.args.cnf.now in
    let n : c.len-first.result ≡ length f.shapes = c.len-first.ensures ∙ c.args.cnf.now.shapes.ok.0 in
    let r : map row_view c.deref-2.result.now ≡ rows_of f =
    ap (map row_view) c.deref-2.ensures.value ∙ c.in_ok-rows.ensures.exact
    ∙ ap (λ m. defining_rows m (map atom_view c.deref.result.now)) n
    ∙ ap (λ atoms. defining_rows (length f.shapes) (map atom_view atoms)) c.deref.ensures.value in
    let l : c.len.result ≡ length c.in_ok-rows.rows.items = c.len.ensures ∙ c.in_ok-rows.rows.ok.0 in
    let d = ap length c.deref-2.ensures.value in
    let m = length-map c.deref-2.result.now row_view in
    let e = ap length r in
    let k : c.len-first.result + c.len.result ≡ columns_of f = omega arith in
    subst (λ n. AreGiven (map row_view c.deref-2.result.now) n) (sym k)
    (subst (λ rows. AreGiven rows (columns_of f)) (sym r) (rows-given f c.requires.plain))
