use Rattle.std.specs.Prelude.{ℕ, ◌≡◌, List, length, map}
use Rattle.std.proofs.Common.{sym, subst, ap, ◌∙◌}
use lib.IntN.{ℤ}
use Rattle.proof_steps.specs.View.{atom_view}
use Rattle.proof_steps.specs.Rows.{Form}
use Rattle.proof_steps.specs.Bounds.{bounds_from}
use Rattle.cnf_maker.specs.View.{form_view}
use Rattle.smt_solver.specs.Kept.{IsKept}
use Rattle.smt_solver.specs.Near.{AreMeasured}
use Rattle.smt_solver.specs.Sums.{divisor_in}
use Rattle.smt_solver.specs.Run.{work_view}
use Rattle.smt_solver.proofs.Forms.{all-measured}
use Rattle.smt_solver.proofs.Kept.{kept-begun}
use Rattle.smt_solver.proofs.solver.prepared.Goals as goal

pub meanings-requires : goal.meanings-requires
meanings-requires c =
    record {
      measured = subst (λ atoms. AreMeasured (map atom_view atoms)) (sym c.deref.ensures.value)
          (all-measured (form_view c.args.cnf) c.requires.plain c.requires.small);
    }

pub returns-clause-kept : goal.returns-clause-kept
returns-clause-kept c =
    let f : Form = form_view c.args.cnf in
    let n : c.len.result ≡ length f.shapes = c.len.ensures ∙ c.args.cnf.shapes.ok.0 in
    subst (λ (ps : List (ℕ × ℤ)). IsKept f record {
      work = work_view c.in_ok-work.work;
      tableau = c.in_ok-tableau.tableau;
      meanings = c.in_ok-meanings.meanings.items;
      pairs = ps;
    }) (sym c.new.ensures.items)
    (kept-begun f c.requires.plain c.requires.small c.requires.fit (work_view c.in_ok-work.work) c.in_ok-work.ensures.form
    c.in_ok-work.ensures.run c.in_ok-work.ensures.variables c.in_ok-meanings.meanings.items
    record {
      bounds = c.in_ok-meanings.ensures.bounds
          ∙ ap (λ atoms. bounds_from c.len.result (map atom_view atoms)) c.deref.ensures.value
          ∙ ap (λ m. bounds_from m f.atoms) n;
      divisors = c.in_ok-meanings.ensures.divisors
          ∙ ap (λ atoms. map divisor_in (map atom_view atoms)) c.deref.ensures.value;
    }
    c.in_ok-meanings.ensures.near c.in_ok-tableau.tableau c.in_ok-tableau.ensures)
