-- The answer that the end of a run gives.
use Rattle.std.specs.Prelude.{ℕ, suc, ◌≡◌, ◌≤◌, true, List, [], ◌∷◌, ◌++◌, length, Result, Ok, Err, ◌≢◌, refl}
use Rattle.std.proofs.Common.{sym, ◌∙◌, ap, subst, arith}
use Rattle.std.proofs.lemmas.List.{length-append}
use Rattle.std.proofs.lemmas.Option.{slice_get_within}
use lib.IntN.{ℤ}
use Rattle.kind_num.specs.declared.Shape.{Shape}
use Rattle.proof_steps.specs.declared.stops.Budgets.{Budgets}
use Rattle.proof_steps.specs.declared.stops.Start.{Start}
use Rattle.proof_steps.specs.declared.stops.PastStep.{PastStep}
use Rattle.proof_steps.specs.StopView.{start_view, past_view}
use Rattle.proof_steps.specs.Rows.{Form}
use Rattle.sys_terms.specs.View.{Question}
use Rattle.sys_terms.specs.Fits.{all_fit_one}
use Rattle.kind_num.specs.declared.Past.{Past}
use Rattle.cnf_maker.specs.ClauseForm.{clause_form}
use Rattle.cnf_maker.specs.Plain.{IsPlain, IsSmall, IsMadeSmall}
use Rattle.cnf_maker.proofs.Plain.{Over}
use Rattle.sat_core.specs.declared.assigned.Assigned.{Assigned}
use Rattle.smt_solver.specs.declared.run.End.{End}
use Rattle.smt_solver.specs.declared.run.End.TheVariants as e
use Rattle.smt_solver.specs.Answered.{HasNoAtoms}
use Rattle.smt_solver.specs.Kept.{Course, HasEnded, IsEnd, IsWholeEnd}
use Rattle.smt_solver.specs.NumberStates.{number_entries}
use Rattle.smt_solver.proofs.Ends.{splits-of-all}
use Rattle.smt_solver.proofs.Literals.{query-over}
use Rattle.smt_solver.proofs.NeedRoom.{no-pairs, needed}
use Rattle.smt_solver.proofs.Valued.{some-shape}

pub number-length : (trail : List Assigned) (values : List (ℤ × ℤ)) (n : ℕ) (shapes : List Shape)
    → length (number_entries trail values n shapes) ≡ length shapes
number-length trail values n [] = refl
number-length trail values n (s ∷ shapes) = ap suc (number-length trail values (suc n) shapes)

over-length : (xs ys : List Shape) → Over xs ys → length xs ≤ length ys
over-length [] ys o = omega arith
over-length (x ∷ xs) ys o =
    let s = some-shape (x ∷ xs) (length xs) (omega arith) in
    let w = slice_get_within ys (length xs) s.0 (o (length xs) s.0 s.1) in omega arith

module _ (q : Question) (budgets : Budgets) (s : Course) (end : End) (h : HasEnded q budgets s end) where
  pub whole : end ≡ e.Full → IsWholeEnd h.form s
  whole w = subst (IsEnd h.form budgets s) w h.is_end

  pub enough-columns : all_fit_one q.shapes q.conditions ≡ true → end ≡ e.Full → length q.shapes ≤ s.tableau.columns
  enough-columns fit w =
      let o = over-length q.shapes h.form.shapes (query-over q h.form fit h.is_form) in
      let c = (whole w).columns in omega arith

  module _ (none : HasNoAtoms q) where
    pub no-splits : end ≡ e.Splits → ⊥
    no-splits w =
        let i : IsEnd h.form budgets s e.Splits = subst (IsEnd h.form budgets s) w h.is_end in
        let d = ap length (no-pairs h.form budgets (none.none h.form h.is_form) (s.pairs ++ (i.1, i.2) ∷ [])
        (splits-of-all h.form s.pairs i.1 i.2 i.0.0 i.3)) in
        let l = length-append s.pairs ((i.1, i.2) ∷ []) in
        absurd (omega arith)

    pub conflict-pairs : end ≡ e.Conflicts → s.pairs ≡ []
    conflict-pairs w =
        let i : IsEnd h.form budgets s e.Conflicts = subst (IsEnd h.form budgets s) w h.is_end in
        no-pairs h.form budgets (none.none h.form h.is_form) s.pairs i.0

    pub no-pivots : (start : Start) → end ≡ e.Pivots start → ⊥
    no-pivots start w = (needed h.form budgets (none.none h.form h.is_form)).no_pivots (start_view start) s.pairs
        (subst (IsEnd h.form budgets s) w h.is_end)

    pub no-past : (step : PastStep) → end ≡ e.Past step → ⊥
    no-past step w = (needed h.form budgets (none.none h.form h.is_form)).no_past (past_view step) s.pairs
        (subst (IsEnd h.form budgets s) w h.is_end)

-- ---- a form with plain and small atoms

pub never-err : (q : Question) → IsMadeSmall q → (past : Past) → clause_form q ≢ Err past
never-err q m past e = let d = sym m.is_form ∙ e in absurd cc

abbrev of_ok : Form → Result Form Past → Form
of_ok d (Ok x) = x
of_ok d (Err e) = d

pub small-form : (q : Question) → IsMadeSmall q → (f : Form) → clause_form q ≡ Ok f → IsPlain f × IsSmall f
small-form q m f e = let d : m.form ≡ f = ap (of_ok f) (sym m.is_form ∙ e) in (subst IsPlain d m.plain, subst IsSmall d m.small)
