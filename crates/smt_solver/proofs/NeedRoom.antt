-- Without atoms there is no split, no row, and so no pivot and no operation; and conflicts are few.
use Rattle.std.specs.Prelude.{ℕ, zero, suc, ◌≡◌, ◌≢◌, ◌+◌, ◌<◌, ◌≤◌, ◌^◌, List, [], ◌∷◌, length, Contains, Some, slice_get, refl}
use Rattle.std.proofs.Common.{sym, ◌∙◌, ap, arith}
use Rattle.std.proofs.lemmas.List.Elements.{All-contains}
use lib.IntN.{ℤ}
use Rattle.kind_num.specs.declared.Shape.{Shape}
use Rattle.kind_num.specs.declared.Shape.TheVariants as k
use Rattle.proof_steps.specs.declared.Literal.{Literal}
use Rattle.proof_steps.specs.View.{Inequality}
use Rattle.proof_steps.specs.declared.stops.Budgets.{Budgets}
use Rattle.proof_steps.specs.StopView.{conflicts, splits, pivots, past, Beginning, Operation}
use Rattle.proof_steps.specs.Rows.{Form, IsBasis, IsRow, rows_of, columns_of, defining_rows}
use Rattle.proof_steps.specs.Bounds.{atoms_with}
use Rattle.proof_steps.specs.Splits.{AreSplits}
use Rattle.proof_steps.specs.Stopped.{IsTrueOf, IsRowOf, Row}
use Rattle.sat_core.specs.Shown.{flags_from}
use Rattle.sat_core.specs.Few.{variable_count, NewOnesAreFew}
use Rattle.smt_solver.specs.NeedRoom.{AtomsAreNeeded}

flags-within : (n : ℕ) (shapes : List Shape) → length (flags_from n shapes) ≤ length shapes
flags-within n [] = omega arith
flags-within n (k.Flag ∷ shapes) = let i = flags-within (n + 1) shapes in omega arith
flags-within n (k.Number ∷ shapes) = let i = flags-within (n + 1) shapes in omega arith

pub power-grows : (m n : ℕ) → m ≤ n → 3 ^ m ≤ 3 ^ n
power-grows zero zero h = omega arith
power-grows zero (suc n) h = let i = power-grows zero n (omega arith) in omega arith
power-grows (suc m) zero h = absurd (omega arith)
power-grows (suc m) (suc n) h = let i = power-grows m n (omega arith) in omega arith

module _ (f : Form) (budgets : Budgets) (h : f.atoms ≡ []) where
  no-rows : length (rows_of f) ≡ 0
  no-rows = ap (λ (atoms : List Inequality). length (defining_rows (length f.shapes) atoms)) h

  no-row : (basis : List ℕ) (x : ℕ) (ms : List ℤ) → IsBasis (rows_of f) (columns_of f) basis
      → IsRow (rows_of f) basis x ms → ⊥
  no-row basis x ms b r = go basis (b.count ∙ no-rows) r.in_basis where
    go : (xs : List ℕ) → length xs ≡ 0 → Contains xs x → ⊥
    go xs e (k, l, q) = omega arith

  pub no-pairs : (pairs : List (ℕ × ℤ)) → AreSplits f pairs → pairs ≡ []
  no-pairs [] s = refl
  no-pairs ((x, c) ∷ rest) s =
      let b = s.0.between in absurd (no-row b.basis x b.multipliers b.is_basis b.value.row)

  no-splits : (pairs : List (ℕ × ℤ)) → budgets.splits ≢ 0 → ¬ IsTrueOf f budgets (splits pairs)
  no-splits pairs n t = n (sym t.1 ∙ ap length (no-pairs pairs t.0))

  no-pivots : (start : Beginning) (pairs : List (ℕ × ℤ)) → ¬ IsTrueOf f budgets (pivots start pairs)
  no-pivots start pairs t =
      let p = t.2.more.1 in no-row start.basis p.leaving p.multipliers t.2.is_basis p.misses.value.row

  there : (rows : List Row) (k : ℕ) (r : Row) → slice_get rows k ≡ Some r → Contains rows r
  there [] k r e = absurd cc
  there (x ∷ xs) zero r e = (0, omega arith, is x r e) where
    is : (x r : Row) → Some x ≡ Some r → x ≡ r
    is x r e = cc
  there (x ∷ xs) (suc k) r e =
      (suc (there xs k r e).0, (let l = (there xs k r e).1 in omega arith), (there xs k r e).2)

  no-past : (step : Operation) (pairs : List (ℕ × ℤ)) → ¬ IsTrueOf f budgets (past step pairs)
  no-past step pairs t =
      let r = All-contains (IsRowOf (rows_of f) (columns_of f)) t.1.rows t.1.row t.1.are_rows
      (there t.1.rows t.1.place t.1.row t.1.is_row) in
      no-row r.1 r.2 t.1.row.multipliers r.3 r.4

  pub needed : AtomsAreNeeded f budgets
  needed = record { no_splits = no-splits; no_pivots = no-pivots; no_past = no-past }

  count : (pairs : List (ℕ × ℤ)) → AreSplits f pairs → variable_count f pairs ≤ length f.shapes
  count pairs s =
      let i = flags-within 0 f.shapes in
      let e : length (atoms_with f pairs) ≡ 0 =
      ap (λ ps. length (atoms_with f ps)) (no-pairs pairs s)
      ∙ ap (λ (atoms : List Inequality). length (atoms_with record { shapes = f.shapes; atoms = atoms; clauses = f.clauses } [])) h in
      omega arith

  pub few-conflicts : NewOnesAreFew → (clauses : List (List Literal)) (pairs : List (ℕ × ℤ))
      → IsTrueOf f budgets (conflicts clauses pairs) → budgets.conflicts < 3 ^ length f.shapes
  few-conflicts new clauses pairs t =
      let n = new f pairs f.clauses clauses t.2 in
      let p = power-grows (variable_count f pairs) (length f.shapes) (count pairs t.0) in
      let e = t.1 in
      omega arith
