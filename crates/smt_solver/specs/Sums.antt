-- What atoms are to a tableau: rows, and bounds of columns.
use Rattle.std.specs.Prelude.{ℕ, List, [], ◌∷◌, map, Option, Some}
use lib.IntN.{ℤ}
use Rattle.proof_steps.specs.View.{Inequality}
use Rattle.proof_steps.specs.Rows.{defining_rows}
use Rattle.proof_steps.specs.Bounds.{Bound}
use Rattle.line_laws.specs.Steps.{divisor_of}
use Rattle.smt_solver.specs.declared.numbers.meanings.Meaning.{Meaning}

-- the atom's row with n as its own column, if it has one
abbrev pub own_row : ℕ → Inequality → List (List (ℕ × ℤ))
own_row n i = defining_rows n (i ∷ [])

abbrev pub meaning_view : Meaning → Bound
meaning_view m = record { column = m.column; upper = m.upper; limit = m.limit }

abbrev pub all_meant : List Meaning → List (Option Bound)
all_meant ms = map (λ m. Some (meaning_view m)) ms

abbrev pub divisor_in : Inequality → ℤ
divisor_in i = divisor_of i.terms

abbrev pub all_divisors : List Meaning → List ℤ
all_divisors ms = map (λ (m : Meaning). m.divisor) ms
