-- The bounds that atoms mean by their values.
use Rattle.std.specs.Prelude.{ℕ, suc, ◌≡◌, ◌<◌, Bool, true, false, List, [], ◌∷◌, ◌++◌, Option, Some, None}
use lib.IntN.{ℤ, pos}
use Rattle.proof_steps.specs.declared.Literal.TheVariants.{Atom}
use Rattle.proof_steps.specs.Bounds.{Bound, opposite_bound}
use Rattle.sat_core.specs.declared.assigned.Assigned.{Assigned}
use Rattle.sat_core.specs.Trail.{value_of}
use Rattle.int_simplex.specs.State.{Standing, State}
use Rattle.int_simplex.specs.Farkas.{Refutes}
use Rattle.line_laws.specs.Steps.{standing}
use Rattle.smt_solver.specs.declared.numbers.meanings.Meaning.{Meaning}
use Rattle.smt_solver.specs.Sums.{meaning_view}

-- what the literal with this sign means
abbrev pub signed_bound : Bool → Meaning → Bound
signed_bound true m = meaning_view m
signed_bound false m = opposite_bound (meaning_view m)

abbrev pub bound_by_value : Option Bool → ℕ → Meaning → List Standing
bound_by_value None n m = []
bound_by_value (Some sign) n m = standing n (signed_bound sign m) ∷ []

-- the bound that the n-th atom means by its value, if it has one
abbrev pub bound_at : List Assigned → ℕ → Meaning → List Standing
bound_at trail n m = bound_by_value (value_of trail (Atom n true)) n m

-- those of the atoms from the n-th on
abbrev pub bounds_at : List Assigned → ℕ → List Meaning → List Standing
bounds_at trail n [] = []
bounds_at trail n (m ∷ ms) = bound_at trail n m ++ bounds_at trail (suc n) ms

abbrev pub HasColumnBelow : ℕ → Meaning → Type 0
HasColumnBelow columns m = m.column < columns

-- the bounds of two atoms, each taken once
abbrev pub both_parts : ℕ → ℕ → List (ℤ × ℕ)
both_parts first second = (pos 1, first) ∷ (pos 1, second) ∷ []

-- the bound that the n-th atom means by its value stands, and nothing moved; or it and that of another
-- atom refute each other
abbrev pub IsAssertedBy : List Assigned → State → State → ℕ → Meaning → Option ℕ → Type 0
IsAssertedBy trail old new n m None = new ≡ record old { bounds = old.bounds ++ bound_at trail n m }
IsAssertedBy trail old new n m (Some first) =
    (new ≡ old) × Refutes old.given (old.bounds ++ bound_at trail n m) (both_parts first n)

-- those of all atoms stand; or those of two refute each other
abbrev pub AreAssertedBy : List Assigned → State → State → List Meaning → Option (ℕ × ℕ) → Type 0
AreAssertedBy trail old new ms None = new ≡ record old { bounds = bounds_at trail 1 ms }
AreAssertedBy trail old new ms (Some p) =
    (new ≡ record old { bounds = new.bounds }) × Refutes old.given (bounds_at trail 1 ms) (both_parts p.0 p.1)
