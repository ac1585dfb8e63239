-- The theory step of a cut in the words of the code that makes it.
use Rattle.std.specs.Prelude.{ℕ, suc, true, List, [], ◌∷◌, ◌++◌, length, map}
use lib.IntN.{ℤ, pos}
use Rattle.proof_steps.specs.declared.Literal.TheVariants.{Atom}
use Rattle.proof_steps.specs.declared.Source.{Source}
use Rattle.proof_steps.specs.declared.Source.TheVariants as s
use Rattle.proof_steps.specs.View.{Move, Sum, theory}
use Rattle.sat_core.specs.declared.assigned.Assigned.{Assigned}
use Rattle.smt_solver.specs.declared.numbers.meanings.Meaning.{Meaning}
use Rattle.smt_solver.specs.declared.numbers.steps.Used.{Used}
use Rattle.smt_solver.specs.Used.{used_by, denied_by, own_lines_by, line_by, refuting_move}

-- the multipliers of a line's bounds, each with the number of the bound's atom
abbrev pub numbered_in : List (ℤ × Source) → List (ℤ × ℕ)
numbered_in [] = []
numbered_in ((m, s.Literal n) ∷ rest) = (m, n) ∷ numbered_in rest
numbered_in ((m, s.Line n) ∷ rest) = numbered_in rest

-- the bounds that the line uses, of the literals that are true
abbrev pub used_in : List Assigned → List Meaning → Sum → List Used
used_in trail ms line = map (used_by trail ms) (numbered_in line.parts)

-- the sum of the cut's line with the opposite of its atom: the line and the literal behind those of n bounds
abbrev pub closing_line : ℕ → Sum
closing_line n = record { parts = (pos 1, s.Line (suc n)) ∷ (pos 1, s.Literal (suc n)) ∷ []; divisor = pos 1 }

-- a literal of the bounds is false, or the n-th atom is true
abbrev pub cut_move : ℕ → List Used → ℤ → Move
cut_move n used d =
    theory (map denied_by used ++ Atom n true ∷ [])
    (own_lines_by 1 used ++ line_by used d ∷ closing_line (length used) ∷ [])

-- an atom without a term is none to be added, and a literal of the bounds is false
abbrev pub move_of_cut : ℕ → List (ℕ × ℤ) → List Used → ℤ → Move
move_of_cut n [] used d = refuting_move used
move_of_cut n (t ∷ terms) used d = cut_move n used d
