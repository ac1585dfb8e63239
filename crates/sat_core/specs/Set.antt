-- How an array of marks stands for a list of literals.
use Rattle.std.specs.Prelude.{ℕ, ◌≡◌, ◌+◌, ◌*◌, Bool, true, false, List, ◌++◌, get_or, replicate}
use Rattle.proof_steps.specs.declared.Literal.{Literal}
use Rattle.proof_steps.specs.declared.Literal.TheVariants.{Flag, Atom}
use Rattle.proof_checker.specs.Derived.{has}

-- a place of its own for each literal
abbrev pub place_of : Literal → ℕ
place_of (Flag n true) = n * 4
place_of (Flag n false) = n * 4 + 1
place_of (Atom n true) = n * 4 + 2
place_of (Atom n false) = n * 4 + 3

-- the mark at a literal's place says whether the list has it; past the array nothing is marked
abbrev pub IsTied : List Bool → List Literal → Type 0
IsTied marks literals = (l : Literal) → get_or marks (place_of l) false ≡ has literals l

-- each mark is of a listed literal
abbrev pub IsCovered : List Bool → List Literal → Type 0
IsCovered marks rest = (l : Literal) → get_or marks (place_of l) false ≡ true → has rest l ≡ true

-- there may be more at the end, unmarked
abbrev pub IsWidened : List Bool → List Bool → Type 0
IsWidened old new = (n : ℕ) × (new ≡ old ++ replicate n false)
