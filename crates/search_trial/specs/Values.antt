-- What values of flags make true.
use Rattle.std.specs.Prelude.{◌≡◌, Bool, List, Option, Some, Contains, slice_get}
use Rattle.proof_steps.specs.declared.Literal.{Literal}
use Rattle.proof_steps.specs.declared.Literal.TheVariants.{Flag, Atom}

-- the flag has the value that makes the literal true
abbrev pub IsTrueIn : List (Option Bool) → Literal → Type 0
IsTrueIn values (Flag n b) = slice_get values n ≡ Some (Some b)
IsTrueIn values (Atom n b) = ⊥

abbrev pub HasTrue : List (Option Bool) → List Literal → Type 0
HasTrue values clause = (l : Literal) × Contains clause l × IsTrueIn values l
