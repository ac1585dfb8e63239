-- The values of a query's variables under what is assigned.
use Rattle.std.specs.Prelude.{ℕ, suc, Bool, true, false, List, [], ◌∷◌, Option, Some, None}
use lib.IntN.{pos}
use Rattle.kind_num.specs.declared.Shape.{Shape}
use Rattle.kind_num.specs.declared.Shape.TheVariants as k
use Rattle.proof_steps.specs.declared.Literal.TheVariants as l
use Rattle.sys_terms.specs.declared.term.Entry.{Entry}
use Rattle.sys_terms.specs.declared.term.Entry.TheVariants as e
use Rattle.sat_core.specs.declared.assigned.Assigned.{Assigned}
use Rattle.sat_core.specs.Trail.{value_of}

abbrev pub is_set : Option Bool → Bool
is_set None = false
is_set (Some b) = b

-- a flag is true where it was assigned so; numbers are compared nowhere, and are 0
abbrev pub entry_of : List Assigned → ℕ → Shape → Entry
entry_of trail n k.Flag = e.Flag (is_set (value_of trail (l.Flag n true)))
entry_of trail n k.Number = e.Number (pos 0)

-- those of the variables from n on
abbrev pub entries_from : List Assigned → ℕ → List Shape → List Entry
entries_from trail n [] = []
entries_from trail n (s ∷ shapes) = entry_of trail n s ∷ entries_from trail (suc n) shapes
