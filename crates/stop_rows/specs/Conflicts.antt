-- A worked query over flags, and clauses that may be learnt of it.
use Rattle.std.specs.Prelude.{ℕ, true, false, List, [], ◌∷◌}
use Rattle.kind_num.specs.declared.Shape.TheVariants as k
use Rattle.proof_steps.specs.declared.Literal.{Literal}
use Rattle.proof_steps.specs.declared.Literal.TheVariants.{Flag}
use Rattle.proof_steps.specs.declared.stops.Budgets.{Budgets}
use Rattle.proof_steps.specs.Rows.{Form}

abbrev pub a_alone : List Literal
a_alone = Flag 0 true ∷ []

abbrev pub b_alone : List Literal
b_alone = Flag 1 true ∷ []

abbrev pub a_or_c : List Literal
a_or_c = Flag 0 true ∷ Flag 2 true ∷ []

-- the flags a, b and c with `a or b` and `a or not b`
abbrev pub three_flags : Form
three_flags = record {
  shapes = k.Flag ∷ k.Flag ∷ k.Flag ∷ [];
  atoms = [];
  clauses = (Flag 0 true ∷ Flag 1 true ∷ []) ∷ (Flag 0 true ∷ Flag 1 false ∷ []) ∷ [];
}

-- a budget of so many learnt clauses
abbrev pub spent : ℕ → Budgets
spent n = record { conflicts = n; splits = 0; pivots = 0 }
