-- Worked queries over numbers, and stops of them.
use Rattle.std.specs.Prelude.{true, false, [], ◌∷◌}
use lib.IntN.{ℤ, pos, negsuc, neg_ℤ}
use Rattle.kind_num.specs.declared.Op.TheVariants.{Mul}
use Rattle.kind_num.specs.declared.Shape.TheVariants.{Number}
use Rattle.proof_steps.specs.declared.Literal.TheVariants.{Atom}
use Rattle.proof_steps.specs.declared.stops.Budgets.{Budgets}
use Rattle.proof_steps.specs.StopView.{Beginning, Operation}
use Rattle.proof_steps.specs.Rows.{Form}

-- the numbers x and y with `2*x - 2*y <= 1`
abbrev pub halves : Form
halves = record {
  shapes = Number ∷ Number ∷ [];
  atoms = record { terms = (0, pos 2) ∷ (1, negsuc 1) ∷ []; bound = pos 1 } ∷ [];
  clauses = (Atom 1 true ∷ []) ∷ [];
}

-- no work at all
abbrev pub nothing_spent : Budgets
nothing_spent = record { conflicts = 0; splits = 0; pivots = 0 }

-- the sum of its atom in the basis, asserted to be 2 or more, and x and y at 0
abbrev pub sum_below_2 : Beginning
sum_below_2 = record {
  basis = 2 ∷ [];
  bounds = (2, false, pos 2) ∷ [];
  places = (0, pos 0) ∷ (1, pos 0) ∷ [];
  pivots = 0;
}

-- 2^126
abbrev pub large : ℤ
large = pos 85070591730234615865843651857942052864

-- the row of the atom `2*x - 2*y <= 1`, and beside it an entry of its sum that is taken away again
abbrev pub listed_twice : Operation
listed_twice = record {
  rows = ((2, large) ∷ (2, neg_ℤ large) ∷ (0, pos 2) ∷ (1, negsuc 1) ∷ (2, negsuc 0) ∷ []) ∷ [];
  past = record { op = Mul; left = large; right = pos 2 };
}

-- the numbers x and y with `2*x - 2*y <= 1` and x at least 2^126
abbrev pub far_away : Form
far_away = record {
  shapes = Number ∷ Number ∷ [];
  atoms =
      record { terms = (0, pos 2) ∷ (1, negsuc 1) ∷ []; bound = pos 1 }
      ∷ record { terms = (0, negsuc 0) ∷ []; bound = neg_ℤ large }
      ∷ [];
  clauses = (Atom 1 true ∷ []) ∷ (Atom 2 true ∷ []) ∷ [];
}

-- twice that bound, over the row of the first atom
abbrev pub doubled : Operation
doubled = record {
  rows = ((0, pos 2) ∷ (1, negsuc 1) ∷ (2, negsuc 0) ∷ []) ∷ [];
  past = record { op = Mul; left = pos 2; right = large };
}
