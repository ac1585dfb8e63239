-- Worked queries at the bounds of the laws.
use Rattle.std.specs.Prelude.{ℕ, ◌==◌, true, false, cond, List, [], ◌∷◌}
use lib.IntN.{ℤ, pos, negsuc, neg_ℤ}
use Rattle.kind_num.specs.declared.Op.TheVariants.{Mul}
use Rattle.kind_num.specs.declared.Shape.TheVariants.{Number}
use Rattle.proof_steps.specs.declared.Literal.TheVariants.{Atom}
use Rattle.proof_steps.specs.declared.stops.Budgets.{Budgets}
use Rattle.proof_steps.specs.StopView.{Beginning, Operation}
use Rattle.proof_steps.specs.Rows.{Form}

-- the numbers x and y with `2*x - 2*y <= 1`, x from 0 to 1 and y from 0 to 0
abbrev pub near : Form
near = record {
  shapes = Number ∷ Number ∷ [];
  atoms =
      record { terms = (0, pos 2) ∷ (1, negsuc 1) ∷ []; bound = pos 1 }
      ∷ record { terms = (0, negsuc 0) ∷ []; bound = pos 0 }
      ∷ record { terms = (0, pos 1) ∷ []; bound = pos 1 }
      ∷ record { terms = (1, negsuc 0) ∷ []; bound = pos 0 }
      ∷ record { terms = (1, pos 1) ∷ []; bound = pos 0 }
      ∷ [];
  clauses = (Atom 1 true ∷ []) ∷ (Atom 2 true ∷ []) ∷ (Atom 3 true ∷ []) ∷ (Atom 4 true ∷ []) ∷ (Atom 5 true ∷ []) ∷ [];
}

abbrev pub near_low : ℕ → ℤ
near_low x = pos 0

abbrev pub near_high : ℕ → ℤ
near_high x = cond (x == 0) (pos 1) (pos 0)

-- 2^126
abbrev pub large : ℤ
large = pos 85070591730234615865843651857942052864

-- the same with x from 2^126 to 2^126
abbrev pub far : Form
far = record {
  shapes = Number ∷ Number ∷ [];
  atoms =
      record { terms = (0, pos 2) ∷ (1, negsuc 1) ∷ []; bound = pos 1 }
      ∷ record { terms = (0, negsuc 0) ∷ []; bound = neg_ℤ large }
      ∷ record { terms = (0, pos 1) ∷ []; bound = large }
      ∷ record { terms = (1, negsuc 0) ∷ []; bound = pos 0 }
      ∷ record { terms = (1, pos 1) ∷ []; bound = pos 0 }
      ∷ [];
  clauses = (Atom 1 true ∷ []) ∷ (Atom 2 true ∷ []) ∷ (Atom 3 true ∷ []) ∷ (Atom 4 true ∷ []) ∷ (Atom 5 true ∷ []) ∷ [];
}

abbrev pub far_ends : ℕ → ℤ
far_ends x = cond (x == 0) large (pos 0)

-- twice the bound of x, over the row of the first atom
abbrev pub doubled : Operation
doubled = record {
  rows = ((0, pos 2) ∷ (1, negsuc 1) ∷ (2, negsuc 0) ∷ []) ∷ [];
  past = record { op = Mul; left = pos 2; right = large };
}

-- the sum of the first atom in the basis, asserted to be both 1 at most and 2 at least, and x and y at 0
abbrev pub crossing : Beginning
crossing = record {
  basis = 2 ∷ [];
  bounds = (2, true, pos 1) ∷ (2, false, pos 2) ∷ [];
  places = (0, pos 0) ∷ (1, pos 0) ∷ [];
  pivots = 0;
}

-- a budget of so many splits, and of so many pivots
abbrev pub splits_of : ℕ → Budgets
splits_of n = record { conflicts = 0; splits = n; pivots = 0 }

abbrev pub pivots_of : ℕ → Budgets
pivots_of n = record { conflicts = 0; splits = 0; pivots = n }

-- of one row with three columns each column is a basis
abbrev pub three_bases : List (List ℕ)
three_bases = (0 ∷ []) ∷ (1 ∷ []) ∷ (2 ∷ []) ∷ []

-- 3 to the power of five atoms and a room of 1, one split more than the room, and 3 bases times 3 to the columns
abbrev pub ample : Budgets
ample = record { conflicts = 729; splits = 2; pivots = 81 }
