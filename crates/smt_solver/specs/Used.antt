-- A theory step in the words of the code that makes it.
use Rattle.std.specs.Prelude.{ℕ, suc, true, List, [], ◌∷◌, ◌++◌, map, Option, Some, None}
use lib.IntN.{ℤ, pos}
use Rattle.proof_steps.specs.declared.Literal.{Literal}
use Rattle.proof_steps.specs.declared.Literal.TheVariants.{Atom}
use Rattle.proof_steps.specs.declared.Source.{Source}
use Rattle.proof_steps.specs.declared.Source.TheVariants as s
use Rattle.proof_steps.specs.View.{Sum, Move, theory}
use Rattle.proof_steps.specs.Meaning.{at, opposite}
use Rattle.sat_core.specs.declared.assigned.Assigned.{Assigned}
use Rattle.sat_core.specs.Trail.{value_of}
use Rattle.line_laws.specs.Lines.{Part}
use Rattle.line_laws.specs.Steps.{divisor_of}
use Rattle.smt_solver.specs.declared.numbers.meanings.Meaning.{Meaning}
use Rattle.smt_solver.specs.declared.numbers.steps.Used.{Used}
use Rattle.smt_solver.specs.States.{is_set}

abbrev pub used_of : Part → Used
used_of p = record {
  multiplier = p.multiplier;
  atom = p.bound.literal;
  sign = p.sign;
  divisor = divisor_of p.atom.terms;
}

abbrev pub denied_by : Used → Literal
denied_by u = opposite (Atom u.atom u.sign)

abbrev pub literal_line : ℕ → ℤ → Sum
literal_line n d = record { parts = (pos 1, s.Literal n) ∷ []; divisor = d }

-- the literals are numbered from n on
abbrev pub own_lines_by : ℕ → List Used → List Sum
own_lines_by n [] = []
own_lines_by n (u ∷ rest) = literal_line n u.divisor ∷ own_lines_by (suc n) rest

abbrev pub line_parts_by : ℕ → List Used → List (ℤ × Source)
line_parts_by n [] = []
line_parts_by n (u ∷ rest) = (u.multiplier, s.Line n) ∷ line_parts_by (suc n) rest

-- their sum, divided
abbrev pub line_by : List Used → ℤ → Sum
line_by used d = record { parts = line_parts_by 1 used; divisor = d }

abbrev pub sum_by : List Used → Sum
sum_by used = line_by used (pos 1)

-- one of the literals is false
abbrev pub refuting_move : List Used → Move
refuting_move used = theory (map denied_by used) (own_lines_by 1 used ++ sum_by used ∷ [])

abbrev pub divisor_at : Option Meaning → ℤ
divisor_at None = pos 1
divisor_at (Some m) = m.divisor

-- a multiplier with the number of an atom, whose literal is that which is true
abbrev pub used_by : List Assigned → List Meaning → ℤ × ℕ → Used
used_by trail ms p = record {
  multiplier = p.0;
  atom = p.1;
  sign = is_set (value_of trail (Atom p.1 true));
  divisor = divisor_at (at ms p.1);
}
