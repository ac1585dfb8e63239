-- Worked rows of when a trace fits, over the program of `TraceRows.antt`, whose trace lists values in the frames of calls.
use Prim.Native.String.{String}
use Rattle.std.specs.Prelude.{ℕ, suc, List, true, false, [], ◌∷◌, ◌++◌, map, take, drop, Option, codes}
use Rattle.lus_tree.specs.declared.place.Pos.{Pos}
use Rattle.lus_meaning.specs.Value.{Value, absent, flag}
use Rattle.lus_meaning.specs.Trace.{of_name, of_first}
use Rattle.lus_meaning.specs.TraceView.{PlacedValue, PlacedLine, Listing}
use Rattle.lus_meaning.specs.Fits.{misfit}
use Rattle.meaning_rows.specs.RowParts.{natural}
use Rattle.meaning_rows.specs.Written.{negative}
use Rattle.meaning_rows.specs.PlacedParts.{at}
use Rattle.meaning_rows.specs.TraceRows.{listing_program}

-- 1 trace main 3
-- 2 c false true true
-- 3 x 1 2 3
-- 4 1.g 4 5 6
-- 5 1.1.#1 7
-- 6 1.2.f 10 20 30
-- 7 1.2.#1 3
-- 8 2.f 50 60 _
-- 9 end

-- values with their columns
abbrev pub values_in : ℕ → List (ℕ × Value) → List PlacedValue
values_in l vs = map (λ v. record { value = v.1; at = at l v.0 }) vs

abbrev pub name_line : ℕ → List ℕ → String → List (ℕ × Value) → PlacedLine
name_line l path x vs = record { at = at l 1; path = path; subject = of_name (codes x); values = values_in l vs }

abbrev pub first_line : ℕ → List ℕ → ℕ → List (ℕ × Value) → PlacedLine
first_line l path k vs = record { at = at l 1; path = path; subject = of_first k; values = values_in l vs }

abbrev pub placed_lines : List PlacedLine
placed_lines =
    name_line 2 [] "c" ((3, flag false) ∷ (9, flag true) ∷ (14, flag true) ∷ [])
    ∷ name_line 3 [] "x" ((3, natural 1) ∷ (5, natural 2) ∷ (7, natural 3) ∷ [])
    ∷ name_line 4 (1 ∷ []) "g" ((5, natural 4) ∷ (7, natural 5) ∷ (9, natural 6) ∷ [])
    ∷ first_line 5 (1 ∷ 1 ∷ []) 1 ((8, natural 7) ∷ [])
    ∷ name_line 6 (1 ∷ 2 ∷ []) "f" ((7, natural 10) ∷ (10, natural 20) ∷ (13, natural 30) ∷ [])
    ∷ first_line 7 (1 ∷ 2 ∷ []) 1 ((8, natural 3) ∷ [])
    ∷ name_line 8 (2 ∷ []) "f" ((5, natural 50) ∷ (8, natural 60) ∷ (11, absent) ∷ [])
    ∷ []

abbrev pub trace_of : String → ℕ → List PlacedLine → Listing
trace_of x n ls = record { node = codes x; node_at = at 1 7; length = n; length_at = at 1 12; lines = ls; end_at = at 9 1 }

abbrev pub fitting : Listing
fitting = trace_of "main" 3 placed_lines

-- the misfit of that trace with another line in the place of this one, counted from 0
abbrev pub misfit_with : ℕ → PlacedLine → Option Pos
misfit_with k l = misfit listing_program (trace_of "main" 3 (take k placed_lines ++ l ∷ drop (suc k) placed_lines))

-- ---- f in 1.2 with other values

abbrev pub f_with : List (ℕ × Value) → Option Pos
f_with vs = misfit_with 4 (name_line 6 (1 ∷ 2 ∷ []) "f" vs)

-- 2^63 - 1 and its opposite
abbrev pub greatest : Value
greatest = natural 9223372036854775807

abbrev pub least : Value
least = negative 9223372036854775807

abbrev pub too_great : Value
too_great = natural 9223372036854775808

abbrev pub too_small : Value
too_small = negative 9223372036854775808

-- ---- other lines in the place of `1.1.#1 7`

abbrev pub fifth_with : PlacedLine → Option Pos
fifth_with l = misfit_with 3 l

-- 1, 2 and 3 in these columns
abbrev pub in_columns : ℕ → ℕ → ℕ → List (ℕ × Value)
in_columns j k l = (j, natural 1) ∷ (k, natural 2) ∷ (l, natural 3) ∷ []

-- the lines of the inputs alone
abbrev pub inputs_alone : Listing
inputs_alone = trace_of "main" 3 (take 2 placed_lines)

-- without the line of x
abbrev pub input_missing : Option Pos
input_missing = misfit listing_program (trace_of "main" 3 (take 1 placed_lines ++ drop 2 placed_lines))
