-- The own graph of a declaration by numbers: those of its streams, and behind them those of its equations.
use Rattle.std.specs.Prelude.{ℕ, cond, List, [], ◌∷◌, ◌++◌, map, flat_map, length, set}
use Rattle.lus_tree.specs.Tree.{Name}
use Rattle.lus_meaning.specs.Depends.{named_in}
use Rattle.lus_meaning.specs.Run.{Equation}
use Rattle.name_table.specs.Names.{number_of}
use Rattle.lus_order.specs.declared.setting.Clocks.{Clocks}
use Rattle.lus_order.specs.declared.setting.Callees.{Callees}
use Rattle.number_graphs.specs.Graphs.{Rows, row_at}
use Rattle.lus_order.specs.Reads.{clock_seen}
use Rattle.lus_order.specs.Rows.{ModeRows, number_list, equation_row}

-- the numbers of names
abbrev pub numbers_of : List Name → List Name → List ℕ
numbers_of names xs = flat_map (number_list names) xs

-- each stream leads to that of its clock
abbrev pub clock_rows : Clocks → Rows
clock_rows s = map (numbers_of s.names) (map clock_seen s.clocks.items)

-- that number leads to one more
abbrev pub with_edge : Rows → ℕ → ℕ → Rows
with_edge rows i to = set rows i (row_at rows i ++ to ∷ [])

abbrev pub with_left : List Name → ℕ → Rows → Name → Rows
with_left names to rows x = cond (named_in x names) (with_edge rows (number_of names x) to) rows

abbrev pub with_lefts : List Name → ℕ → Rows → List Name → Rows
with_lefts names to rows [] = rows
with_lefts names to rows (x ∷ xs) = with_lefts names to (with_left names to rows x) xs

-- one more equation: its left names lead to it, and it leads to what it reads
abbrev pub with_equation : Clocks → Callees → ModeRows → Rows → Equation → Rows
with_equation s t ms rows e = with_lefts s.names (length rows) rows e.names ++ equation_row s t ms e ∷ []

abbrev pub with_equations : Clocks → Callees → ModeRows → Rows → List Equation → Rows
with_equations s t ms rows [] = rows
with_equations s t ms rows (e ∷ es) = with_equations s t ms (with_equation s t ms rows e) es

abbrev pub own_rows : Clocks → Callees → ModeRows → List Equation → Rows
own_rows s t ms es = with_equations s t ms (clock_rows s) es
