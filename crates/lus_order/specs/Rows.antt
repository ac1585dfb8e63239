-- What expressions and modes read, by the numbers of the streams.
use Rattle.std.specs.Prelude.{ℕ, length, cond, List, [], ◌∷◌, ◌++◌, map, flat_map, option_to_list, unwrap_or}
use Rattle.std.specs.Map.{lookup}
use Rattle.lus_tree.specs.Tree.{Name, Spelled, Expression, Labelled, ContractStatement, assume, guarantee, ghost_variable, constant, mode, «import»}
use Rattle.lus_meaning.specs.Run.{Equation}
use Rattle.lus_meaning.specs.Meaning.{mode_key}
use Rattle.lus_meaning.specs.Depends.{named_in}
use Rattle.name_table.specs.Names.{number_of}
use Rattle.lus_order.specs.declared.rows.Mode.{Mode}
use Rattle.lus_order.specs.declared.setting.Clocks.{Clocks}
use Rattle.lus_order.specs.declared.setting.Callees.{Callees}
use Rattle.lus_order.specs.Reads.{Read, a_name, a_mode, text_seen, clocks_view, callees_view, read_in}
use Rattle.number_graphs.specs.Visits.{once}
use Rattle.way_laws.specs.OwnGraph.{Summary}

-- modes by the import before them and their names, with the numbers of what they read
abbrev pub ModeRows : Type 0
ModeRows = List ((List Name × Name) × List ℕ)

abbrev pub key_view : Mode → List Name × Name
key_view m = (option_to_list (text_seen m.contract), m.name.now)

abbrev pub mode_view : Mode → (List Name × Name) × List ℕ
mode_view m = (key_view m, m.row.items)

abbrev pub modes_view : List Mode → ModeRows
modes_view ms = map mode_view ms

abbrev pub known_row : ModeRows → List Name × Name → List ℕ
known_row ms key = unwrap_or (lookup (mode_key key) ms) []

-- the number of a name, where it has one
abbrev pub number_list : List Name → Name → List ℕ
number_list names x = cond (named_in x names) (number_of names x ∷ []) []

abbrev pub read_row : List Name → ModeRows → Read → List ℕ
read_row names ms (a_name x) = number_list names x
read_row names ms (a_mode key) = known_row ms key

abbrev pub read_rows : List Name → ModeRows → List Read → List ℕ
read_rows names ms rs = flat_map (read_row names ms) rs

-- what an expression on a clock reads
abbrev pub row_in : Clocks → Callees → ModeRows → List Name → Expression → List ℕ
row_in s t ms c e = read_rows s.names ms (read_in (clocks_view s) (callees_view t) c e)

-- what these read on the base clock
abbrev pub asked_row : Clocks → Callees → ModeRows → List Labelled → List ℕ
asked_row s t ms rs = flat_map (λ r. row_in s t ms [] r.value) rs

-- ---- modes

-- what those arguments read whose inputs are among ys, on the base clock
abbrev pub listed_row : Clocks → Callees → ModeRows → List Name → List Name → List Expression → List ℕ
listed_row s t ms ys (x ∷ xs) (a ∷ as_) = cond (named_in x ys) (row_in s t ms [] a) [] ++ listed_row s t ms ys xs as_
listed_row s t ms ys xs _ = []

-- the numbers of the names that stand for those outputs that are among ys
abbrev pub shared_row : List Name → List Name → List Name → List Spelled → List ℕ
shared_row names ys (o ∷ os) (x ∷ xs) = cond (named_in o ys) (number_list names x.text) [] ++ shared_row names ys os xs
shared_row names ys os _ = []

abbrev pub imported_row : Clocks → Callees → ModeRows → Name → Summary → List Expression → List Spelled → Name × List Name → (List Name × Name) × List ℕ
imported_row s t ms c k as_ xs e =
    ((c ∷ [], e.0), once (length s.names) (listed_row s t ms e.1 k.inputs as_ ++ shared_row s.names e.1 k.outputs xs))

abbrev pub imported_rows : Clocks → Callees → ModeRows → Name → Summary → List Expression → List Spelled → ModeRows
imported_rows s t ms c k as_ xs = map (imported_row s t ms c k as_ xs) k.modes

-- the modes of these statements behind known ones: each reads by those before it
abbrev pub mode_rows_after : Clocks → Callees → (Name → Summary) → ModeRows → List ContractStatement → ModeRows
mode_rows_after s t l ms [] = ms
mode_rows_after s t l ms (mode m rs es ∷ cs) =
    mode_rows_after s t l (ms ++ (([], m.text), once (length s.names) (asked_row s t ms rs)) ∷ []) cs
mode_rows_after s t l ms («import» k c as_ xs ∷ cs) =
    mode_rows_after s t l (ms ++ imported_rows s t ms c.text (l c.text) as_ xs) cs
mode_rows_after s t l ms (assume a ∷ cs) = mode_rows_after s t l ms cs
mode_rows_after s t l ms (guarantee a ∷ cs) = mode_rows_after s t l ms cs
mode_rows_after s t l ms (ghost_variable x e ∷ cs) = mode_rows_after s t l ms cs
mode_rows_after s t l ms (constant c ∷ cs) = mode_rows_after s t l ms cs

-- ---- equations

abbrev pub clock_row : Clocks → Name → List ℕ
clock_row s x = flat_map (number_list s.names) (clocks_view s x)

abbrev pub side_clock : Clocks → List Name → List Name
side_clock s [] = []
side_clock s (x ∷ xs) = clocks_view s x

-- the clocks of the left names, and what the right side reads
abbrev pub equation_row : Clocks → Callees → ModeRows → Equation → List ℕ
equation_row s t ms e = flat_map (clock_row s) e.names ++ row_in s t ms (side_clock s e.names) e.right
