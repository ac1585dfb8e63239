-- How the numbers that one leads to are found: each that is new is marked and stands last in a queue.
use Rattle.std.specs.Prelude.{ℕ, Bool, true, false, cond, not, List, [], ◌∷◌, ◌++◌, get_or, set, replicate}
use Rattle.number_graphs.specs.declared.reach.Search.{Search}

-- marks, and the queue
abbrev pub State : Type 0
State = List Bool × List ℕ

abbrev pub state_view : Search → State
state_view s = (s.marks.items, s.queue.items)

-- whether it is a number of the graph that is not marked
abbrev pub is_new : List Bool → ℕ → Bool
is_new marks j = not (get_or marks j true)

abbrev pub visited : State → ℕ → State
visited s j = cond (is_new s.0 j) (set s.0 j true, s.1 ++ j ∷ []) s

abbrev pub visited_all : State → List ℕ → State
visited_all s [] = s
visited_all s (j ∷ js) = visited_all (visited s j) js

-- each number of a list once, of those below a count
abbrev pub once : ℕ → List ℕ → List ℕ
once count ks = (visited_all (replicate count false, []) ks).1
