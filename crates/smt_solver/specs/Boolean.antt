-- Systems and obligations whose terms compare no numbers.
use Rattle.std.specs.Prelude.{ℕ, ◌≡◌, Bool, true, ◌&&◌, List, [], ◌∷◌}
use Rattle.sys_terms.specs.Boolean.{is_boolean}
use Rattle.sys_terms.specs.View.{Formula, Machine, Task, base, step, lemma_first, lemma_next, implied, with_states}
use Rattle.sys_terms.specs.Queries.{query_of}
use Rattle.smt_solver.specs.Answered.{HasNoAtoms}

abbrev pub all_boolean : List Formula → Bool
all_boolean [] = true
all_boolean (f ∷ fs) = is_boolean f && all_boolean fs

abbrev pub is_boolean_machine : Machine → Bool
is_boolean_machine m =
    all_boolean m.first
    && (all_boolean m.here && (all_boolean m.next && (all_boolean m.legal && all_boolean m.properties)))

abbrev pub all_boolean_at : List (ℕ × Formula) → Bool
all_boolean_at [] = true
all_boolean_at ((j, f) ∷ more) = is_boolean f && all_boolean_at more

-- the terms that it asks about
abbrev pub is_boolean_task : Task → Bool
is_boolean_task (base p i) = true
is_boolean_task (step p k) = true
is_boolean_task (lemma_first f) = is_boolean f
is_boolean_task (lemma_next f) = is_boolean f
is_boolean_task (implied f p) = is_boolean f
is_boolean_task (with_states states from_first at) = all_boolean_at at

-- where nothing compares numbers, the query has no atom
abbrev pub BooleanQueriesHaveNoAtoms : Machine → Task → List Formula → Type 0
BooleanQueriesHaveNoAtoms m task cites =
    is_boolean_machine m ≡ true → is_boolean_task task ≡ true → all_boolean cites ≡ true
    → HasNoAtoms (query_of m task cites)
