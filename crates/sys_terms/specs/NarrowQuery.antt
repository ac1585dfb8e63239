-- The narrow query of an obligation: the open one with the same conditions and citations, and then
-- both bounds of each number of each state in order, so that only numbers below 2^63 in size answer.
use Rattle.std.specs.Prelude.{ℕ, zero, suc, false, List, [], ◌∷◌, ◌++◌}
use lib.IntN.{ℤ, pos, negsuc}
use Rattle.kind_num.specs.declared.Shape.{Shape}
use Rattle.kind_num.specs.declared.Shape.TheVariants as s
use Rattle.sys_terms.specs.View.{Formula, negation, at_most, constant, number, Machine, Task, base, step, lemma_first, lemma_next, implied, with_states}
use Rattle.sys_terms.specs.Queries.{property_term, last_of}
use Rattle.sys_terms.specs.Answers.{begins_first}

-- the term at as many states, from state j on
abbrev pub from_state : ℕ → ℕ → Formula → List (ℕ × Formula)
from_state j zero f = []
from_state j (suc count) f = (j, f) ∷ from_state (suc j) count f

-- what an obligation asks, each term at its state
abbrev pub asked_at : Machine → Task → List (ℕ × Formula)
asked_at m (base p i) = (i, negation (property_term m p)) ∷ []
asked_at m (step p k) = from_state 0 k (property_term m p) ++ (k, negation (property_term m p)) ∷ []
asked_at m (lemma_first f) = (0, negation f) ∷ []
asked_at m (lemma_next f) = (0, f) ∷ (1, negation f) ∷ []
asked_at m (implied f p) = (0, f) ∷ (0, negation (property_term m p)) ∷ []
asked_at m (with_states states from_first at) = at

-- 2^63 - 1 and its opposite
abbrev pub greatest_narrow : ℤ
greatest_narrow = pos 9223372036854775807

abbrev pub least_narrow : ℤ
least_narrow = negsuc 9223372036854775806

-- the variable is at most the greatest, and at least the least
abbrev pub upper_bound : ℕ → Formula
upper_bound v = at_most (number record { number = v; next = false }) (constant greatest_narrow)

abbrev pub lower_bound : ℕ → Formula
lower_bound v = at_most (constant least_narrow) (number record { number = v; next = false })

-- both bounds of each number of state j, from variable v on
abbrev pub bounds_at : ℕ → ℕ → List Shape → List (ℕ × Formula)
bounds_at j v [] = []
bounds_at j v (s.Flag ∷ more) = bounds_at j (suc v) more
bounds_at j v (s.Number ∷ more) = (j, upper_bound v) ∷ (j, lower_bound v) ∷ bounds_at j (suc v) more

-- of as many states, from state j on
abbrev pub bounds_from : List Shape → ℕ → ℕ → List (ℕ × Formula)
bounds_from shapes j zero = []
bounds_from shapes j (suc count) = bounds_at j 0 shapes ++ bounds_from shapes (suc j) count

abbrev pub narrow_bounds : Machine → Task → List (ℕ × Formula)
narrow_bounds m task = bounds_from m.shapes 0 (suc (last_of task))

abbrev pub narrow_task : Machine → Task → Task
narrow_task m task = with_states (suc (last_of task)) (begins_first task) (asked_at m task ++ narrow_bounds m task)
