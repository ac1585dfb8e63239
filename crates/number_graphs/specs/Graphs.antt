-- Finite directed graphs of numbers.
use Rattle.std.specs.Prelude.{◌≡◌, ℕ, ◌<◌, ◌+◌, ◌-◌, Bool, true, false, cond, nat_lt, List, [], ◌∷◌, map, length, get_or}
use Rattle.lus_meaning.specs.Order.{Passes, is_listed, IsLeastOrder}
use Rattle.number_graphs.specs.declared.graph.Graph.{Graph}

-- for each number, counted from 0, those that it leads to
abbrev pub Rows : Type 0
Rows = List (List ℕ)

abbrev pub graph_view : Graph → Rows
graph_view g = map (λ r. r.items) g.rows.items

-- a number without a row leads to none
abbrev pub row_at : Rows → ℕ → List ℕ
row_at rows k = get_or rows k []

-- whether the first leads to the second by one step
abbrev pub leads : Rows → ℕ → ℕ → Bool
leads rows k j = is_listed (row_at rows k) j

-- each leads to the next
abbrev pub IsPath : Rows → ℕ → List ℕ → Type 0
IsPath rows k [] = Unit {0}
IsPath rows k (j ∷ js) = (leads rows k j ≡ true) × IsPath rows j js

abbrev pub end_of : ℕ → List ℕ → ℕ
end_of k [] = k
end_of k (j ∷ js) = end_of j js

-- the first leads to the second by one step or several
pub record LeadsTo (rows : Rows) (k j : ℕ) : Type 0 where
  pub first : ℕ
  pub rest : List ℕ
  pub path : IsPath rows k (first ∷ rest)
  pub last : end_of first rest ≡ j

-- ---- marks, one for each number of a graph

abbrev pub is_marked : List Bool → ℕ → Bool
is_marked marks j = get_or marks j false

-- marked are the numbers that one leads to
pub record AreReached (rows : Rows) (k : ℕ) (marks : List Bool) : Type 0 where
  pub whole : length marks ≡ length rows
  pub led : (j : ℕ) → is_marked marks j ≡ true → LeadsTo rows k j
  pub all : (j : ℕ) → j < length rows → LeadsTo rows k j → is_marked marks j ≡ true

-- marked are the numbers that lead to themselves
pub record AreOnCircles (rows : Rows) (marks : List Bool) : Type 0 where
  pub whole : length marks ≡ length rows
  pub led : (k : ℕ) → is_marked marks k ≡ true → LeadsTo rows k k
  pub all : (k : ℕ) → k < length rows → LeadsTo rows k k → is_marked marks k ≡ true

-- ---- the numbers from one on, counted from 0

-- the first leads to the second, through any numbers
abbrev pub LeadsFrom : Rows → ℕ → ℕ → ℕ → Type 0
LeadsFrom rows start k j = LeadsTo rows (start + k) (start + j)

-- those of a list that are no less than the start
abbrev pub from_on : ℕ → List ℕ → List ℕ
from_on start [] = []
from_on start (k ∷ ks) = cond (nat_lt k start) (from_on start ks) ((k - start) ∷ from_on start ks)

-- some number leads to itself
pub record HasCircle (rows : Rows) : Type 0 where
  pub number : ℕ
  pub below : number < length rows
  pub circle : LeadsTo rows number number

-- the numbers can be ordered, each behind those that it leads to
abbrev pub HasOrder : Rows → Type 0
HasOrder rows = (ks : List ℕ) × IsLeastOrder (length rows) (Passes (leads rows)) ks
