-- How an order is searched: the slots that are visited stand in a row, each of them read by the one before it, until all that the last one reads is listed.
use Rattle.std.specs.Prelude.{◌≡◌, ℕ, suc, ◌<◌, ◌+◌, Bool, true, false, cond, eqb, List, [], ◌∷◌, ◌++◌, length, get_or, replicate, set, take}
use Rattle.std.specs.List.{AllByRecursion, IsDistinct, list_all}
use Rattle.lus_meaning.specs.Order.{AreReady, Passes, is_listed}
use Rattle.slot_rows.specs.Order.{Reads, needs, reads_of}
use Rattle.slot_rows.specs.declared.search.Search.{Search}

-- which slots are listed and which were met, how many of each one's reads are passed, and what is visited and listed
pub record State : Type 0 where
  pub done : List Bool
  pub seen : List Bool
  pub passed : List ℕ
  pub visited : List ℕ
  pub order : List ℕ

abbrev pub search_view : Search → State
search_view s = record {
  done = s.done.items;
  seen = s.seen.items;
  passed = s.passed.items;
  visited = s.visited.items;
  order = s.order.items;
}

abbrev pub nothing_listed : ℕ → State
nothing_listed n = record { done = replicate n false; seen = replicate n false; passed = replicate n 0; visited = []; order = [] }

-- ---- steps

-- whether a slot is listed; one behind the last one counts as listed
abbrev pub is_done : List Bool → ℕ → Bool
is_done done j = get_or done j true

abbrev pub are_done : List Bool → List ℕ → Bool
are_done done js = list_all (is_done done) js

-- the place in a row before which all is listed, and at which nothing listed stands
pub record IsPassed (done : List Bool) (row : List ℕ) (place : ℕ) : Type 0 where
  pub listed : are_done done (take place row) ≡ true
  pub stops : place < length row → is_done done (get_or row place 0) ≡ false

-- whether a slot was met; one behind the last one counts as met
abbrev pub is_met : State → ℕ → Bool
is_met s k = get_or s.seen k true

abbrev pub again : State → ℕ → State
again s k = record { done = s.done; seen = s.seen; passed = s.passed; visited = s.visited ++ k ∷ []; order = s.order }

abbrev pub met : State → ℕ → State
met s k = record { done = s.done; seen = set s.seen k true; passed = s.passed; visited = s.visited ++ k ∷ []; order = s.order }

-- a slot is visited next, unless it was met
abbrev pub entered : State → ℕ → State
entered s k = cond (is_met s k) s (met s k)

abbrev pub passed_to : State → ℕ → ℕ → State
passed_to s k place = record { done = s.done; seen = s.seen; passed = set s.passed k place; visited = s.visited; order = s.order }

-- a slot is listed, unless it is
abbrev pub with_listed : State → ℕ → State
with_listed s k = cond (is_done s.done k) s
    (record { done = set s.done k true; seen = s.seen; passed = s.passed; visited = s.visited; order = s.order ++ k ∷ [] })

-- ---- what holds after each step

-- each is read by the one before it
abbrev pub LeadsOn : Reads → ℕ → List ℕ → Type 0
LeadsOn rows k [] = Unit {0}
LeadsOn rows k (j ∷ js) = needs rows k j ≡ true

abbrev pub IsChain : Reads → List ℕ → Type 0
IsChain rows [] = Unit {0}
IsChain rows (k ∷ ks) = LeadsOn rows k ks × IsChain rows ks

-- how many are still to be met
abbrev pub unmet : List Bool → ℕ
unmet [] = 0
unmet (b ∷ bs) = cond b (unmet bs) (suc (unmet bs))

-- how many steps are left at most
abbrev pub steps_left : State → ℕ
steps_left s = unmet s.seen + unmet s.seen + length s.visited

pub record Searching (rows : Reads) (s : State) : Type 0 where
  pub done_whole : length s.done ≡ length rows
  pub seen_whole : length s.seen ≡ length rows
  pub passed_whole : length s.passed ≡ length rows
  pub passed : (k : ℕ) → k < length rows → are_done s.done (take (get_or s.passed k 0) (reads_of rows k)) ≡ true
  pub listed : (j : ℕ) → j < length rows → is_done s.done j ≡ is_listed s.order j
  pub below : AllByRecursion (λ k. k < length rows) s.order
  pub once : IsDistinct eqb s.order
  pub ready : AreReady (length rows) (Passes (needs rows)) [] s.order
  pub visited_below : AllByRecursion (λ k. k < length rows) s.visited
  pub chain : IsChain rows s.visited
  pub waits : (j : ℕ) → j < length rows → get_or s.seen j true ≡ true → is_done s.done j ≡ false → is_listed s.visited j ≡ true

-- what was met stays so
abbrev pub StaysMet : Reads → State → State → Type 0
StaysMet rows s u = (j : ℕ) → j < length rows → is_met s j ≡ true → is_met u j ≡ true

-- the search went on
pub record GoesOn (rows : Reads) (s u : State) : Type 0 where
  pub searching : Searching rows u
  pub fewer : steps_left u < steps_left s
  pub stays : StaysMet rows s u

-- all that a slot needs is listed, and nothing is visited
pub record IsSettled (rows : Reads) (s u : State) (root : ℕ) : Type 0 where
  pub searching : Searching rows u
  pub nothing : u.visited ≡ []
  pub root_met : is_met u root ≡ true
  pub stays : StaysMet rows s u
