-- Events of several seats over one book, and what they leave.
use Rattle.std.specs.Prelude.{⊤, ℕ, suc, ◌≡◌, ◌==◌, ◌++◌, cond, List, [], ◌∷◌, length, Some, slice_get, take}
use Rattle.sys_terms.specs.View.{Machine}
use Rattle.cert_rules.specs.Facts.{IsHeldOf}
use Rattle.cert_rules.specs.Laws.{LemmasHold, HeldOnesHold}
use Rattle.board_core.specs.declared.plan.Plan.{Plan}
use Rattle.board_core.specs.Entries.{Claim, proved, broken, stuck, spent, Posting, IsTrueAfter, facts_in, fact_in}

-- a post of a numbered seat, or a read
pub data Event : Type 0 where
  posts : (seat : ℕ) → Claim → Event
  reads : (seat : ℕ) → Event

abbrev pub book_after : List Posting → Event → List Posting
book_after history (posts seat says) = history ++ record { seat = seat; says = says } ∷ []
book_after history (reads seat) = history

-- what is posted is true after the book before it
abbrev pub MayHappen : Machine → Plan → List Posting → Event → Type 0
MayHappen m plan history (posts seat says) = IsTrueAfter m plan history says
MayHappen m plan history (reads seat) = ⊤

abbrev pub AreEvents : Machine → Plan → List Posting → List Event → Type 0
AreEvents m plan history [] = ⊤
AreEvents m plan history (e ∷ events) = MayHappen m plan history e × AreEvents m plan (book_after history e) events

abbrev pub book_of : List Posting → List Event → List Posting
book_of history [] = history
book_of history (e ∷ events) = book_of (book_after history e) events

-- ---- what each seat has seen

-- how many entries each seat has seen, where this one has now seen so many
abbrev pub seen_after : (ℕ → ℕ) → (seat count : ℕ) → ℕ → ℕ
seen_after seen seat count other = cond (other == seat) count (seen other)

-- a post is of an entry that is true after those that its seat has seen; the seat has then seen the
-- history up to it, and after a read all of it
abbrev pub IsInterleaving : Machine → Plan → (seen : ℕ → ℕ) → List Posting → List Event → Type 0
IsInterleaving m plan seen history [] = ⊤
IsInterleaving m plan seen history (posts seat says ∷ events) =
    IsTrueAfter m plan (take (seen seat) history) says
    × IsInterleaving m plan (seen_after seen seat (suc (length history))) (book_after history (posts seat says)) events
IsInterleaving m plan seen history (reads seat ∷ events) =
    IsInterleaving m plan (seen_after seen seat (length history)) history events

-- ---- what a sound book says

-- a broken entry of the property
abbrev pub IsBrokenOf : ℕ → Claim → Type 0
IsBrokenOf p (proved f) = ⊥
IsBrokenOf p (broken q path) = q ≡ p
IsBrokenOf p (stuck q path front) = ⊥
IsBrokenOf p (spent e q why grounds) = ⊥

-- of a sound book: lemmas and held properties are true in all reachable states, and no property is
-- both held and broken
pub record BookHolds (m : Machine) (history : List Posting) : Type 0 where
  pub lemmas : LemmasHold m (facts_in history)
  pub held : HeldOnesHold m (facts_in history)
  pub consistent : (n k p : ℕ) (i j : Posting) → slice_get history n ≡ Some i → slice_get history k ≡ Some j
      → IsHeldOf p (fact_in i.says) → IsBrokenOf p j.says → ⊥
