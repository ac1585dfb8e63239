-- What a seat posts.
use Rattle.std.specs.Prelude.{⊤, ℕ, ◌≡◌, ◌≤◌, ◌++◌, List, All}
use Rattle.board_core.specs.Entries.{Claim, proved, broken, stuck, spent, Why, depth, frames, blocked, done, stopped, wide, Posting}
use Rattle.kind_engine.specs.Looks.{IsFirstWide}

-- P is so of an entry of the seat of this number
abbrev pub IsOwn : (Claim → Type 0) → ℕ → Posting → Type 0
IsOwn P number i = i.seat ≡ number → P i.says

-- what a seat sees has grown, and P is so of each entry that the seat of this number put there
pub record Grows (P : Claim → Type 0) (number : ℕ) (before after : List Posting) : Type 0 where
  pub rest : List Posting
  pub all : after ≡ before ++ rest
  pub own : All (IsOwn P number) rest

-- a stuck path has a front that is no less
abbrev pub IsBehind : ℕ → Claim → Type 0
IsBehind least (proved fact) = ⊤
IsBehind least (broken p path) = ⊤
IsBehind least (stuck p path front) = least ≤ front
IsBehind least (spent engine p why grounds) = ⊤

-- Of the values of size 2^63 or more in its path, a cause `wide` names the first: that of the variable of the smallest
-- number, at its first such instant.
abbrev pub NamesFirstWide : Why → Type 0
NamesFirstWide (depth n) = ⊤
NamesFirstWide (frames n) = ⊤
NamesFirstWide (blocked n) = ⊤
NamesFirstWide (done n) = ⊤
NamesFirstWide (stopped halt) = ⊤
NamesFirstWide (wide path variable instant value) = IsFirstWide path variable instant

-- the same of an entry
abbrev pub TellsFirstWide : Claim → Type 0
TellsFirstWide (proved fact) = ⊤
TellsFirstWide (broken p path) = ⊤
TellsFirstWide (stuck p path front) = ⊤
TellsFirstWide (spent engine p why grounds) = NamesFirstWide why

-- both: a front that is no less than this, and the first large value
abbrev pub IsPost : ℕ → Claim → Type 0
IsPost least says = IsBehind least says × TellsFirstWide says
