-- What a seat sees of a history, what its calls may do, and what an engine promises over it.
use Rattle.std.specs.Prelude.{⊤, ℕ, ◌≡◌, ◌≢◌, ◌<◌, ◌++◌, ◌==◌, ◌&&◌, ◌||◌, Bool, true, false, List, [], ◌∷◌, length, All, Option, Some, None}
use Rattle.board_core.specs.Entries.{Claim, proved, broken, stuck, spent, Posting}
use Rattle.board_core.specs.Verdicts.{decides}

abbrev pub Begins : {X : Type 0} → List X → List X → Type 0
Begins {X} front all = (rest : List X) × (all ≡ front ++ rest)

-- none of them bears the number
abbrev pub AreOthers : ℕ → List Posting → Type 0
AreOthers number history = All (λ (i : Posting). i.seat ≢ number) history

-- entries of others, then one's own, last; its place
pub record HasPosted (number : ℕ) (seen now' : List Posting) (says : Claim) (place : ℕ) : Type 0 where
  pub others : List Posting
  pub are_others : AreOthers number others
  pub all : now' ≡ (seen ++ others) ++ record { seat = number; says = says } ∷ []
  pub at : place ≡ length (seen ++ others)

-- entries of others alone
pub record HasSeen (number : ℕ) (seen now' : List Posting) : Type 0 where
  pub others : List Posting
  pub are_others : AreOthers number others
  pub all : now' ≡ seen ++ others

-- where a seat stands: its number, its read front, and what it has seen
pub record Stand : Type 0 where
  pub number : ℕ
  pub front : ℕ
  pub seen : List Posting

abbrev pub stand : (number front : ℕ) → List Posting → Stand
stand number front seen = record { number = number; front = front; seen = seen }

-- some entry holds or breaks the property
abbrev pub Decides : List Posting → ℕ → Type 0
Decides history p = decides p history ≡ true

abbrev pub DecidesAll : List Posting → ℕ → Type 0
DecidesAll history count = (p : ℕ) → p < count → Decides history p

abbrev pub is_spent : (engine p : ℕ) → Claim → Bool
is_spent engine p (proved f) = false
is_spent engine p (broken q path) = false
is_spent engine p (stuck q path front) = false
is_spent engine p (spent e q why grounds) = (e == engine) && (q == p)

-- the seat has posted a cause of the engine for the property
abbrev pub has_cause : (seat engine p : ℕ) → List Posting → Bool
has_cause seat engine p [] = false
has_cause seat engine p (i ∷ history) =
    ((i.seat == seat) && is_spent engine p i.says) || has_cause seat engine p history

-- one for each property that the read entries leave undecided; an engine without a number owes none
abbrev pub HasCauses : (read seen : List Posting) → (seat : ℕ) → Option ℕ → ℕ → Type 0
HasCauses read seen seat None count = ⊤
HasCauses read seen seat (Some engine) count =
    (p : ℕ) → p < count → decides p read ≡ false → has_cause seat engine p seen ≡ true

-- where there is one, it is this one
abbrev pub Fits : {A : Type 0} → Option A → A → Type 0
Fits None b = ⊤
Fits (Some a) b = a ≡ b

abbrev pub IsNumbered : Option ℕ → Type 0
IsNumbered None = ⊥
IsNumbered (Some n) = ⊤
