-- Clauses that watch two of their literals, after Moskewicz and others, "Chaff", 2001.
use Rattle.std.specs.Prelude.{ℕ, suc, ◌≡◌, ◌≢◌, ◌⊎◌, ◌+◌, ◌<◌, ◌≤◌, ◌++◌, ◌∷◌, List, [], length, map, Option, Some, None, Contains, drop, get_or, slice_get}
use Rattle.std.specs.declared.vec.Vec.{Vec}
use Rattle.std.specs.declared.alloc.Global.{Global}
use Rattle.proof_steps.specs.declared.Literal.{Literal}
use Rattle.proof_steps.specs.Meaning.{at, opposite}
use Rattle.sat_core.specs.declared.assigned.Assigned.{Assigned}
use Rattle.sat_core.specs.declared.short.Short.{Short}
use Rattle.sat_core.specs.Set.{place_of}
use Rattle.sat_core.specs.Trail.{trues}
use Rattle.sat_core.specs.Shown.{IsTold}

-- the lists of the clauses that watch a literal, by its place; of each clause the two literals that it
-- watches; and the clauses that watch none
pub record Watching : Type 0 where
  pub lists : List (List ℕ)
  pub pairs : List (Option (Literal × Literal))
  pub shorts : List Short

abbrev pub lists_of : List (Vec ℕ Global) → List (List ℕ)
lists_of rows = map (λ (v : Vec ℕ Global). v.items) rows

abbrev pub row : List (List ℕ) → ℕ → List ℕ
row lists p = get_or lists p []

abbrev pub list_at : Watching → Literal → List ℕ
list_at w l = row w.lists (place_of l)

-- the literal is one of the two that the numbered clause watches
abbrev pub IsWatch : Watching → ℕ → Literal → Type 0
IsWatch w n l = (p : Literal × Literal) × (at w.pairs n ≡ Some (Some p)) × ((p.0 ≡ l) ⊎ (p.1 ≡ l))

-- the numbered clause watches these two
abbrev pub IsOther : Watching → ℕ → Literal → Option Literal → Type 0
IsOther w n l None = IsWatch w n l → ⊥
IsOther w n l (Some m) =
    (p : Literal × Literal) × (at w.pairs n ≡ Some (Some p))
    × (((p.0 ≡ l) × (p.1 ≡ m)) ⊎ ((p.1 ≡ l) × (p.0 ≡ m)))

-- the two that the numbered clause watches, if there is one and it watches any
abbrev pub IsPairAt : Watching → ℕ → Option (Literal × Literal) → Type 0
IsPairAt w n r = IsTold w.pairs n r

-- the clause has no two different literals
abbrev pub IsShort : List Literal → Type 0
IsShort clause = (l m : Literal) → Contains clause l → Contains clause m → l ≡ m

-- the literal is the clause's only one; there is none where the clause is empty
abbrev pub IsOnly : List Literal → Option Literal → Type 0
IsOnly clause None = clause ≡ []
IsOnly clause (Some l) = Contains clause l

-- so is the short clause of that number
abbrev pub IsShortOf : List (List Literal) → Short → Type 0
IsShortOf known s = (c : List Literal) × (at known s.number ≡ Some c) × IsShort c × IsOnly c s.literal

pub record IsPair (clause : List Literal) (p : Literal × Literal) : Type 0 where
  pub first : Contains clause p.0
  pub second : Contains clause p.1
  pub apart : p.0 ≢ p.1

-- a clause with two different literals watches two and is in their lists; the others are short
pub record IsWatching (known : List (List Literal)) (w : Watching) : Type 0 where
  pub count : length w.pairs ≡ length known
  pub pairs : (n : ℕ) (c : List Literal) (p : Literal × Literal) → at known n ≡ Some c
      → at w.pairs n ≡ Some (Some p) → IsPair c p
  pub listed : (n : ℕ) (l : Literal) → IsWatch w n l → Contains (list_at w l) n
  pub shorts : (n : ℕ) (c : List Literal) → at known n ≡ Some c → at w.pairs n ≡ Some None
      → (s : Short) × Contains w.shorts s × (s.number ≡ n) × IsShort c
  pub known_shorts : (s : Short) → Contains w.shorts s → IsShortOf known s
  pub numbers : (l : Literal) (n : ℕ) → Contains (list_at w l) n → (c : List Literal) × (at known n ≡ Some c)

-- the literal is true, and no decision stands after the place up to it
pub record IsGuard (trail : List Assigned) (other : Literal) (i : ℕ) : Type 0 where
  pub place : ℕ
  pub entry : Assigned
  pub is_there : slice_get trail place ≡ Some entry
  pub is_other : entry.literal ≡ other
  pub undecided : (k : ℕ) (b : Assigned) → i < k → k ≤ place → slice_get trail k ≡ Some b → b.reason ≢ 0

-- where the literal became false before place n, the other one is so true
abbrev pub IsGuarded : List Assigned → Literal → Literal → ℕ → Type 0
IsGuarded trail other l n =
    (i : ℕ) (a : Assigned) → i < n → slice_get trail i ≡ Some a → opposite a.literal ≡ l → IsGuard trail other i

-- the lists of what became false before place `head` were gone over; decisions stand no later
pub record IsWatched (known : List (List Literal)) (trail : List Assigned) (w : Watching) (head : ℕ) : Type 0 where
  pub watching : IsWatching known w
  pub within : head ≤ length trail
  pub late : (i : ℕ) (a : Assigned) → head < i → slice_get trail i ≡ Some a → a.reason ≢ 0
  pub guarded : (n : ℕ) (l other : Literal) → IsOther w n l (Some other) → IsGuarded trail other l head

-- of the list of what became false at `head` the entries before place j were gone over
pub record IsVisiting (known : List (List Literal)) (trail : List Assigned) (w : Watching) (head : ℕ) (f : Literal)
    (j : ℕ) : Type 0 where
  pub watched : IsWatched known trail w head
  pub is_next : (a : Assigned) × (slice_get trail head ≡ Some a) × (opposite a.literal ≡ f)
  pub visited : (n : ℕ) (other : Literal) → IsOther w n f (Some other)
      → IsGuarded trail other f (suc head) ⊎ Contains (drop j (list_at w f)) n

-- one element less: those from place j on but it are there from place j on
pub record IsWithout (old new : List ℕ) (j : ℕ) : Type 0 where
  pub fewer : length new + 1 ≡ length old
  pub kept : (k e : ℕ) → k ≢ j → slice_get old k ≡ Some e
      → (i : ℕ) × (j ≤ k → j ≤ i) × (slice_get new i ≡ Some e)
  pub only : (e : ℕ) → Contains new e → Contains old e

-- the list at a place has changed, and no other
pub record IsSameBut (old new : List (List ℕ)) (p : ℕ) (list : List ℕ) : Type 0 where
  pub here : row new p ≡ list
  pub others : (q : ℕ) → q ≢ p → row new q ≡ row old q

abbrev pub AreSame : List (List ℕ) → List (List ℕ) → Type 0
AreSame old new = (p : ℕ) → row new p ≡ row old p

-- an entry more in each of two lists
pub record AreBoth (old new : List (List ℕ)) (number : ℕ) (a b : Literal) : Type 0 where
  pub first : row new (place_of a) ≡ row old (place_of a) ++ number ∷ []
  pub second : row new (place_of b) ≡ row old (place_of b) ++ number ∷ []
  pub others : (l : Literal) → l ≢ a → l ≢ b → row new (place_of l) ≡ row old (place_of l)

abbrev pub IsApartPair : Option (Literal × Literal) → Type 0
IsApartPair None = Unit {0}
IsApartPair (Some p) = p.0 ≢ p.1

-- nothing has changed that is asked for
pub record IsUnmoved (old new : Watching) : Type 0 where
  pub lists : AreSame old.lists new.lists
  pub pairs : new.pairs ≡ old.pairs
  pub shorts : new.shorts ≡ old.shorts

-- an entry is taken out of a list
pub record IsDropped (old new : Watching) (f : Literal) (j : ℕ) : Type 0 where
  pub from : IsWithout (list_at old f) (list_at new f) j
  pub others : (l : Literal) → l ≢ f → list_at new l ≡ list_at old l
  pub pairs : new.pairs ≡ old.pairs
  pub shorts : new.shorts ≡ old.shorts

-- the numbered clause watches another literal, and its entry stands there
pub record IsMoved (old new : Watching) (f : Literal) (j : ℕ) (number : ℕ) (other found : Literal) : Type 0 where
  pub from : IsWithout (list_at old f) (list_at new f) j
  pub to : list_at new found ≡ list_at old found ++ number ∷ []
  pub others : (l : Literal) → l ≢ f → l ≢ found → list_at new l ≡ list_at old l
  pub here : at new.pairs number ≡ Some (Some (found, other))
  pub pairs : (n : ℕ) → n ≢ number → at new.pairs n ≡ at old.pairs n
  pub count : length new.pairs ≡ length old.pairs
  pub shorts : new.shorts ≡ old.shorts

-- some literal of the clause is true
abbrev pub HasTrue : List Assigned → List Literal → Type 0
HasTrue trail clause = (l : Literal) × Contains clause l × Contains (trues trail) l

-- one clause more, which watches two literals or none
pub record IsPaired (old new : Watching) (a b : Literal) : Type 0 where
  pub pairs : new.pairs ≡ old.pairs ++ Some (a, b) ∷ []
  pub first : list_at new a ≡ list_at old a ++ (length old.pairs + 1) ∷ []
  pub second : list_at new b ≡ list_at old b ++ (length old.pairs + 1) ∷ []
  pub others : (l : Literal) → l ≢ a → l ≢ b → list_at new l ≡ list_at old l
  pub shorts : new.shorts ≡ old.shorts

pub record IsShortened (old new : Watching) (only : Option Literal) : Type 0 where
  pub pairs : new.pairs ≡ old.pairs ++ None ∷ []
  pub lists : new.lists ≡ old.lists
  pub shorts : new.shorts ≡ old.shorts ++ record { number = length old.pairs + 1; literal = only } ∷ []

abbrev pub IsEnteredWith : Watching → Watching → Option Literal → Option (Literal × Literal) → Type 0
IsEnteredWith old new only None = IsShortened old new only
IsEnteredWith old new only (Some p) = IsPaired old new p.0 p.1

abbrev pub IsEntered : Watching → Watching → List Literal → Option (Literal × Literal) → Type 0
IsEntered old new clause watched = (only : Option Literal) × IsOnly clause only × IsEnteredWith old new only watched

-- these two literals of the clause may be watched, or it is short
abbrev pub CanWatch : List Literal → Option (Literal × Literal) → Type 0
CanWatch clause None = IsShort clause
CanWatch clause (Some p) = IsPair clause p

-- there may be more pairs at the end
abbrev pub IsLonger : List (Option (Literal × Literal)) → List (Option (Literal × Literal)) → Type 0
IsLonger old new = (more : List (Option (Literal × Literal))) × (new ≡ old ++ more)
