-- The clock of a numbered occurrence, by the definitions, and as it is sought.
use Rattle.std.specs.Prelude.{ℕ, Bool, true, false, ◌==◌, List, [], ◌∷◌, ◌++◌, flat_map, Option, Some, None, find, option_map}
use Rattle.lus_tree.specs.Tree.{Expression, Expressions, truth, number, name, negation, minus, pre, arrow, binary, choice, sampled, merged, call, condact, mode_name, no_more, more, ContractStatement, «import», Component}
use Rattle.lus_meaning.specs.Scene.{Clock, base, sampled_by, clock_of, contract_statements}
use Rattle.lus_meaning.specs.Occurrences.{Text, memories, starts, gathered}
use Rattle.lus_meaning.specs.Program.{site_in, import_site}
use Rattle.lus_meaning.specs.ClockFaults.{or_else}
use Rattle.lus_clocks.specs.declared.occurrence.Occurrence.{Occurrence}
use Rattle.lus_clocks.specs.declared.occurrence.Occurrence.TheVariants.{Pre, Arrow, Call}

-- ---- by the definitions

abbrev pub occurrence_clock : Component → Occurrence → Option Clock
occurrence_clock n (Pre k) = option_map (λ m. m.clock) (find (λ m. m.number == k) (memories n))
occurrence_clock n (Arrow k) = option_map (λ s. s.clock) (find (λ s. s.number == k) (starts n))
occurrence_clock n (Call k) =
    option_map (λ s. s.clock)
    (find (λ s. s.number == k) (gathered site_in n ++ flat_map import_site (contract_statements n)))

-- ---- as it is sought

abbrev pub is_pre : Occurrence → ℕ → Bool
is_pre (Pre k) i = i == k
is_pre _ i = false

abbrev pub is_arrow : Occurrence → ℕ → Bool
is_arrow (Arrow k) i = i == k
is_arrow _ i = false

abbrev pub is_call : Occurrence → ℕ → Bool
is_call (Call k) i = i == k
is_call _ i = false

-- the clock of the place, where that occurrence stands there
abbrev pub if_there : Bool → Clock → Option Clock
if_there true c = Some c
if_there false c = None

-- in an expression at a place of that clock, in text order
abbrev mutual
  pub clock_at : Component → Occurrence → Clock → Expression → Option Clock
  clock_at n s c (truth p b) = None
  clock_at n s c (number p k) = None
  clock_at n s c (name p x) = None
  clock_at n s c (negation p a) = clock_at n s c a
  clock_at n s c (minus p a) = clock_at n s c a
  clock_at n s c (pre p k a) = or_else (if_there (is_pre s k) c) (clock_at n s c a)
  clock_at n s c (arrow p k a b) = or_else (clock_at n s c a) (or_else (if_there (is_arrow s k) c) (clock_at n s c b))
  clock_at n s c (binary p o a b) = or_else (clock_at n s c a) (clock_at n s c b)
  clock_at n s c (choice p a b d) = or_else (clock_at n s c a) (or_else (clock_at n s c b) (clock_at n s c d))
  clock_at n s c (sampled p a b x) = clock_at n s (clock_of n x.text) a
  clock_at n s c (merged p x a b) = or_else (clock_at n s (sampled_by true x.text) a) (clock_at n s (sampled_by false x.text) b)
  clock_at n s c (call p k f as_) = or_else (if_there (is_call s k) c) (clock_at_among n s c as_)
  clock_at n s c (condact p k a f as_ ds) =
      or_else (if_there (is_call s k) c) (or_else (clock_at n s c a) (or_else (clock_at_among n s c as_) (clock_at_among n s c ds)))
  clock_at n s c (mode_name p d m) = None

  pub clock_at_among : Component → Occurrence → Clock → Expressions → Option Clock
  clock_at_among n s c no_more = None
  clock_at_among n s c (more a as_) = or_else (clock_at n s c a) (clock_at_among n s c as_)

abbrev pub clock_at_texts : Component → Occurrence → List Text → Option Clock
clock_at_texts n s [] = None
clock_at_texts n s (x ∷ xs) = or_else (clock_at n s x.0.clock x.1) (clock_at_texts n s xs)

-- an import runs on the base clock
abbrev pub import_at : Occurrence → List ContractStatement → Option Clock
import_at s [] = None
import_at s («import» k c as_ xs ∷ cs) = or_else (if_there (is_call s k) base) (import_at s cs)
import_at s (_ ∷ cs) = import_at s cs
