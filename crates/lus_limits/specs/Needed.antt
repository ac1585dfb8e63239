-- What callers need of the declarations of a program, by their numbers.
use Rattle.std.specs.Prelude.{◌≡◌, ℕ, suc, ◌<◌, ◌≤◌, min, Bool, true, false, List, [], ◌∷◌, map, length, get_or, Option, Some, None, is_some}
use Rattle.std.specs.List.{list_all}
use Rattle.lus_tree.specs.Tree.{Name, Component, Program}
use Rattle.lus_meaning.specs.ClockFaults.{components}
use Rattle.lus_meaning.specs.Refusals.{IsChecked}
use Rattle.name_table.specs.Names.{number_of}
use Rattle.lus_limits.specs.declared.needs.Needs.{Needs}
use Rattle.lus_meaning.specs.Scene.{no_component}
use Rattle.lus_limits.specs.declared.calls.Way.{Way}
use Rattle.lus_limits.specs.declared.calls.Way.TheVariants.{Plain, Condition, Import}
use Rattle.lus_limits.specs.declared.summing.Summary.{Summary}
use Rattle.lus_limits.specs.declared.summing.Link.{Link}
use Rattle.lus_limits.specs.Calls.{Called, called_of}
use Rattle.lus_meaning.specs.Program.{all_sites}
use Rattle.lus_limits.specs.Frames.{summary_by_items, ways_of}
use Rattle.lus_limits.specs.Contracted.{summary_seen}
use Rattle.lus_limits.specs.SizeCuts.{cut_summary}
use Rattle.lus_limits.specs.SizeSummaries.{SizeSummary, no_peaks, size_summary_of}
use Rattle.lus_limits.specs.Peaks.{no_size}
use Rattle.lus_limits.specs.Summaries.{cut, summary_of, summary_by}

abbrev pub is_known : List (Option Needs) → ℕ → Bool
is_known known k = is_some (get_or known k None)

abbrev pub callee_place : List Name → Called → ℕ
callee_place names c = number_of names c.callee

-- all that is called is known
abbrev pub all_known : List Name → List (Option Needs) → List Called → Bool
all_known names known cs = list_all (λ c. is_known known (callee_place names c)) cs

-- the needs of a declaration
pub record IsNeeds (p : Program) (n : Component) (d : Needs) : Type 0 where
  pub counts : d.counts ≡ summary_of p n
  pub sizes : summary_seen d.sizes ≡ cut_summary (size_summary_of p n)

abbrev pub KnownOr : Program → Component → Option Needs → Type 0
KnownOr p n None = Unit {0}
KnownOr p n (Some d) = IsNeeds p n d

-- of each declaration nothing is known, or its needs
abbrev pub AreKnown : Program → List Component → List (Option Needs) → Type 0
AreKnown p [] [] = Unit {0}
AreKnown p [] (o ∷ os) = ⊥
AreKnown p (n ∷ ns) [] = ⊥
AreKnown p (n ∷ ns) (o ∷ os) = KnownOr p n o × AreKnown p ns os

-- how many outputs of a callee with so many a call holds
abbrev pub held_by : Way → ℕ → ℕ → ℕ
held_by Plain k m = 0
held_by Import k m = 0
held_by Condition k m = min k m

abbrev pub held_count : Called → ℕ → ℕ
held_count c m = held_by c.way c.defaults m

abbrev pub no_counts : Summary
no_counts = record {
  frame = 0;
  contract = false;
  counts = record { assumes = 0; guarantees = 0; ensured = 0; modes = 0 };
  properties = 0;
}

abbrev pub counts_or : Option Needs → Summary
counts_or None = no_counts
counts_or (Some d) = d.counts

abbrev pub outputs_at : List Component → ℕ → ℕ
outputs_at ns k = length (get_or ns k no_component).outputs

-- the link of a call
abbrev pub link_at : List Name → List Component → List (Option Needs) → Called → Link
link_at names ns known c = record {
  way = c.way;
  held = cut (held_count c (outputs_at ns (callee_place names c)));
  callee = counts_or (get_or known (callee_place names c) None);
}

abbrev pub no_summary : SizeSummary
no_summary = record { contract = no_peaks; called = no_size; imported = no_size }

abbrev pub sizes_or : Option Needs → SizeSummary
sizes_or None = no_summary
sizes_or (Some d) = summary_seen d.sizes

abbrev pub sizes_at : List Name → List (Option Needs) → Called → SizeSummary
sizes_at names known c = sizes_or (get_or known (callee_place names c) None)

-- all that a declaration calls and imports is known
abbrev pub calls_known : List Name → List (Option Needs) → Component → Bool
calls_known names known n = all_known names known (map called_of (all_sites n))

-- the needs of a declaration by those of what it calls and imports
pub record AreNeedsBy (names : List Name) (ns : List Component) (known : List (Option Needs)) (n : Component) (d : Needs) : Type 0 where
  pub all : calls_known names known n ≡ true
  pub counts : d.counts ≡ summary_by n (map (link_at names ns known) (map called_of (all_sites n)))
  pub sizes : summary_seen d.sizes ≡ cut_summary (summary_by_items (ways_of n) (map (sizes_at names known) (map called_of (all_sites n))) n)

-- ---- of a program

abbrev pub names_of : Program → List Name
names_of p = map (λ n. n.name.text) (components p)

-- a table of a program's declarations with parts keeps what is known
abbrev pub KeepsKnown : List Name → List Component → List (Option Needs) → List (Option Needs) → Type 0
KeepsKnown names ns old new =
    (p : Program) → IsChecked p → names ≡ names_of p → ns ≡ components p → AreKnown p ns old → AreKnown p ns new

-- how many are not known
abbrev pub unknowns : List (Option Needs) → ℕ
unknowns [] = 0
unknowns (None ∷ os) = suc (unknowns os)
unknowns (Some d ∷ os) = unknowns os

-- where a declaration isn't known, neither is all that it calls
abbrev pub IsStuckAt : List Name → List Component → List (Option Needs) → ℕ → Type 0
IsStuckAt names ns os k = is_known os k ≡ false → calls_known names os (get_or ns k no_component) ≡ false

-- one more is known, or nothing changed
pub record IsTried (names : List Name) (ns : List Component) (old new : List (Option Needs)) (k : ℕ) (more : Bool) : Type 0 where
  pub kept : KeepsKnown names ns old new
  pub many : length new ≡ length old
  pub added : more ≡ true → unknowns new < unknowns old
  pub stays : more ≡ false → (new ≡ old) × IsStuckAt names ns old k

-- in turn, of the first so many declarations: more is known, or nothing changed
pub record AreTried (names : List Name) (ns : List Component) (old new : List (Option Needs)) (k : ℕ) (more : Bool) : Type 0 where
  pub kept : KeepsKnown names ns old new
  pub many : length new ≡ length old
  pub added : more ≡ true → unknowns new < unknowns old
  pub stays : more ≡ false → (new ≡ old) × ((j : ℕ) → j < k → IsStuckAt names ns old j)

-- of those from one number on
pub record AreTriedFrom (names : List Name) (ns : List Component) (old new : List (Option Needs)) (k many : ℕ) (more : Bool) : Type 0 where
  pub kept : KeepsKnown names ns old new
  pub same_many : length new ≡ length old
  pub added : more ≡ true → unknowns new < unknowns old
  pub stays : more ≡ false → (new ≡ old) × ((j : ℕ) → k ≤ j → j < many → IsStuckAt names ns old j)

-- nothing is left that can be noted
pub record IsSettled (names : List Name) (ns : List Component) (old new : List (Option Needs)) : Type 0 where
  pub kept : KeepsKnown names ns old new
  pub many : length new ≡ length old
  pub stuck : (j : ℕ) → j < length ns → IsStuckAt names ns new j

-- the needs of all declarations, each with its number
pub record AllKnown (p : Program) (known : List (Option Needs)) : Type 0 where
  pub right : AreKnown p (components p) known
  pub all : (j : ℕ) → j < length (components p) → is_known known j ≡ true
