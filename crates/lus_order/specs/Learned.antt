-- What is known of all declarations is made callees first.
use Rattle.std.specs.Prelude.{◌≡◌, Bool, List, [], ◌∷◌, ◌++◌, map, length, Contains}
use Rattle.lus_tree.specs.Tree.{Name, Component, Program}
use Rattle.lus_meaning.specs.ClockFaults.{components}
use Rattle.lus_meaning.specs.Depends.{named_in}
use Rattle.way_laws.specs.OwnGraph.{Summary}
use Rattle.way_laws.specs.Summaries.{IsSummary}
use Rattle.lus_order.specs.declared.library.Library.{Library}
use Rattle.lus_order.specs.Library.{known_view, library_view}
use Rattle.lus_order.specs.OwnReads.{AreFlagsOf}
use Rattle.lus_order.specs.Reads.{callees_view}

-- for each input of a declaration whether some output reads it
abbrev pub flags_of : Summary → List Bool
flags_of s = map (λ x. named_in x s.reads) s.inputs

abbrev pub names_known : Library → List Name
names_known l = l.callees.names

abbrev pub all_known : Library → List Summary
all_known l = map known_view l.summaries.items

abbrev pub all_flags : Library → List (List Bool)
all_flags l = map (λ b. b.items) l.callees.flags.items

-- each name has a summary, and each summary its flags
pub record IsConsistent (l : Library) : Type 0 where
  pub counted : length (names_known l) ≡ length (all_known l)
  pub flags : all_flags l ≡ map flags_of (all_known l)

-- one more name, with a summary
pub record IsAdded (old new : Library) (f : Name) (s : Summary) : Type 0 where
  pub names : names_known new ≡ names_known old ++ f ∷ []
  pub known : all_known new ≡ all_known old ++ s ∷ []
  pub flags : all_flags new ≡ all_flags old ++ flags_of s ∷ []

-- one more declaration, with its summary by what was known before
pub record IsLearned (n : Component) (old new : Library) : Type 0 where
  pub summary : Summary
  pub added : IsAdded old new n.name.text summary
  pub is : IsSummary n (library_view old) summary

-- of each declaration the summary by its own graph is known, and which inputs it reads
pub record IsLibraryOf (p : Program) (l : Library) : Type 0 where
  pub flags : AreFlagsOf (library_view l) (callees_view l.callees)
  pub each : (n : Component) → Contains (components p) n → IsSummary n (library_view l) (library_view l n.name.text)
