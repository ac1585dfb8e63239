-- The lemmas that an engine cites.
use Rattle.std.specs.Prelude.{ℕ, ◌≡◌, ◌<◌, ◌≤◌, List, length, All, Contains, Option, Some, None, slice_get}
use Rattle.sys_terms.specs.View.{Formula, Machine}
use Rattle.cert_rules.specs.Facts.{Citation, IsTerm, IsLemmaOf, AreCited, terms_of}
use Rattle.board_core.specs.Entries.{Posting, facts_in}
use Rattle.board_core.specs.View.{Told, Said, base_said, step_said, lemma_said, held_said, broken_said, stuck_said, spent_said, nothing_said, said_by}

-- lemma entries of the history, all of those below the front among them
pub record AreLemmas (m : Machine) (history : List Posting) (front : ℕ) (cites : List Citation) : Type 0 where
  pub front_is_here : front ≤ length history
  pub cited : AreCited (facts_in history) cites
  pub citable : All (IsTerm m) (terms_of cites)
  pub all : (n : ℕ) (f : Formula) → n < front → IsLemmaOf f (slice_get (facts_in history) n)
      → Contains (terms_of cites) f

-- the term of a lemma that is told
abbrev pub told_term : Said → Option Formula
told_term (base_said p i) = None
told_term (step_said p k) = None
told_term (lemma_said f) = Some f
told_term (held_said p) = None
told_term (broken_said p path) = None
told_term (stuck_said p path front) = None
told_term (spent_said engine p why) = None
told_term nothing_said = None

-- what is told is an entry of the history
abbrev pub IsToldOf : List Posting → Told → Type 0
IsToldOf history t = (i : Posting) × (slice_get history t.place ≡ Some i) × (t.said ≡ said_by i.says)
