-- What a book says of a property.
use Rattle.std.specs.Prelude.{⊤, ℕ, suc, ◌≡◌, ◌==◌, ◌&&◌, ◌||◌, Bool, true, false, cond, List, [], ◌∷◌, Option, Some, None, slice_get}
use Rattle.sys_terms.specs.declared.term.Entry.{Entry as Cell}
use Rattle.sys_terms.specs.View.{Machine}
use Rattle.sys_terms.specs.Paths.{Breaks}
use Rattle.sys_terms.specs.Queries.{property_term}
use Rattle.cert_rules.specs.Facts.{Fact, base_fact, step_fact, lemma_fact, held_fact, held_by_fact, other_fact}
use Rattle.cert_rules.specs.Laws.{HoldsReachably}
use Rattle.board_core.specs.declared.verdict.Verdict.{Verdict}
use Rattle.board_core.specs.declared.verdict.Verdict.TheVariants as v
use Rattle.board_core.specs.Entries.{Claim, proved, broken, stuck, spent, Posting, Why}

-- valid or falsifiable by the entry at this place, or unknown
pub data Judged : Type 0 where
  valid_by : ℕ → Judged
  falsifiable_by : ℕ → Judged
  unknown : Judged

abbrev pub verdict_view : Verdict → Judged
verdict_view (v.Valid place) = valid_by place
verdict_view (v.Falsifiable place) = falsifiable_by place
verdict_view v.Unknown = unknown

-- a held entry of the property
abbrev pub fact_holds : ℕ → Fact → Bool
fact_holds p (base_fact q d cites proofs) = false
fact_holds p (step_fact q k cites proof) = false
fact_holds p (lemma_fact f cites first next) = false
fact_holds p (held_fact q a b) = q == p
fact_holds p (held_by_fact q a proof) = q == p
fact_holds p other_fact = false

abbrev pub holds : ℕ → Claim → Bool
holds p (proved f) = fact_holds p f
holds p (broken q path) = false
holds p (stuck q path front) = false
holds p (spent e q why grounds) = false

-- a broken entry of the property
abbrev pub breaks : ℕ → Claim → Bool
breaks p (proved f) = false
breaks p (broken q path) = q == p
breaks p (stuck q path front) = false
breaks p (spent e q why grounds) = false

abbrev pub judged_by : ℕ → ℕ → Claim → Judged → Judged
judged_by place p says later = cond (holds p says) (valid_by place) (cond (breaks p says) (falsifiable_by place) later)

-- by the first held or broken entry of the property, the first of these entries at this place
abbrev pub judged_from : ℕ → ℕ → List Posting → Judged
judged_from place p [] = unknown
judged_from place p (i ∷ history) = judged_by place p i.says (judged_from (suc place) p history)

abbrev pub judged : ℕ → List Posting → Judged
judged p history = judged_from 0 p history

-- some entry holds or breaks the property
abbrev pub decides : ℕ → List Posting → Bool
decides p [] = false
decides p (i ∷ history) = (holds p i.says || breaks p i.says) || decides p history

-- the cause, where the entry is the engine's for the property
abbrev pub cause_if : Bool → Why → Option Why
cause_if true why = Some why
cause_if false why = None

abbrev pub cause_in : (engine p : ℕ) → Claim → Option Why
cause_in engine p (proved f) = None
cause_in engine p (broken q path) = None
cause_in engine p (stuck q path front) = None
cause_in engine p (spent e q why grounds) = cause_if ((e == engine) && (q == p)) why

abbrev pub or_later : Option Why → Option Why → Option Why
or_later None later = later
or_later (Some why) later = Some why

-- the cause of the engine's first spent entry for the property
abbrev pub cause_of : (engine p : ℕ) → List Posting → Option Why
cause_of engine p [] = None
cause_of engine p (i ∷ history) = or_later (cause_in engine p i.says) (cause_of engine p history)

-- the claim at hand has a path that breaks the property
abbrev pub BreaksBy : Machine → ℕ → Option Posting → Type 0
BreaksBy m p None = ⊥
BreaksBy m p (Some i) = (states : List (List Cell)) × (i.says ≡ broken p states) × Breaks m p states

-- what a verdict means: true in all reachable states, or broken by the path of the entry that it names
abbrev pub IsJudged : Machine → ℕ → List Posting → Judged → Type 0
IsJudged m p history (valid_by place) = HoldsReachably m (property_term m p)
IsJudged m p history (falsifiable_by place) = BreaksBy m p (slice_get history place)
IsJudged m p history unknown = ⊤
