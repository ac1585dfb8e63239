-- Entries and news as clauses see them.
use Rattle.std.specs.Prelude.{⊤, ℕ, suc, ◌≡◌, List, [], ◌∷◌, map, Option, Some, None}
use Rattle.proof_steps.specs.View.{proof_view}
use Rattle.proof_steps.specs.StopView.{stop_view}
use Rattle.sys_terms.specs.declared.term.Entry.{Entry as Cell}
use Rattle.sys_terms.specs.declared.term.Obligation.{Obligation}
use Rattle.std.specs.declared.vec.Vec.{Vec}
use Rattle.std.specs.declared.alloc.Global.{Global}
use Rattle.sys_terms.specs.View.{Formula, Machine, Task, term_view, terms_view, states_view, obligation_view}
use Rattle.cert_rules.specs.Facts.{Fact, base_fact, step_fact, lemma_fact, held_fact, held_by_fact, other_fact}
use Rattle.cert_rules.specs.Kept.{base_view, base_machine, step_view, step_machine, lemma_view, lemma_machine, held_at, held_machine}
use Rattle.board_core.specs.declared.cause.Cause.{Cause}
use Rattle.board_core.specs.declared.cause.Cause.TheVariants as c
use Rattle.board_core.specs.declared.cause.Kept.{Kept}
use Rattle.board_core.specs.declared.entry.Made.{Made}
use Rattle.board_core.specs.declared.entry.Made.TheVariants as m
use Rattle.board_core.specs.declared.entry.Entry.{Entry}
use Rattle.board_core.specs.declared.statement.Statement.{Statement}
use Rattle.board_core.specs.declared.statement.Statement.TheVariants as s
use Rattle.board_core.specs.declared.statement.News.{News}
use Rattle.board_core.specs.declared.fact.Fact.{Fact as Shown}
use Rattle.board_core.specs.declared.fact.Fact.TheVariants as f
use Rattle.board_core.specs.Entries.{Why, depth, frames, blocked, done, stopped, wide, Grounds, Claim, proved, broken, stuck, spent, Posting}

abbrev pub cause_view : Cause → Why
cause_view (c.Depth n) = depth n
cause_view (c.Frames n) = frames n
cause_view (c.Blocked n) = blocked n
cause_view (c.Done n) = done n
cause_view (c.Stop stop) = stopped (stop_view stop)
cause_view (c.Wide path number instant value) = wide (states_view path.items) number instant value

-- the obligation with the places of the cited entries
abbrev pub query_places : Option (Obligation × Vec ℕ Global) → Option (Task × List ℕ)
query_places None = None
query_places (Some (o, places)) = Some (obligation_view o, places.items)

abbrev pub grounds_view : Kept → Grounds
grounds_view k = record {
  query = query_places k.query;
  proofs = map proof_view k.proofs.items;
  paths = map (λ p. states_view p.items) k.paths.items;
  terms = map (λ t. terms_view t.items) k.terms.items;
}

abbrev pub made_view : Made → Claim
made_view (m.Base b) = proved (base_view b)
made_view (m.Step s) = proved (step_view s)
made_view (m.Lemma l) = proved (lemma_view l)
made_view (m.Held h first second) = proved (held_at h first second)
made_view (m.Broken p path) = broken p (states_view path.items)
made_view (m.Stuck p path front) = stuck p (states_view path.items) front
made_view (m.Spent engine p cause kept) = spent engine p (cause_view cause) (grounds_view kept)

abbrev pub entry_view : Entry → Claim
entry_view e = made_view e.made

-- a fact in the entry is of this system
abbrev pub IsMadeFor : Machine → Made → Type 0
IsMadeFor machine (m.Base b) = base_machine b ≡ machine
IsMadeFor machine (m.Step s) = step_machine s ≡ machine
IsMadeFor machine (m.Lemma l) = lemma_machine l ≡ machine
IsMadeFor machine (m.Held h first second) = held_machine h ≡ machine
IsMadeFor machine (m.Broken p path) = ⊤
IsMadeFor machine (m.Stuck p path front) = ⊤
IsMadeFor machine (m.Spent engine p cause kept) = ⊤

abbrev pub IsFor : Machine → Entry → Type 0
IsFor machine e = IsMadeFor machine e.made

-- the same of what a reader of a book is shown
abbrev pub shown_view : Shown → Claim
shown_view (f.Base b) = proved (base_view b.now)
shown_view (f.Step s) = proved (step_view s.now)
shown_view (f.Lemma l) = proved (lemma_view l.now)
shown_view (f.Held h first second) = proved (held_at h.now first second)
shown_view (f.Broken p path) = broken p (states_view path.now)
shown_view (f.Stuck p path front) = stuck p (states_view path.now) front
shown_view (f.Spent engine p cause kept) = spent engine p (cause_view cause.now) (grounds_view kept.now)

abbrev pub IsShownFor : Machine → Shown → Type 0
IsShownFor machine (f.Base b) = base_machine b.now ≡ machine
IsShownFor machine (f.Step s) = step_machine s.now ≡ machine
IsShownFor machine (f.Lemma l) = lemma_machine l.now ≡ machine
IsShownFor machine (f.Held h first second) = held_machine h.now ≡ machine
IsShownFor machine (f.Broken p path) = ⊤
IsShownFor machine (f.Stuck p path front) = ⊤
IsShownFor machine (f.Spent engine p cause kept) = ⊤

-- what an entry says, without what it keeps
pub data Said : Type 0 where
  base_said : (property instant : ℕ) → Said
  step_said : (property k : ℕ) → Said
  lemma_said : Formula → Said
  held_said : ℕ → Said
  broken_said : ℕ → List (List Cell) → Said
  stuck_said : ℕ → List (List Cell) → ℕ → Said
  spent_said : (engine property : ℕ) → Why → Said
  nothing_said : Said

abbrev pub fact_said : Fact → Said
fact_said (base_fact p d cites proofs) = base_said p d
fact_said (step_fact p k cites proof) = step_said p k
fact_said (lemma_fact f cites first next) = lemma_said f
fact_said (held_fact p a b) = held_said p
fact_said (held_by_fact p a proof) = held_said p
fact_said other_fact = nothing_said

abbrev pub said_by : Claim → Said
said_by (proved f) = fact_said f
said_by (broken p path) = broken_said p path
said_by (stuck p path front) = stuck_said p path front
said_by (spent engine p why grounds) = spent_said engine p why

abbrev pub statement_view : Statement → Said
statement_view (s.Base p i) = base_said p i
statement_view (s.Step p k) = step_said p k
statement_view (s.Lemma f) = lemma_said (term_view f)
statement_view (s.Held p) = held_said p
statement_view (s.Broken p path) = broken_said p (states_view path.items)
statement_view (s.Stuck p path front) = stuck_said p (states_view path.items) front
statement_view (s.Spent engine p cause) = spent_said engine p (cause_view cause)

-- news by its place, seat and statement
pub record Told : Type 0 where
  pub place : ℕ
  pub seat : ℕ
  pub said : Said

abbrev pub news_view : News → Told
news_view n = record { place = n.place; seat = n.seat; said = statement_view n.statement }

-- the entries as they are told, the first one at this place
abbrev pub told_from : ℕ → List Posting → List Told
told_from place [] = []
told_from place (i ∷ history) = record { place = place; seat = i.seat; said = said_by i.says } ∷ told_from (suc place) history
