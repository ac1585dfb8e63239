-- What the solver says of an instant, its narrow query included.
use Rattle.std.specs.Prelude.{ℕ, ℤ, ◌≡◌, ◌≤◌, ◌⊎◌, Bool, true, false, ◌&&◌, List, [], ◌∷◌, All, Some, slice_get}
use Rattle.proof_steps.specs.View.{Refutation, proof_view}
use Rattle.sys_terms.specs.declared.term.Entry.{Entry as Cell}
use Rattle.sys_terms.specs.declared.term.Entry.TheVariants as e
use Rattle.sys_terms.specs.View.{Formula, Machine, Task, base, obligation_view, states_view}
use Rattle.sys_terms.specs.Fits.{is_narrow, is_narrow_number}
use Rattle.sys_terms.specs.Answers.{IsAnswer}
use Rattle.sys_terms.specs.NarrowQuery.{narrow_task}
use Rattle.smt_solver.specs.View.{stop}
use Rattle.smt_solver.specs.Answered.{IsAnswered}
use Rattle.cert_rules.specs.View.{proofs_view}
use Rattle.cert_rules.specs.Facts.{IsRefuted}
use Rattle.board_core.specs.declared.plan.Plan.{Plan}
use Rattle.board_core.specs.Entries.{Why, depth, frames, blocked, done, stopped, wide, IsWideAt, IsRefutedBy}
use Rattle.board_core.specs.View.{cause_view}
use Rattle.kind_engine.specs.declared.looking.Look.{Look}
use Rattle.kind_engine.specs.declared.looking.Look.TheVariants as l

-- each number of each state is below 2^63 in size
abbrev pub are_narrow : List (List Cell) → Bool
are_narrow [] = true
are_narrow (s ∷ states) = is_narrow s && are_narrow states

-- a value of size 2^63 or more is of no variable of a smaller number, and of this variable at no earlier instant
abbrev pub IsFirstWide : List (List Cell) → (variable instant : ℕ) → Type 0
IsFirstWide path variable instant = (t v : ℕ) (s : List Cell) (x : ℤ) → slice_get path t ≡ Some s
    → slice_get s v ≡ Some (e.Number x) → is_narrow_number x ≡ false → (variable ≤ v) × (v ≡ variable → instant ≤ t)

-- The instant is left open, with this query and these proofs kept: its query or its narrow query stopped; or a path
-- answers its query and has a number of size 2^63 or more, of which the first is named, and a proof refutes its narrow query.
abbrev pub IsOpen : Machine → Plan → (p i : ℕ) → List Formula → Task → List Refutation → Why → Type 0
IsOpen m plan p i cites task proofs (depth n) = ⊥
IsOpen m plan p i cites task proofs (frames n) = ⊥
IsOpen m plan p i cites task proofs (blocked n) = ⊥
IsOpen m plan p i cites task proofs (done n) = ⊥
IsOpen m plan p i cites task proofs (stopped halt) =
    ((task ≡ base p i) ⊎ (task ≡ narrow_task m (base p i))) × IsAnswered m task cites plan.budgets (stop halt)
IsOpen m plan p i cites task proofs (wide path variable instant value) =
    (task ≡ base p i) × IsAnswer m (base p i) cites path × IsWideAt path variable instant value
    × IsRefutedBy m proofs (narrow_task m (base p i)) cites × IsFirstWide path variable instant

-- a proof refutes its query; or a path answers it whose numbers are all below 2^63 in size; or it is left open
abbrev pub IsLook : Machine → Plan → (p i : ℕ) → List Formula → Look → Type 0
IsLook m plan p i cites (l.Refuted proof) = IsRefuted m (base p i) cites (proof_view proof)
IsLook m plan p i cites (l.Broken path) =
    IsAnswer m (base p i) cites (states_view path.items) × All (λ s. is_narrow s ≡ true) (states_view path.items)
IsLook m plan p i cites (l.Open o) =
    IsOpen m plan p i cites (obligation_view o.what) (proofs_view o.proofs.items) (cause_view o.cause)
