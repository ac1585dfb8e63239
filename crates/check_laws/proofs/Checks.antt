-- A tableau's checks by the laws of runs.
use Rattle.std.specs.Prelude.{ℕ, zero, suc, ◌≡◌, Bool, true, false, List, map, Some}
use Rattle.std.proofs.Common.{sym, ◌∙◌, subst}
use lib.IntN.{ℤ}
use lib.Signed.{◌≤ℤ◌}
use Rattle.proof_steps.specs.Pivots.{Position, first_position, bound_on}
use Rattle.int_simplex.specs.State.{Standing, plain, beginning}
use Rattle.int_simplex.specs.Bounds.{tightest}
use Rattle.int_simplex.specs.Sound.{IsUncrossed}
use Rattle.int_simplex.specs.Leads.{LeadsTo}
use Rattle.int_simplex.proofs.Tables.{IsStanding, tightest_bare, tightest_stands, bare-some}
use Rattle.bland_laws.specs.Laws.{Leads, LeaveRoom}
use Rattle.bland_laws.proofs.Firsts.{first-begins, checks_end}
use Rattle.bland_laws.proofs.Runs.{states_differ}
use Rattle.check_laws.specs.Laws.{LargeBudgetsAreEnough, NoStateTwice}

-- the bound of a column is that of one that stands
standing-of : (bounds : List Standing) (side : Bool) (c : ℕ) (z : ℤ) → bound_on side (map plain bounds) c ≡ Some z
    → (n : ℕ) × IsStanding bounds c side (z, n)
standing-of bounds side c z e =
    let w = bare-some (tightest bounds c side) z (tightest_bare bounds c side ∙ e) in
    (w.0, tightest_stands bounds c side (z, w.0) w.1)

-- bounds that don't cross leave room
leave-room : (bounds : List Standing) → IsUncrossed bounds → LeaveRoom (map plain bounds)
leave-room bounds h c l u el eu =
    let low = standing-of bounds false c l el in
    let high = standing-of bounds true c u eu in
    let a = low.1 in let b = high.1 in
    let P : ℤ → Type 0 = λ z. z ≤ℤ u in
    let Q : ℤ → Type 0 = λ z. a.bound.limit ≤ℤ z in
    subst P a.limit (subst Q b.limit (h a.bound b.bound a.stands b.stands (a.column ∙ sym b.column) a.upper b.upper))

leads : (given : List (List (ℕ × ℤ))) (columns : ℕ) (bounds : List (ℕ × Bool × ℤ)) (n : ℕ) (s t : Position)
    → LeadsTo given columns bounds n s t → Leads given columns bounds n s t
leads given columns bounds zero s t e = e
leads given columns bounds (suc n) s t (u, p, r) = (u, p, leads given columns bounds n u t r)

pub large_budgets : LargeBudgetsAreEnough
large_budgets old new budget start sound h =
    checks_end old.given old.columns (beginning old budget) sound.basis (leave-room old.bounds h.1) (suc budget) h.2

pub state_once : NoStateTwice
state_once s budget k n t u sound first then =
    let room = leave-room s.bounds sound.uncrossed in
    states_differ s.given s.columns (map plain s.bounds) room k n (first_position (beginning s budget)) t u
    (first-begins s.given s.columns (beginning s budget) sound.basis room)
    (leads s.given s.columns (map plain s.bounds) k (first_position (beginning s budget)) t first)
    (leads s.given s.columns (map plain s.bounds) (suc n) t u then)
