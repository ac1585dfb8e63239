-- What a look at the numbers says, from the tableau before it.
use Rattle.std.specs.Prelude.{ℕ, ◌≡◌, ◌<◌, List, length, Option, Some, None, slice_get}
use Rattle.std.proofs.Common.{subst, inr, arith}
use lib.IntN.{ℤ}
use Rattle.proof_steps.specs.declared.stops.PastStep.{PastStep}
use Rattle.int_simplex.specs.State.{State}
use Rattle.int_simplex.specs.Answers.{IsChecked, IsCheckup}
use Rattle.int_simplex.specs.Farkas.{IsRefuted, farkas_view}
use Rattle.int_simplex.specs.Sound.{IsSound}
use Rattle.int_simplex.specs.declared.answers.Checkup.{Checkup}
use Rattle.int_simplex.specs.declared.answers.Checkup.TheVariants.{Refuted}
use Rattle.int_simplex.specs.declared.answers.Farkas.{Farkas}
use Rattle.int_simplex.proofs.Places.{same_some}
use Rattle.smt_solver.specs.declared.numbers.meanings.Meaning.{Meaning}
use Rattle.smt_solver.specs.declared.numbers.looking.Look.{Look}
use Rattle.smt_solver.specs.declared.numbers.looking.Look.TheVariants.{Fits, Counted, Pivots, Past}
use Rattle.smt_solver.specs.Asserting.{AreAssertedBy}
use Rattle.smt_solver.specs.Looking.{asserted, IsStepPast, LooksFrom, Looks}
use Rattle.smt_solver.specs.Run.{Standing}
use Rattle.smt_solver.specs.Turning.{TurnsRefutation}

-- a refutation whose step is past
pub step-past : (old new : Standing) (t u : State) (ms : List Meaning) (pivots : ℕ) (first : List (ℕ × ℤ)) (parts : List (ℤ × ℕ))
    (o : Option PastStep) (step : PastStep) → o ≡ Some step → TurnsRefutation old new ms first parts o
    → slice_get u.given 0 ≡ Some first → IsSound u → IsChecked t u pivots → IsRefuted u.given u.columns u.bounds parts
    → IsStepPast old t u ms pivots step
step-past old new t u ms pivots first parts None step e h g sound k r = absurd cc
step-past old new t u ms pivots first parts (Some x) step e h g sound k d = record {
  parts = parts;
  first = first;
  is_first = g;
  checked = k;
  sound = sound;
  refuted = d;
  is_past = λ f pairs r.
      subst (λ (y : PastStep). TurnsRefutation old new ms first parts (Some y)) (same_some x step e) h f pairs u r g;
}

looks-from : (old new : Standing) (t u : State) (ms : List Meaning) (pivots : ℕ) → IsSound (asserted t old.search.trail ms) → (l : Look)
    → LooksFrom old new (asserted t old.search.trail ms) u ms pivots l → Looks old new t u ms pivots l
looks-from old new t u ms pivots sound Fits h = (sound, h)
looks-from old new t u ms pivots sound Counted h = (
  h.0,
  record { usable = h.1; moved = inr record { before = sound; after = h.2; checked = h.3 } },
)
looks-from old new t u ms pivots sound (Pivots start) h = (sound, h)
looks-from old new t u ms pivots sound (Past step) h = (sound, h)

pub looks : (old new : Standing) (t s u : State) (ms : List Meaning) (pivots : ℕ) → IsSound s → (o : Option (ℕ × ℕ)) → o ≡ None
    → AreAssertedBy old.search.trail t s ms o → (l : Look) → LooksFrom old new s u ms pivots l → Looks old new t u ms pivots l
looks old new t s u ms pivots sound None e a l h =
    looks-from old new t u ms pivots (subst IsSound a sound) l (subst (λ w. LooksFrom old new w u ms pivots l) a h)
looks old new t s u ms pivots sound (Some p) e a l h = absurd cc

-- what one row refutes has a row
pub some-row : (old new : State) (budget : ℕ) (a : Checkup) (f : Farkas) → a ≡ Refuted f → IsCheckup old new budget a
    → 0 < length new.given
some-row old new budget a f e h =
    let r : IsCheckup old new budget (Refuted f) = subst (IsCheckup old new budget) e h in
    let i = r.1.one_row.is_row.in_basis in
    let l = i.1 in let n = r.1.one_row.is_basis.count in omega arith

pub refuted-so : (old new : State) (budget : ℕ) (a : Checkup) (f : Farkas) → a ≡ Refuted f → IsCheckup old new budget a
    → IsChecked old new budget × IsRefuted new.given new.columns new.bounds (farkas_view f)
refuted-so old new budget a f e h = subst (IsCheckup old new budget) e h
