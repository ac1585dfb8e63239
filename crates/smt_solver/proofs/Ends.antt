-- The turns and the ends of a run with numbers.
use Rattle.std.specs.Prelude.{ℕ, suc, ◌≡◌, ◌+◌, ◌<◌, true, List, [], ◌∷◌, ◌++◌, length, map, Option, Some, None, All, Contains, refl}
use Rattle.std.proofs.Common.{sym, ◌∙◌, ap, subst, inl, inr, arith}
use Rattle.std.proofs.lemmas.List.{length-append}
use Rattle.std.proofs.lemmas.List.Elements.{All-contains}
use lib.IntN.{ℤ}
use Rattle.proof_steps.specs.declared.Literal.{Literal}
use Rattle.proof_steps.specs.declared.Literal.TheVariants.{Atom}
use Rattle.proof_steps.specs.declared.stops.Budgets.{Budgets}
use Rattle.proof_steps.specs.declared.stops.Start.{Start}
use Rattle.proof_steps.specs.declared.stops.PastStep.{PastStep}
use Rattle.proof_steps.specs.View.{Move}
use Rattle.proof_steps.specs.StopView.{Beginning, conflicts, pivots, past, start_view, past_view}
use Rattle.proof_steps.specs.Rows.{Form}
use Rattle.proof_steps.specs.Bounds.{split_atom}
use Rattle.proof_steps.specs.Splits.{IsSplit, AreSplits}
use Rattle.proof_steps.specs.Stopped.{AreLearnt, IsTrueOf}
use Rattle.proof_checker.specs.Check.{verdict, refuted}
use Rattle.int_simplex.specs.State.{State}
use Rattle.int_cuts.specs.Splits.{IsWhole, IsFirstBroken}
use Rattle.line_laws.specs.Steps.{SplitStepsFit}
use Rattle.sat_core.specs.Shown.{Shown, Keeps, Logs, Finds}
use Rattle.sat_core.specs.declared.found.Found.{Found}
use Rattle.sat_core.specs.declared.found.Found.TheVariants as v
use Rattle.sat_core.specs.Trail.{HasValue, IsFalse}
use Rattle.smt_solver.specs.declared.numbers.meanings.Meaning.{Meaning}
use Rattle.smt_solver.specs.declared.numbers.looking.Look.TheVariants.{Fits, Counted, Pivots, Past}
use Rattle.smt_solver.specs.declared.run.End.{End}
use Rattle.smt_solver.specs.Ending.{ListedAreOfTheQuery, RefutationsAreOfTheQuery}
use Rattle.smt_solver.specs.Kept.{Course, IsKept, IsWithin, IsAtFull, IsAtFit, IsWholeEnd, IsMore, Turns, TurnsCounted, own_form, left}
use Rattle.smt_solver.specs.Looking.{asserted, Looks}
use Rattle.smt_solver.specs.Near.{IsRoomy}
use Rattle.smt_solver.specs.Run.{Standing, IsRun, IsFull}
use Rattle.smt_solver.specs.Stops.{BrokenNumbersSplit, LongChecksAreLong, PastChecksArePast}
use Rattle.smt_solver.specs.Turning.{IsSplitOff, meaning_of_split}
use Rattle.smt_solver.proofs.Kept.{numbers-of, splits-more, with-search, with-work, with-tableau, after-check, tableau-for, kept-counted, kept-split}
use Rattle.smt_solver.proofs.Refuting.{rows-grown}
use Rattle.smt_solver.proofs.Turns.{full-end}

-- ---- at fitting values

pub whole-end : (f : Form) (s : Course) → IsAtFit f s → All IsWhole s.tableau.values → IsWholeEnd f s
whole-end f s h w = record {
  full = h.full.full;
  met = record {
    meanings = h.fitting.tableau.meanings;
    sound = h.fitting.tableau.sound;
    given = h.fitting.tableau.given ∙ sym (rows-grown (length f.shapes) f.atoms s.pairs);
    bounds = h.fitting.tableau.bounds;
    fit = h.fitting.fit;
    whole = w;
  };
  usable = h.kept.usable;
  columns = h.kept.columns;
}

pub next-split : BrokenNumbersSplit → (f : Form) (s : Course) → IsAtFit f s → (x : ℕ) (z : ℤ) → IsFirstBroken s.tableau.values x z
    → IsSplit f s.pairs x z
next-split law f s h x z b = law f s.pairs s.meanings s.work.search.trail s.tableau x z h.kept.plain h.fitting h.full b

pub after-split : SplitStepsFit → (f : Form) (budgets : Budgets) (s : Course) → IsKept f s → IsWithin budgets s → (x : ℕ) (c : ℤ)
    → IsSplit f s.pairs x c → IsRoomy c → length s.pairs < budgets.splits → (new : Standing) (ms : List Meaning) (pairs : List (ℕ × ℤ))
    → IsSplitOff x c s.work new ms → ms ≡ s.meanings ++ meaning_of_split x c ∷ [] → pairs ≡ s.pairs ++ (x, c) ∷ []
    → IsMore f budgets s record { work = new; tableau = s.tableau; meanings = ms; pairs = pairs }
after-split law f budgets s k w x c h r l new ms pairs o e q = record {
  kept = kept-split law f s k x c h r new ms pairs o e q;
  within = record { conflicts = (let a = ap length o.listed in let b = w.conflicts in omega arith); splits = (let d = longer in omega arith) };
  less = (let a = ap length o.listed in let b = w.conflicts in let d = longer in omega arith);
} where
  longer : length pairs ≡ length s.pairs + 1
  longer = ap length q ∙ length-append s.pairs ((x, c) ∷ [])

-- ---- a full list

learnt-front : (f : Form) (pairs : List (ℕ × ℤ)) (known cs more : List (List Literal)) → AreLearnt f pairs known (cs ++ more)
    → AreLearnt f pairs known cs
learnt-front f pairs known [] more h = tt
learnt-front f pairs known (c ∷ cs) more h = (h.0, learnt-front f pairs (known ++ c ∷ []) cs more h.1)

pub listed-end : ListedAreOfTheQuery → (f : Form) (budgets : Budgets) (s : Course) → IsKept f s → (listed more : List (List Literal))
    → s.work.listed ≡ listed ++ more → length listed ≡ budgets.conflicts → IsTrueOf f budgets (conflicts listed s.pairs)
listed-end law f budgets s k listed more e l = (
  k.splits,
  l,
  learnt-front f s.pairs f.clauses listed more
      (subst (AreLearnt f s.pairs f.clauses) e (law f s.pairs s.work k.fit k.form k.run)),
)

-- ---- at a full assignment

module _ (f : Form) (s : Course) (k : IsKept f s) (new : Shown) (found : Found) (h : Finds s.work.search new found)
    (e : found ≡ v.Full) where
  abbrev pub searched : Course
  searched = record {
    work = record { form = s.work.form; search = new; moves = s.work.moves; listed = s.work.listed };
    tableau = s.tableau;
    meanings = s.meanings;
    pairs = s.pairs;
  }

  keeps : Keeps s.work.search new
  keeps = subst (λ x. Logs x s.work.search new) e h.logs

  full : IsFull s.work.form new.trail
  full = full-end s.work new found k.run h e

  both : All (HasValue new.trail) s.work.search.variables × All (λ c. ¬ IsFalse new.trail c) s.work.search.known
  both = h.full.0 e

  pub at-full : IsAtFull f searched
  at-full = record {
    kept = with-search f s k new keeps h.variables;
    full = record {
      full = subst (λ (cs : List (List Literal)). IsFull record { shapes = f.shapes; atoms = f.atoms; clauses = cs } new.trail)
          (ap (λ (g : Form). g.clauses) k.form) record { apart = full.apart; satisfied = full.satisfied };
      atoms = λ n l. All-contains (HasValue new.trail) s.work.search.variables (Atom (suc n) true) both.0
          (k.variables n (subst (λ (g : Form). n < length g.atoms) (sym k.form) l));
    };
    settled = record {
      apart = h.propagated.apart;
      none_false = subst (All (λ c. ¬ IsFalse new.trail c)) (sym keeps.known) both.1;
    };
  }

-- ---- after a look at the numbers

module _ (f : Form) (s : Course) (k : IsAtFull f s) (new : Standing) (u : State) (most : ℕ) where
  abbrev pub looked : Course
  looked = record { work = new; tableau = u; meanings = s.meanings; pairs = s.pairs }

  pub at-fit : Looks s.work new s.tableau u s.meanings most Fits → IsAtFit f looked
  at-fit h = subst (λ w. IsAtFit f record { work = w; tableau = u; meanings = s.meanings; pairs = s.pairs }) (sym h.1.0)
      (let t = after-check f s k.kept u most record { before = h.0; after = h.1.2; checked = h.1.3.0 } in record {
        kept = with-tableau f s k.kept u h.1.1 t.given t.columns t.stand;
        full = k.full;
        fitting = record { tableau = t; fit = h.1.3.1 };
      })

  pub same-form : Looks s.work new s.tableau u s.meanings most Fits → own_form looked ≡ own_form s
  same-form h = ap (λ w. own_form record { work = w; tableau = u; meanings = s.meanings; pairs = s.pairs }) h.1.0

  pub turns-on : Looks s.work new s.tableau u s.meanings most Fits → (budgets : Budgets) (last : Course) (o : Option End)
      → Turns f budgets looked last o → Turns f budgets s last o
  turns-on h budgets last None t = record {
    kept = t.kept;
    within = t.within;
    less = subst (λ (w : Standing). left budgets last < left budgets record { work = w; tableau = u; meanings = s.meanings; pairs = s.pairs })
        h.1.0 t.less;
  }
  turns-on h budgets last (Some end) t = t

  pub kept-looked : Looks s.work new s.tableau u s.meanings most Counted → IsKept f looked
  kept-looked h = kept-counted f s k.kept new u most h.0 h.1

  pub turns-counted : Looks s.work new s.tableau u s.meanings most Counted → (budgets : Budgets) → IsWithin budgets s
      → (last : Course) (o : Option End) → TurnsCounted f budgets looked last o → Turns f budgets s last o
  turns-counted h budgets w last None t =
      subst (λ c. IsMore f budgets s c) (sym t.0) record {
        kept = kept-looked h;
        within = record { conflicts = t.1; splits = w.splits };
        less = (let a = h.0.more in let b = t.1 in omega arith);
      }
  turns-counted h budgets w last (Some end) t = t

  pub long-stop : LongChecksAreLong → (budgets : Budgets) (start : Start)
      → Looks s.work new s.tableau u s.meanings budgets.pivots (Pivots start) → IsTrueOf f budgets (pivots (start_view start) s.pairs)
  long-stop law budgets start h = subst (λ (b : Beginning). IsTrueOf f budgets (pivots b s.pairs)) (sym h.1.0) (
    k.kept.splits,
    refl,
    law f s.pairs s.meanings s.work.search.trail (asserted s.tableau s.work.search.trail s.meanings) budgets.pivots
        (tableau-for f s k.kept h.0) h.1.2,
  )

  pub past-stop : PastChecksArePast → (budgets : Budgets) (step : PastStep)
      → Looks s.work new s.tableau u s.meanings most (Past step) → IsTrueOf f budgets (past (past_view step) s.pairs)
  past-stop law budgets step (sound, inl h) = (
    k.kept.splits,
    law f s.pairs s.meanings s.work.search.trail (asserted s.tableau s.work.search.trail s.meanings) (past_view step)
        (tableau-for f s k.kept sound) h,
  )
  past-stop law budgets step (sound, inr h) = (
    k.kept.splits,
    h.is_past f s.pairs record {
      form = k.kept.form;
      plain = k.kept.plain;
      tableau = after-check f s k.kept u most record { before = sound; after = h.sound; checked = h.checked };
      refuted = h.refuted;
    },
  )

-- ---- a conflict, and the empty clause

pub after-learning : (f : Form) (budgets : Budgets) (s : Course) → IsKept f s → IsWithin budgets s → (new : Standing)
    → new.form ≡ s.work.form → IsRun new → new.search.variables ≡ s.work.search.variables
    → length new.listed ≡ suc (length s.work.listed) → length s.work.listed < budgets.conflicts
    → IsMore f budgets s record { work = new; tableau = s.tableau; meanings = s.meanings; pairs = s.pairs }
after-learning f budgets s k w new e run variables more l = record {
  kept = with-work f s k new e run (λ x i. subst (λ (vs : List Literal). Contains vs x) (sym variables) i);
  within = record { conflicts = omega arith; splits = w.splits };
  less = omega arith;
}

pub refuted-end : RefutationsAreOfTheQuery → (f : Form) (s : Course) → IsKept f s → (moves : List Move)
    → verdict s.work.form.shapes s.work.form.atoms s.work.form.clauses [] moves ≡ refuted
    → verdict f.shapes f.atoms f.clauses (map split_atom s.pairs) moves ≡ refuted
refuted-end law f s k moves e = law f s.pairs moves (numbers-of f s.pairs k.splits)
    (subst (λ (g : Form). verdict g.shapes g.atoms g.clauses [] moves ≡ refuted) k.form e)

pub splits-of-all : (f : Form) (pairs : List (ℕ × ℤ)) (x : ℕ) (c : ℤ) → AreSplits f pairs → IsSplit f pairs x c
    → AreSplits f (pairs ++ (x, c) ∷ [])
splits-of-all f pairs x c s h = splits-more f [] pairs x c s h
