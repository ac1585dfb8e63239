-- The stops of a plain form together, and of answers.
use Rattle.std.specs.Prelude.{ℕ, zero, suc, ◌≡◌, ◌≢◌, ◌+◌, ◌*◌, ◌<◌, ◌≤◌, ◌^◌, List, [], ◌∷◌, length, Ok, Result, Some, slice_get, All}
use Rattle.std.proofs.Common.{subst, arith, refl}
use Rattle.std.proofs.lemmas.List.Elements.{All-head, All-weaker}
use Rattle.kind_num.specs.declared.Past.{Past}
use Rattle.kind_num.specs.declared.Shape.{Shape}
use Rattle.kind_num.specs.declared.Shape.TheVariants.{Number}
use lib.IntN.{ℤ}
use Rattle.proof_steps.specs.declared.Literal.{Literal}
use Rattle.proof_steps.specs.View.{Inequality}
use Rattle.proof_steps.specs.declared.stops.Budgets.{Budgets}
use Rattle.proof_steps.specs.StopView.{Halt, conflicts, splits, pivots, past, Beginning, Operation}
use Rattle.proof_steps.specs.Rows.{Form, rows_of, columns_of}
use Rattle.proof_steps.specs.Stopped.{IsTrueOf}
use Rattle.sys_terms.specs.View.{Formula, Machine, Task}
use Rattle.sys_terms.specs.Queries.{query_of}
use Rattle.cnf_maker.specs.ClauseForm.{clause_form}
use Rattle.cnf_maker.specs.Plain.{IsPlain, IsPlainAtom, IsTermOf, QueriesAreSmall}
use Rattle.smt_solver.specs.View.{Found, unsat, sat, stop}
use Rattle.smt_solver.specs.Answered.{IsTrue, HasNoAtoms, StopsByConflicts}
use Rattle.smt_solver.specs.Boolean.{BooleanQueriesHaveNoAtoms}
use Rattle.smt_solver.specs.NeedRoom.{FlagsBoundConflicts, StopsNeedAtoms, RangesSuffice}
use Rattle.sat_core.specs.Few.{variable_count}
use Rattle.smt_solver.specs.Room.{HasRanges, rooms}
use Rattle.cause_laws.specs.Bases.{AreAllBases}
use Rattle.cause_laws.specs.Small.{HasItsVariables, HasSmallNumbers}
use Rattle.cause_laws.specs.Laws.{BasesBoundPivots, SmallNumbersStayWithin}
use Rattle.cause_laws.specs.Complete.{HasNoNumbers, IsComplete, PlainFormsAreComplete, QueriesAreComplete, IsBoolean, IsDecided, IsCompleteAnswer, AnswersAreComplete}

-- ---- plain forms

no-atoms : (f : Form) → IsPlain f → HasNoNumbers f → f.atoms ≡ []
no-atoms f p n = go f.atoms p where
  none : (i : Inequality) → IsPlainAtom f.shapes i → ⊥
  none i h = terms i.terms h.terms h.some_term where
    terms : (ts : List (ℕ × ℤ)) → All (IsTermOf f.shapes) ts → ts ≢ [] → ⊥
    terms [] a e = e refl
    terms (t ∷ ts) a e = n t.0 (All-head (IsTermOf f.shapes) t ts a).number

  go : (atoms : List Inequality) → All (IsPlainAtom f.shapes) atoms → atoms ≡ []
  go [] a = refl
  go (i ∷ atoms) a = absurd (none i (All-head (IsPlainAtom f.shapes) i atoms a))

below-length : (xs : List Shape) (k : ℕ) (x : Shape) → slice_get xs k ≡ Some x → k < length xs
below-length [] k x e = absurd cc
below-length (y ∷ xs) zero x e = omega arith
below-length (y ∷ xs) (suc k) x e = let l = below-length xs k x e in omega arith

its-variables : (f : Form) → IsPlain f → HasItsVariables f
its-variables f p =
    All-weaker (IsPlainAtom f.shapes) (λ (i : Inequality). All (λ (t : ℕ × ℤ). t.0 < length f.shapes) i.terms)
    (λ i h. All-weaker (IsTermOf f.shapes) (λ (t : ℕ × ℤ). t.0 < length f.shapes)
    (λ t k. below-length f.shapes t.0 Number k.number) i.terms h.terms) f.atoms p

pub plain-complete : FlagsBoundConflicts → StopsNeedAtoms → RangesSuffice → BasesBoundPivots → SmallNumbersStayWithin → PlainFormsAreComplete
plain-complete flags need room bases small f budgets p = record {
  without_numbers = λ n. need f budgets (no-atoms f p n);
  over_flags = λ n l clauses pairs t. let b = flags f budgets clauses pairs (no-atoms f p n) t in omega arith;
  in_ranges = λ low high h. room f low high budgets h;
  over_bases = λ all h l start pairs t. let b = bases f budgets all start pairs h t in omega arith;
  with_small_numbers = λ low high h s step pairs t. small f budgets low high step pairs (its-variables f p) h.given s t;
}

-- ---- queries

same-form : (f g : Form) (r : Result Form Past) → r ≡ Ok f → r ≡ Ok g → f ≡ g
same-form f g r p q = cc

pub queries-complete : PlainFormsAreComplete → ((m : Machine) (task : Task) (cites : List Formula) → QueriesAreSmall m task cites)
    → QueriesAreComplete
queries-complete plain made m task cites f budgets h e =
    let w = made m task cites h.mild h.asked h.light_task h.cited h.light_cites in
    plain f budgets (subst IsPlain (same-form w.form f (clause_form (query_of m task cites)) w.is_form e) w.plain)

-- ---- answers

no-stop : (found : Found) → ((halt : Halt) → found ≢ stop halt) → IsDecided found
no-stop (unsat p) n = tt
no-stop (sat states) n = tt
no-stop (stop halt) n = n halt refl

module _ (m : Machine) (task : Task) (cites : List Formula) (f : Form) (budgets : Budgets) (found : Found)
    (c : IsComplete f budgets) (is : IsTrue m task cites f budgets found) where
  of-stop : (halt : Halt) → found ≡ stop halt → IsTrueOf f budgets halt
  of-stop halt q = subst (λ w. IsTrue m task cites f budgets w) q is

  no-splits : (low high : ℕ → ℤ) → HasRanges f low high → rooms f low high < budgets.splits
      → (pairs : List (ℕ × ℤ)) → found ≢ stop (splits pairs)
  no-splits low high r l pairs q = (c.in_ranges low high r).splits_suffice l pairs (of-stop (splits pairs) q)

  no-conflicts : (low high : ℕ → ℤ) → HasRanges f low high → 3 ^ (variable_count f [] + rooms f low high) ≤ budgets.conflicts
      → (clauses : List (List Literal)) (pairs : List (ℕ × ℤ)) → found ≢ stop (conflicts clauses pairs)
  no-conflicts low high r l clauses pairs q =
      (c.in_ranges low high r).conflicts_suffice l clauses pairs (of-stop (conflicts clauses pairs) q)

  no-pivots : (bases : List (List ℕ)) → AreAllBases (rows_of f) (columns_of f) bases → length bases * 3 ^ columns_of f ≤ budgets.pivots
      → (start : Beginning) (pairs : List (ℕ × ℤ)) → found ≢ stop (pivots start pairs)
  no-pivots bases all l start pairs q = c.over_bases bases all l start pairs (of-stop (pivots start pairs) q)

  no-past : (low high : ℕ → ℤ) → HasRanges f low high → HasSmallNumbers f
      → (step : Operation) (pairs : List (ℕ × ℤ)) → found ≢ stop (past step pairs)
  no-past low high r s step pairs q = c.with_small_numbers low high r s step pairs (of-stop (past step pairs) q)

  -- no stop where nothing compares numbers and conflicts have room
  no-flags : (f.atoms ≡ []) → FlagsBoundConflicts → StopsByConflicts found → 3 ^ length f.shapes ≤ budgets.conflicts
      → (halt : Halt) → found ≢ stop halt
  no-flags n few s l (conflicts clauses pairs) q =
      let b = few f budgets clauses pairs n (of-stop (conflicts clauses pairs) q) in omega arith
  no-flags n few s l (splits pairs) q = absurd (subst StopsByConflicts q s)
  no-flags n few s l (pivots start pairs) q = absurd (subst StopsByConflicts q s)
  no-flags n few s l (past step pairs) q = absurd (subst StopsByConflicts q s)

  none-at-all : (low high : ℕ → ℤ) (bases : List (List ℕ)) → HasRanges f low high → HasSmallNumbers f
      → AreAllBases (rows_of f) (columns_of f) bases
      → rooms f low high < budgets.splits → 3 ^ (variable_count f [] + rooms f low high) ≤ budgets.conflicts
      → length bases * 3 ^ columns_of f ≤ budgets.pivots → (halt : Halt) → found ≢ stop halt
  none-at-all low high bases r n k x y z (conflicts clauses pairs) = no-conflicts low high r y clauses pairs
  none-at-all low high bases r n k x y z (splits pairs) = no-splits low high r x pairs
  none-at-all low high bases r n k x y z (pivots start pairs) = no-pivots bases k z start pairs
  none-at-all low high bases r n k x y z (past step pairs) = no-past low high r n step pairs

answer-complete : (m : Machine) (task : Task) (cites : List Formula) (f : Form) (budgets : Budgets) (found : Found)
    → clause_form (query_of m task cites) ≡ Ok f → IsComplete f budgets → IsTrue m task cites f budgets found
    → (HasNoAtoms (query_of m task cites) → StopsByConflicts found) → (IsBoolean m task cites → HasNoAtoms (query_of m task cites))
    → FlagsBoundConflicts → IsCompleteAnswer m task cites f budgets found
answer-complete m task cites f budgets found e c is s none few = record {
  boolean = λ b. s (none b);
  flags = λ b l. no-stop found (no-flags m task cites f budgets found c is ((none b).none f e) few (s (none b)) l);
  no_splits = no-splits m task cites f budgets found c is;
  no_conflicts = no-conflicts m task cites f budgets found c is;
  no_pivots = no-pivots m task cites f budgets found c is;
  no_past = no-past m task cites f budgets found c is;
  decided = λ low high bases r n k x y z. no-stop found (none-at-all m task cites f budgets found c is low high bases r n k x y z);
}

pub answers-complete : QueriesAreComplete → FlagsBoundConflicts
    → ((m : Machine) (task : Task) (cites : List Formula) → BooleanQueriesHaveNoAtoms m task cites) → AnswersAreComplete
answers-complete queries few boolean m task cites f budgets found h e a s =
    answer-complete m task cites f budgets found e (queries m task cites f budgets h e)
    (subst (λ g. IsTrue m task cites g budgets found) (same-form a.form f (clause_form (query_of m task cites)) a.is_form e) a.is_true)
    s (λ b. boolean m task cites b.system b.obligation b.lemmas) few
