-- The values of a search that satisfies each clause meet the query's conditions.
use Rattle.std.specs.Prelude.{ℕ, zero, suc, ◌≡◌, ◌⊎◌, ◌+◌, ◌*◌, ◌<◌, ◌≤◌, Bool, true, false, cond, List, [], ◌∷◌, length, slice_get, nat_lt, Some, None, Result, Ok, Err, IfOk, ◌≢◌, Contains, refl}
use Rattle.std.proofs.Common.{sym, ◌∙◌, ap, subst, inl, inr, arith}
use Rattle.std.proofs.lemmas.Bool.Decides.{nat_tests}
use Rattle.std.proofs.lemmas.List.Elements.{All-contains}
use lib.IntN.{pos}
use Rattle.kind_num.specs.declared.Shape.{Shape}
use Rattle.kind_num.specs.declared.Shape.TheVariants as k
use Rattle.kind_num.specs.declared.Past.{Past}
use Rattle.proof_steps.specs.declared.Literal.{Literal}
use Rattle.proof_steps.specs.declared.Literal.TheVariants as l
use Rattle.proof_steps.specs.View.{Inequality}
use Rattle.proof_steps.specs.Meaning.{Values, Solves, literal_true, clause_true, as_said, opposite}
use Rattle.proof_steps.specs.Rows.{Form}
use Rattle.proof_steps.specs.declared.stops.Budgets.{Budgets}
use Rattle.proof_checker.specs.Check.{literals_fit, literal_fits, is_flag, counted}
use Rattle.proof_checker.specs.Derived.{has}
use Rattle.proof_checker.proofs.Sets.{contains-has, not-has}
use Rattle.sys_terms.specs.declared.term.Entry.{Entry}
use Rattle.sys_terms.specs.View.{Formula, Machine, Task, Question}
use Rattle.sys_terms.specs.Meaning.{values_of, as_flag, as_number}
use Rattle.sys_terms.specs.Fits.{IsMild, is_asked, is_light_task, all_fit_one, all_light, state_fits}
use Rattle.sys_terms.specs.Queries.{query_of, variables, last_of}
use Rattle.sys_terms.specs.Answers.{IsAnswer, states_in}
use Rattle.sys_terms.proofs.Answered.{meets-answers}
use Rattle.sys_terms.proofs.Counting.{shapes_length}
use Rattle.cnf_maker.specs.ClauseForm.{clause_form}
use Rattle.cnf_maker.specs.Laws.{Extends}
use Rattle.cnf_maker.proofs.Plain.{Over}
use Rattle.cnf_maker.proofs.Light.{queries-are-small}
use Rattle.cnf_maker.proofs.Together.{meet-together}
use Rattle.sat_core.specs.declared.assigned.Assigned.{Assigned}
use Rattle.sat_core.specs.Trail.{trues, falses, value_of, IsApart}
use Rattle.smt_solver.specs.Run.{AreFit, IsFull}
use Rattle.smt_solver.specs.States.{is_set, entry_of, entries_from}
use Rattle.smt_solver.specs.Answered.{AreOf, IsTrueFor, IsTrueOver, IsTrue, IsAnswered}
use Rattle.smt_solver.specs.View.{Found, unsat, sat, stop}
use Rattle.smt_solver.proofs.Literals.{clauses-fit, query-over}
use Rattle.smt_solver.proofs.Turns.{all-of}

-- the entries of variables, each of its shape
entry-at : (trail : List Assigned) (n x : ℕ) (shapes : List Shape) (s : Shape) → slice_get shapes x ≡ Some s
    → slice_get (entries_from trail n shapes) x ≡ Some (entry_of trail (n + x) s)
entry-at trail n x [] s h = absurd cc
entry-at trail n zero (r ∷ shapes) s h =
    ap (λ o. Some (entry_of trail n o)) (is r s h) ∙ ap (λ i. Some (entry_of trail i s)) (same n) where
      is : (r s : Shape) → Some r ≡ Some s → r ≡ s
      is r s h = cc

      same : (n : ℕ) → n ≡ n + 0
      same n = omega arith
entry-at trail n (suc x) (r ∷ shapes) s h =
    entry-at trail (suc n) x shapes s h ∙ ap (λ i. Some (entry_of trail i s)) (next n x) where
      next : (n x : ℕ) → suc n + x ≡ n + suc x
      next n x = omega arith

entry-first : (trail : List Assigned) (x : ℕ) (shapes : List Shape) (s : Shape) → slice_get shapes x ≡ Some s
    → slice_get (entries_from trail 0 shapes) x ≡ Some (entry_of trail x s)
entry-first trail x shapes s h = entry-at trail 0 x shapes s h ∙ ap (λ i. Some (entry_of trail i s)) (same x) where
  same : (x : ℕ) → 0 + x ≡ x
  same x = omega arith

entries-fit : (trail : List Assigned) (n : ℕ) (shapes : List Shape) → state_fits shapes (entries_from trail n shapes) ≡ true
entries-fit trail n [] = refl
entries-fit trail n (k.Flag ∷ shapes) = entries-fit trail (suc n) shapes
entries-fit trail n (k.Number ∷ shapes) = entries-fit trail (suc n) shapes

pub set-true : (trail : List Assigned) (x : Literal) → is_set (value_of trail x) ≡ has (trues trail) x
set-true trail x = go (has (trues trail) x) (has (falses trail) x) where
  go : (a b : Bool) → is_set (cond a (Some true) (cond b (Some false) None)) ≡ a
  go true b = refl
  go false true = refl
  go false false = refl

pub some-shape : (shapes : List Shape) (x : ℕ) → x < length shapes → (s : Shape) × (slice_get shapes x ≡ Some s)
some-shape [] x h = absurd (omega arith)
some-shape (s ∷ shapes) zero h = (s, refl)
some-shape (s ∷ shapes) (suc x) h = some-shape shapes x (omega arith)

-- where a true literal stands
abbrev pub StandsAt : List Assigned → Literal → Type 0
StandsAt trail y = (i : ℕ) × (a : Assigned) × (slice_get trail i ≡ Some a) × (a.literal ≡ y)

pub stands : (trail : List Assigned) (y : Literal) → Contains (trues trail) y → StandsAt trail y
stands [] y (i, h, q) = absurd (omega arith)
stands (a ∷ trail) y (zero, h, q) = (0, a, refl, q)
stands (a ∷ trail) y (suc i, h, q) = let s = stands trail y (i, omega arith, q) in (suc s.0, s.1, s.2, s.3)

pub order : (i j : ℕ) → (i < j) ⊎ ((j < i) ⊎ (i ≡ j))
order zero zero = inr (inr refl)
order zero (suc j) = inl (omega arith)
order (suc i) zero = inr (inl (omega arith))
order (suc i) (suc j) = elim (order i j) [
  | inl p ↦ inl (omega arith)
  | inr p ↦ elim p [ inl q ↦ inr (inl (omega arith)) | inr q ↦ inr (inr (ap suc q)) ]
]

-- a flag is not assigned both ways
one-way : (trail : List Assigned) (n : ℕ) → IsApart trail → Contains (trues trail) (l.Flag n true)
    → Contains (trues trail) (l.Flag n false) → ⊥
one-way trail n h p q =
    let a = stands trail (l.Flag n true) p in
    let b = stands trail (l.Flag n false) q in
    elim (order a.0 b.0) [
      | inl u ↦ (h a.0 b.0 a.1 b.1 u a.2 b.2).not_opposite (a.3 ∙ sym (ap opposite b.3))
      | inr r ↦ elim r [
        | inl u ↦ (h b.0 a.0 b.1 a.1 u b.2 a.2).not_opposite (b.3 ∙ sym (ap opposite a.3))
        | inr u ↦ let e : Some a.1 ≡ Some b.1 = sym a.2 ∙ ap (slice_get trail) u ∙ b.2 in
            let f : a.1 ≡ b.1 = cc in
            let g : l.Flag n true ≡ l.Flag n false = sym a.3 ∙ ap (λ (x : Assigned). x.literal) f ∙ b.3 in
            absurd cc
      ]
    ]

both : (a b : Bool) → cond a b false ≡ true → (a ≡ true) × (b ≡ true)
both true b e = (refl, e)
both false b e = absurd cc

pub fits-in : (shapes : List Shape) (atoms : ℕ) (clause : List Literal) (x : Literal)
    → literals_fit shapes atoms clause ≡ true → Contains clause x → literal_fits shapes atoms x ≡ true
fits-in shapes atoms [] x h (i, m, q) = absurd (omega arith)
fits-in shapes atoms (y ∷ ys) x h (zero, m, q) =
    subst (λ y. literal_fits shapes atoms y ≡ true) q (both (literal_fits shapes atoms y) (literals_fit shapes atoms ys) h).0
fits-in shapes atoms (y ∷ ys) x h (suc i, m, q) =
    fits-in shapes atoms ys x (both (literal_fits shapes atoms y) (literals_fit shapes atoms ys) h).1 (i, omega arith, q)

pub clause-of : (atoms : List Inequality) (w : Values) (c : List Literal) (x : Literal) → Contains c x
    → literal_true atoms w x ≡ true → clause_true atoms w c ≡ true
clause-of atoms w [] x (i, m, q) h = absurd (omega arith)
clause-of atoms w (y ∷ ys) x (zero, m, q) h =
    ap (λ b. cond b true (clause_true atoms w ys)) (ap (literal_true atoms w) q ∙ h)
clause-of atoms w (y ∷ ys) x (suc i, m, q) h =
    go (literal_true atoms w y) (clause-of atoms w ys x (i, omega arith, q) h) where
      go : (b : Bool) → clause_true atoms w ys ≡ true → cond b true (clause_true atoms w ys) ≡ true
      go true e = refl
      go false e = e

none-counted : (n count : ℕ) → count ≡ 0 → counted count n ≡ true → ⊥
none-counted zero count e h = absurd cc
none-counted (suc n) count e h =
    let g : nat_lt n 0 ≡ true = subst (λ c. counted c (suc n) ≡ true) e h in
    let q : nat_lt n 0 ≡ false = grind (arith, nat_tests) in absurd cc

module _ (f : Form) (trail : List Assigned) where
  -- the flags of the form as they are assigned, and all numbers 0
  chosen : Values
  chosen = record {
    flag = λ x. cond (is_flag (slice_get f.shapes x)) (has (trues trail) (l.Flag x true)) false;
    number = λ x. pos 0;
  }

  chosen-flag : (x : ℕ) (s : Shape) → slice_get f.shapes x ≡ Some s
      → chosen.flag x ≡ cond (is_flag (Some s)) (has (trues trail) (l.Flag x true)) false
  unfolding chosen
  chosen-flag x s h = ap (λ o. cond (is_flag o) (has (trues trail) (l.Flag x true)) false) h

  chosen-number : (x : ℕ) → chosen.number x ≡ pos 0
  unfolding chosen
  chosen-number x = refl

  flag-chosen : (x : ℕ) → is_flag (slice_get f.shapes x) ≡ true → chosen.flag x ≡ has (trues trail) (l.Flag x true)
  unfolding chosen
  flag-chosen x h = ap (λ b. cond b (has (trues trail) (l.Flag x true)) false) h

  literal-holds : f.atoms ≡ [] → IsApart trail → (x : Literal) → literal_fits f.shapes (length f.atoms) x ≡ true
      → Contains (trues trail) x → literal_true f.atoms chosen x ≡ true
  literal-holds h a (l.Flag n true) g c = flag-chosen n g ∙ contains-has (trues trail) (l.Flag n true) c
  literal-holds h a (l.Flag n false) g c =
      ap (as_said false) (flag-chosen n g ∙ not-has (trues trail) (l.Flag n true) (λ d. one-way trail n a d c))
  literal-holds h a (l.Atom n b) g c =
      absurd (none-counted n (length f.atoms) (ap (λ (atoms : List Inequality). length atoms) h) g)

  solved : f.atoms ≡ [] → AreFit f f.clauses → IsFull f trail → Solves f.atoms chosen f.clauses
  solved h g full = all-of (λ c. clause_true f.atoms chosen c ≡ true) f.clauses (λ c i.
      let s = All-contains (λ c. (x : Literal) × Contains c x × Contains (trues trail) x) f.clauses c full.satisfied i in
      let fit = All-contains (λ c. literals_fit f.shapes (length f.atoms) c ≡ true) f.clauses c g i in
      clause-of f.atoms chosen c s.0 s.1
      (literal-holds h full.apart s.0 (fits-in f.shapes (length f.atoms) c s.0 fit s.1) s.2))

  flag-as : (n : ℕ) (s : Shape) → cond (is_flag (Some s)) (has (trues trail) (l.Flag n true)) false
      ≡ as_flag (Some (entry_of trail n s))
  flag-as n k.Flag = sym (set-true trail (l.Flag n true))
  flag-as n k.Number = refl

  number-as : (n : ℕ) (s : Shape) → pos 0 ≡ as_number (Some (entry_of trail n s))
  number-as n k.Flag = refl
  number-as n k.Number = refl

  extends : (shapes : List Shape) → Over shapes f.shapes
      → Extends (length shapes) (values_of (entries_from trail 0 shapes)) chosen
  extends shapes o = record {
    flags = λ x h. let s = some-shape shapes x h in
        chosen-flag x s.0 (o x s.0 s.1) ∙ flag-as x s.0 ∙ sym (ap as_flag (entry-first trail x shapes s.0 s.1));
    numbers = λ x h. let s = some-shape shapes x h in
        chosen-number x ∙ number-as x s.0 ∙ sym (ap as_number (entry-first trail x shapes s.0 s.1));
  }

pub valued : (q : Question) (n count : ℕ) (f : Form) (trail : List Assigned) → all_fit_one q.shapes q.conditions ≡ true
    → clause_form q ≡ Ok f → f.atoms ≡ [] → IsFull f trail
    → (states : List (List Entry)) → states ≡ states_in n count (entries_from trail 0 q.shapes) → AreOf q n count states
valued q n count f trail h e g full states s = record {
  values = entries_from trail 0 q.shapes;
  fit = entries-fit trail 0 q.shapes;
  meet = (meet-together q h f e (values_of (entries_from trail 0 q.shapes))).1 (
    chosen f trail,
    extends f trail q.shapes (query-over q f h e),
    solved f trail g (clauses-fit q h f e) full,
  );
  same = s;
}

-- of the query of an obligation
module _ (m : Machine) (task : Task) (cites : List Formula) (mild : IsMild m) (asked : is_asked m task ≡ true)
    (cited : all_fit_one m.shapes cites ≡ true) where
  pub answers : (states : List (List Entry)) → AreOf (query_of m task cites) (variables m) (suc (last_of task)) states
      → IsAnswer m task cites states
  answers states a = subst (IsAnswer m task cites) (sym a.same)
      ((meets-answers m task cites mild.fit asked cited a.values a.fit).0 a.meet)

  true-for : (f : Form) (budgets : Budgets) (found : Found)
      → IsTrueFor (query_of m task cites) (variables m) (suc (last_of task)) f budgets found
      → IsTrue m task cites f budgets found
  true-for f budgets (unsat p) h = h
  true-for f budgets (sat states) h = answers states h
  true-for f budgets (stop halt) h = h

  pub answered : (budgets : Budgets) (found : Found)
      → IsTrueOver (query_of m task cites) (variables m) (suc (last_of task)) budgets found
      → IsAnswered m task cites budgets found
  answered budgets found h =
      record { form = h.form; is_form = h.is_form; is_true = true-for h.form budgets found h.is_true }

  pub never-past : is_light_task task ≡ true → all_light cites ≡ true → (past : Past)
      → clause_form (query_of m task cites) ≢ Err past
  never-past lt lc past e = let s = queries-are-small m task cites mild asked lt cited lc in
      let d = sym s.is_form ∙ e in absurd cc

  pub room : suc (last_of task) * variables m ≤ length (query_of m task cites).shapes
  room = let s = shapes_length m.shapes (suc (last_of task)) in omega arith

  pub answered-as : (q : Question) (n count : ℕ) → q ≡ query_of m task cites → n ≡ variables m
      → count ≡ suc (last_of task)
      → (budgets : Budgets) (found : Found) → IsTrueOver q n count budgets found → IsAnswered m task cites budgets found
  answered-as q n count e f g budgets found h =
      answered budgets found
      (subst (λ c. IsTrueOver (query_of m task cites) (variables m) c budgets found) g
      (subst (λ k. IsTrueOver (query_of m task cites) k count budgets found) f
      (subst (λ p. IsTrueOver p n count budgets found) e h)))

  pub room-as : (q : Question) (n count : ℕ) → q ≡ query_of m task cites → n ≡ variables m → count ≡ suc (last_of task)
      → count * n ≤ length q.shapes
  room-as q n count e f g =
      subst (λ (p : Question). count * n ≤ length p.shapes) (sym e)
      (subst (λ c. c * n ≤ length (query_of m task cites).shapes) (sym g)
      (subst (λ k. suc (last_of task) * k ≤ length (query_of m task cites).shapes) (sym f) room))

-- whatever a result is
pub if-ok : {X E : Type 0} (P Q : X → Type 0) (r : Result X E) → ((x : X) → P x → Q x) → IfOk r P → IfOk r Q
if-ok P Q (Ok x) f h = f x h
if-ok P Q (Err e) f h = h

pub entries-length : (trail : List Assigned) (n : ℕ) (shapes : List Shape)
    → length (entries_from trail n shapes) ≡ length shapes
entries-length trail n [] = refl
entries-length trail n (s ∷ shapes) = ap suc (entries-length trail (suc n) shapes)
