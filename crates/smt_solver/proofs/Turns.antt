-- What each turn of a solver leaves.
use Rattle.std.specs.Prelude.{ℕ, zero, suc, ◌≡◌, ◌≢◌, ◌⊎◌, ◌<◌, Bool, true, false, cond, List, [], ◌∷◌, ◌++◌, length, map, take, slice_get, Option, Some, None, All, Contains, refl}
use Rattle.std.specs.List.{AllByRecursion}
use Rattle.std.proofs.Common.{sym, ◌∙◌, ap, subst, inl, inr, arith}
use Rattle.std.proofs.lemmas.List.{append_assoc, append-nil, map-append, take-append-le}
use Rattle.std.proofs.Math.Seq.{take-append_seam}
use Rattle.std.proofs.lemmas.List.Elements.{All-append, All-contains, All-from_recursion, All-nil, Contains-append_left, Contains-append_right, Contains-append_cases, Contains-push}
use Rattle.std.proofs.lemmas.Bool.Decides.{nat_tests}
use Rattle.kind_num.specs.declared.Shape.{Shape}
use Rattle.kind_num.specs.declared.Shape.TheVariants as k
use Rattle.proof_steps.specs.declared.Literal.{Literal}
use Rattle.proof_steps.specs.declared.Literal.TheVariants as l
use Rattle.proof_steps.specs.View.{Inequality, Move, derived, added}
use Rattle.proof_steps.specs.Meaning.{Values, Solves, clause_true}
use Rattle.proof_steps.specs.Rows.{Form}
use Rattle.proof_steps.specs.Stopped.{IsOver, IsLearnt, AreLearnt, Includes}
use Rattle.proof_checker.specs.declared.rule.Rule.TheVariants as r
use Rattle.proof_checker.specs.Check.{literals_fit, literal_fits, is_flag, hints_fit, is_empty, derived_fault, move_fault, concludes, verdict, refuted}
use Rattle.proof_checker.specs.Derived.{meets}
use Rattle.proof_checker.specs.Rules.{AreMet, AreRight, IsRight}
use Rattle.proof_checker.proofs.Sets.{are_met_meets}
use Rattle.proof_checker.proofs.Sound.{derived-sound}
use Rattle.proof_checker.proofs.Firsts.{right_refuted}
use Rattle.sat_core.specs.declared.found.Found.{Found}
use Rattle.sat_core.specs.declared.found.Found.TheVariants.{Full, Conflict, Empty}
use Rattle.sat_core.specs.Shown.{Shown, Begins, Keeps, Ends, EndsOnce, Learns, Occurs, Logs, Finds}
use Rattle.sat_core.specs.Trail.{trues}
use Rattle.sat_core.specs.Accepted.{MetStepsBreakNoRule}
use Rattle.smt_solver.specs.Run.{Standing, AreFit, IsRun, IsFull}

each : {X : Type 0} (P : X → Type 0) (xs : List X) → ((x : X) → Contains xs x → P x) → AllByRecursion P xs
each P [] g = tt
each P (x ∷ xs) g = (g x (0, omega arith, refl), each P xs (λ y c. g y (suc c.0, (let l = c.1 in omega arith), c.2)))

pub all-of : {X : Type 0} (P : X → Type 0) (xs : List X) → ((x : X) → Contains xs x → P x) → All P xs
all-of P xs g = All-from_recursion P xs (each P xs g)

pub one : {X : Type 0} (P : X → Type 0) (x : X) → P x → All P (x ∷ [])
one P x h = All-from_recursion P (x ∷ []) (h, tt)

-- the steps that are there, or the last one
get-last : {X : Type 0} (xs : List X) (x y : X) (n : ℕ) → slice_get (xs ++ x ∷ []) n ≡ Some y
    → ((n < length xs) × (slice_get xs n ≡ Some y)) ⊎ ((n ≡ length xs) × (x ≡ y))
get-last [] x y zero h = inr (refl, is x y h) where
  is : {X : Type 0} (x y : X) → Some x ≡ Some y → x ≡ y
  is x y h = cc
get-last [] x y (suc n) h = absurd cc
get-last (z ∷ xs) x y zero h = inl (omega arith, h)
get-last (z ∷ xs) x y (suc n) h = elim (get-last xs x y n h)
    [ inl p ↦ inl ((let l = p.0 in omega arith), p.1) | inr p ↦ inr (ap suc p.0, p.1) ]

module _ (shapes : List Shape) (atoms : List Inequality) (clauses : List (List Literal)) where
  pub right-more : (moves : List Move) (m : Move) → AreRight shapes atoms clauses moves
      → move_fault shapes atoms (clauses ++ map added moves) m ≡ None
      → AreRight shapes atoms clauses (moves ++ m ∷ [])
  right-more moves m h g n x e = elim (get-last moves m x n e) [
    | inl p ↦ let l = p.0 in
        subst (λ ms. move_fault shapes atoms (clauses ++ map added ms) x ≡ None)
        (sym (take-append-le n moves (m ∷ []) (omega arith))) (h n x p.1)
    | inr p ↦
        subst (λ i. move_fault shapes atoms (clauses ++ map added (take i (moves ++ m ∷ []))) x ≡ None) (sym p.0)
        (subst (λ ms. move_fault shapes atoms (clauses ++ map added ms) x ≡ None) (sym (take-append_seam moves (m ∷ [])))
        (subst (λ y. move_fault shapes atoms (clauses ++ map added moves) y ≡ None) p.1 g))
  ]

-- a derived step is accepted by the checker
step-right : MetStepsBreakNoRule → (f : Form) (known : List (List Literal)) (clause : List Literal) (hints : List ℕ) → AreFit f known
    → All (Occurs known) clause → AreMet known clause hints
    → derived_fault f.shapes (length (f.atoms ++ [])) known clause hints ≡ None
step-right law f known clause hints h o m =
    subst (λ (atoms : List Inequality). derived_fault f.shapes (length atoms) known clause hints ≡ None)
    (sym (append-nil f.atoms))
    (law f.shapes (length f.atoms) known clause hints h o m)

pub known-more : (clauses : List (List Literal)) (moves : List Move) (m : Move)
    → (clauses ++ map added moves) ++ added m ∷ [] ≡ clauses ++ map added (moves ++ m ∷ [])
known-more clauses moves m =
    append_assoc clauses (map added moves) (added m ∷ [])
    ∙ ap (λ ms. clauses ++ ms) (sym (map-append added moves (m ∷ [])))

is-right : MetStepsBreakNoRule → (s : Standing) (clause : List Literal) (hints : List ℕ) → IsRun s → All (Occurs s.search.known) clause
    → AreMet s.search.known clause hints
    → IsRight s.form.shapes s.form.atoms s.form.clauses [] (s.moves ++ derived clause hints ∷ [])
is-right law s clause hints h o m = record {
  fit = h.right.fit;
  right = right-more s.form.shapes (s.form.atoms ++ []) s.form.clauses s.moves (derived clause hints) h.right.right
      (subst (λ known. move_fault s.form.shapes (s.form.atoms ++ []) known (derived clause hints) ≡ None) h.known
      (step-right law s.form s.search.known clause hints h.fit o m));
}

-- a new search over a form
pub begun-run : (f : Form) (new : Shown) → AreFit f f.clauses → Begins f new
    → IsRun record { form = f; search = new; moves = []; listed = [] }
begun-run f new h b = record {
  known = b.known ∙ sym (append-nil f.clauses);
  fit = subst (AreFit f) (sym b.known) h;
  right = record { fit = λ n i e. absurd cc; right = λ n m e. absurd cc };
  follows = λ v y. subst (Solves f.atoms v) (sym b.known) y;
  goes_on = ap concludes b.log;
  learnt = tt;
  among = All-nil (Contains new.known);
}

-- clauses and log stay
pub kept-run : (t : Standing) (new : Shown) → IsRun t → Keeps t.search new
    → IsRun record { form = t.form; search = new; moves = t.moves; listed = t.listed }
kept-run t new h e = record {
  known = e.known ∙ h.known;
  fit = subst (AreFit t.form) (sym e.known) h.fit;
  right = h.right;
  follows = λ v y. subst (Solves t.form.atoms v) (sym e.known) (h.follows v y);
  goes_on = ap concludes e.log ∙ h.goes_on;
  learnt = h.learnt;
  among = subst (λ known. All (Contains known) t.listed) (sym e.known) h.among;
}

pub fit-of : (f : Form) (known : List (List Literal)) (clause : List Literal) (hints : List ℕ)
    → derived_fault f.shapes (length f.atoms) known clause hints ≡ None
    → literals_fit f.shapes (length f.atoms) clause ≡ true
fit-of f known clause hints e = go (literals_fit f.shapes (length f.atoms) clause) e where
  go : (b : Bool)
      → cond b (cond (hints_fit (length known) hints) (cond (meets known clause hints) None (Some r.Unit)) (Some r.Hint)) (Some r.Literal) ≡ None
      → b ≡ true
  go true q = refl
  go false q = absurd cc

both : (a b : Bool) → cond a b false ≡ true → (a ≡ true) × (b ≡ true)
both true b e = (refl, e)
both false b e = absurd cc

a-flag : (o : Option Shape) → is_flag o ≡ true → o ≡ Some k.Flag
a-flag None h = absurd cc
a-flag (Some k.Flag) h = refl
a-flag (Some k.Number) h = absurd cc

one-over : (f : Form) (x : Literal) → literal_fits f.shapes (length f.atoms) x ≡ true → IsOver f [] x
one-over f (l.Flag x b) h = a-flag (slice_get f.shapes x) h
one-over f (l.Atom zero b) h = absurd cc
one-over f (l.Atom (suc n) b) h =
    let e = ap length (append-nil f.atoms) in (omega arith, grind (arith, nat_tests))

pub all-over : (f : Form) (xs : List Literal) → literals_fit f.shapes (length f.atoms) xs ≡ true
    → AllByRecursion (IsOver f []) xs
all-over f [] h = tt
all-over f (x ∷ xs) h =
    let k2 = both (literal_fits f.shapes (length f.atoms) x) (literals_fit f.shapes (length f.atoms) xs) h in
    (one-over f x k2.0, all-over f xs k2.1)

pub learnt-more : (f : Form) (known cs : List (List Literal)) (c : List Literal) → AreLearnt f [] known cs
    → IsLearnt f [] (known ++ cs) c → AreLearnt f [] known (cs ++ c ∷ [])
learnt-more f known [] c h g = (subst (λ ds. IsLearnt f [] ds c) (append-nil known) g, tt)
learnt-more f known (d ∷ ds) c h g = (
  h.0,
  learnt-more f (known ++ d ∷ []) ds c h.1
      (subst (λ es. IsLearnt f [] es c) (sym (append_assoc known (d ∷ []) ds)) g),
)

concludes-more : (ms : List Move) (c : List Literal) (hints : List ℕ) → c ≢ [] → concludes ms ≡ false
    → concludes (ms ++ derived c hints ∷ []) ≡ false
concludes-more [] [] hints n h = absurd (n refl)
concludes-more [] (x ∷ xs) hints n h = refl
concludes-more (m ∷ ms) c hints n h = go (is_empty (added m)) (concludes-more ms c hints n) h where
  go : (b : Bool) → (concludes ms ≡ false → concludes (ms ++ derived c hints ∷ []) ≡ false)
      → cond b true (concludes ms) ≡ false → cond b true (concludes (ms ++ derived c hints ∷ [])) ≡ false
  go true i q = absurd cc
  go false i q = i q

module _ (law : MetStepsBreakNoRule) (t : Standing) (new : Shown) (h : IsRun t) (e : Learns t.search new) where
  sound : (v : Values) → Solves t.form.atoms v t.form.clauses → clause_true t.form.atoms v e.clause ≡ true
  sound v y = derived-sound t.form.atoms v t.search.known e.clause e.hints (h.follows v y)
      (are_met_meets t.search.known e.clause e.hints e.learnt.derives)

  fits : literals_fit t.form.shapes (length t.form.atoms) e.clause ≡ true
  fits = fit-of t.form t.search.known e.clause e.hints
      (law t.form.shapes (length t.form.atoms) t.search.known e.clause e.hints h.fit e.learnt.over e.learnt.derives)

  there : (c : List Literal) → Contains (t.form.clauses ++ t.listed) c → Contains t.search.known c
  there c i = elim (Contains-append_cases t.form.clauses t.listed c i) [
    | inl j ↦ subst (λ known. Contains known c) (sym h.known)
        (Contains-append_left t.form.clauses (map added t.moves) c j)
    | inr j ↦ All-contains (Contains t.search.known) t.listed c h.among j
  ]

  new-one : IsLearnt t.form [] (t.form.clauses ++ t.listed) e.clause
  new-one = record {
    over = All-from_recursion (IsOver t.form []) e.clause (all-over t.form e.clause fits);
    follows = λ v y. subst (λ (atoms : List Inequality). clause_true atoms v e.clause ≡ true)
        (sym (append-nil t.form.atoms)) (sound v y);
    literals = e.learnt.literals;
    no_opposites = e.learnt.no_opposites;
    fresh = all-of (λ other. ¬ Includes e.clause other) (t.form.clauses ++ t.listed)
        (λ c i. All-contains (λ other. ¬ Includes e.clause other) t.search.known c e.learnt.fresh (there c i));
  }

  more-known : (c : List Literal) → Contains t.search.known c → Contains new.known c
  more-known c i = subst (λ known. Contains known c) (sym e.known) (Contains-append_left t.search.known (e.clause ∷ []) c i)

  pub learnt-run : IsRun record {
    form = t.form;
    search = new;
    moves = t.moves ++ derived e.clause e.hints ∷ [];
    listed = t.listed ++ e.clause ∷ [];
  }
  learnt-run = record {
    known = e.known ∙ ap (λ cs. cs ++ e.clause ∷ []) h.known
        ∙ known-more t.form.clauses t.moves (derived e.clause e.hints);
    fit = subst (AreFit t.form) (sym e.known)
        (All-append (λ c. literals_fit t.form.shapes (length t.form.atoms) c ≡ true) t.search.known (e.clause ∷ []) h.fit
        (one (λ c. literals_fit t.form.shapes (length t.form.atoms) c ≡ true) e.clause fits));
    right = is-right law t e.clause e.hints h e.learnt.over e.learnt.derives;
    follows = λ v y. subst (Solves t.form.atoms v) (sym e.known)
        (All-append (λ c. clause_true t.form.atoms v c ≡ true) t.search.known (e.clause ∷ []) (h.follows v y)
        (one (λ c. clause_true t.form.atoms v c ≡ true) e.clause (sound v y)));
    goes_on = ap concludes e.log ∙ concludes-more t.search.log e.clause e.hints e.learnt.literals h.goes_on;
    learnt = learnt-more t.form t.form.clauses t.listed e.clause h.learnt new-one;
    among = all-of (Contains new.known) (t.listed ++ e.clause ∷ []) (λ c i.
        elim (Contains-append_cases t.listed (e.clause ∷ []) c i) [
          | inl j ↦ more-known c (All-contains (Contains t.search.known) t.listed c h.among j)
          | inr j ↦ subst (λ known. Contains known c) (sym e.known)
              (Contains-append_right t.search.known (e.clause ∷ []) c j)
        ]);
  }

-- the empty clause
once : (b : Bool) (old new : Shown) → b ≡ false → EndsOnce b old new → Ends old new
once true old new e h = absurd cc
once false old new e h = h

ended : MetStepsBreakNoRule → (t : Standing) (new : Shown) (m : Move) → IsRun t → EndsOnce (concludes t.search.log) t.search new
    → ((before : List Move) (x : Move) → new.log ≡ before ++ x ∷ [] → m ≡ x)
    → verdict t.form.shapes t.form.atoms t.form.clauses [] (t.moves ++ m ∷ []) ≡ refuted
ended law t new m h e g =
    let n = once (concludes t.search.log) t.search new h.goes_on e in
    subst (λ x. verdict t.form.shapes t.form.atoms t.form.clauses [] (t.moves ++ x ∷ []) ≡ refuted)
    (sym (g t.search.log (derived [] n.hints) n.log))
    (right_refuted t.form.shapes t.form.atoms t.form.clauses [] (t.moves ++ derived [] n.hints ∷ []) (
      is-right law t [] n.hints h (All-nil (Occurs t.search.known)) n.derives,
      subst (λ cs. Contains cs []) (sym (map-append added t.moves (derived [] n.hints ∷ [])))
          (Contains-push (map added t.moves) []),
    ))

-- each clause of the form is among the known ones
pub full : (t : Standing) (new : Shown) → IsRun t → Finds t.search new Full → IsFull t.form new.trail
full t new h e = record {
  apart = e.propagated.apart;
  satisfied = all-of (λ c. (x : Literal) × Contains c x × Contains (trues new.trail) x) t.form.clauses (λ c i.
      All-contains (λ c. (x : Literal) × Contains c x × Contains (trues new.trail) x) t.search.known c (e.satisfied refl)
      (subst (λ known. Contains known c) (sym h.known)
      (Contains-append_left t.form.clauses (map added t.moves) c i)));
}

-- the same in the words of the code: the step is the log's last, and its clause is listed
pub learnt-as : MetStepsBreakNoRule → (t : Standing) (new : Shown) → IsRun t → Learns t.search new
    → (moves : List Move) (listed : List (List Literal)) (m : Move) (c : List Literal) → moves ≡ t.moves ++ m ∷ []
    → listed ≡ t.listed ++ c ∷ [] → c ≡ added m
    → ((before : List Move) (x : Move) → new.log ≡ before ++ x ∷ [] → m ≡ x)
    → IsRun record { form = t.form; search = new; moves = moves; listed = listed }
learnt-as law t new h e moves listed m c p q r g =
    let d : m ≡ derived e.clause e.hints = g t.search.log (derived e.clause e.hints) e.log in
    let ms : t.moves ++ derived e.clause e.hints ∷ [] ≡ moves = ap (λ x. t.moves ++ x ∷ []) (sym d) ∙ sym p in
    let cs : t.listed ++ e.clause ∷ [] ≡ listed = ap (λ x. t.listed ++ x ∷ []) (sym (r ∙ ap added d)) ∙ sym q in
    subst (λ ys. IsRun record { form = t.form; search = new; moves = moves; listed = ys }) cs
    (subst (λ xs. IsRun record { form = t.form; search = new; moves = xs; listed = t.listed ++ e.clause ∷ [] }) ms
    (learnt-run law t new h e))

keeps : (old new : Shown) (found : Found) → Finds old new found → found ≡ Conflict → Keeps old new
keeps old new found e q = subst (λ x. Logs x old new) q e.logs

pub conflict-run : (t : Standing) (new : Shown) (found : Found) → IsRun t → Finds t.search new found → found ≡ Conflict
    → IsRun record { form = t.form; search = new; moves = t.moves; listed = t.listed }
conflict-run t new found h e q = kept-run t new h (keeps t.search new found e q)

pub full-end : (t : Standing) (new : Shown) (found : Found) → IsRun t → Finds t.search new found → found ≡ Full
    → IsFull t.form new.trail
full-end t new found h e q = full t new h (subst (λ x. Finds t.search new x) q e)

pub empty-end : MetStepsBreakNoRule → (t : Standing) (new : Shown) (found : Found) → IsRun t → Finds t.search new found
    → found ≡ Empty
    → (moves : List Move) (m : Move) → moves ≡ t.moves ++ m ∷ []
    → ((before : List Move) (x : Move) → new.log ≡ before ++ x ∷ [] → m ≡ x)
    → verdict t.form.shapes t.form.atoms t.form.clauses [] moves ≡ refuted
empty-end law t new found h e q moves m p g =
    subst (λ xs. verdict t.form.shapes t.form.atoms t.form.clauses [] xs ≡ refuted) (sym p)
    (ended law t new m h (subst (λ x. Logs x t.search new) q e.logs) g)
