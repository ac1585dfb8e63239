-- A run with one more theory step.
use Rattle.std.specs.Prelude.{ℕ, ◌≡◌, true, false, cond, List, [], ◌∷◌, ◌++◌, length, map, None, Contains, refl}
use Rattle.std.proofs.Common.{sym, ◌∙◌, ap, subst, inl, inr}
use Rattle.std.proofs.lemmas.List.{append-nil}
use Rattle.std.proofs.lemmas.List.Elements.{All-append, All-contains, All-from_recursion, Contains-append_left, Contains-append_right, Contains-append_cases}
use Rattle.kind_num.specs.declared.Shape.{Shape}
use Rattle.proof_steps.specs.declared.Literal.{Literal}
use Rattle.proof_steps.specs.declared.Literal.TheVariants as l
use Rattle.proof_steps.specs.View.{Inequality, Move, derived, theory, added, Sum}
use Rattle.proof_steps.specs.Meaning.{Values, Solves, clause_true}
use Rattle.proof_steps.specs.Stopped.{IsOver, IsLearnt, Includes}
use Rattle.proof_checker.specs.Check.{literals_fit, literal_fits, atom_fits, atoms_fit, move_fault, concludes}
use Rattle.proof_checker.specs.Theory.{of_lines, are_sums}
use Rattle.proof_checker.proofs.VerdictSound.{theory-holds}
use Rattle.sat_core.specs.Shown.{Shown, Adds}
use Rattle.smt_solver.specs.Run.{Standing, AreFit, IsRun}
use Rattle.smt_solver.specs.Growing.{SaysMore, IsTaken}
use Rattle.smt_solver.proofs.Turns.{all-of, one, right-more, known-more, learnt-more, all-over}
use Rattle.smt_solver.proofs.Growing.{both, fit-clause}

-- atoms alone are literals that fit
one-fits : (shapes : List Shape) (count : ℕ) (x : Literal) → atom_fits count x ≡ true → literal_fits shapes count x ≡ true
one-fits shapes count (l.Flag x b) h = absurd cc
one-fits shapes count (l.Atom n b) h = h

all-fit : (shapes : List Shape) (count : ℕ) (c : List Literal) → atoms_fit count c ≡ true → literals_fit shapes count c ≡ true
all-fit shapes count [] h = refl
all-fit shapes count (x ∷ xs) h = let p = both (atom_fits count x) (atoms_fit count xs) h in
    ap (λ b. cond b (literals_fit shapes count xs) false) (one-fits shapes count x p.0) ∙ all-fit shapes count xs p.1

module _ (t : Standing) (new : Shown) (h : IsRun t) (clause : List Literal) (lines : List Sum)
    (taken : IsTaken t (theory clause lines)) (e : Adds t.search new clause) where
  sound : (v : Values) → clause_true t.form.atoms v clause ≡ true
  sound v = theory-holds t.form.atoms v clause lines (atoms_fit (length t.form.atoms) clause) taken

  fits : literals_fit t.form.shapes (length t.form.atoms) clause ≡ true
  fits = all-fit t.form.shapes (length t.form.atoms) clause
      (fit-clause t.form.atoms [] (atoms_fit (length t.form.atoms) clause) (are_sums lines)
      (of_lines t.form.atoms clause [] lines) taken)

  more-known : (c : List Literal) → Contains t.search.known c → Contains new.known c
  more-known c i = subst (λ known. Contains known c) (sym e.known) (Contains-append_left t.search.known (clause ∷ []) c i)

  -- its clause is known, and not listed
  pub added-run : IsRun record {
    form = t.form;
    search = new;
    moves = t.moves ++ theory clause lines ∷ [];
    listed = t.listed;
  }
  added-run = record {
    known = e.known ∙ ap (λ cs. cs ++ clause ∷ []) h.known ∙ known-more t.form.clauses t.moves (theory clause lines);
    fit = subst (AreFit t.form) (sym e.known)
        (All-append (λ c. literals_fit t.form.shapes (length t.form.atoms) c ≡ true) t.search.known (clause ∷ []) h.fit
        (one (λ c. literals_fit t.form.shapes (length t.form.atoms) c ≡ true) clause fits));
    right = record {
      fit = h.right.fit;
      right = right-more t.form.shapes (t.form.atoms ++ []) t.form.clauses t.moves (theory clause lines) h.right.right
          (subst (λ known. move_fault t.form.shapes (t.form.atoms ++ []) known (theory clause lines) ≡ None) h.known
          (subst (λ atoms. move_fault t.form.shapes atoms t.search.known (theory clause lines) ≡ None)
          (sym (append-nil t.form.atoms)) taken));
    };
    follows = λ v y. subst (Solves t.form.atoms v) (sym e.known)
        (All-append (λ c. clause_true t.form.atoms v c ≡ true) t.search.known (clause ∷ []) (h.follows v y)
        (one (λ c. clause_true t.form.atoms v c ≡ true) clause (sound v)));
    goes_on = ap concludes e.log ∙ h.goes_on;
    learnt = h.learnt;
    among = all-of (Contains new.known) t.listed
        (λ c i. more-known c (All-contains (Contains t.search.known) t.listed c h.among i));
  }

  there : (c : List Literal) → Contains (t.form.clauses ++ t.listed) c → Contains t.search.known c
  there c i = elim (Contains-append_cases t.form.clauses t.listed c i) [
    | inl j ↦ subst (λ known. Contains known c) (sym h.known)
        (Contains-append_left t.form.clauses (map added t.moves) c j)
    | inr j ↦ All-contains (Contains t.search.known) t.listed c h.among j
  ]

  new-one : SaysMore t.search.known clause → IsLearnt t.form [] (t.form.clauses ++ t.listed) clause
  new-one s = record {
    over = All-from_recursion (IsOver t.form []) clause (all-over t.form clause fits);
    follows = λ v y. subst (λ (atoms : List Inequality). clause_true atoms v clause ≡ true)
        (sym (append-nil t.form.atoms)) (sound v);
    literals = s.literals;
    no_opposites = s.no_opposites;
    fresh = all-of (λ other. ¬ Includes clause other) (t.form.clauses ++ t.listed)
        (λ c i. All-contains (λ other. ¬ Includes clause other) t.search.known c s.fresh (there c i));
  }

  -- its clause is known and listed
  pub counted-run : SaysMore t.search.known clause → IsRun record {
    form = t.form;
    search = new;
    moves = t.moves ++ theory clause lines ∷ [];
    listed = t.listed ++ clause ∷ [];
  }
  counted-run s = let r = added-run in record {
    known = r.known;
    fit = r.fit;
    right = r.right;
    follows = r.follows;
    goes_on = r.goes_on;
    learnt = learnt-more t.form t.form.clauses t.listed clause h.learnt (new-one s);
    among = all-of (Contains new.known) (t.listed ++ clause ∷ []) (λ c i.
        elim (Contains-append_cases t.listed (clause ∷ []) c i) [
          | inl j ↦ more-known c (All-contains (Contains t.search.known) t.listed c h.among j)
          | inr j ↦ subst (λ known. Contains known c) (sym e.known)
              (Contains-append_right t.search.known (clause ∷ []) c j)
        ]);
  }

-- the same of the step in the words of the code
pub added-as : (t : Standing) (new : Shown) → IsRun t → (m : Move) (moves : List Move) → IsTaken t m → Adds t.search new (added m)
    → moves ≡ t.moves ++ m ∷ []
    → IsRun record { form = t.form; search = new; moves = moves; listed = t.listed }
added-as t new h (derived clause hints) moves taken e p = absurd taken
added-as t new h (theory clause lines) moves taken e p =
    subst (λ ms. IsRun record { form = t.form; search = new; moves = ms; listed = t.listed }) (sym p)
    (added-run t new h clause lines taken e)

pub counted-as : (t : Standing) (new : Shown) → IsRun t → (m : Move) (moves : List Move) (listed : List (List Literal))
    → IsTaken t m → SaysMore t.search.known (added m) → Adds t.search new (added m) → moves ≡ t.moves ++ m ∷ []
    → listed ≡ t.listed ++ added m ∷ []
    → IsRun record { form = t.form; search = new; moves = moves; listed = listed }
counted-as t new h (derived clause hints) moves listed taken s e p q = absurd taken
counted-as t new h (theory clause lines) moves listed taken s e p q =
    subst (λ ls. IsRun record { form = t.form; search = new; moves = moves; listed = ls }) (sym q)
    (subst (λ ms. IsRun record { form = t.form; search = new; moves = ms; listed = t.listed ++ clause ∷ [] }) (sym p)
    (counted-run t new h clause lines taken e s))
