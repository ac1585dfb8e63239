-- Further atoms change nothing of what there is: literals mean what they meant, and steps break no rule.
use Rattle.std.specs.Prelude.{ℕ, zero, suc, ◌≡◌, ◌<◌, ◌≤◌, Bool, true, false, cond, List, [], ◌∷◌, ◌++◌, length, map, take, slice_get, Option, Some, None, Contains, refl}
use Rattle.std.proofs.Common.{sym, ◌∙◌, ap, subst, arith}
use Rattle.std.proofs.lemmas.Bool.Decides.{nat_tests}
use Rattle.std.proofs.lemmas.List.{append-nil, length-append}
use Rattle.std.proofs.lemmas.List.Elements.{All-contains, Contains-append_left}
use lib.IntN.{ℤ, pos}
use Rattle.kind_num.specs.declared.Shape.{Shape}
use Rattle.proof_steps.specs.declared.Literal.{Literal}
use Rattle.proof_steps.specs.declared.Literal.TheVariants as l
use Rattle.proof_steps.specs.declared.Source.{Source}
use Rattle.proof_steps.specs.declared.Source.TheVariants as s
use Rattle.proof_steps.specs.View.{Inequality, Move, derived, theory, added, Sum}
use Rattle.proof_steps.specs.Meaning.{Values, Solves, at, atom_true, literal_true, clause_true}
use Rattle.proof_steps.specs.Rows.{Form}
use Rattle.proof_steps.specs.Stopped.{IsOver, IsLearnt, AreLearnt}
use Rattle.proof_checker.specs.declared.rule.Rule.{Rule}
use Rattle.proof_checker.specs.declared.rule.Rule.TheVariants as r
use Rattle.proof_checker.specs.Check.{literals_fit, literal_fits, counted, atom_fits, atoms_fit, hints_fit, theory_fault, move_fault}
use Rattle.proof_checker.specs.Derived.{meets}
use Rattle.proof_checker.specs.Theory.{Outcome, value, past, stopped, and_then, divided, add_part, of_atom, of_literal, of_source, add_from, add_parts, of_sum, of_lines, are_sums}
use Rattle.proof_checker.specs.Rules.{AreRight}
use Rattle.int_simplex.proofs.Places.{get-append}
use Rattle.smt_solver.specs.Run.{Standing, IsRun}
use Rattle.smt_solver.specs.Growing.{grown}
use Rattle.smt_solver.proofs.Turns.{all-of}

pub both : (a b : Bool) → cond a b false ≡ true → (a ≡ true) × (b ≡ true)
both true b e = (refl, e)
both false b e = absurd cc

pub counted-below : (count n : ℕ) → counted count (suc n) ≡ true → n < count
counted-below count n h = grind (arith, nat_tests)

pub counted-more : (count more n : ℕ) → count ≤ more → counted count n ≡ true → counted more n ≡ true
counted-more count more zero h e = absurd cc
counted-more count more (suc n) h e = let b = counted-below count n e in grind (arith, nat_tests)

then-same : {X Y : Type 0} (o : Outcome X) (f g : X → Outcome Y) → ((x : X) → f x ≡ g x) → and_then o f ≡ and_then o g
then-same (value x) f g h = h x
then-same past f g h = refl
then-same stopped f g h = refl

module _ (atoms more : List Inequality) where
  pub longer : length atoms ≤ length (atoms ++ more)
  longer = let e = length-append atoms more in omega arith

  at-same : (n : ℕ) → counted (length atoms) n ≡ true → at (atoms ++ more) n ≡ at atoms n
  at-same zero h = absurd cc
  at-same (suc n) h = get-append atoms more n (counted-below (length atoms) n h)

  pub literal-same : (shapes : List Shape) (v : Values) (x : Literal) → literal_fits shapes (length atoms) x ≡ true
      → literal_true (atoms ++ more) v x ≡ literal_true atoms v x
  literal-same shapes v (l.Flag x b) h = refl
  literal-same shapes v (l.Atom n b) h = ap (atom_true b v.number) (at-same n h)

  pub clause-same : (shapes : List Shape) (v : Values) (c : List Literal) → literals_fit shapes (length atoms) c ≡ true
      → clause_true (atoms ++ more) v c ≡ clause_true atoms v c
  clause-same shapes v [] h = refl
  clause-same shapes v (x ∷ xs) h =
      let p = both (literal_fits shapes (length atoms) x) (literals_fit shapes (length atoms) xs) h in
      ap (λ b. cond b true (clause_true (atoms ++ more) v xs)) (literal-same shapes v x p.0)
      ∙ ap (cond (literal_true atoms v x) true) (clause-same shapes v xs p.1)

  literal-more : (shapes : List Shape) (x : Literal) → literal_fits shapes (length atoms) x ≡ true
      → literal_fits shapes (length (atoms ++ more)) x ≡ true
  literal-more shapes (l.Flag x b) h = h
  literal-more shapes (l.Atom n b) h = counted-more (length atoms) (length (atoms ++ more)) n longer h

  pub fits-more : (shapes : List Shape) (c : List Literal) → literals_fit shapes (length atoms) c ≡ true
      → literals_fit shapes (length (atoms ++ more)) c ≡ true
  fits-more shapes [] h = refl
  fits-more shapes (x ∷ xs) h =
      let p = both (literal_fits shapes (length atoms) x) (literals_fit shapes (length atoms) xs) h in
      ap (λ b. cond b (literals_fit shapes (length (atoms ++ more)) xs) false) (literal-more shapes x p.0)
      ∙ fits-more shapes xs p.1

  one-more : (x : Literal) → atom_fits (length atoms) x ≡ true → atom_fits (length (atoms ++ more)) x ≡ true
  one-more (l.Flag x b) h = h
  one-more (l.Atom n b) h = counted-more (length atoms) (length (atoms ++ more)) n longer h

  atoms-more : (c : List Literal) → atoms_fit (length atoms) c ≡ true → atoms_fit (length (atoms ++ more)) c ≡ true
  atoms-more [] h = refl
  atoms-more (x ∷ xs) h =
      let p = both (atom_fits (length atoms) x) (atoms_fit (length atoms) xs) h in
      ap (λ b. cond b (atoms_fit (length (atoms ++ more)) xs) false) (one-more x p.0) ∙ atoms-more xs p.1

  -- ---- lines over a clause whose atoms there are

  literal-at : (c : List Literal) (n : ℕ) → atoms_fit (length atoms) c ≡ true
      → of_literal (atoms ++ more) (slice_get c n) ≡ of_literal atoms (slice_get c n)
  literal-at [] n h = refl
  literal-at (l.Flag x b ∷ xs) n h = absurd cc
  literal-at (l.Atom a b ∷ xs) zero h = ap (of_atom b)
      (at-same a (both (counted (length atoms) a) (atoms_fit (length atoms) xs) h).0)
  literal-at (l.Atom a b ∷ xs) (suc n) h = literal-at xs n (both (counted (length atoms) a) (atoms_fit (length atoms) xs) h).1

  module _ (c : List Literal) (h : atoms_fit (length atoms) c ≡ true) where
    source-same : (lines : List Inequality) (x : Source) → of_source (atoms ++ more) c lines x ≡ of_source atoms c lines x
    source-same lines (s.Literal zero) = refl
    source-same lines (s.Literal (suc n)) = literal-at c n h
    source-same lines (s.Line n) = refl

    from-same : (lines : List Inequality) (sum : Inequality) (p : ℤ × Source)
        → add_from (atoms ++ more) c lines sum p ≡ add_from atoms c lines sum p
    from-same lines sum p = ap (λ o. and_then o (add_part sum p.0)) (source-same lines p.1)

    parts-same : (lines : List Inequality) (sum : Inequality) (ps : List (ℤ × Source))
        → add_parts (atoms ++ more) c lines sum ps ≡ add_parts atoms c lines sum ps
    parts-same lines sum [] = refl
    parts-same lines sum (p ∷ ps) =
        ap (λ o. and_then o (λ t. add_parts (atoms ++ more) c lines t ps)) (from-same lines sum p)
        ∙ then-same (add_from atoms c lines sum p) (λ t. add_parts (atoms ++ more) c lines t ps)
        (λ t. add_parts atoms c lines t ps) (λ t. parts-same lines t ps)

    sum-same : (lines : List Inequality) (t : Sum) → of_sum (atoms ++ more) c lines t ≡ of_sum atoms c lines t
    sum-same lines t = ap (λ o. and_then o (divided t.divisor))
        (parts-same lines (record { terms = []; bound = pos 0 }) t.parts)

    lines-same : (lines : List Inequality) (ts : List Sum) → of_lines (atoms ++ more) c lines ts ≡ of_lines atoms c lines ts
    lines-same lines [] = refl
    lines-same lines (t ∷ ts) =
        ap (λ o. and_then o (λ i. of_lines (atoms ++ more) c (lines ++ i ∷ []) ts)) (sum-same lines t)
        ∙ then-same (of_sum atoms c lines t) (λ i. of_lines (atoms ++ more) c (lines ++ i ∷ []) ts)
        (λ i. of_lines atoms c (lines ++ i ∷ []) ts) (λ i. lines-same (lines ++ i ∷ []) ts)

  -- ---- a step that breaks no rule breaks none later

  pub fit-clause : (fit sums : Bool) (o : Outcome (List Inequality)) → theory_fault fit sums o ≡ None → fit ≡ true
  fit-clause fit sums past e = absurd cc
  fit-clause true sums stopped e = absurd cc
  fit-clause false sums stopped e = absurd cc
  fit-clause true sums (value lines) e = refl
  fit-clause false sums (value lines) e = absurd cc

  derived-more : (b d : Bool) (o : Option Rule) → (b ≡ true → d ≡ true) → cond b o (Some r.Literal) ≡ None
      → cond d o (Some r.Literal) ≡ None
  derived-more true true o h e = e
  derived-more true false o h e = let q : false ≡ true = h refl in absurd cc
  derived-more false d o h e = absurd cc

  pub move-more : (shapes : List Shape) (known : List (List Literal)) (m : Move) → move_fault shapes atoms known m ≡ None
      → move_fault shapes (atoms ++ more) known m ≡ None
  move-more shapes known (derived c hints) e =
      derived-more (literals_fit shapes (length atoms) c) (literals_fit shapes (length (atoms ++ more)) c)
      (cond (hints_fit (length known) hints) (cond (meets known c hints) None (Some r.Unit)) (Some r.Hint))
      (fits-more shapes c) e
  move-more shapes known (theory c ts) e =
      let f = fit-clause (atoms_fit (length atoms) c) (are_sums ts) (of_lines atoms c [] ts) e in
      ap (λ b. theory_fault b (are_sums ts) (of_lines (atoms ++ more) c [] ts)) (atoms-more c f ∙ sym f)
      ∙ ap (theory_fault (atoms_fit (length atoms) c) (are_sums ts)) (lines-same c f [] ts) ∙ e

-- ---- a run over the form with more atoms

module _ (t : Standing) (h : IsRun t) (more : List Inequality) where
  abbrev form : Form
  form = grown t.form more

  moves-right : AreRight t.form.shapes ((t.form.atoms ++ more) ++ []) t.form.clauses t.moves
  moves-right n m e =
      subst (λ atoms. move_fault t.form.shapes atoms (t.form.clauses ++ map added (take n t.moves)) m ≡ None)
      (sym (append-nil (t.form.atoms ++ more)))
      (move-more t.form.atoms more t.form.shapes (t.form.clauses ++ map added (take n t.moves)) m
      (subst (λ atoms. move_fault t.form.shapes atoms (t.form.clauses ++ map added (take n t.moves)) m ≡ None)
      (append-nil t.form.atoms) (h.right.right n m e)))

  clauses-known : (c : List Literal) → Contains t.form.clauses c → Contains t.search.known c
  clauses-known c i = subst (λ known. Contains known c) (sym h.known)
      (Contains-append_left t.form.clauses (map added t.moves) c i)

  known-fits : (c : List Literal) → Contains t.search.known c → literals_fit t.form.shapes (length t.form.atoms) c ≡ true
  known-fits c i = All-contains (λ c. literals_fit t.form.shapes (length t.form.atoms) c ≡ true) t.search.known c h.fit i

  back : (v : Values) → Solves (t.form.atoms ++ more) v t.form.clauses → Solves t.form.atoms v t.form.clauses
  back v y = all-of (λ c. clause_true t.form.atoms v c ≡ true) t.form.clauses (λ c i.
      sym (clause-same t.form.atoms more t.form.shapes v c (known-fits c (clauses-known c i)))
      ∙ All-contains (λ c. clause_true (t.form.atoms ++ more) v c ≡ true) t.form.clauses c y i)

  all-follow : (v : Values) → Solves (t.form.atoms ++ more) v t.form.clauses → Solves (t.form.atoms ++ more) v t.search.known
  all-follow v y = all-of (λ c. clause_true (t.form.atoms ++ more) v c ≡ true) t.search.known (λ c i.
      clause-same t.form.atoms more t.form.shapes v c (known-fits c i)
      ∙ All-contains (λ c. clause_true t.form.atoms v c ≡ true) t.search.known c (h.follows v (back v y)) i)

  over-more : (x : Literal) → IsOver t.form [] x → IsOver form [] x
  over-more (l.Flag n b) o = o
  over-more (l.Atom n b) o = (
    o.0,
    (
        let a = append-nil t.form.atoms in let d = append-nil (t.form.atoms ++ more) in
        let e = ap length a in let g = ap length d in let m = length-append t.form.atoms more in let q = o.1 in omega arith),
  )

  learnt-later : (known : List (List Literal)) (c : List Literal) → Contains t.listed c → IsLearnt t.form [] known c
      → IsLearnt form [] known c
  learnt-later known c i g = record {
    over = all-of (IsOver form []) c (λ x j. over-more x (All-contains (IsOver t.form []) c x g.over j));
    follows = λ v y.
        subst (λ (atoms : List Inequality). clause_true atoms v c ≡ true) (sym (append-nil (t.form.atoms ++ more)))
        (clause-same t.form.atoms more t.form.shapes v c
        (known-fits c (All-contains (Contains t.search.known) t.listed c h.among i))
        ∙ subst (λ (atoms : List Inequality). clause_true atoms v c ≡ true) (append-nil t.form.atoms) (g.follows v (back v y)));
    literals = g.literals;
    no_opposites = g.no_opposites;
    fresh = g.fresh;
  }

  all-later : (known cs : List (List Literal)) → ((c : List Literal) → Contains cs c → Contains t.listed c)
      → AreLearnt t.form [] known cs → AreLearnt form [] known cs
  all-later known [] i g = tt
  all-later known (c ∷ cs) i g = (
    learnt-later known c (i c (0, omega arith, refl)) g.0,
    all-later (known ++ c ∷ []) cs (λ d j. i d (suc j.0, (let b = j.1 in omega arith), j.2)) g.1,
  )

  pub grown-run : IsRun record { form = grown t.form more; search = t.search; moves = t.moves; listed = t.listed }
  grown-run = record {
    known = h.known;
    fit = all-of (λ c. literals_fit t.form.shapes (length (t.form.atoms ++ more)) c ≡ true) t.search.known
        (λ c i. fits-more t.form.atoms more t.form.shapes c (known-fits c i));
    right = record { fit = h.right.fit; right = moves-right };
    follows = all-follow;
    goes_on = h.goes_on;
    learnt = all-later t.form.clauses t.listed (λ c i. i) h.learnt;
    among = h.among;
  }
