-- The verdict names exactly the first atom or step that breaks a rule.
use Rattle.std.specs.Prelude.{ℕ, zero, suc, ◌≡◌, ◌<◌, ◌+◌, Bool, true, false, cond, List, [], ◌∷◌, ◌++◌, map, take, Option, Some, None, Contains, slice_get, refl}
use Rattle.std.proofs.Common.{sym, ◌∙◌, ap, subst, arith, inl, inr, append_assoc}
use Rattle.kind_num.specs.declared.Shape.{Shape}
use Rattle.proof_steps.specs.declared.Literal.{Literal}
use Rattle.proof_steps.specs.View.{Inequality, Move, added}
use Rattle.proof_checker.specs.declared.rule.Rule.{Rule}
use Rattle.proof_checker.specs.declared.rule.Rule.TheVariants as r
use Rattle.proof_checker.specs.Check.{move_fault, first_fault, first_misfit, terms_fit, concludes, is_empty, Verdict, refuted, broken, unfinished, of_steps, of_atoms, verdict}
use Rattle.proof_checker.specs.Rules.{known_at, IsFirstFault, AreRight, IsFirstMisfit, AllFit, IsFirst, IsRight}
use Rattle.proof_checker.proofs.Folds.{append-nil}
use Rattle.proof_checker.proofs.Sound.{either}

module _ (shapes : List Shape) where
  fits-step : (n : ℕ) (i : Inequality) (rest : List Inequality) → terms_fit shapes 0 i.terms ≡ true
      → first_misfit shapes n (i ∷ rest) ≡ first_misfit shapes (n + 1) rest
  fits-step n i rest h = ap (λ b. cond b (first_misfit shapes (n + 1) rest) (Some n)) h

  misfit-step : (n : ℕ) (i : Inequality) (rest : List Inequality) → terms_fit shapes 0 i.terms ≡ false
      → first_misfit shapes n (i ∷ rest) ≡ Some n
  misfit-step n i rest h = ap (λ b. cond b (first_misfit shapes (n + 1) rest) (Some n)) h

  misfit-more : (i : Inequality) (rest : List Inequality) (k : ℕ) → terms_fit shapes 0 i.terms ≡ true
      → IsFirstMisfit shapes rest k → IsFirstMisfit shapes (i ∷ rest) (suc k)
  misfit-more i rest k t f = record {
    atom = f.atom;
    is_atom = f.is_atom;
    misfits = f.misfits;
    none_before = before;
  } where
    before : (j : ℕ) (x : Inequality) → j < suc k → slice_get (i ∷ rest) j ≡ Some x → terms_fit shapes 0 x.terms ≡ true
    before zero x l e = let q : i ≡ x = cc in subst (λ z. terms_fit shapes 0 z.terms ≡ true) q t
    before (suc j) x l e = f.none_before j x (omega arith) e

  misfit-less : (i : Inequality) (rest : List Inequality) (k : ℕ)
      → IsFirstMisfit shapes (i ∷ rest) (suc k) → IsFirstMisfit shapes rest k
  misfit-less i rest k f = record {
    atom = f.atom;
    is_atom = f.is_atom;
    misfits = f.misfits;
    none_before = λ j x l e. f.none_before (suc j) x (omega arith) e;
  }

  pub find-misfit : (n : ℕ) (more : List Inequality) (m : ℕ) → first_misfit shapes n more ≡ Some m
      → (k : ℕ) × (m ≡ n + k) × IsFirstMisfit shapes more k
  find-misfit n [] m e = absurd cc
  find-misfit n (i ∷ rest) m e = either (terms_fit shapes 0 i.terms)
      (λ t. let (k, q, f) = find-misfit (n + 1) rest m (sym (fits-step n i rest t) ∙ e) in
      (suc k, omega arith, misfit-more i rest k t f))
      (λ t. let q : Some n ≡ Some m = sym (misfit-step n i rest t) ∙ e in
      let p : n ≡ m = cc in
      (0, omega arith, record { atom = i; is_atom = refl; misfits = t; none_before = λ k x l g. absurd (omega arith) }))

  pub put-misfit : (n : ℕ) (more : List Inequality) (k : ℕ) → IsFirstMisfit shapes more k → first_misfit shapes n more ≡ Some (n + k)
  put-misfit n [] k f = let e = f.is_atom in absurd cc
  put-misfit n (i ∷ rest) zero f =
      let e = f.is_atom in let q : i ≡ f.atom = cc in
      misfit-step n i rest (subst (λ z. terms_fit shapes 0 z.terms ≡ false) (sym q) f.misfits) ∙ ap Some (omega arith)
  put-misfit n (i ∷ rest) (suc k) f =
      fits-step n i rest (f.none_before 0 i (omega arith) refl)
      ∙ put-misfit (n + 1) rest k (misfit-less i rest k f) ∙ ap Some (omega arith)

  pub none-misfit : (n : ℕ) (more : List Inequality) → first_misfit shapes n more ≡ None → AllFit shapes more
  none-misfit n [] e k x h = absurd cc
  none-misfit n (i ∷ rest) e zero x h = let q : i ≡ x = cc in subst (λ z. terms_fit shapes 0 z.terms ≡ true) q
      (either (terms_fit shapes 0 i.terms) (λ t. t) (λ t. let w : Some n ≡ None = sym (misfit-step n i rest t) ∙ e in absurd cc))
  none-misfit n (i ∷ rest) e (suc k) x h = either (terms_fit shapes 0 i.terms)
      (λ t. none-misfit (n + 1) rest (sym (fits-step n i rest t) ∙ e) k x h)
      (λ t. let w : Some n ≡ None = sym (misfit-step n i rest t) ∙ e in absurd cc)

  pub fit-none : (n : ℕ) (more : List Inequality) → AllFit shapes more → first_misfit shapes n more ≡ None
  fit-none n [] f = refl
  fit-none n (i ∷ rest) f = fits-step n i rest (f 0 i refl) ∙ fit-none (n + 1) rest (λ k x h. f (suc k) x h)

  module _ (atoms : List Inequality) where
    known-first : (known : List (List Literal)) (ms : List Move) → known ≡ known_at known ms 0
    known-first known ms = sym (append-nil known)

    known-more : (known : List (List Literal)) (m : Move) (ms : List Move) (k : ℕ) → known_at (known ++ added m ∷ []) ms k ≡ known_at known (m ∷ ms) (suc k)
    known-more known m ms k = append_assoc known (added m ∷ []) (map added (take k ms))

    next : ℕ → Option (ℕ × Rule) → Option Rule → Option (ℕ × Rule)
    next n rest o = elim o [ None ↦ rest | Some x ↦ Some (n, x) ]

    right-step : (known : List (List Literal)) (n : ℕ) (m : Move) (ms : List Move) → move_fault shapes atoms known m ≡ None
        → first_fault shapes atoms known n (m ∷ ms) ≡ first_fault shapes atoms (known ++ added m ∷ []) (n + 1) ms
    right-step known n m ms h = ap (λ o. elim o as (λ _. Option (ℕ × Rule))
        [ None ↦ first_fault shapes atoms (known ++ added m ∷ []) (n + 1) ms | Some x ↦ Some (n, x) ]) h

    fault-step : (known : List (List Literal)) (n : ℕ) (m : Move) (ms : List Move) (x : Rule) → move_fault shapes atoms known m ≡ Some x
        → first_fault shapes atoms known n (m ∷ ms) ≡ Some (n, x)
    fault-step known n m ms x h = ap (λ o. elim o as (λ _. Option (ℕ × Rule))
        [ None ↦ first_fault shapes atoms (known ++ added m ∷ []) (n + 1) ms | Some x ↦ Some (n, x) ]) h

    by-fault : {P : Type 0} (o : Option Rule) → (o ≡ None → P) → ((x : Rule) → o ≡ Some x → P) → P
    by-fault None p q = p refl
    by-fault (Some x) p q = q x refl

    more-right : (known : List (List Literal)) (m : Move) (ms : List Move) (k : ℕ) (x : Move) (o : Option Rule)
        → move_fault shapes atoms (known_at (known ++ added m ∷ []) ms k) x ≡ o → move_fault shapes atoms (known_at known (m ∷ ms) (suc k)) x ≡ o
    more-right known m ms k x o h = subst (λ z. move_fault shapes atoms z x ≡ o) (known-more known m ms k) h

    less-right : (known : List (List Literal)) (m : Move) (ms : List Move) (k : ℕ) (x : Move) (o : Option Rule)
        → move_fault shapes atoms (known_at known (m ∷ ms) (suc k)) x ≡ o → move_fault shapes atoms (known_at (known ++ added m ∷ []) ms k) x ≡ o
    less-right known m ms k x o h = subst (λ z. move_fault shapes atoms z x ≡ o) (sym (known-more known m ms k)) h

    at-first : (known : List (List Literal)) (ms : List Move) (x : Move) (o : Option Rule)
        → move_fault shapes atoms known x ≡ o → move_fault shapes atoms (known_at known ms 0) x ≡ o
    at-first known ms x o h = subst (λ z. move_fault shapes atoms z x ≡ o) (known-first known ms) h

    from-first : (known : List (List Literal)) (ms : List Move) (x : Move) (o : Option Rule)
        → move_fault shapes atoms (known_at known ms 0) x ≡ o → move_fault shapes atoms known x ≡ o
    from-first known ms x o h = subst (λ z. move_fault shapes atoms z x ≡ o) (sym (known-first known ms)) h

    fault-more : (known : List (List Literal)) (m : Move) (ms : List Move) (k : ℕ) (rule : Rule) → move_fault shapes atoms known m ≡ None
        → IsFirstFault shapes atoms (known ++ added m ∷ []) ms k rule → IsFirstFault shapes atoms known (m ∷ ms) (suc k) rule
    fault-more known m ms k rule t f = record {
      step = f.step;
      is_step = f.is_step;
      breaks = more-right known m ms k f.step (Some rule) f.breaks;
      none_before = before;
    } where
      before : (j : ℕ) (x : Move) → j < suc k → slice_get (m ∷ ms) j ≡ Some x → move_fault shapes atoms (known_at known (m ∷ ms) j) x ≡ None
      before zero x l e = let q : m ≡ x = cc in subst (λ z. move_fault shapes atoms (known_at known (m ∷ ms) 0) z ≡ None) q (at-first known (m ∷ ms) m None t)
      before (suc j) x l e = more-right known m ms j x None (f.none_before j x (omega arith) e)

    fault-less : (known : List (List Literal)) (m : Move) (ms : List Move) (k : ℕ) (rule : Rule)
        → IsFirstFault shapes atoms known (m ∷ ms) (suc k) rule → IsFirstFault shapes atoms (known ++ added m ∷ []) ms k rule
    fault-less known m ms k rule f = record {
      step = f.step;
      is_step = f.is_step;
      breaks = less-right known m ms k f.step (Some rule) f.breaks;
      none_before = λ j x l e. less-right known m ms j x None (f.none_before (suc j) x (omega arith) e);
    }

    pub find-fault : (known : List (List Literal)) (n : ℕ) (ms : List Move) (p : ℕ × Rule) → first_fault shapes atoms known n ms ≡ Some p
        → (k : ℕ) × (p.0 ≡ n + k) × IsFirstFault shapes atoms known ms k p.1
    find-fault known n [] p e = absurd cc
    find-fault known n (m ∷ ms) p e = by-fault (move_fault shapes atoms known m)
        (λ t. let (k, q, f) = find-fault (known ++ added m ∷ []) (n + 1) ms p (sym (right-step known n m ms t) ∙ e) in
        (suc k, omega arith, fault-more known m ms k p.1 t f))
        (λ x t. let q : Some (n, x) ≡ Some p = sym (fault-step known n m ms x t) ∙ e in
        let w : (n, x) ≡ p = cc in (
          0,
          ap (λ z. z.0) (sym w) ∙ omega arith,
          record {
            step = m;
            is_step = refl;
            breaks = at-first known (m ∷ ms) m (Some p.1)
                (t ∙ ap (λ (z : ℕ × Rule). Some z.1) w);
            none_before = λ k y l g. absurd (omega arith);
          },
        ))

    pub put-fault : (known : List (List Literal)) (n : ℕ) (ms : List Move) (k : ℕ) (rule : Rule) → IsFirstFault shapes atoms known ms k rule
        → first_fault shapes atoms known n ms ≡ Some (n + k, rule)
    put-fault known n [] k rule f = let e = f.is_step in absurd cc
    put-fault known n (m ∷ ms) zero rule f =
        let e = f.is_step in let q : m ≡ f.step = cc in
        fault-step known n m ms rule (from-first known (m ∷ ms) m (Some rule)
        (subst (λ z. move_fault shapes atoms (known_at known (m ∷ ms) 0) z ≡ Some rule) (sym q) f.breaks))
        ∙ ap (λ z. Some (z, rule)) (omega arith)
    put-fault known n (m ∷ ms) (suc k) rule f =
        right-step known n m ms (from-first known (m ∷ ms) m None (f.none_before 0 m (omega arith) refl))
        ∙ put-fault (known ++ added m ∷ []) (n + 1) ms k rule (fault-less known m ms k rule f) ∙ ap (λ z. Some (z, rule)) (omega arith)

    pub none-fault : (known : List (List Literal)) (n : ℕ) (ms : List Move) → first_fault shapes atoms known n ms ≡ None → AreRight shapes atoms known ms
    none-fault known n [] e k x h = absurd cc
    none-fault known n (m ∷ ms) e zero x h = let q : m ≡ x = cc in
        subst (λ z. move_fault shapes atoms (known_at known (m ∷ ms) 0) z ≡ None) q
        (at-first known (m ∷ ms) m None (by-fault (move_fault shapes atoms known m) (λ t. t)
        (λ y t. let w : Some (n, y) ≡ None = sym (fault-step known n m ms y t) ∙ e in absurd cc)))
    none-fault known n (m ∷ ms) e (suc k) x h = by-fault (move_fault shapes atoms known m)
        (λ t. more-right known m ms k x None (none-fault (known ++ added m ∷ []) (n + 1) ms (sym (right-step known n m ms t) ∙ e) k x h))
        (λ y t. let w : Some (n, y) ≡ None = sym (fault-step known n m ms y t) ∙ e in absurd cc)

    pub right-none : (known : List (List Literal)) (n : ℕ) (ms : List Move) → AreRight shapes atoms known ms → first_fault shapes atoms known n ms ≡ None
    right-none known n [] f = refl
    right-none known n (m ∷ ms) f = right-step known n m ms (from-first known (m ∷ ms) m None (f 0 m refl))
        ∙ right-none (known ++ added m ∷ []) (n + 1) ms (λ k x h. less-right known m ms k x None (f (suc k) x h))

module _ (shapes : List Shape) (atoms : List Inequality) (clauses : List (List Literal)) (more : List Inequality) (moves : List Move) where
  fault : Option (ℕ × Rule)
  fault = first_fault shapes (atoms ++ more) clauses 0 moves

  by-option : {X P : Type 0} (o : Option X) → (o ≡ None → P) → ((x : X) → o ≡ Some x → P) → P
  by-option None p q = p refl
  by-option (Some x) p q = q x refl

  as-atom : (n : ℕ) → first_misfit shapes 0 more ≡ Some n → verdict shapes atoms clauses more moves ≡ broken n r.Atom
  as-atom n e = ap (of_atoms (of_steps (concludes moves) (first_fault shapes (atoms ++ more) clauses 0 moves))) e

  as-steps : first_misfit shapes 0 more ≡ None → verdict shapes atoms clauses more moves ≡ of_steps (concludes moves)
      (first_fault shapes (atoms ++ more) clauses 0 moves)
  as-steps e = ap (of_atoms (of_steps (concludes moves) (first_fault shapes (atoms ++ more) clauses 0 moves))) e

  steps-broken : (b : Bool) (n : ℕ) (rule : Rule) → of_steps b (Some (n, rule)) ≡ broken n rule
  steps-broken b n rule = refl

  as-fault : (n : ℕ) (rule : Rule) → first_misfit shapes 0 more ≡ None → first_fault shapes (atoms ++ more) clauses 0 moves ≡ Some (n, rule)
      → verdict shapes atoms clauses more moves ≡ broken n rule
  as-fault n rule e f = as-steps e ∙ ap (of_steps (concludes moves)) f

  as-end : first_misfit shapes 0 more ≡ None → first_fault shapes (atoms ++ more) clauses 0 moves ≡ None
      → verdict shapes atoms clauses more moves ≡ of_steps (concludes moves) None
  as-end e f = as-steps e ∙ ap (of_steps (concludes moves)) f

  ends-not-broken : (b : Bool) (n : ℕ) (rule : Rule) → of_steps b None ≡ broken n rule → ⊥
  ends-not-broken true n rule e = absurd cc
  ends-not-broken false n rule e = absurd cc

  pub broken_first : (n : ℕ) (rule : Rule) → verdict shapes atoms clauses more moves ≡ broken n rule → IsFirst shapes atoms clauses more moves n rule
  broken_first n rule e = by-option (first_misfit shapes 0 more)
      (λ a. inr (
        none-misfit shapes 0 more a,
        by-option (first_fault shapes (atoms ++ more) clauses 0 moves)
            (λ f. absurd (ends-not-broken (concludes moves) n rule (sym (as-end a f) ∙ e)))
            (λ p f. let (k, q, w) = find-fault shapes (atoms ++ more) clauses 0 moves p f in
            let x : broken p.0 p.1 ≡ broken n rule = sym (as-fault p.0 p.1 a f) ∙ e in
            let y : p.0 ≡ n = cc in
            let z : p.1 ≡ rule = cc in
            let j : k ≡ n = omega arith in
            subst (λ i. IsFirstFault shapes (atoms ++ more) clauses moves i rule) j (subst (λ i. IsFirstFault shapes (atoms ++ more) clauses moves k i) z w)),
      ))
      (λ m a. let (k, q, w) = find-misfit shapes 0 more m a in
      let x : broken m r.Atom ≡ broken n rule = sym (as-atom m a) ∙ e in
      let y : m ≡ n = cc in
      let z : rule ≡ r.Atom = cc in
      let j : k ≡ n = omega arith in
      inl (subst (IsFirstMisfit shapes more) j w, z))

  pub first_broken : (n : ℕ) (rule : Rule) → IsFirst shapes atoms clauses more moves n rule → verdict shapes atoms clauses more moves ≡ broken n rule
  first_broken n rule (inl (m, e)) = as-atom n (put-misfit shapes 0 more n m ∙ ap Some (omega arith)) ∙ ap (broken n) (sym e)
  first_broken n rule (inr (a, f)) = as-fault n rule (fit-none shapes 0 more a)
      (put-fault shapes (atoms ++ more) clauses 0 moves n rule f ∙ ap (λ z. Some (z, rule)) (omega arith))

  not-broken : (b : Bool) → (v : Verdict) → v ≡ of_steps b None → (n : ℕ) (rule : Rule) → v ≡ broken n rule → ⊥
  not-broken b v e n rule h = ends-not-broken b n rule (sym e ∙ h)

  -- where the verdict breaks no rule, none is broken
  right-from : ((n : ℕ) (rule : Rule) → verdict shapes atoms clauses more moves ≡ broken n rule → ⊥) → IsRight shapes atoms clauses more moves
  right-from h = by-option (first_misfit shapes 0 more)
      (λ a. by-option (first_fault shapes (atoms ++ more) clauses 0 moves)
      (λ f. record { fit = none-misfit shapes 0 more a; right = none-fault shapes (atoms ++ more) clauses 0 moves f })
      (λ p f. absurd (h p.0 p.1 (as-fault p.0 p.1 a f))))
      (λ m a. absurd (h m r.Atom (as-atom m a)))

  verdict-end : IsRight shapes atoms clauses more moves → verdict shapes atoms clauses more moves ≡ of_steps (concludes moves) None
  verdict-end w = as-end (fit-none shapes 0 more w.fit) (right-none shapes (atoms ++ more) clauses 0 moves w.right)

is-empty : (c : List Literal) → is_empty c ≡ true → c ≡ []
is-empty [] h = refl
is-empty (l ∷ ls) h = absurd cc

empty-is : (c : List Literal) → c ≡ [] → is_empty c ≡ true
empty-is [] h = refl
empty-is (l ∷ ls) h = absurd cc

pub concludes_contains : (ms : List Move) → concludes ms ≡ true → Contains (map added ms) []
concludes_contains [] h = absurd cc
concludes_contains (m ∷ ms) h = either (is_empty (added m))
    (λ y. (0, omega arith, is-empty (added m) y))
    (λ n. let (k, l, e) = concludes_contains ms (subst (λ b. cond b true (concludes ms) ≡ true) n h) in (suc k, omega arith, e))

pub contains_concludes : (ms : List Move) → Contains (map added ms) [] → concludes ms ≡ true
contains_concludes [] (k, l, e) = absurd (omega arith)
contains_concludes (m ∷ ms) (zero, l, e) = ap (λ b. cond b true (concludes ms)) (empty-is (added m) e)
contains_concludes (m ∷ ms) (suc k, l, e) = either (is_empty (added m))
    (λ y. ap (λ b. cond b true (concludes ms)) y)
    (λ n. ap (λ b. cond b true (concludes ms)) n ∙ contains_concludes ms (k, omega arith, e))

module _ (shapes : List Shape) (atoms : List Inequality) (clauses : List (List Literal)) (more : List Inequality) (moves : List Move) where
  not-ends : (b : Bool) → b ≡ concludes moves → of_steps b None ≡ unfinished → Contains (map added moves) [] → ⊥
  not-ends true q e c = absurd cc
  not-ends false q e c = let t : concludes moves ≡ true = contains_concludes moves c in absurd cc

  ends : (b : Bool) → b ≡ concludes moves → of_steps b None ≡ refuted → Contains (map added moves) []
  ends true q e = concludes_contains moves (sym q)
  ends false q e = absurd cc

  pub refuted_right : verdict shapes atoms clauses more moves ≡ refuted → IsRight shapes atoms clauses more moves × Contains (map added moves) []
  refuted_right e =
      let w = right-from shapes atoms clauses more moves (λ n rule h. let q : refuted ≡ broken n rule = sym e ∙ h in absurd cc) in
      (w, ends (concludes moves) refl (sym (verdict-end shapes atoms clauses more moves w) ∙ e))

  pub right_refuted : IsRight shapes atoms clauses more moves × Contains (map added moves) [] → verdict shapes atoms clauses more moves ≡ refuted
  right_refuted (w, c) = verdict-end shapes atoms clauses more moves w ∙ ap (λ b. of_steps b None) (contains_concludes moves c)

  pub unfinished_right : verdict shapes atoms clauses more moves ≡ unfinished → IsRight shapes atoms clauses more moves × (¬ Contains (map added moves) [])
  unfinished_right e =
      let w = right-from shapes atoms clauses more moves (λ n rule h. let q : unfinished ≡ broken n rule = sym e ∙ h in absurd cc) in
      (w, not-ends (concludes moves) refl (sym (verdict-end shapes atoms clauses more moves w) ∙ e))

  pub right_unfinished : IsRight shapes atoms clauses more moves × (¬ Contains (map added moves) []) → verdict shapes atoms clauses more moves ≡ unfinished
  right_unfinished (w, n) = verdict-end shapes atoms clauses more moves w
      ∙ ap (λ b. of_steps b None) (either (concludes moves) (λ y. absurd (n (concludes_contains moves y))) (λ f. f))
