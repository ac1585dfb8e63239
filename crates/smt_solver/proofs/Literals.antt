-- The literals of a query's clauses are flags and atoms of its form.
use Rattle.std.specs.Prelude.{ℕ, zero, suc, ◌≡◌, ◌<◌, ◌≤◌, Bool, true, false, cond, List, [], ◌∷◌, ◌++◌, length, Option, Some, None, slice_get, Result, Ok, Err, unsigned_abs, refl}
use Rattle.std.specs.List.{AllByRecursion}
use Rattle.std.proofs.Common.{subst, ap, ◌∙◌, arith}
use Rattle.std.proofs.lemmas.Bool.Decides.{nat_tests}
use Rattle.std.proofs.lemmas.List.Elements.{All-from_recursion}
use lib.IntN.{ℤ, pos, ◌-ℤ◌}
use Rattle.kind_num.specs.declared.Shape.{Shape}
use Rattle.kind_num.specs.declared.Shape.TheVariants as k
use Rattle.kind_num.specs.declared.Op.TheVariants.{Add, Sub}
use Rattle.kind_num.specs.declared.Past.{Past}
use Rattle.proof_steps.specs.declared.Literal.{Literal}
use Rattle.proof_steps.specs.declared.Literal.TheVariants as l
use Rattle.proof_steps.specs.View.{Inequality}
use Rattle.proof_steps.specs.Meaning.{opposite}
use Rattle.proof_steps.specs.Rows.{Form}
use Rattle.proof_checker.specs.Check.{literal_fits, literals_fit, counted}
use Rattle.proof_checker.specs.Check as c
use Rattle.sys_terms.specs.View.{Formula, truth, flag, negation, both, same, choice, at_most, equal, Amount, constant, number, plus, minus, multiple, chosen, quotient, remainder, Question}
use Rattle.sys_terms.specs.Fits.{is_flag, fits, amount_fits, all_fit_one}
use Rattle.sys_terms.proofs.Placed.{both_true}
use Rattle.cnf_maker.specs.Linear.{Linear, of_constant, of_variable, combined, scaled, inequality_of}
use Rattle.cnf_maker.specs.ClauseForm.{has_literal, kept_once, with_clause, with_shapes, with_atoms, equal_atoms, atom_number, with_atom, literal_of_terms, with_at_most, with_bound, with_flag, new_flag, with_both, with_same, with_choice_of, of_division, with_chosen, with_division, literal_of, linear_of, with_condition, with_conditions, truth_form}
use Rattle.cnf_maker.proofs.Plain.{Gets, gets-then, Over, over-more, new-shape}
use Rattle.smt_solver.specs.Run.{ClausesFit}

-- a flag or an atom of the form
abbrev pub IsOf : Form → Literal → Type 0
IsOf f (l.Flag x b) = slice_get f.shapes x ≡ Some k.Flag
IsOf f (l.Atom n b) = (0 < n) × (n ≤ length f.atoms)

abbrev pub AllOf : Form → List Literal → Type 0
AllOf f c = AllByRecursion (IsOf f) c

abbrev pub AreOf : Form → List (List Literal) → Type 0
AreOf f cs = AllByRecursion (AllOf f) cs

-- more variables and atoms
pub record Grows (f g : Form) : Type 0 where
  pub over : Over f.shapes g.shapes
  pub atoms : length f.atoms ≤ length g.atoms

grows-self : (f : Form) → Grows f f
grows-self f = record { over = λ x s e. e; atoms = omega arith }

grows-then : (f g h : Form) → Grows f g → Grows g h → Grows f h
grows-then f g h a b = record {
  over = λ x s e. b.over x s (a.over x s e);
  atoms = let m = a.atoms in let n = b.atoms in omega arith;
}

of-grows : (f g : Form) (x : Literal) → Grows f g → IsOf f x → IsOf g x
of-grows f g (l.Flag x b) a h = a.over x k.Flag h
of-grows f g (l.Atom n b) a h = (h.0, (let m = a.atoms in let o = h.1 in omega arith))

all_of-grows : (f g : Form) (c : List Literal) → Grows f g → AllOf f c → AllOf g c
all_of-grows f g [] a h = tt
all_of-grows f g (x ∷ xs) a h = (of-grows f g x a h.0, all_of-grows f g xs a h.1)

are_of-grows : (f g : Form) (cs : List (List Literal)) → Grows f g → AreOf f cs → AreOf g cs
are_of-grows f g [] a h = tt
are_of-grows f g (c ∷ cs) a h = (all_of-grows f g c a h.0, are_of-grows f g cs a h.1)

of-opposite : (f : Form) (x : Literal) → IsOf f x → IsOf f (opposite x)
of-opposite f (l.Flag x b) h = h
of-opposite f (l.Atom n b) h = h

all_of-append : (f : Form) (xs ys : List Literal) → AllOf f xs → AllOf f ys → AllOf f (xs ++ ys)
all_of-append f [] ys h g = g
all_of-append f (x ∷ xs) ys h g = (h.0, all_of-append f xs ys h.1 g)

are_of-append : (f : Form) (xs ys : List (List Literal)) → AreOf f xs → AreOf f ys → AreOf f (xs ++ ys)
are_of-append f [] ys h g = g
are_of-append f (x ∷ xs) ys h g = (h.0, are_of-append f xs ys h.1 g)

once-of : (f : Form) (kept xs : List Literal) → AllOf f kept → AllOf f xs → AllOf f (kept_once kept xs)
once-of f kept [] h g = h
once-of f kept (x ∷ xs) h g = once-of f (cond (has_literal kept x) kept (kept ++ x ∷ [])) xs (go (has_literal kept x)) g.1 where
  go : (b : Bool) → AllOf f (cond b kept (kept ++ x ∷ []))
  go true = h
  go false = all_of-append f kept (x ∷ []) h (g.0, tt)

-- the form grows, and its clauses are over its own
pub record Step (f g : Form) : Type 0 where
  pub grows : Grows f g
  pub clauses : AreOf g g.clauses

step-then : (f g h : Form) → Step f g → Step g h → Step f h
step-then f g h a b = record { grows = grows-then f g h a.grows b.grows; clauses = b.clauses }

step-self : (f : Form) → AreOf f f.clauses → Step f f
step-self f h = record { grows = grows-self f; clauses = h }

step-clause : (f : Form) (c : List Literal) → AreOf f f.clauses → AllOf f c → Step f (with_clause f c)
step-clause f c h g = record {
  grows = record { over = λ x s e. e; atoms = omega arith };
  clauses = are_of-append f f.clauses (kept_once [] c ∷ []) h (once-of f [] c tt g, tt);
}

step-shapes : (f : Form) (more : List Shape) → AreOf f f.clauses → Step f (with_shapes f more)
step-shapes f more h =
    let a : Grows f (with_shapes f more) = record { over = over-more f.shapes more; atoms = omega arith } in
    record { grows = a; clauses = are_of-grows f (with_shapes f more) f.clauses a h }

abbrev Any : {X : Type 0} → X → Type 0
Any x = Unit

gets-any : {X : Type 0} (r : Result X Past) → Gets Any r
gets-any (Ok x) = tt
gets-any (Err p) = tt

-- the form grows, and the literal is one of its own
abbrev Lit : Form → Form × Literal → Type 0
Lit f p = Step f p.0 × IsOf p.0 p.1

abbrev Lin : Form → Form × Linear → Type 0
Lin f p = Step f p.0

module _ (f : Form) (h : AreOf f f.clauses) where
  -- three clauses over what the form has, one after the other
  three : (x y z : List Literal) → AllOf f x → AllOf f y → AllOf f z
      → Step f (with_clause (with_clause (with_clause f x) y) z)
  three x y z a b c =
      let s = step-clause f x h a in
      let t = step-clause (with_clause f x) y s.clauses b in
      let u = step-clause (with_clause (with_clause f x) y) z t.clauses c in
      step-then f (with_clause f x) (with_clause (with_clause (with_clause f x) y) z) s
      (step-then (with_clause f x) (with_clause (with_clause f x) y) (with_clause (with_clause (with_clause f x) y) z) t u)

  four : (w x y z : List Literal) → AllOf f w → AllOf f x → AllOf f y → AllOf f z
      → Step f (with_clause (with_clause (with_clause (with_clause f w) x) y) z)
  four w x y z d a b c =
      let s = three w x y d a b in
      let g = with_clause (with_clause (with_clause f w) x) y in
      step-then f g (with_clause g z) s (step-clause g z s.clauses c)

module _ (f : Form) (h : AreOf f f.clauses) where
  fresh : Step f (with_flag f)
  fresh = step-shapes f (k.Flag ∷ []) h

  new : (b : Bool) → IsOf (with_flag f) (l.Flag (length f.shapes) b)
  new b = new-shape f.shapes [] k.Flag

  on : (x : Literal) → IsOf f x → IsOf (with_flag f) x
  on x a = of-grows f (with_flag f) x fresh.grows a

  against : (x : Literal) → IsOf f x → IsOf (with_flag f) (opposite x)
  against x a = of-opposite (with_flag f) x (on x a)

  both-of : (a b : Literal) → IsOf f a → IsOf f b → Lit f (with_both f a b)
  both-of a b p q = (
    step-then f (with_flag f) (with_both f a b).0 fresh
        (three (with_flag f) fresh.clauses (new_flag f false ∷ a ∷ []) (new_flag f false ∷ b ∷ [])
        (new_flag f true ∷ opposite a ∷ opposite b ∷ []) (new false, (on a p, tt)) (new false, (on b q, tt))
        (new true, (against a p, (against b q, tt)))),
    new true,
  )

  same-of : (a b : Literal) → IsOf f a → IsOf f b → Lit f (with_same f a b)
  same-of a b p q = (
    step-then f (with_flag f) (with_same f a b).0 fresh
        (four (with_flag f) fresh.clauses (new_flag f false ∷ opposite a ∷ b ∷ [])
        (new_flag f false ∷ a ∷ opposite b ∷ []) (new_flag f true ∷ a ∷ b ∷ [])
        (new_flag f true ∷ opposite a ∷ opposite b ∷ [])
        (new false, (against a p, (on b q, tt))) (new false, (on a p, (against b q, tt)))
        (new true, (on a p, (on b q, tt))) (new true, (against a p, (against b q, tt)))),
    new true,
  )

  choice-of : (c a b : Literal) → IsOf f c → IsOf f a → IsOf f b → Lit f (with_choice_of f c a b)
  choice-of c a b r p q = (
    step-then f (with_flag f) (with_choice_of f c a b).0 fresh
        (four (with_flag f) fresh.clauses (opposite c ∷ opposite a ∷ new_flag f true ∷ [])
        (opposite c ∷ a ∷ new_flag f false ∷ []) (c ∷ opposite b ∷ new_flag f true ∷ [])
        (c ∷ b ∷ new_flag f false ∷ [])
        (against c r, (against a p, (new true, tt))) (against c r, (on a p, (new false, tt)))
        (on c r, (against b q, (new true, tt))) (on c r, (on b q, (new false, tt)))),
    new true,
  )

-- atoms are numbered from 1
numbered : (atoms : List Inequality) (i : Inequality)
    → (0 < atom_number atoms i) × (atom_number atoms i ≤ length (with_atom atoms i))
numbered [] i = (omega arith, omega arith)
numbered (a ∷ more) i = go (equal_atoms a i) (numbered more i) where
  go : (b : Bool) → (0 < atom_number more i) × (atom_number more i ≤ length (with_atom more i))
      → (0 < cond b 1 (suc (atom_number more i)))
      × (cond b 1 (suc (atom_number more i)) ≤ length (cond b (a ∷ more) (a ∷ with_atom more i)))
  go true n = (omega arith, omega arith)
  go false n = (omega arith, (let m = n.1 in omega arith))

more-atoms : (atoms : List Inequality) (i : Inequality) → length atoms ≤ length (with_atom atoms i)
more-atoms [] i = omega arith
more-atoms (a ∷ more) i = go (equal_atoms a i) (more-atoms more i) where
  go : (b : Bool) → length more ≤ length (with_atom more i)
      → suc (length more) ≤ length (cond b (a ∷ more) (a ∷ with_atom more i))
  go true n = omega arith
  go false n = omega arith

module _ (t : ℕ) where
  -- the truth is a flag, and the clauses are over the form's own
  pub record IsSound (f : Form) : Type 0 where
    pub truth_there : slice_get f.shapes t ≡ Some k.Flag
    pub clauses : AreOf f f.clauses

  sound-on : (f g : Form) → IsSound f → Step f g → IsSound g
  sound-on f g r s = record { truth_there = s.grows.over t k.Flag r.truth_there; clauses = s.clauses }

  terms-of : (f : Form) (ts : List (ℕ × ℤ)) (b : ℤ) → IsSound f → Lit f (literal_of_terms t f ts b)
  terms-of f [] b r = (step-self f r.clauses, r.truth_there)
  terms-of f (u ∷ us) b r =
      let i : Inequality = record { terms = u ∷ us; bound = b } in
      let g : Form = with_atoms f (with_atom f.atoms i) in
      let a : Grows f g = record { over = λ x s e. e; atoms = more-atoms f.atoms i } in (
        record { grows = a; clauses = are_of-grows f g f.clauses a r.clauses },
        numbered f.atoms i,
      )

  at_most-of : (f : Form) (a b : Linear) → IsSound f → Gets (Lit f) (with_at_most t f a b)
  at_most-of f a b r = gets-then Any _ (inequality_of a b) _ (gets-any (inequality_of a b))
      (λ i u. terms-of f i.terms i.bound r)

  bound-of : (guard : List Literal) (f : Form) (a b : Linear) → IsSound f → AllOf f guard
      → Gets (Step f) (with_bound t guard f a b)
  bound-of guard f a b r h =
      gets-then (Lit f) _ (with_at_most t f a b) _ (at_most-of f a b r)
      (λ p s. step-then f p.0 (with_clause p.0 (guard ++ p.1 ∷ [])) s.0
      (step-clause p.0 (guard ++ p.1 ∷ []) (s.0).clauses
      (all_of-append p.0 guard (p.1 ∷ []) (all_of-grows f p.0 guard (s.0).grows h) (s.1, tt))))

  chosen-of : (f : Form) (c : Literal) (a b : Linear) → IsSound f → IsOf f c → Gets (Lin f) (with_chosen t f c a b)
  chosen-of f c a b r o =
      let z = of_variable (length f.shapes) in
      let f0 = with_shapes f (k.Number ∷ []) in
      let s0 = step-shapes f (k.Number ∷ []) r.clauses in
      let r0 = sound-on f f0 r s0 in
      let o0 = of-grows f f0 c s0.grows o in
      gets-then (Step f0) _ (with_bound t (opposite c ∷ []) f0 z a) _
      (bound-of (opposite c ∷ []) f0 z a r0 (of-opposite f0 c o0, tt))
      (λ g s1. let r1 = sound-on f0 g r0 s1 in let o1 = of-grows f0 g c s1.grows o0 in
      gets-then (Step g) _ (with_bound t (opposite c ∷ []) g a z) _
      (bound-of (opposite c ∷ []) g a z r1 (of-opposite g c o1, tt))
      (λ h s2. let r2 = sound-on g h r1 s2 in let o2 = of-grows g h c s2.grows o1 in
      gets-then (Step h) _ (with_bound t (c ∷ []) h z b) _ (bound-of (c ∷ []) h z b r2 (o2, tt))
      (λ i s3. let r3 = sound-on h i r2 s3 in let o3 = of-grows h i c s3.grows o2 in
      gets-then (Step i) _ (with_bound t (c ∷ []) i b z) _ (bound-of (c ∷ []) i b z r3 (o3, tt))
      (λ j s4. step-then f f0 j s0 (step-then f0 g j s1 (step-then g h j s2 (step-then h i j s3 s4)))))))

  division-of : (f : Form) (n : Linear) (d : ℤ) → IsSound f → Gets (Step f) (with_division t f n d)
  division-of f n d r =
      let q = length f.shapes in
      let f0 = with_shapes f (k.Number ∷ k.Number ∷ []) in
      let s0 = step-shapes f (k.Number ∷ k.Number ∷ []) r.clauses in
      let r0 = sound-on f f0 r s0 in
      gets-then (Step f0) _ (with_bound t [] f0 (of_division q d) n) _ (bound-of [] f0 (of_division q d) n r0 tt)
      (λ g s1. let r1 = sound-on f0 g r0 s1 in
      gets-then (Step g) _ (with_bound t [] g n (of_division q d)) _ (bound-of [] g n (of_division q d) r1 tt)
      (λ h s2. let r2 = sound-on g h r1 s2 in
      gets-then (Step h) _ (with_bound t [] h (of_constant (pos 0)) (of_variable (suc q))) _
      (bound-of [] h (of_constant (pos 0)) (of_variable (suc q)) r2 tt)
      (λ i s3. let r3 = sound-on h i r2 s3 in
      onward f f0 g h i _ s0 s1 s2 s3
      (bound-of [] i (of_variable (suc q)) (of_constant (pos (unsigned_abs d) -ℤ pos 1)) r3 tt)))) where
        onward : (f f0 g h i : Form) (r : Result Form Past) → Step f f0 → Step f0 g → Step g h → Step h i
            → Gets (Step i) r → Gets (Step f) r
        onward f f0 g h i (Ok j) s0 s1 s2 s3 s4 =
            step-then f f0 j s0 (step-then f0 g j s1 (step-then g h j s2 (step-then h i j s3 s4)))
        onward f f0 g h i (Err p) s0 s1 s2 s3 s4 = tt

  a-flag : (s : Option Shape) → is_flag s ≡ true → s ≡ Some k.Flag
  a-flag None h = absurd cc
  a-flag (Some k.Flag) h = refl
  a-flag (Some k.Number) h = absurd cc

  literal-onward : (f w : Form) (r : Result (Form × Literal) Past) → Step f w → Gets (Lit w) r → Gets (Lit f) r
  literal-onward f w (Ok p) s h = (step-then f w p.0 s h.0, h.1)
  literal-onward f w (Err p) s h = tt

  linear-onward : (f w : Form) (r : Result (Form × Linear) Past) → Step f w → Gets (Lin w) r → Gets (Lin f) r
  linear-onward f w (Ok p) s h = step-then f w p.0 s h
  linear-onward f w (Err p) s h = tt

  over-then : (base old new : List Shape) → Over base old → Over old new → Over base new
  over-then base old new a b x s e = b x s (a x s e)

  module _ (base : List Shape) where
    mutual
      of-literal : (f : Form) (g : Formula) → Over base f.shapes → IsSound f → fits base g ≡ true
          → Gets (Lit f) (literal_of t f g)
      of-literal f (truth b) o r h = (step-self f r.clauses, r.truth_there)
      of-literal f (flag v) o r h =
          (step-self f r.clauses, o v.number k.Flag (a-flag (slice_get base v.number) h))
      of-literal f (negation g) o r h =
          gets-then (Lit f) _ (literal_of t f g) _ (of-literal f g o r h) (λ p s. (s.0, of-opposite p.0 p.1 s.1))
      of-literal f (both g h) o r q = let k2 = both_true _ _ q in
          gets-then (Lit f) _ (literal_of t f g) _ (of-literal f g o r k2.0)
          (λ p s. gets-then (Lit p.0) _ (literal_of t p.0 h) _
          (of-literal p.0 h (over-then base f.shapes p.0.shapes o (s.0).grows.over) (sound-on f p.0 r s.0) k2.1)
          (λ u v. let m = both-of u.0 (v.0).clauses p.1 u.1 (of-grows p.0 u.0 p.1 (v.0).grows s.1) v.1 in
          (step-then f u.0 (with_both u.0 p.1 u.1).0 (step-then f p.0 u.0 s.0 v.0) m.0, m.1)))
      of-literal f (same g h) o r q = let k2 = both_true _ _ q in
          gets-then (Lit f) _ (literal_of t f g) _ (of-literal f g o r k2.0)
          (λ p s. gets-then (Lit p.0) _ (literal_of t p.0 h) _
          (of-literal p.0 h (over-then base f.shapes p.0.shapes o (s.0).grows.over) (sound-on f p.0 r s.0) k2.1)
          (λ u v. let m = same-of u.0 (v.0).clauses p.1 u.1 (of-grows p.0 u.0 p.1 (v.0).grows s.1) v.1 in
          (step-then f u.0 (with_same u.0 p.1 u.1).0 (step-then f p.0 u.0 s.0 v.0) m.0, m.1)))
      of-literal f (choice d g h) o r q = let k2 = both_true _ _ q in let k3 = both_true _ _ k2.1 in
          gets-then (Lit f) _ (literal_of t f d) _ (of-literal f d o r k2.0)
          (λ p s. let op = over-then base f.shapes p.0.shapes o (s.0).grows.over in let rp = sound-on f p.0 r s.0 in
          gets-then (Lit p.0) _ (literal_of t p.0 g) _ (of-literal p.0 g op rp k3.0)
          (λ u v. gets-then (Lit u.0) _ (literal_of t u.0 h) _
          (of-literal u.0 h (over-then base p.0.shapes u.0.shapes op (v.0).grows.over) (sound-on p.0 u.0 rp v.0) k3.1)
          (λ w x.
          let y = of-grows p.0 w.0 p.1 (grows-then p.0 u.0 w.0 (v.0).grows (x.0).grows) s.1 in
          let z = of-grows u.0 w.0 u.1 (x.0).grows v.1 in
          let m = choice-of w.0 (x.0).clauses p.1 u.1 w.1 y z x.1 in
          (step-then f w.0 (with_choice_of w.0 p.1 u.1 w.1).0 (step-then f u.0 w.0 (step-then f p.0 u.0 s.0 v.0) x.0) m.0, m.1))))
      of-literal f (at_most a b) o r q = let k2 = both_true _ _ q in
          gets-then (Lin f) _ (linear_of t f a) _ (of-linear f a o r k2.0)
          (λ p s. gets-then (Lin p.0) _ (linear_of t p.0 b) _
          (of-linear p.0 b (over-then base f.shapes p.0.shapes o s.grows.over) (sound-on f p.0 r s) k2.1)
          (λ u v. literal-onward f u.0 (with_at_most t u.0 p.1 u.1) (step-then f p.0 u.0 s v)
          (at_most-of u.0 p.1 u.1 (sound-on p.0 u.0 (sound-on f p.0 r s) v))))
      of-literal f (equal a b) o r q = let k2 = both_true _ _ q in
          gets-then (Lin f) _ (linear_of t f a) _ (of-linear f a o r k2.0)
          (λ p s. gets-then (Lin p.0) _ (linear_of t p.0 b) _
          (of-linear p.0 b (over-then base f.shapes p.0.shapes o s.grows.over) (sound-on f p.0 r s) k2.1)
          (λ u v. let ru = sound-on p.0 u.0 (sound-on f p.0 r s) v in
          gets-then (Lit u.0) _ (with_at_most t u.0 p.1 u.1) _ (at_most-of u.0 p.1 u.1 ru)
          (λ w x. gets-then (Lit w.0) _ (with_at_most t w.0 u.1 p.1) _
          (at_most-of w.0 u.1 p.1 (sound-on u.0 w.0 ru x.0))
          (λ y z. let m = both-of y.0 (z.0).clauses w.1 y.1 (of-grows w.0 y.0 w.1 (z.0).grows x.1) z.1 in (
            step-then f y.0 (with_both y.0 w.1 y.1).0
                (step-then f w.0 y.0 (step-then f u.0 w.0 (step-then f p.0 u.0 s v) x.0) z.0) m.0,
            m.1,
          )))))

      of-linear : (f : Form) (a : Amount) → Over base f.shapes → IsSound f → amount_fits base a ≡ true
          → Gets (Lin f) (linear_of t f a)
      of-linear f (constant z) o r h = step-self f r.clauses
      of-linear f (number v) o r h = step-self f r.clauses
      of-linear f (plus a b) o r q = let k2 = both_true _ _ q in
          gets-then (Lin f) _ (linear_of t f a) _ (of-linear f a o r k2.0)
          (λ p s. gets-then (Lin p.0) _ (linear_of t p.0 b) _
          (of-linear p.0 b (over-then base f.shapes p.0.shapes o s.grows.over) (sound-on f p.0 r s) k2.1)
          (λ u v. gets-then Any _ (combined Add p.1 u.1) _ (gets-any (combined Add p.1 u.1))
          (λ c y. step-then f p.0 u.0 s v)))
      of-linear f (minus a b) o r q = let k2 = both_true _ _ q in
          gets-then (Lin f) _ (linear_of t f a) _ (of-linear f a o r k2.0)
          (λ p s. gets-then (Lin p.0) _ (linear_of t p.0 b) _
          (of-linear p.0 b (over-then base f.shapes p.0.shapes o s.grows.over) (sound-on f p.0 r s) k2.1)
          (λ u v. gets-then Any _ (combined Sub p.1 u.1) _ (gets-any (combined Sub p.1 u.1))
          (λ c y. step-then f p.0 u.0 s v)))
      of-linear f (multiple z a) o r h =
          gets-then (Lin f) _ (linear_of t f a) _ (of-linear f a o r h)
          (λ p s. gets-then Any _ (scaled z p.1) _ (gets-any (scaled z p.1)) (λ c y. s))
      of-linear f (chosen c a b) o r q = let k2 = both_true _ _ q in let k3 = both_true _ _ k2.1 in
          gets-then (Lit f) _ (literal_of t f c) _ (of-literal f c o r k2.0)
          (λ p s. let op = over-then base f.shapes p.0.shapes o (s.0).grows.over in let rp = sound-on f p.0 r s.0 in
          gets-then (Lin p.0) _ (linear_of t p.0 a) _ (of-linear p.0 a op rp k3.0)
          (λ u v. let ru = sound-on p.0 u.0 rp v in
          gets-then (Lin u.0) _ (linear_of t u.0 b) _
          (of-linear u.0 b (over-then base p.0.shapes u.0.shapes op v.grows.over) ru k3.1)
          (λ w x. linear-onward f w.0 (with_chosen t w.0 p.1 u.1 w.1)
          (step-then f u.0 w.0 (step-then f p.0 u.0 s.0 v) x)
          (chosen-of w.0 p.1 u.1 w.1 (sound-on u.0 w.0 ru x)
          (of-grows p.0 w.0 p.1 (grows-then p.0 u.0 w.0 v.grows x.grows) s.1)))))
      of-linear f (quotient a d) o r q = let k2 = both_true _ _ q in
          gets-then (Lin f) _ (linear_of t f a) _ (of-linear f a o r k2.0)
          (λ p s. gets-then (Step p.0) _ (with_division t p.0 p.1 d) _ (division-of p.0 p.1 d (sound-on f p.0 r s))
          (λ g y. step-then f p.0 g s y))
      of-linear f (remainder a d) o r q = let k2 = both_true _ _ q in
          gets-then (Lin f) _ (linear_of t f a) _ (of-linear f a o r k2.0)
          (λ p s. gets-then (Step p.0) _ (with_division t p.0 p.1 d) _ (division-of p.0 p.1 d (sound-on f p.0 r s))
          (λ g y. step-then f p.0 g s y))

    of-condition : (f : Form) (g : Formula) → Over base f.shapes → IsSound f → fits base g ≡ true
        → Gets (Step f) (with_condition t f g)
    of-condition f g o r h =
        gets-then (Lit f) _ (literal_of t f g) _ (of-literal f g o r h)
        (λ p s. step-then f p.0 (with_clause p.0 (p.1 ∷ [])) s.0
        (step-clause p.0 (p.1 ∷ []) (s.0).clauses (s.1, tt)))

    of-conditions : (f : Form) (gs : List Formula) → Over base f.shapes → IsSound f → all_fit_one base gs ≡ true
        → Gets (Step f) (with_conditions t f gs)
    of-conditions f [] o r h = step-self f r.clauses
    of-conditions f (g ∷ gs) o r h = let k2 = both_true _ _ h in let k3 = both_true _ _ k2.0 in
        gets-then (Step f) _ (with_condition t f g) _ (of-condition f g o r k3.0)
        (λ m s. onward f m (with_conditions t m gs) s
        (of-conditions m gs (over-then base f.shapes m.shapes o s.grows.over) (sound-on f m r s) k2.1)) where
          onward : (f m : Form) (r : Result Form Past) → Step f m → Gets (Step m) r → Gets (Step f) r
          onward f m (Ok j) s u = step-then f m j s u
          onward f m (Err p) s u = tt

-- from the truth alone to the form of a query
pub query-step : (q : Question) (f : Form) → all_fit_one q.shapes q.conditions ≡ true
    → with_conditions (length q.shapes) (truth_form q.shapes) q.conditions ≡ Ok f → Step (truth_form q.shapes) f
query-step q f h e =
    let there = new-shape q.shapes [] k.Flag in
    subst (Gets (Step (truth_form q.shapes))) e
    (of-conditions (length q.shapes) q.shapes (truth_form q.shapes) q.conditions (over-more q.shapes (k.Flag ∷ []))
    record { truth_there = there; clauses = ((there, tt), tt) } h)

-- the query's variables keep their shapes
pub query-over : (q : Question) (f : Form) → all_fit_one q.shapes q.conditions ≡ true
    → with_conditions (length q.shapes) (truth_form q.shapes) q.conditions ≡ Ok f → Over q.shapes f.shapes
query-over q f h e x s g = (query-step q f h e).grows.over x s (over-more q.shapes (k.Flag ∷ []) x s g)

-- in the words of the checker
one-fits : (f : Form) (x : Literal) → IsOf f x → literal_fits f.shapes (length f.atoms) x ≡ true
one-fits f (l.Flag x b) h = ap c.is_flag h
one-fits f (l.Atom zero b) h = absurd (let p = h.0 in omega arith)
one-fits f (l.Atom (suc n) b) h = let p = h.1 in grind (arith, nat_tests)

each-fits : (f : Form) (xs : List Literal) → AllOf f xs → literals_fit f.shapes (length f.atoms) xs ≡ true
each-fits f [] h = refl
each-fits f (x ∷ xs) h =
    ap (λ b. cond b (literals_fit f.shapes (length f.atoms) xs) false) (one-fits f x h.0) ∙ each-fits f xs h.1

all-fit : (f : Form) (cs : List (List Literal)) → AreOf f cs
    → AllByRecursion (λ c. literals_fit f.shapes (length f.atoms) c ≡ true) cs
all-fit f [] h = tt
all-fit f (c ∷ cs) h = (each-fits f c h.0, all-fit f cs h.1)

pub clauses-fit : (q : Question) → ClausesFit q
clauses-fit q h f e =
    All-from_recursion (λ c. literals_fit f.shapes (length f.atoms) c ≡ true) f.clauses
    (all-fit f f.clauses (query-step q f h e).clauses)
