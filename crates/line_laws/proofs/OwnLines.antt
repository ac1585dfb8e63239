-- A literal's own line is what the literal means, divided.
use Rattle.std.specs.Prelude.{ℕ, zero, suc, ◌≡◌, ◌≢◌, Bool, true, false, cond, List, [], ◌∷◌, ◌++◌, Some, refl}
use Rattle.std.specs.Int.{int_div_euclid, int_rem_euclid}
use Rattle.std.specs.List.{AllByRecursion}
use Rattle.std.proofs.Common.{sym, ◌∙◌, ap, subst, arith}
use Rattle.std.proofs.lemmas.Int.{ints}
use Rattle.std.proofs.Math.Nat.{mod_self, mod-suc, div_self, div-eq_of_lt}
use lib.IntN.{ℤ, pos, negsuc, ◌+ℤ◌, ◌-ℤ◌, ◌*ℤ◌, *ℤ-one, *ℤ_comm, +ℤ_idl}
use lib.Signed.{le_z, lt_z}
use Rattle.kind_num.specs.Exact.{within}
use Rattle.proof_steps.specs.declared.Literal.{Literal}
use Rattle.proof_steps.specs.declared.Source.TheVariants as s
use Rattle.proof_steps.specs.View.{Inequality}
use Rattle.proof_steps.specs.Meaning.{at, negated, opposite_inequality, sum_of}
use Rattle.proof_steps.specs.Rows.{Form}
use Rattle.proof_checker.specs.Theory.{Outcome, value, stopped, add_scaled, add_terms, bound_after, add_part, all_negatable, of_atom, of_literal, of_source, add_from, add_parts, divides, is_zero, quotients, divided, of_sum}
use Rattle.proof_checker.proofs.TheorySound.{sum-add, sum-quotients}
use Rattle.proof_checker.proofs.Quotients.{quotient_one, divides_one}
use Rattle.line_laws.specs.Lines.{Part, meant, said, divided_by}
use Rattle.line_laws.specs.Steps.{divisor_of, denied}
use Rattle.line_laws.proofs.Outcomes.{Gives, gives-then, gives-kept, gives-with}
use Rattle.line_laws.proofs.Differing.{Differ, differ-added, differ-divided}

-- the same sum under all values, with one term of each variable, and the same bound
pub record IsSame (i r : Inequality) : Type 0 where
  pub differ : Differ r.terms
  pub sums : (v : ℕ → ℤ) → sum_of v r.terms ≡ sum_of v i.terms
  pub bound : r.bound ≡ i.bound

abbrev pub nothing : Inequality
nothing = record { terms = []; bound = pos 0 }

pub one-times : (x : ℤ) → pos 1 *ℤ x ≡ x
unfolding lib.IntN.one
one-times x = *ℤ_comm (pos 1) x ∙ *ℤ-one x

-- m times i added
pub record Adds (sum : Inequality) (m : ℤ) (i r : Inequality) : Type 0 where
  pub differ : Differ r.terms
  pub sums : (v : ℕ → ℤ) → sum_of v r.terms ≡ sum_of v sum.terms +ℤ m *ℤ sum_of v i.terms
  pub bound : r.bound ≡ sum.bound +ℤ m *ℤ i.bound

abbrev AreTerms : List (ℕ × ℤ) → ℤ → List (ℕ × ℤ) → List (ℕ × ℤ) → Type 0
AreTerms sum m ts r = Differ r × (add_terms sum m ts ≡ value r)

pub part-added : (sum : Inequality) (m : ℤ) (i : Inequality) → Differ sum.terms
    → Gives (Adds sum m i) (add_part sum m i)
part-added sum m i d =
    gives-then (AreTerms sum.terms m i.terms) (Adds sum m i) (add_terms sum.terms m i.terms) _
    (gives-with Differ (AreTerms sum.terms m i.terms) (add_terms sum.terms m i.terms)
    (differ-added sum.terms m i.terms d) (λ r e q. (q, e)))
    (λ ts q. gives-then (λ b. b ≡ sum.bound +ℤ m *ℤ i.bound) (Adds sum m i) (bound_after sum.bound m i.bound) _
    (gives-kept _ (within (m *ℤ i.bound)) _ (gives-kept (λ b. b ≡ sum.bound +ℤ m *ℤ i.bound)
    (within (sum.bound +ℤ m *ℤ i.bound)) _ refl))
    (λ b e. record { differ = q.0; sums = λ v. sum-add v sum.terms m i.terms ts q.1; bound = e }))

-- ---- one variable

single-added : (x : ℕ) (e z : ℤ) → Gives (λ r. r ≡ record { terms = (x, e) ∷ []; bound = z })
    (add_part nothing (pos 1) record { terms = (x, e) ∷ []; bound = z })
single-added x e z =
    gives-then (λ ts. ts ≡ (x, e) ∷ []) (λ r. r ≡ record { terms = (x, e) ∷ []; bound = z })
    (add_terms [] (pos 1) ((x, e) ∷ [])) _
    (gives-then (λ ts. ts ≡ (x, e) ∷ []) (λ ts. ts ≡ (x, e) ∷ []) (add_scaled [] (pos 1) (x, e)) _
    (gives-kept _ (within (pos 1 *ℤ e)) _ (gives-kept (λ ts. ts ≡ (x, e) ∷ []) (within (pos 0 +ℤ pos 1 *ℤ e)) _
    (ap (λ y. (x, y) ∷ []) (one-times e))))
    (λ ts q. q))
    (λ ts q. gives-then (λ b. b ≡ z) (λ r. r ≡ record { terms = (x, e) ∷ []; bound = z })
    (bound_after (pos 0) (pos 1) z) _
    (gives-kept _ (within (pos 1 *ℤ z)) _ (gives-kept (λ b. b ≡ z) (within (pos 0 +ℤ pos 1 *ℤ z)) _
    (+ℤ_idl (pos 1 *ℤ z) ∙ one-times z)))
    (λ b w. ap (λ ys. record { terms = ys; bound = b }) q ∙ ap (λ y. record { terms = (x, e) ∷ []; bound = y }) w))

up-rest : (k : ℕ) → int_rem_euclid (pos (suc k)) (pos (suc k)) ≡ pos 0
up-rest k = ap pos (mod_self (suc k))

down-rest : (k : ℕ) → int_rem_euclid (negsuc k) (pos (suc k)) ≡ pos 0
down-rest k = ap pos (let r = mod-suc k in omega arith)

up-quotient : (k : ℕ) → int_div_euclid (pos (suc k)) (pos (suc k)) ≡ pos 1
up-quotient k = ap pos (div_self (omega arith))

down-quotient : (k : ℕ) → int_div_euclid (negsuc k) (pos (suc k)) ≡ negsuc 0
down-quotient k = ap negsuc (div-eq_of_lt (omega arith))

pub went : (P : Inequality → Type 0) (b : Bool) (i : Inequality) → b ≡ true → P i → Gives P (cond b (value i) stopped)
went P true i e h = h
went P false i e h = absurd cc

size-is-positive : (k : ℕ) → lt_z (pos 0) (pos (suc k)) ≡ true
size-is-positive k = grind (arith, ints)

size-is-not-zero : (k : ℕ) → is_zero (pos (suc k)) ≡ false
size-is-not-zero k = ap (λ b. cond b (le_z (pos 0) (pos (suc k))) false) (above k) where
  above : (k : ℕ) → le_z (pos (suc k)) (pos 0) ≡ false
  above k = grind (arith, ints)

pub sized : (P : Inequality → Type 0) (k : ℕ) (o : Outcome Inequality) → Gives P o
    → Gives P (cond (lt_z (pos 0) (pos (suc k))) o stopped)
sized P k o h = subst (λ b. Gives P (cond b o stopped)) (sym (size-is-positive k)) h

up-divided : (x k : ℕ) (z : ℤ) → Gives (λ r. r ≡ divided_by x (pos (suc k)) z)
    (divided (pos (suc k)) record { terms = (x, pos (suc k)) ∷ []; bound = z })
up-divided x k z = sized (λ r. r ≡ divided_by x (pos (suc k)) z) k _
    (went (λ r. r ≡ divided_by x (pos (suc k)) z) (divides (pos (suc k)) ((x, pos (suc k)) ∷ []))
    record { terms = quotients (pos (suc k)) ((x, pos (suc k)) ∷ []); bound = int_div_euclid z (pos (suc k)) }
    (ap (λ y. cond (le_z y (pos 0)) true false) (up-rest k))
    (ap (λ b. record {
      terms = cond b [] ((
        x,
        int_div_euclid (pos (suc k))
            (pos (suc k)),
      ) ∷ []) ++ [];
      bound = int_div_euclid z (pos (suc k));
    }) (size-is-not-zero k)
    ∙ ap (λ y. record { terms = (x, y) ∷ []; bound = int_div_euclid z (pos (suc k)) }) (up-quotient k)))

down-divided : (x k : ℕ) (z : ℤ) → Gives (λ r. r ≡ divided_by x (negsuc k) z)
    (divided (pos (suc k)) record { terms = (x, negsuc k) ∷ []; bound = z })
down-divided x k z = sized (λ r. r ≡ divided_by x (negsuc k) z) k _
    (went (λ r. r ≡ divided_by x (negsuc k) z) (divides (pos (suc k)) ((x, negsuc k) ∷ []))
    record { terms = quotients (pos (suc k)) ((x, negsuc k) ∷ []); bound = int_div_euclid z (pos (suc k)) }
    (ap (λ y. cond (le_z y (pos 0)) true false) (down-rest k))
    (ap (λ y. record { terms = (x, y) ∷ []; bound = int_div_euclid z (pos (suc k)) }) (down-quotient k)))

-- ---- the line, from what the literal means

abbrev DividesTo : ℤ → Inequality → Inequality → Type 0
DividesTo d i t = Gives (IsSame i) (divided d t)

is-same : (i r : Inequality) → Differ i.terms → r ≡ i → IsSame i r
is-same i r d e = record {
  differ = subst (λ y. Differ y.terms) (sym e) d;
  sums = λ v. ap
      (λ y. sum_of v y.terms) e;
  bound = ap (λ y. y.bound) e;
}

single-line : (x : ℕ) (e z d : ℤ) (i : Inequality) → Differ i.terms
    → Gives (λ r. r ≡ i) (divided d record { terms = (x, e) ∷ []; bound = z })
    → Gives (DividesTo d i) (add_part nothing (pos 1) record { terms = (x, e) ∷ []; bound = z })
single-line x e z d i w h =
    gives-with (λ r. r ≡ record { terms = (x, e) ∷ []; bound = z }) (DividesTo d i)
    (add_part nothing (pos 1) record { terms = (x, e) ∷ []; bound = z }) (single-added x e z)
    (λ t _ q. subst (DividesTo d i) (sym q) (gives-with (λ r. r ≡ i) (IsSame i)
    (divided d record { terms = (x, e) ∷ []; bound = z }) h (λ r _ y. is-same i r w y)))

long-divided : (i t : Inequality) → IsSame i t → DividesTo (pos 1) i t
long-divided i t h = went (IsSame i) (divides (pos 1) t.terms) record {
  terms = quotients
      (pos 1) t.terms;
  bound = int_div_euclid t.bound (pos 1);
}
    (divides_one (pos 1) t.terms refl)
    record {
      differ = differ-divided (pos 1) t.terms h.differ;
      sums = λ v. sym (one-times (sum_of v (quotients (pos 1) t.terms)))
          ∙ sum-quotients v 0 t.terms (divides_one (pos 1) t.terms refl) ∙ h.sums v;
      bound = quotient_one t.bound (pos 1) refl ∙ h.bound;
    }

long-line : (i : Inequality) → Gives (DividesTo (pos 1) i) (add_part nothing (pos 1) i)
long-line i = gives-with (Adds nothing (pos 1) i) (DividesTo (pos 1) i) (add_part nothing (pos 1) i)
    (part-added nothing (pos 1) i tt)
    (λ t _ q. long-divided i t record {
      differ = q.differ;
      sums = λ v. q.sums v ∙ +ℤ_idl (pos 1 *ℤ sum_of v i.terms) ∙ one-times (sum_of v i.terms);
      bound = q.bound ∙ +ℤ_idl (pos 1 *ℤ i.bound) ∙ one-times i.bound;
    })

line-of : (sign : Bool) (terms : List (ℕ × ℤ)) (z : ℤ) → AllByRecursion (λ (t : ℕ × ℤ). t.1 ≢ pos 0) terms → terms ≢ []
    → Gives (DividesTo (divisor_of terms) (said sign record { terms = terms; bound = z }))
    (add_part nothing (pos 1) (meant sign record { terms = terms; bound = z }))
line-of sign [] z a n = absurd (n refl)
line-of sign ((x, pos zero) ∷ []) z a n = absurd (a.0 refl)
line-of true ((x, pos (suc k)) ∷ []) z a n = single-line x (pos (suc k)) z (pos (suc k))
    (divided_by x (pos (suc k)) z) (tt, tt) (up-divided x k z)
line-of true ((x, negsuc k) ∷ []) z a n = single-line x (negsuc k) z (pos (suc k)) (divided_by x (negsuc k) z)
    (tt, tt) (down-divided x k z)
line-of false ((x, pos (suc k)) ∷ []) z a n =
    subst (λ y. Gives (DividesTo (pos (suc k)) (divided_by x y (negsuc 0 -ℤ z)))
    (add_part nothing (pos 1) record { terms = (x, y) ∷ []; bound = negsuc 0 -ℤ z })) (sym (+ℤ_idl (negsuc k)))
    (single-line x (negsuc k) (negsuc 0 -ℤ z) (pos (suc k)) (divided_by x (negsuc k) (negsuc 0 -ℤ z)) (tt, tt)
    (down-divided x k (negsuc 0 -ℤ z)))
line-of false ((x, negsuc k) ∷ []) z a n =
    subst (λ y. Gives (DividesTo (pos (suc k)) (divided_by x y (negsuc 0 -ℤ z)))
    (add_part nothing (pos 1) record { terms = (x, y) ∷ []; bound = negsuc 0 -ℤ z })) (sym (+ℤ_idl (pos (suc k))))
    (single-line x (pos (suc k)) (negsuc 0 -ℤ z) (pos (suc k)) (divided_by x (pos (suc k)) (negsuc 0 -ℤ z)) (tt, tt)
    (up-divided x k (negsuc 0 -ℤ z)))
line-of true (t ∷ u ∷ ts) z a n = long-line record { terms = t ∷ u ∷ ts; bound = z }
line-of false (t ∷ u ∷ ts) z a n = long-line (opposite_inequality record { terms = t ∷ u ∷ ts; bound = z })

by-sign : (sign : Bool) (i : Inequality) → Gives (λ j. j ≡ meant sign i) (of_atom (negated sign) (Some i))
by-sign true i = refl
by-sign false i = gives-kept (λ j. j ≡ opposite_inequality i) (all_negatable i.terms) _
    (gives-kept (λ j. j ≡ opposite_inequality i) (within (negsuc 0 -ℤ i.bound)) _ refl)

module _ (g : Form) (clause : List Literal) (lines : List Inequality) where
  pub source : (p : Part) (n : ℕ) → at g.atoms p.bound.literal ≡ Some p.atom → at clause n ≡ Some (denied p)
      → Gives (λ j. j ≡ meant p.sign p.atom) (of_source g.atoms clause lines (s.Literal n))
  source p n e f =
      subst (λ o. Gives (λ j. j ≡ meant p.sign p.atom) (of_literal g.atoms o)) (sym f)
      (subst (λ o. Gives (λ j. j ≡ meant p.sign p.atom) (of_atom (negated p.sign) o)) (sym e) (by-sign p.sign p.atom))

  pub own-line : (p : Part) (n : ℕ) → AllByRecursion (λ (t : ℕ × ℤ). t.1 ≢ pos 0) p.atom.terms → p.atom.terms ≢ []
      → at g.atoms p.bound.literal ≡ Some p.atom → at clause n ≡ Some (denied p)
      → Gives (IsSame (said p.sign p.atom)) (of_sum g.atoms clause lines record {
        parts =
            (pos 1, s.Literal n) ∷ [];
        divisor = divisor_of p.atom.terms;
      })
  own-line p n a w e f =
      gives-then (DividesTo (divisor_of p.atom.terms) (said p.sign p.atom)) (IsSame (said p.sign p.atom))
      (add_parts g.atoms clause lines nothing ((pos 1, s.Literal n) ∷ [])) (divided (divisor_of p.atom.terms))
      (gives-then (DividesTo (divisor_of p.atom.terms) (said p.sign p.atom))
      (DividesTo (divisor_of p.atom.terms) (said p.sign p.atom))
      (add_from g.atoms clause lines nothing (pos 1, s.Literal n)) _
      (gives-then (λ j. j ≡ meant p.sign p.atom) (DividesTo (divisor_of p.atom.terms) (said p.sign p.atom))
      (of_source g.atoms clause lines (s.Literal n)) (add_part nothing (pos 1)) (source p n e f)
      (λ i q. subst (λ y. Gives (DividesTo (divisor_of p.atom.terms) (said p.sign p.atom))
      (add_part nothing (pos 1) y)) (sym q)
      (line-of p.sign p.atom.terms p.atom.bound a w)))
      (λ t q. q))
      (λ t q. q)
