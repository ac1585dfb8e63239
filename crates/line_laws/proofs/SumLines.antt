-- The lines of a step that bounds refuting each other give, one after the other.
use Rattle.std.specs.Prelude.{ℕ, zero, suc, ◌≡◌, ◌≢◌, ◌+◌, Bool, true, false, cond, List, [], ◌∷◌, ◌++◌, length, map, Some, slice_get, refl}
use Rattle.std.specs.Int.{int_div_euclid}
use Rattle.std.specs.List.{AllByRecursion}
use Rattle.std.proofs.Common.{sym, ◌∙◌, ap, subst, arith}
use Rattle.std.proofs.lemmas.Int.{ints}
use lib.IntN.{ℤ, pos, ◌+ℤ◌, ◌*ℤ◌, +ℤ_idl}
use lib.Signed.{lt_z, ◌<ℤ◌}
use Rattle.proof_steps.specs.declared.Literal.{Literal}
use Rattle.proof_steps.specs.declared.Source.TheVariants as s
use Rattle.proof_steps.specs.View.{Inequality, Sum}
use Rattle.proof_steps.specs.Meaning.{at, sum_of}
use Rattle.proof_steps.specs.Rows.{Form, entry}
use Rattle.proof_checker.specs.Theory.{value, stopped, add_part, add_from, add_parts, of_line, of_source, divides, quotients, divided, of_sum, of_lines, no_terms, is_absurd, absurd_last}
use Rattle.proof_checker.proofs.Quotients.{quotient_one, divides_one}
use Rattle.line_laws.specs.Lines.{Part, said, coefficient_in, right_side}
use Rattle.line_laws.specs.Steps.{divisor_of, own_lines, line_parts, sum_of_lines, denied}
use Rattle.line_laws.proofs.Outcomes.{Gives, gives-then, gives-with}
use Rattle.line_laws.proofs.Differing.{Differ, alone, sum-alone, nothing-is-left}
use Rattle.line_laws.proofs.OwnLines.{IsSame, Adds, nothing, part-added, own-line}

-- from the n-th line on, what the parts' literals mean
abbrev pub AreAt : List Inequality → ℕ → List Part → Type 0
AreAt lines n [] = Unit
AreAt lines n (p ∷ rest) = ((i : Inequality) × (at lines n ≡ Some i) × IsSame (said p.sign p.atom) i)
    × AreAt lines (suc n) rest

-- and from the n-th literal on, their opposites
abbrev pub AreDenied : List Literal → ℕ → List Part → Type 0
AreDenied clause n [] = Unit
AreDenied clause n (p ∷ rest) = (at clause n ≡ Some (denied p)) × AreDenied clause (suc n) rest

denied-later : (l : Literal) (clause : List Literal) (k : ℕ) (parts : List Part) → AreDenied clause (suc k) parts
    → AreDenied (l ∷ clause) (suc (suc k)) parts
denied-later l clause k [] a = tt
denied-later l clause k (p ∷ rest) a = (a.0, denied-later l clause (suc k) rest a.1)

pub all-denied : (parts : List Part) → AreDenied (map denied parts) 1 parts
all-denied [] = tt
all-denied (p ∷ rest) = (refl, denied-later (denied p) (map denied rest) 0 rest (all-denied rest))

-- a further line changes none before it
pub at-kept : (lines more : List Inequality) (k : ℕ) (i : Inequality) → slice_get lines k ≡ Some i
    → slice_get (lines ++ more) k ≡ Some i
at-kept [] more k i e = absurd cc
at-kept (l ∷ lines) more zero i e = e
at-kept (l ∷ lines) more (suc k) i e = at-kept lines more k i e

pub at-last : (lines : List Inequality) (i : Inequality) → slice_get (lines ++ i ∷ []) (length lines) ≡ Some i
at-last [] i = refl
at-last (l ∷ lines) i = at-last lines i

pub lines-kept : (lines : List Inequality) (i : Inequality) (k : ℕ) (parts : List Part) → AreAt lines (suc k) parts
    → AreAt (lines ++ i ∷ []) (suc k) parts
lines-kept lines i k [] a = tt
lines-kept lines i k (p ∷ rest) a =
    ((a.0.0, at-kept lines (i ∷ []) k a.0.0 a.0.1, a.0.2), lines-kept lines i (suc k) rest a.1)

pub lines-more : (lines : List Inequality) (k n : ℕ) (done : List Part) (p : Part) (i : Inequality)
    → AreAt lines (suc k) done
    → n ≡ k + length done → slice_get lines n ≡ Some i → IsSame (said p.sign p.atom) i
    → AreAt lines (suc k) (done ++ p ∷ [])
lines-more lines k n [] p i a e g h = (
  (
    i,
    subst (λ m. slice_get lines m ≡ Some i)
        (let w : n ≡ k = omega arith in w) g,
    h,
  ),
  tt,
)
lines-more lines k n (q ∷ rest) p i a e g h = (a.0, lines-more lines (suc k) n rest p i a.1 (omega arith) g h)

-- what the parts add, under values
abbrev pub sums : (ℕ → ℤ) → List Part → ℤ
sums v [] = pos 0
sums v (p ∷ rest) = (p.multiplier *ℤ sum_of v (said p.sign p.atom).terms) +ℤ sums v rest

pub sums-alone : (c : ℕ) (parts : List Part) → sums (alone c) parts ≡ coefficient_in parts c
sums-alone c [] = refl
sums-alone c (p ∷ rest) =
    ap (λ z. p.multiplier *ℤ z +ℤ sums (alone c) rest) (sum-alone c (said p.sign p.atom).terms)
    ∙ ap (λ z. p.multiplier *ℤ entry (said p.sign p.atom).terms c +ℤ z) (sums-alone c rest)

pub record AddAll (sum : Inequality) (parts : List Part) (r : Inequality) : Type 0 where
  pub differ : Differ r.terms
  pub all : (v : ℕ → ℤ) → sum_of v r.terms ≡ sum_of v sum.terms +ℤ sums v parts
  pub bound : r.bound ≡ sum.bound +ℤ right_side parts

module _ (atoms : List Inequality) (clause : List Literal) (lines : List Inequality) where
  pub line-source : (n : ℕ) (i : Inequality) → at lines n ≡ Some i
      → Gives (λ j. j ≡ i) (of_source atoms clause lines (s.Line n))
  line-source n i e = subst (λ o. Gives (λ j. j ≡ i) (of_line o)) (sym e) refl

  pub all-added : (sum : Inequality) (n : ℕ) (parts : List Part) → Differ sum.terms → AreAt lines n parts
      → Gives (AddAll sum parts) (add_parts atoms clause lines sum (line_parts n parts))
  all-added sum n [] d a = record { differ = d; all = λ v. omega (arith, ints); bound = omega (arith, ints) }
  all-added sum n (p ∷ rest) d a =
      gives-then (Adds sum p.multiplier a.0.0) (AddAll sum (p ∷ rest))
      (add_from atoms clause lines sum (p.multiplier, s.Line n)) _
      (gives-then (λ j. j ≡ a.0.0) (Adds sum p.multiplier a.0.0) (of_source atoms clause lines (s.Line n))
      (add_part sum p.multiplier)
      (line-source n a.0.0 a.0.1)
      (λ j e. subst (λ y. Gives (Adds sum p.multiplier a.0.0) (add_part sum p.multiplier y)) (sym e)
      (part-added sum p.multiplier a.0.0 d)))
      (λ t q. gives-with (AddAll t rest) (AddAll sum (p ∷ rest))
      (add_parts atoms clause lines t (line_parts (suc n) rest))
      (all-added t (suc n) rest q.differ a.1)
      (λ w _ h. record {
        differ = h.differ;
        all = λ v. joined (sum_of v w.terms) (sum_of v t.terms) (sum_of v sum.terms)
            (p.multiplier *ℤ sum_of v a.0.0.terms)
            (p.multiplier *ℤ sum_of v (said p.sign p.atom).terms) (sums v rest) (h.all v) (q.sums v)
            (ap (λ z. p.multiplier *ℤ z) (a.0.2.sums v));
        bound = joined w.bound t.bound sum.bound (p.multiplier *ℤ a.0.0.bound)
            (p.multiplier *ℤ (said p.sign p.atom).bound) (right_side rest)
            h.bound q.bound (ap (λ z. p.multiplier *ℤ z) a.0.2.bound);
      })) where
        joined : (w t s m k u : ℤ) → w ≡ t +ℤ u → t ≡ s +ℤ m → m ≡ k → w ≡ s +ℤ (k +ℤ u)
        joined w t s m k u a b c = omega (arith, ints)

  kept-going : (P : Inequality → Type 0) (b : Bool) (i : Inequality) → b ≡ true → P i
      → Gives P (cond b (value i) stopped)
  kept-going P true i e h = h
  kept-going P false i e h = absurd cc

  -- the sum of all lines says that 0 is at most a number below 0
  sum-is-absurd : (parts : List Part) → AreAt lines 1 parts → ((c : ℕ) → coefficient_in parts c ≡ pos 0)
      → right_side parts <ℤ pos 0
      → Gives (λ i. is_absurd i ≡ true) (of_sum atoms clause lines (sum_of_lines 1 parts))
  sum-is-absurd parts a none low =
      gives-then (AddAll nothing parts) (λ i. is_absurd i ≡ true)
      (add_parts atoms clause lines nothing (line_parts 1 parts)) (divided (pos 1))
      (all-added nothing 1 parts tt a)
      (λ t h. kept-going (λ i. is_absurd i ≡ true) (divides (pos 1) t.terms) record {
        terms = quotients
            (pos 1) t.terms;
        bound = int_div_euclid t.bound (pos 1);
      }
      (divides_one (pos 1) t.terms refl)
      (let left : quotients (pos 1) t.terms ≡ [] = nothing-is-left (pos 1) t.terms h.differ
      (λ c. sym (sum-alone c t.terms) ∙ h.all (alone c) ∙ +ℤ_idl (sums (alone c) parts) ∙ sums-alone c parts
      ∙ none c) in
      let low_one : int_div_euclid t.bound (pos 1) <ℤ pos 0 = subst (λ z. z <ℤ pos 0)
      (sym (quotient_one t.bound (pos 1) refl ∙ h.bound ∙ +ℤ_idl (right_side parts))) low in
      ap (λ ts. cond (no_terms ts) (lt_z (int_div_euclid t.bound (pos 1)) (pos 0)) false) left
      ∙ below-zero (int_div_euclid t.bound (pos 1)) low_one)) where
        below-zero : (z : ℤ) → z <ℤ pos 0 → lt_z z (pos 0) ≡ true
        below-zero z l = grind (arith, ints)

pub last-absurd : (lines : List Inequality) (i : Inequality) → is_absurd i ≡ true → absurd_last (lines ++ i ∷ []) ≡ true
last-absurd [] i h = h
last-absurd (l ∷ []) i h = h
last-absurd (l ∷ k ∷ lines) i h = last-absurd (k ∷ lines) i h

pub append-nil : (xs : List Part) → xs ++ [] ≡ xs
append-nil [] = refl
append-nil (x ∷ xs) = ap (λ ys. x ∷ ys) (append-nil xs)

pub length-more : (lines : List Inequality) (i : Inequality) → length (lines ++ i ∷ []) ≡ suc (length lines)
length-more [] i = refl
length-more (l ∷ lines) i = ap suc (length-more lines i)

pub parts-more : (done : List Part) (p : Part) → length (done ++ p ∷ []) ≡ suc (length done)
parts-more [] p = refl
parts-more (q ∷ done) p = ap suc (parts-more done p)

pub parts-joined : (done : List Part) (p : Part) (rest : List Part) → (done ++ p ∷ []) ++ rest ≡ done ++ p ∷ rest
parts-joined [] p rest = refl
parts-joined (q ∷ done) p rest = ap (λ xs. q ∷ xs) (parts-joined done p rest)

pub record IsGood (g : Form) (p : Part) : Type 0 where
  pub named : at g.atoms p.bound.literal ≡ Some p.atom
  pub not_zero : AllByRecursion (λ (t : ℕ × ℤ). t.1 ≢ pos 0) p.atom.terms
  pub some_term : p.atom.terms ≢ []

module _ (g : Form) (clause : List Literal) (parts : List Part) (tail : List Sum) where
  -- the own lines, and after them the tail
  pub steps : (n : ℕ) (done rest : List Part) (lines : List Inequality) → n ≡ suc (length lines)
      → length lines ≡ length done → AreAt lines 1 done
      → AreDenied clause n rest → AllByRecursion (IsGood g) rest → done ++ rest ≡ parts
      → ((ls : List Inequality) → length ls ≡ length parts → AreAt ls 1 parts
      → Gives (λ r. absurd_last r ≡ true) (of_lines g.atoms clause ls tail))
      → Gives (λ ls. absurd_last ls ≡ true) (of_lines g.atoms clause lines (own_lines n rest ++ tail))
  steps n done [] lines m l a d w e k =
      k lines (l ∙ ap length (sym (append-nil done) ∙ e)) (subst (AreAt lines 1) (sym (append-nil done) ∙ e) a)
  steps n done (p ∷ rest) lines m l a d w e k =
      gives-then (IsSame (said p.sign p.atom)) (λ ls. absurd_last ls ≡ true)
      (of_sum g.atoms clause lines record { parts = (pos 1, s.Literal n) ∷ []; divisor = divisor_of p.atom.terms }) _
      (own-line g clause lines p n w.0.not_zero w.0.some_term w.0.named d.0)
      (λ i h. steps (suc n) (done ++ p ∷ []) rest (lines ++ i ∷ []) (ap suc m ∙ ap suc (sym (length-more lines i)))
      (length-more lines i ∙ ap suc l ∙ sym (parts-more done p))
      (lines-more (lines ++ i ∷ []) 0 (length lines) done p i (lines-kept lines i 0 done a) (omega arith)
      (at-last lines i) h)
      d.1 w.1 (parts-joined done p rest ∙ e) k)

pub sum-ends : (atoms : List Inequality) (clause : List Literal) (parts : List Part)
    → ((c : ℕ) → coefficient_in parts c ≡ pos 0) → right_side parts <ℤ pos 0
    → (lines : List Inequality) → AreAt lines 1 parts
    → Gives (λ ls. absurd_last ls ≡ true) (of_lines atoms clause lines (sum_of_lines 1 parts ∷ []))
sum-ends atoms clause parts none low lines a =
    gives-then (λ i. is_absurd i ≡ true) (λ ls. absurd_last ls ≡ true)
    (of_sum atoms clause lines (sum_of_lines 1 parts)) _
    (sum-is-absurd atoms clause lines parts a none low) (λ i h. last-absurd lines i h)
