-- A step whose numbers are within 128 bits breaks no rule.
use Rattle.std.specs.Prelude.{ℕ, suc, ◌≡◌, ◌⊎◌, Bool, true, false, cond, List, [], ◌∷◌, ◌++◌, length, map, take, Some, None, refl}
use Rattle.std.specs.List.{AllByRecursion}
use Rattle.std.proofs.Common.{sym, ◌∙◌, ap, subst, arith, inl, inr}
use Rattle.std.proofs.lemmas.Int.{ints}
use Rattle.std.proofs.lemmas.List.Elements.{recursion_from_All}
use lib.IntN.{ℤ, pos, negsuc, ◌+ℤ◌, ◌-ℤ◌, ◌*ℤ◌, +ℤ_idl}
use Rattle.kind_num.specs.Exact.{within}
use Rattle.proof_steps.specs.declared.Literal.{Literal}
use Rattle.proof_steps.specs.declared.Source.TheVariants as s
use Rattle.proof_steps.specs.View.{Inequality}
use Rattle.proof_steps.specs.Meaning.{at, negated, negated_term, sum_of}
use Rattle.proof_steps.specs.Rows.{Form, entry}
use Rattle.proof_checker.specs.declared.rule.Rule.TheVariants as r
use Rattle.proof_checker.specs.Theory.{Outcome, value, past, stopped, add_part, add_from, add_parts, all_negatable, of_atom, of_literal, of_line, of_source, divided, of_sum, of_lines, absurd_last}
use Rattle.proof_checker.specs.Check.{theory_fault, move_fault}
use Rattle.cnf_maker.specs.Plain.{IsPlain}
use Rattle.line_laws.specs.Lines.{Part, IsPart, meant, said, coefficient_in, right_side}
use Rattle.line_laws.specs.Steps.{divisor_of, own_lines, line_parts, sum_of_lines, denied, conflict_step, RefuteEachOther, HasProducts, OperationsFit}
use Rattle.line_laws.proofs.Outcomes.{Gives, gives-then}
use Rattle.line_laws.proofs.Differing.{Differ, alone, sum-alone}
use Rattle.line_laws.proofs.Bounded.{entry-negated}
use Rattle.line_laws.proofs.OwnLines.{IsSame, Adds, nothing, one-times, part-added, own-line, source}
use Rattle.line_laws.proofs.SumLines.{AreAt, AreDenied, IsGood, all-denied, line-source, lines-kept, at-last, lines-more, append-nil, length-more, parts-more, parts-joined}
use Rattle.line_laws.proofs.ConflictSteps.{good, named-plain, step_is_taken}
use Rattle.line_laws.proofs.Fitting.{NotPast, then-not-past, kept-not-past, gives-value, divided-not-past, part-not-past, all-negatable, differ-negated, in-order-differ}

minus : (ts : List (ℕ × ℤ)) (c : ℕ) → pos 1 *ℤ entry (map negated_term ts) c ≡ pos 0 -ℤ entry ts c
minus ts c =
    let o = one-times (entry (map negated_term ts) c) in
    let n = entry-negated ts c in omega (arith, ints)

by-sign : (sign : Bool) (i : Inequality) → Differ i.terms → HasProducts (pos 1) (meant sign i)
    → NotPast (of_atom (negated sign) (Some i))
by-sign true i d h = tt
by-sign false i d h =
    kept-not-past (all_negatable i.terms) _ (all-negatable i.terms d (λ c. subst (λ z. within z ≡ true)
    (minus i.terms c) (h.coefficients c)))
    (kept-not-past (within (negsuc 0 -ℤ i.bound)) _ (subst (λ z. within z ≡ true)
    (one-times (negsuc 0 -ℤ i.bound)) h.bound) tt)

differ-meant : (sign : Bool) (i : Inequality) → Differ i.terms → Differ (meant sign i).terms
differ-meant true i d = d
differ-meant false i d = differ-negated i.terms d

from-nothing : (z : ℤ) → within (pos 1 *ℤ z) ≡ true → within (pos 0 +ℤ pos 1 *ℤ z) ≡ true
from-nothing z h = subst (λ w. within w ≡ true) (sym (+ℤ_idl (pos 1 *ℤ z))) h

-- what is asked of a part
pub record IsFitting (g : Form) (p : Part) : Type 0 where
  pub is_good : IsGood g p
  pub differ : Differ p.atom.terms
  pub meaning : HasProducts (pos 1) (meant p.sign p.atom)

module _ (g : Form) (clause : List Literal) (lines : List Inequality) where
  source-not-past : (p : Part) (n : ℕ) → IsFitting g p → at clause n ≡ Some (denied p)
      → NotPast (of_source g.atoms clause lines (s.Literal n))
  source-not-past p n h f =
      subst (λ o. NotPast (of_literal g.atoms o)) (sym f)
      (subst (λ o. NotPast (of_atom (negated p.sign) o)) (sym h.is_good.named)
      (by-sign p.sign p.atom h.differ h.meaning))

  meaning-added : (p : Part) → IsFitting g p → NotPast (add_part nothing (pos 1) (meant p.sign p.atom))
  meaning-added p h =
      part-not-past nothing (pos 1) (meant p.sign p.atom) tt (differ-meant p.sign p.atom h.differ) h.meaning
      (λ c. from-nothing (entry (meant p.sign p.atom).terms c) (h.meaning.coefficients c))
      (from-nothing (meant p.sign p.atom).bound h.meaning.bound)

  own-not-past : (p : Part) (n : ℕ) → IsFitting g p → at clause n ≡ Some (denied p)
      → NotPast (of_sum g.atoms clause lines record {
        parts =
            (pos 1, s.Literal n) ∷ [];
        divisor = divisor_of p.atom.terms;
      })
  own-not-past p n h f =
      then-not-past (add_parts g.atoms clause lines nothing ((pos 1, s.Literal n) ∷ []))
      (divided (divisor_of p.atom.terms))
      (then-not-past (add_from g.atoms clause lines nothing (pos 1, s.Literal n)) _
      (then-not-past (of_source g.atoms clause lines (s.Literal n)) (add_part nothing (pos 1)) (source-not-past p n h f)
      (λ i e. subst (λ y. NotPast (add_part nothing (pos 1) y))
      (sym (gives-value (λ j. j ≡ meant p.sign p.atom) (of_source g.atoms clause lines (s.Literal n)) i
      (source g clause lines p n h.is_good.named f) e))
      (meaning-added p h)))
      (λ t e. tt))
      (λ t e. divided-not-past (divisor_of p.atom.terms) t)

module _ (atoms : List Inequality) (clause : List Literal) (lines : List Inequality) where
  line-not-past : (n : ℕ) (i : Inequality) → at lines n ≡ Some i → NotPast (of_source atoms clause lines (s.Line n))
  line-not-past n i e = subst (λ o. NotPast (of_line o)) (sym e) tt

  pub line-added : (sum : Inequality) (m : ℤ) (n : ℕ) (i : Inequality) → Differ sum.terms → at lines n ≡ Some i
      → Gives (Adds sum m i) (add_from atoms clause lines sum (m, s.Line n))
  line-added sum m n i d e =
      gives-then (λ j. j ≡ i) (Adds sum m i) (of_source atoms clause lines (s.Line n)) (add_part sum m)
      (line-source atoms clause lines n i e)
      (λ j q. subst (λ y. Gives (Adds sum m i) (add_part sum m y)) (sym q) (part-added sum m i d))

  entries-same : (i r : Inequality) → IsSame i r → (c : ℕ) → entry r.terms c ≡ entry i.terms c
  entries-same i r h c = sym (sum-alone c r.terms) ∙ h.sums (alone c) ∙ sum-alone c i.terms

  pub entries-add : (sum : Inequality) (m : ℤ) (i t : Inequality) → Adds sum m i t → (c : ℕ)
      → entry t.terms c ≡ entry sum.terms c +ℤ m *ℤ entry i.terms c
  entries-add sum m i t h c =
      sym (sum-alone c t.terms) ∙ h.sums (alone c) ∙ ap (λ z. z +ℤ m *ℤ sum_of (alone c) i.terms)
      (sum-alone c sum.terms)
      ∙ ap (λ z. entry sum.terms c +ℤ m *ℤ z) (sum-alone c i.terms)

  all-not-past : (sum : Inequality) (n : ℕ) (parts : List Part) → Differ sum.terms → AreAt lines n parts
      → AllByRecursion (λ (p : Part). HasProducts p.multiplier (said p.sign p.atom)) parts
      → ((k c : ℕ) → within (entry sum.terms c +ℤ coefficient_in (take k parts) c) ≡ true)
      → ((k : ℕ) → within (sum.bound +ℤ right_side (take k parts)) ≡ true)
      → NotPast (add_parts atoms clause lines sum (line_parts n parts))
  all-not-past sum n [] d a f h b = tt
  all-not-past sum n (p ∷ rest) d a f h b =
      let same : (c : ℕ) → entry a.0.0.terms c ≡ entry (said p.sign p.atom).terms c = entries-same
      (said p.sign p.atom) a.0.0 a.0.2 in
      then-not-past (add_from atoms clause lines sum (p.multiplier, s.Line n)) _
      (then-not-past (of_source atoms clause lines (s.Line n)) (add_part sum p.multiplier) (line-not-past n a.0.0 a.0.1)
      (λ i e. subst (λ y. NotPast (add_part sum p.multiplier y))
      (sym (gives-value (λ j. j ≡ a.0.0) (of_source atoms clause lines (s.Line n)) i
      (line-source atoms clause lines n a.0.0 a.0.1) e))
      (part-not-past sum p.multiplier a.0.0 d a.0.2.differ
      record {
        coefficients = λ c. subst (λ z. within (p.multiplier *ℤ z) ≡ true) (sym (same c)) (f.0.coefficients c);
        bound = subst (λ z. within (p.multiplier *ℤ z) ≡ true) (sym a.0.2.bound) f.0.bound;
      }
      (λ c. subst (λ z. within z ≡ true)
      (one-more (entry sum.terms c) (p.multiplier *ℤ entry (said p.sign p.atom).terms c)
      ∙ ap (λ z. entry sum.terms c +ℤ p.multiplier *ℤ z) (sym (same c)))
      (h 1 c))
      (subst (λ z. within z ≡ true)
      (one-more sum.bound (p.multiplier *ℤ (said p.sign p.atom).bound)
      ∙ ap (λ z. sum.bound +ℤ p.multiplier *ℤ z) (sym a.0.2.bound)) (b 1)))))
      (λ t e.
      let q : Adds sum p.multiplier a.0.0 t = gives-value (Adds sum p.multiplier a.0.0)
      (add_from atoms clause lines sum (p.multiplier, s.Line n)) t
      (line-added sum p.multiplier n a.0.0 d a.0.1) e in
      all-not-past t (suc n) rest q.differ a.1 f.1
      (λ k c. subst (λ z. within z ≡ true)
      (moved (entry sum.terms c) (p.multiplier *ℤ entry (said p.sign p.atom).terms c)
      (coefficient_in (take k rest) c) (entry t.terms c)
      (entries-add sum p.multiplier a.0.0 t q c ∙ ap (λ z. entry sum.terms c +ℤ p.multiplier *ℤ z) (same c)))
      (h (suc k) c))
      (λ k. subst (λ z. within z ≡ true)
      (moved sum.bound (p.multiplier *ℤ (said p.sign p.atom).bound) (right_side (take k rest)) t.bound
      (q.bound ∙ ap (λ z. sum.bound +ℤ p.multiplier *ℤ z) a.0.2.bound))
      (b (suc k)))) where
        one-more : (x y : ℤ) → x +ℤ (y +ℤ pos 0) ≡ x +ℤ y
        one-more x y = omega (arith, ints)

        moved : (x y z t : ℤ) → t ≡ x +ℤ y → x +ℤ (y +ℤ z) ≡ t +ℤ z
        moved x y z t e = omega (arith, ints)

  sum-not-past : (parts : List Part) → AreAt lines 1 parts → OperationsFit parts
      → NotPast (of_sum atoms clause lines (sum_of_lines 1 parts))
  sum-not-past parts a f =
      then-not-past (add_parts atoms clause lines nothing (line_parts 1 parts)) (divided (pos 1))
      (all-not-past nothing 1 parts tt a (recursion_from_All (λ (p : Part). HasProducts p.multiplier
      (said p.sign p.atom)) parts f.products)
      (λ k c. subst (λ z. within z ≡ true) (sym (+ℤ_idl (coefficient_in (take k parts) c))) (f.sums k c))
      (λ k. subst (λ z. within z ≡ true) (sym (+ℤ_idl (right_side (take k parts)))) (f.right_sides k)))
      (λ t e. divided-not-past (pos 1) t)

module _ (g : Form) (clause : List Literal) (parts : List Part) (fit : OperationsFit parts) where
  steps-not-past : (n : ℕ) (done rest : List Part) (lines : List Inequality) → n ≡ suc (length lines)
      → length lines ≡ length done → AreAt lines 1 done
      → AreDenied clause n rest → AllByRecursion (IsFitting g) rest → done ++ rest ≡ parts
      → NotPast (of_lines g.atoms clause lines (own_lines n rest ++ sum_of_lines 1 parts ∷ []))
  steps-not-past n done [] lines m l a d w e =
      then-not-past (of_sum g.atoms clause lines (sum_of_lines 1 parts)) _
      (sum-not-past g.atoms clause lines parts (subst (AreAt lines 1) (sym (append-nil done) ∙ e) a) fit)
      (λ i _. tt)
  steps-not-past n done (p ∷ rest) lines m l a d w e =
      then-not-past (of_sum g.atoms clause lines record {
        parts =
            (pos 1, s.Literal n) ∷ [];
        divisor = divisor_of p.atom.terms;
      }) _
      (own-not-past g clause lines p n w.0 d.0)
      (λ i q. steps-not-past (suc n) (done ++ p ∷ []) rest (lines ++ i ∷ [])
      (ap suc m ∙ ap suc (sym (length-more lines i)))
      (length-more lines i ∙ ap suc l ∙ sym (parts-more done p))
      (lines-more (lines ++ i ∷ []) 0 (length lines) done p i (lines-kept lines i 0 done a) (omega arith)
      (at-last lines i)
      (gives-value (IsSame (said p.sign p.atom)) _ i
      (own-line g clause lines p n w.0.is_good.not_zero w.0.is_good.some_term w.0.is_good.named d.0) q))
      d.1 w.1 (parts-joined done p rest ∙ e))

not-that : (fit sums last : Bool) → cond fit (cond sums (cond last None (Some r.Theory)) (Some r.Theory))
    (Some r.Literal) ≡ Some r.Past → ⊥
not-that true true true e = absurd cc
not-that true true false e = absurd cc
not-that true false last e = absurd cc
not-that false sums last e = absurd cc

no-value : (fit : Bool) → cond fit (Some r.Theory) (Some r.Literal) ≡ Some r.Past → ⊥
no-value true e = absurd cc
no-value false e = absurd cc

none-then : (fit sums : Bool) (o : Outcome (List Inequality)) → NotPast o
    → (theory_fault fit sums o ≡ None) ⊎ (theory_fault fit sums o ≡ Some r.Past) → theory_fault fit sums o ≡ None
none-then fit sums o n (inl h) = h
none-then fit sums past n (inr h) = absurd n
none-then fit sums stopped n (inr h) = absurd (no-value fit h)
none-then fit sums (value ls) n (inr h) = absurd (not-that fit sums (absurd_last ls) h)

fitting : (g : Form) → IsPlain g → (parts : List Part) → AllByRecursion (IsGood g) parts
    → AllByRecursion (λ (p : Part). HasProducts (pos 1) (meant p.sign p.atom)) parts
    → AllByRecursion (IsFitting g) parts
fitting g plain [] a f = tt
fitting g plain (p ∷ rest) a f =
    let i = named-plain g plain p.bound.literal p.atom a.0.named in
    (record { is_good = a.0; differ = in-order-differ p.atom.terms i.in_order; meaning = f.0 }, fitting g plain rest a.1 f.1)

pub fitting_step_is_taken : (g : Form) (known : List (List Literal)) (parts : List Part) → IsPlain g
    → RefuteEachOther g parts → OperationsFit parts
    → move_fault g.shapes g.atoms known (conflict_step parts) ≡ None
fitting_step_is_taken g known parts plain h f =
    none-then _ _ _
    (steps-not-past g (map denied parts) parts f 1 [] parts [] refl refl tt (all-denied parts)
    (fitting g plain parts (good g plain parts (recursion_from_All (IsPart g) parts h.are_parts))
    (recursion_from_All (λ (p : Part). HasProducts (pos 1) (meant p.sign p.atom)) parts f.meanings)) refl)
    (step_is_taken g known parts plain h)
