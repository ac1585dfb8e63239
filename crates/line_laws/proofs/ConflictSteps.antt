-- Bounds that refute each other give a step that breaks no rule, unless a number is outside 128 bits.
use Rattle.std.specs.Prelude.{ℕ, zero, suc, ◌≡◌, ◌≢◌, ◌⊎◌, ◌<◌, Bool, true, false, cond, List, [], ◌∷◌, ◌++◌, length, map, Some, None, slice_get, nat_lt, refl}
use Rattle.std.specs.List.{AllByRecursion}
use Rattle.std.proofs.Common.{sym, ◌∙◌, ap, subst, arith, inl, inr}
use Rattle.std.proofs.lemmas.Bool.Decides.{nat_tests}
use Rattle.std.proofs.lemmas.Int.{ints}
use Rattle.std.proofs.lemmas.List.Elements.{recursion_from_All}
use lib.IntN.{ℤ, pos}
use lib.Signed.{le_z, ◌≤ℤ◌, ◌<ℤ◌}
use Rattle.kind_num.specs.declared.Shape.{Shape}
use Rattle.proof_steps.specs.declared.Literal.{Literal}
use Rattle.proof_steps.specs.View.{Inequality}
use Rattle.proof_steps.specs.Meaning.{at}
use Rattle.proof_steps.specs.Rows.{Form}
use Rattle.proof_checker.specs.declared.rule.Rule.TheVariants as r
use Rattle.proof_checker.specs.Theory.{Outcome, value, past, stopped, absurd_last, signs, is_sum, are_sums}
use Rattle.proof_checker.specs.Check.{counted, atoms_fit, theory_fault}
use Rattle.proof_checker.proofs.Sound.{slice_get-all}
use Rattle.cnf_maker.specs.Plain.{IsPlain, IsPlainAtom, IsTermOf}
use Rattle.line_laws.specs.Lines.{Part, IsPart, right_side}
use Rattle.line_laws.specs.Steps.{own_lines, line_parts, sum_of_lines, denied, RefuteEachOther, IsTakenOrPast}
use Rattle.line_laws.proofs.Outcomes.{Gives}
use Rattle.line_laws.proofs.SumLines.{IsGood, all-denied, steps, sum-ends}
use Rattle.line_laws.proofs.Summed.{nothing_left}
use Rattle.line_laws.proofs.Limited.{same_right_side}

-- ---- the parts' atoms are plain

not-zeros : (shapes : List Shape) (terms : List (ℕ × ℤ)) → AllByRecursion (IsTermOf shapes) terms
    → AllByRecursion (λ (t : ℕ × ℤ). t.1 ≢ pos 0) terms
not-zeros shapes [] a = tt
not-zeros shapes (t ∷ rest) a = (a.0.not_zero, not-zeros shapes rest a.1)

pub named-plain : (g : Form) → IsPlain g → (n : ℕ) (i : Inequality) → at g.atoms n ≡ Some i → IsPlainAtom g.shapes i
named-plain g plain zero i e = absurd cc
named-plain g plain (suc j) i e = slice_get-all (IsPlainAtom g.shapes) g.atoms j i
    (recursion_from_All (IsPlainAtom g.shapes) g.atoms plain) e

pub good : (g : Form) → IsPlain g → (parts : List Part) → AllByRecursion (IsPart g) parts
    → AllByRecursion (IsGood g) parts
good g plain [] a = tt
good g plain (p ∷ rest) a =
    let i = named-plain g plain p.bound.literal p.atom a.0.named in (
      record {
        named = a.0.named;
        not_zero = not-zeros g.shapes p.atom.terms
            (recursion_from_All (IsTermOf g.shapes) p.atom.terms i.terms);
        some_term = i.some_term;
      },
      good g plain rest a.1,
    )

-- ---- the literals are there

there-below : (atoms : List Inequality) (j : ℕ) (i : Inequality) → slice_get atoms j ≡ Some i → j < length atoms
there-below [] j i e = absurd cc
there-below (k ∷ rest) zero i e = omega arith
there-below (k ∷ rest) (suc j) i e = let h = there-below rest j i e in omega arith

pub there : (atoms : List Inequality) (n : ℕ) (i : Inequality) → at atoms n ≡ Some i → counted (length atoms) n ≡ true
there atoms zero i e = absurd cc
there atoms (suc j) i e = yes j (length atoms) (there-below atoms j i e) where
  yes : (j n : ℕ) → j < n → nat_lt j n ≡ true
  yes j n h = grind (arith, nat_tests)

denied-fit : (g : Form) (parts : List Part) → AllByRecursion (IsPart g) parts
    → atoms_fit (length g.atoms) (map denied parts) ≡ true
denied-fit g [] a = refl
denied-fit g (p ∷ rest) a =
    ap (λ b. cond b (atoms_fit (length g.atoms) (map denied rest)) false)
    (there g.atoms p.bound.literal p.atom a.0.named) ∙ denied-fit g rest a.1

-- ---- the lines are sums

pub yes-le : (a b : ℤ) → a ≤ℤ b → le_z a b ≡ true
yes-le a b h = grind (arith, ints)

pub parts-signed : (n : ℕ) (parts : List Part) → AllByRecursion (λ (p : Part). pos 0 ≤ℤ p.multiplier) parts
    → signs (line_parts n parts) ≡ true
parts-signed n [] a = refl
parts-signed n (p ∷ rest) a =
    ap (λ b. cond b (signs (line_parts (suc n) rest)) false) (yes-le (pos 0) p.multiplier a.0)
    ∙ parts-signed (suc n) rest a.1

last-is-sum : (parts : List Part) → AllByRecursion (λ (p : Part). pos 0 ≤ℤ p.multiplier) parts
    → right_side parts <ℤ pos 0 → is_sum (line_parts 1 parts) ≡ true
last-is-sum [] a low = absurd (omega (arith, ints))
last-is-sum (p ∷ rest) a low = parts-signed 1 (p ∷ rest) a

are-sums : (n : ℕ) (parts all : List Part) → is_sum (line_parts 1 all) ≡ true
    → are_sums (own_lines n parts ++ sum_of_lines 1 all ∷ []) ≡ true
are-sums n [] all h = ap (λ b. cond b true false) h
are-sums n (p ∷ rest) all h = are-sums (suc n) rest all h

-- ---- the step

pub concluded : (fit sums : Bool) (o : Outcome (List Inequality)) → fit ≡ true → sums ≡ true
    → Gives (λ ls. absurd_last ls ≡ true) o
    → (theory_fault fit sums o ≡ None) ⊎ (theory_fault fit sums o ≡ Some r.Past)
concluded fit sums past e f h = inr refl
concluded fit sums stopped e f h = absurd h
concluded fit sums (value ls) e f h = inl
    (ap (λ b. cond b (cond sums (cond (absurd_last ls) None (Some r.Theory)) (Some r.Theory)) (Some r.Literal)) e
    ∙ ap (λ b. cond b (cond (absurd_last ls) None (Some r.Theory)) (Some r.Theory)) f
    ∙ ap (λ b. cond b None (Some r.Theory)) h)

pub step_is_taken : (g : Form) (known : List (List Literal)) (parts : List Part) → IsPlain g
    → RefuteEachOther g parts → IsTakenOrPast g known parts
step_is_taken g known parts plain h =
    let all : AllByRecursion (IsPart g) parts = recursion_from_All (IsPart g) parts h.are_parts in
    let right : right_side parts <ℤ pos 0 = subst (λ z. z <ℤ pos 0)
    (sym (same_right_side g parts h.are_parts)) h.absurd in
    concluded (atoms_fit (length g.atoms) (map denied parts))
    (are_sums (own_lines 1 parts ++ sum_of_lines 1 parts ∷ [])) _
    (denied-fit g parts all)
    (are-sums 1 parts parts (last-is-sum parts
    (recursion_from_All (λ (p : Part). pos 0 ≤ℤ p.multiplier) parts h.not_negative) right))
    (steps g (map denied parts) parts (sum_of_lines 1 parts ∷ []) 1 [] parts [] refl refl tt (all-denied parts)
    (good g plain parts all) refl
    (λ ls _ a. sum-ends g.atoms (map denied parts) parts
    (nothing_left g plain parts h.on_rows.0 h.are_parts h.on_rows.1) right ls a))
