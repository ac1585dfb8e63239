-- A cut gives a step that breaks no rule, unless a number is outside 128 bits.
use Rattle.std.specs.Prelude.{ℕ, zero, suc, ◌≡◌, ◌≢◌, ◌⊎◌, true, false, cond, List, [], ◌∷◌, ◌++◌, length, map, Some, None, slice_get, refl}
use Rattle.std.specs.Int.{int_div_euclid, int_rem_euclid}
use Rattle.std.specs.List.{AllByRecursion}
use Rattle.std.proofs.Common.{sym, ◌∙◌, ap, subst, arith}
use Rattle.std.proofs.lemmas.Int.{ints}
use Rattle.std.proofs.lemmas.List.Elements.{recursion_from_All}
use lib.IntN.{ℤ, pos, negsuc, ◌+ℤ◌, ◌-ℤ◌, ◌*ℤ◌, neg_ℤ, +ℤ_idl}
use lib.Signed.{le_z, lt_z, ◌≤ℤ◌, ◌<ℤ◌}
use Rattle.kind_num.specs.Exact.{within}
use Rattle.kind_num.specs.Division.{IsDivision}
use Rattle.kind_num.proofs.Ring.{sum_times, times_neg}
use Rattle.kind_num.proofs.Quotients.{division_is}
use Rattle.proof_steps.specs.declared.Literal.{Literal}
use Rattle.proof_steps.specs.declared.Literal.TheVariants.{Atom}
use Rattle.proof_steps.specs.declared.Source.TheVariants as s
use Rattle.proof_steps.specs.View.{Inequality, Sum}
use Rattle.proof_steps.specs.Meaning.{at, negated_term, opposite_inequality}
use Rattle.proof_steps.specs.Rows.{Form, entry}
use Rattle.proof_checker.specs.declared.rule.Rule.TheVariants as r
use Rattle.proof_checker.specs.Theory.{add_part, add_from, add_parts, all_negatable, of_atom, of_literal, of_source, divides, quotients, divided, of_sum, no_terms, is_absurd, absurd_last, is_sum, are_sums}
use Rattle.proof_checker.specs.Check.{atoms_fit, move_fault}
use Rattle.proof_checker.proofs.TheorySound.{sum-quotients}
use Rattle.proof_checker.proofs.Quotients.{quotient_one, divides_one}
use Rattle.cnf_maker.specs.Plain.{IsPlain}
use Rattle.line_laws.specs.Lines.{Part, IsPart, coefficient_in, right_side}
use Rattle.line_laws.specs.Steps.{own_lines, line_parts, denied}
use Rattle.line_laws.specs.CutSteps.{IsCutBy, cut_step}
use Rattle.line_laws.proofs.Outcomes.{Gives, gives-then, gives-kept}
use Rattle.line_laws.proofs.Differing.{Differ, differ-divided, alone, sum-alone, nothing-is-left}
use Rattle.line_laws.proofs.Bounded.{entry-negated}
use Rattle.line_laws.proofs.Limited.{no-room, same_right_side}
use Rattle.line_laws.proofs.CutLines.{line_sums}
use Rattle.line_laws.proofs.OwnLines.{Adds, nothing, one-times, part-added, went, sized}
use Rattle.line_laws.proofs.SumLines.{sums, sums-alone, AreAt, AreDenied, AddAll, all-added, all-denied, at-last, last-absurd, IsGood, steps}
use Rattle.line_laws.proofs.Fitting.{each, listed}
use Rattle.line_laws.proofs.FittingSteps.{line-added, entries-add}
use Rattle.line_laws.proofs.ConflictSteps.{good, there, parts-signed, concluded}

-- ---- multiples

less : (k : ℕ) (a b : ℤ) → pos (suc k) *ℤ (a -ℤ b) ≡ pos (suc k) *ℤ a -ℤ pos (suc k) *ℤ b
less k a b =
    let s : pos (suc k) *ℤ (a +ℤ neg_ℤ b) ≡ pos (suc k) *ℤ a +ℤ pos (suc k) *ℤ neg_ℤ b = sum_times (pos (suc k)) a
    (neg_ℤ b) in
    s ∙ ap (λ z. pos (suc k) *ℤ a +ℤ z) (times_neg (pos (suc k)) b)

pub cancelled : (k : ℕ) (a b : ℤ) → pos (suc k) *ℤ a ≡ pos (suc k) *ℤ b → a ≡ b
cancelled k a b e =
    let l = less k a b in
    let z : a -ℤ b ≡ pos 0 = no-room k (a -ℤ b) (omega (arith, ints)) (omega (arith, ints)) in omega (arith, ints)

multiple : (k : ℕ) (z n : ℤ) → n ≡ pos (suc k) *ℤ z → int_rem_euclid n (pos (suc k)) ≡ pos 0
multiple k z n e = close (int_div_euclid n (pos (suc k))) (int_rem_euclid n (pos (suc k)))
    (division_is n (pos (suc k)) (λ w. absurd (omega (arith, ints)))) where
      close : (q r : ℤ) → IsDivision n (pos (suc k)) q r → r ≡ pos 0
      close q r d =
          let l = less k z q in let w = d.whole in let lo = d.low in let hi : r <ℤ pos (suc k) = d.high in
          let t : z -ℤ q ≡ pos 0 = no-room k (z -ℤ q) (omega (arith, ints)) (omega (arith, ints)) in
          let same : pos (suc k) *ℤ z ≡ pos (suc k) *ℤ q = ap (λ y. pos (suc k) *ℤ y)
          (let g : z ≡ q = omega (arith, ints) in g) in
          omega (arith, ints)

divides-each : (d : ℤ) (ts : List (ℕ × ℤ)) → AllByRecursion (λ (t : ℕ × ℤ). int_rem_euclid t.1 d ≡ pos 0) ts
    → divides d ts ≡ true
divides-each d [] a = refl
divides-each d ((x, b) ∷ rest) a = ap (λ z. cond (le_z z (pos 0)) (divides d rest) false) a.0 ∙ divides-each d rest a.1

-- ---- the cut's line

record IsCutLine (atom r : Inequality) : Type 0 where
  differ : Differ r.terms
  entries : (c : ℕ) → entry r.terms c ≡ entry atom.terms c
  bound : r.bound ≡ atom.bound

absurd-divided : (t : Inequality) → Differ t.terms → ((c : ℕ) → entry t.terms c ≡ pos 0) → t.bound <ℤ pos 0
    → Gives (λ i. is_absurd i ≡ true) (divided (pos 1) t)
absurd-divided t d e low =
    went (λ i. is_absurd i ≡ true) (divides (pos 1) t.terms) record {
      terms = quotients
          (pos 1) t.terms;
      bound = int_div_euclid t.bound (pos 1);
    }
    (divides_one (pos 1) t.terms refl)
    (ap (λ ts. cond (no_terms ts) (lt_z (int_div_euclid t.bound (pos 1)) (pos 0)) false)
    (nothing-is-left (pos 1) t.terms d e)
    ∙ below-zero (int_div_euclid t.bound (pos 1)) (subst (λ z. z <ℤ pos 0)
    (sym (quotient_one t.bound (pos 1) refl)) low)) where
      below-zero : (z : ℤ) → z <ℤ pos 0 → lt_z z (pos 0) ≡ true
      below-zero z l = grind (arith, ints)

module _ (atoms : List Inequality) (clause : List Literal) where
  cut-line : (lines : List Inequality) (parts : List Part) (k : ℕ) (atom : Inequality) → AreAt lines 1 parts
      → ((c : ℕ) → coefficient_in parts c ≡ pos (suc k) *ℤ entry atom.terms c)
      → atom.bound ≡ int_div_euclid (right_side parts) (pos (suc k))
      → Gives (IsCutLine atom) (of_sum atoms clause lines record { parts = line_parts 1 parts; divisor = pos (suc k) })
  cut-line lines parts k atom a e b =
      gives-then (AddAll nothing parts) (IsCutLine atom) (add_parts atoms clause lines nothing (line_parts 1 parts))
      (divided (pos (suc k)))
      (all-added atoms clause lines nothing 1 parts tt a)
      (λ t h.
      let whole : (c : ℕ) → entry t.terms c ≡ pos (suc k) *ℤ entry atom.terms c =
      λ c. sym (sum-alone c t.terms) ∙ h.all (alone c) ∙ +ℤ_idl (sums (alone c) parts) ∙ sums-alone c parts ∙ e c in
      let divisible = divides-each (pos (suc k)) t.terms
      (each (λ c z. int_rem_euclid z (pos (suc k)) ≡ pos 0) t.terms t.terms
      (λ c. multiple k (entry atom.terms c) (entry t.terms c) (whole c)) (listed t.terms h.differ)) in
      sized (IsCutLine atom) k _ (went (IsCutLine atom) (divides (pos (suc k)) t.terms)
      record { terms = quotients (pos (suc k)) t.terms; bound = int_div_euclid t.bound (pos (suc k)) } divisible
      record {
        differ = differ-divided (pos (suc k)) t.terms h.differ;
        entries = λ c. cancelled k (entry (quotients (pos (suc k)) t.terms) c) (entry atom.terms c)
            (ap (λ z. pos (suc k) *ℤ z) (sym (sum-alone c (quotients (pos (suc k)) t.terms)))
            ∙ sum-quotients (alone c) k t.terms divisible ∙ sum-alone c t.terms ∙ whole c);
        bound = ap (λ z. int_div_euclid z (pos (suc k))) (h.bound ∙ +ℤ_idl (right_side parts)) ∙ sym b;
      }))

  opposite-source : (lines : List Inequality) (m n : ℕ) (atom : Inequality) → at clause m ≡ Some (Atom n true)
      → at atoms n ≡ Some atom
      → Gives (λ j. j ≡ opposite_inequality atom) (of_source atoms clause lines (s.Literal m))
  opposite-source lines m n atom e f =
      subst (λ o. Gives (λ j. j ≡ opposite_inequality atom) (of_literal atoms o)) (sym e)
      (subst (λ o. Gives (λ j. j ≡ opposite_inequality atom) (of_atom true o)) (sym f)
      (gives-kept _ (all_negatable atom.terms) _ (gives-kept (λ j. j ≡ opposite_inequality atom)
      (within (negsuc 0 -ℤ atom.bound)) _ refl)))

  -- its sum with the atom's opposite
  cut-closed : (lines : List Inequality) (m n : ℕ) (atom line : Inequality) → IsCutLine atom line
      → at lines m ≡ Some line
      → at clause m ≡ Some (Atom n true) → at atoms n ≡ Some atom
      → Gives (λ i. is_absurd i ≡ true) (of_sum atoms clause lines record {
        parts = (pos 1, s.Line m) ∷
            (pos 1, s.Literal m) ∷ [];
        divisor = pos 1;
      })
  cut-closed lines m n atom line h e f g =
      gives-then (λ t. Differ t.terms × ((c : ℕ) → entry t.terms c ≡ pos 0) × (t.bound <ℤ pos 0))
      (λ i. is_absurd i ≡ true)
      (add_parts atoms clause lines nothing ((pos 1, s.Line m) ∷ (pos 1, s.Literal m) ∷ [])) (divided (pos 1))
      (gives-then (Adds nothing (pos 1) line) (λ t. Differ t.terms × ((c : ℕ) → entry t.terms c ≡ pos 0) ×
      (t.bound <ℤ pos 0))
      (add_from atoms clause lines nothing (pos 1, s.Line m)) _
      (line-added atoms clause lines nothing (pos 1) m line tt e)
      (λ t q. gives-then (Adds t (pos 1) (opposite_inequality atom))
      (λ t. Differ t.terms × ((c : ℕ) → entry t.terms c ≡ pos 0) × (t.bound <ℤ pos 0))
      (add_from atoms clause lines t (pos 1, s.Literal m)) _
      (gives-then (λ j. j ≡ opposite_inequality atom) (Adds t (pos 1) (opposite_inequality atom))
      (of_source atoms clause lines (s.Literal m)) (add_part t (pos 1))
      (opposite-source lines m n atom f g)
      (λ j w. subst (λ y. Gives (Adds t (pos 1) (opposite_inequality atom)) (add_part t (pos 1) y)) (sym w)
      (part-added t (pos 1) (opposite_inequality atom) q.differ)))
      (λ u w. (
        w.differ,
        λ c. let x = entries-add atoms clause lines t (pos 1) (opposite_inequality atom) u w c in
            let y = entries-add atoms clause lines nothing (pos 1) line t q c in
            let o = one-times (entry line.terms c) in
            let p = one-times (entry (map negated_term atom.terms) c) in
            let v = entry-negated atom.terms c in
            let z = h.entries c in omega (arith, ints),
        let x = w.bound in
            let y = q.bound in
            let o = one-times line.bound in
            let p = one-times (negsuc 0 -ℤ atom.bound) in
            let z = h.bound in omega (arith, ints),
      ))))
      (λ t q. absurd-divided t q.0 q.1 q.2)

-- ---- the step

kept : {X : Type 0} (xs more : List X) (k : ℕ) (x : X) → slice_get xs k ≡ Some x → slice_get (xs ++ more) k ≡ Some x
kept [] more k x e = absurd cc
kept (y ∷ xs) more zero x e = e
kept (y ∷ xs) more (suc k) x e = kept xs more k x e

denied-kept : (clause more : List Literal) (k : ℕ) (parts : List Part) → AreDenied clause (suc k) parts
    → AreDenied (clause ++ more) (suc k) parts
denied-kept clause more k [] a = tt
denied-kept clause more k (p ∷ rest) a = (kept clause more k (denied p) a.0, denied-kept clause more (suc k) rest a.1)

last-denied : (parts : List Part) (l : Literal) → slice_get (map denied parts ++ l ∷ []) (length parts) ≡ Some l
last-denied [] l = refl
last-denied (p ∷ rest) l = last-denied rest l

at-more : (atoms more : List Inequality) (n : ℕ) (i : Inequality) → at atoms n ≡ Some i → at (atoms ++ more) n ≡ Some i
at-more atoms more zero i e = absurd cc
at-more atoms more (suc k) i e = kept atoms more k i e

good-more : (g : Form) (more : List Inequality) (parts : List Part) → AllByRecursion (IsGood g) parts
    → AllByRecursion (IsGood record { shapes = g.shapes; atoms = g.atoms ++ more; clauses = g.clauses }) parts
good-more g more [] a = tt
good-more g more (p ∷ rest) a = (
  record { named = at-more g.atoms more p.bound.literal p.atom a.0.named; not_zero = a.0.not_zero; some_term = a.0.some_term },
  good-more g more rest a.1,
)

all-fit : (g : Form) (parts : List Part) (more : List Literal) → AllByRecursion (IsGood g) parts
    → atoms_fit (length g.atoms) more ≡ true
    → atoms_fit (length g.atoms) (map denied parts ++ more) ≡ true
all-fit g [] more a h = h
all-fit g (p ∷ rest) more a h =
    ap (λ b. cond b (atoms_fit (length g.atoms) (map denied rest ++ more)) false)
    (there g.atoms p.bound.literal p.atom a.0.named)
    ∙ all-fit g rest more a.1 h

sums-with : (n : ℕ) (parts : List Part) (tail : List Sum) → are_sums tail ≡ true
    → are_sums (own_lines n parts ++ tail) ≡ true
sums-with n [] tail h = h
sums-with n (p ∷ rest) tail h = sums-with (suc n) rest tail h

is-sum : (parts : List Part) → parts ≢ [] → AllByRecursion (λ (p : Part). pos 0 ≤ℤ p.multiplier) parts
    → is_sum (line_parts 1 parts) ≡ true
is-sum [] n a = absurd (n refl)
is-sum (p ∷ rest) n a = parts-signed 1 (p ∷ rest) a

module _ (g : Form) (known : List (List Literal)) (parts : List Part) (atom : Inequality) (plain : IsPlain g) where
  more : Form
  more = record { shapes = g.shapes; atoms = g.atoms ++ atom ∷ []; clauses = g.clauses }

  clause : List Literal
  clause = map denied parts ++ Atom (suc (length g.atoms)) true ∷ []

  closing : Sum
  closing = record {
    parts = (pos 1, s.Line (suc (length parts))) ∷
        (pos 1, s.Literal (suc (length parts))) ∷ [];
    divisor = pos 1;
  }

  pub cut_step_is_taken : (d : ℤ) → IsCutBy g parts d atom
      → (move_fault g.shapes (g.atoms ++ atom ∷ []) known (cut_step (suc (length g.atoms)) parts d) ≡ None)
      ⊎ (move_fault g.shapes (g.atoms ++ atom ∷ []) known (cut_step (suc (length g.atoms)) parts d) ≡ Some r.Past)
  unfolding more clause closing
  cut_step_is_taken (negsuc k) h = absurd (let p = h.positive in omega (arith, ints))
  cut_step_is_taken (pos zero) h = absurd (let p = h.positive in omega (arith, ints))
  cut_step_is_taken (pos (suc k)) h =
      let all = good-more g (atom ∷ []) parts (good g plain parts (recursion_from_All (IsPart g) parts h.are_parts)) in
      concluded (atoms_fit (length (g.atoms ++ atom ∷ [])) clause) _ _
      (all-fit more parts (Atom (suc (length g.atoms)) true ∷ []) all
      (ap (λ b. cond b true false) (there (g.atoms ++ atom ∷ []) (suc (length g.atoms)) atom (at-last g.atoms atom))))
      (sums-with 1 parts (record { parts = line_parts 1 parts; divisor = pos (suc k) } ∷ closing ∷ [])
      (ap (λ b. cond b true false) (is-sum parts h.some_part
      (recursion_from_All (λ (p : Part). pos 0 ≤ℤ p.multiplier) parts h.not_negative))))
      (steps more clause parts (record {
        parts = line_parts 1 parts;
        divisor = pos
            (suc k);
      } ∷ closing ∷ []) 1 [] parts [] refl refl tt
      (denied-kept (map denied parts) (Atom (suc (length g.atoms)) true ∷ []) 0 parts (all-denied parts)) all refl
      (λ ls e a.
      gives-then (IsCutLine atom) (λ r. absurd_last r ≡ true)
      (of_sum (g.atoms ++ atom ∷ []) clause ls record { parts = line_parts 1 parts; divisor = pos (suc k) }) _
      (cut-line (g.atoms ++ atom ∷ []) clause ls parts k atom a
      (line_sums g plain parts h.sums.0 (pos (suc k)) atom.terms h.are_parts h.variables h.sums.1)
      (h.rounded ∙ ap (λ z. int_div_euclid z (pos (suc k))) (sym (same_right_side g parts h.are_parts))))
      (λ line w.
      gives-then (λ i. is_absurd i ≡ true) (λ r. absurd_last r ≡ true)
      (of_sum (g.atoms ++ atom ∷ []) clause (ls ++ line ∷ []) closing) _
      (cut-closed (g.atoms ++ atom ∷ []) clause (ls ++ line ∷ []) (suc (length parts))
      (suc (length g.atoms)) atom line w
      (subst (λ n. slice_get (ls ++ line ∷ []) n ≡ Some line) e (at-last ls line))
      (last-denied parts (Atom (suc (length g.atoms)) true)) (at-last g.atoms atom))
      (λ i q. last-absurd (ls ++ line ∷ []) i q))))
