-- The step of two bounds that cross has numbers within 128 bits.
use Rattle.std.specs.Prelude.{ℕ, zero, suc, ◌≡◌, ◌==◌, ◌+◌, ◌<◌, ◌≤◌, ◌^◌, Bool, true, false, cond, List, [], ◌∷◌, map, take, Some, All, Contains, slice_get, unsigned_abs, refl}
use Rattle.std.specs.Int.{w128}
use Rattle.std.specs.List.{AllByRecursion}
use Rattle.std.proofs.Common.{sym, ◌∙◌, ap, subst, arith}
use Rattle.std.proofs.lemmas.Int.{ints, fits_signed_from_abs}
use Rattle.std.proofs.lemmas.List.Elements.{All-contains, All-from_recursion, recursion_from_All}
use lib.IntN.{ℤ, pos, negsuc, ◌*ℤ◌, neg_ℤ, +ℤ_idr}
use lib.Signed.{◌≤ℤ◌, ◌<ℤ◌, mag}
use Rattle.kind_num.specs.Exact.{within}
use Rattle.kind_num.proofs.Within.{within-fits}
use Rattle.kind_num.proofs.Ring.{neg_times}
use Rattle.proof_steps.specs.Meaning.{negated, negated_term}
use Rattle.proof_steps.specs.Rows.{Form, entry}
use Rattle.proof_steps.specs.Bounds.{past_limit}
use Rattle.cnf_maker.specs.Plain.{IsPlain}
use Rattle.int_simplex.specs.State.{Standing as Limit}
use Rattle.int_simplex.specs.Farkas.{turned}
use Rattle.int_simplex.proofs.Places.{listed_at}
use Rattle.line_laws.specs.Lines.{Part, IsPart, RefutedBoundsSumToNothing, meant}
use Rattle.line_laws.specs.Steps.{RefuteEachOther, HasProducts, OperationsFit, FittingStepsAreTaken, conflict_step, numbered, standing}
use Rattle.line_laws.specs.PastSteps.{number_of, factor_in, sum_in, SumFits, FittingSumsFit}
use Rattle.line_laws.proofs.Bounded.{entry-negated}
use Rattle.line_laws.proofs.FittingSums.{sums-same, rights-same}
use Rattle.line_laws.proofs.OwnLines.{one-times}
use Rattle.sat_core.specs.declared.assigned.Assigned.{Assigned}
use Rattle.smt_solver.specs.declared.numbers.meanings.Meaning.{Meaning}
use Rattle.smt_solver.specs.Asserting.{signed_bound, bounds_at, both_parts}
use Rattle.smt_solver.specs.Conflicting.{IsConflictOf}
use Rattle.smt_solver.specs.Growing.{IsTaken}
use Rattle.smt_solver.specs.Near.{IsNear}
use Rattle.smt_solver.specs.Run.{Standing}
use Rattle.smt_solver.specs.Turning.{HasMeanings}
use Rattle.smt_solver.proofs.Conflicting.{IsBoundAt, bound-in}
use Rattle.smt_solver.proofs.Refuting.{meanings-fit, meaning-of-part}

nought : within (pos 0) ≡ true
unfolding within
nought = refl

unit : within (pos 1) ≡ true
unfolding within
unit = refl

less-unit : within (negsuc 0) ≡ true
unfolding within
less-unit = refl

-- two products that fit, and their sum
pair-fits : (a b : ℤ × ℤ) → within (a.0 *ℤ a.1) ≡ true → within (b.0 *ℤ b.1) ≡ true
    → within (sum_in (a ∷ b ∷ [])) ≡ true → SumFits (a ∷ b ∷ [])
pair-fits a b p q r = record { each = each; sums = sums } where
  is : (x y : ℤ × ℤ) → Some x ≡ Some y → x ≡ y
  is x y e = cc

  each : (k : ℕ) (w : ℤ × ℤ) → slice_get (a ∷ b ∷ []) k ≡ Some w → within (w.0 *ℤ w.1) ≡ true
  each zero w e = subst (λ (y : ℤ × ℤ). within (y.0 *ℤ y.1) ≡ true) (is a w e) p
  each (suc zero) w e = subst (λ (y : ℤ × ℤ). within (y.0 *ℤ y.1) ≡ true) (is b w e) q
  each (suc (suc k)) w e = absurd cc

  sums : (k : ℕ) → within (sum_in (take k (a ∷ b ∷ []))) ≡ true
  sums zero = nought
  sums (suc zero) = subst (λ z. within z ≡ true) (sym (+ℤ_idr (a.0 *ℤ a.1))) p
  sums (suc (suc zero)) = r
  sums (suc (suc (suc k))) = r

-- ---- products by 1 or -1

turned-unit : (u : Bool) (m z : ℤ) → m ≡ pos 1 → turned u m *ℤ z ≡ turned u z
turned-unit true m z e = ap (λ y. y *ℤ z) e ∙ one-times z
turned-unit false m z e = ap (λ y. neg_ℤ y *ℤ z) e ∙ neg_times (pos 1) z ∙ ap neg_ℤ (one-times z)

both-ways : (u : Bool) (z : ℤ) → within z ≡ true → within (neg_ℤ z) ≡ true → within (turned u z) ≡ true
both-ways true z a b = a
both-ways false z a b = b

factor-fits : (ts : List (ℕ × ℤ)) (c : ℕ) (u : Bool) → ((c : ℕ) → within (pos 1 *ℤ entry ts c) ≡ true)
    → ((c : ℕ) → within (pos 1 *ℤ entry (map negated_term ts) c) ≡ true) → within (turned u (factor_in ts c)) ≡ true
factor-fits [] c u a b = both-ways u (pos 0) nought nought
factor-fits (t ∷ []) c u a b = go (t.0 == c) where
  go : (w : Bool) → within (turned u (cond w (pos 1) (pos 0))) ≡ true
  go true = both-ways u (pos 1) unit less-unit
  go false = both-ways u (pos 0) nought nought
factor-fits (t ∷ v ∷ ts) c u a b =
    both-ways u (entry (t ∷ v ∷ ts) c) (subst (λ z. within z ≡ true) (one-times (entry (t ∷ v ∷ ts) c)) (a c))
    (subst (λ z. within z ≡ true) (one-times (entry (map negated_term (t ∷ v ∷ ts)) c) ∙ entry-negated (t ∷ v ∷ ts) c) (b c))

-- ---- limits

pub record IsClose (b : Limit) : Type 0 where
  pub from : neg_ℤ (pos (2 ^ 126)) ≤ℤ turned b.upper b.limit
  pub to : turned b.upper b.limit ≤ℤ pos (2 ^ 126 + 1)

close-signed : (sign : Bool) (m : Meaning) (n : ℕ) → IsNear m → IsClose (standing n (signed_bound sign m))
close-signed sign m n h = go sign m.upper refl where
  upper-true : m.upper ≡ true → (x : ℤ) → turned m.upper x ≡ x
  upper-true e x = ap (λ w. turned w x) e

  upper-false : m.upper ≡ false → (x : ℤ) → turned m.upper x ≡ neg_ℤ x
  upper-false e x = ap (λ w. turned w x) e

  go : (sign w : Bool) → m.upper ≡ w → IsClose (standing n (signed_bound sign m))
  go true true e = record {
    from = let q = upper-true e m.limit in let a = h.above in omega (arith, ints);
    to = let q = upper-true e m.limit in let a = h.below in omega (arith, ints);
  }
  go true false e = record {
    from = let q = upper-false e m.limit in let a = h.below in omega (arith, ints);
    to = let q = upper-false e m.limit in let a = h.above in omega (arith, ints);
  }
  go false true e =
      let q = ap (λ w. turned (negated w) (past_limit w m.limit)) e in
      record {
        from = let a = h.below in omega (arith, ints);
        to = let a = h.above in omega (arith, ints);
      }
  go false false e =
      let q = ap (λ w. turned (negated w) (past_limit w m.limit)) e in
      record {
        from = let a = h.lower e in omega (arith, ints);
        to = let a = h.below in omega (arith, ints);
      }

close-bound : (trail : List Assigned) (ms : List Meaning) (b : Limit) → All IsNear ms
    → Contains (bounds_at trail 1 ms) b → IsClose b
close-bound trail ms b near i = go (bound-in trail 1 ms b i) where
  there : (xs : List Meaning) (k : ℕ) (m : Meaning) → slice_get xs k ≡ Some m → Contains xs m
  there xs k m e = listed_at xs k m e

  go : IsBoundAt trail 1 ms b → IsClose b
  go a = subst IsClose (sym a.is_bound) (close-signed a.sign a.meaning (1 + a.place)
      (All-contains IsNear ms a.meaning near (there ms a.place a.meaning a.is_meaning)))

close-within : (b : Limit) → IsClose b → within (turned b.upper b.limit) ≡ true
close-within b h = go (turned b.upper b.limit) h.from h.to where
  size : (z : ℤ) → neg_ℤ (pos (2 ^ 126)) ≤ℤ z → z ≤ℤ pos (2 ^ 126 + 1) → unsigned_abs z ≤ 2 ^ 126 + 1
  size (pos n) x y = omega (arith, ints)
  size (negsuc n) x y = omega (arith, ints)

  go : (z : ℤ) → neg_ℤ (pos (2 ^ 126)) ≤ℤ z → z ≤ℤ pos (2 ^ 126 + 1) → within z ≡ true
  go z x y = let s = size z x y in within-fits z (fits_signed_from_abs w128 z (omega arith))

sum-within : (z : ℤ) → neg_ℤ (pos (2 ^ 127)) ≤ℤ z → z <ℤ pos 0 → within z ≡ true
sum-within z a b = within-fits z record { sfits = size z a b } where
  size : (z : ℤ) → neg_ℤ (pos (2 ^ 127)) ≤ℤ z → z <ℤ pos 0 → mag z < 2 ^ 127
  size (pos n) x y = absurd (omega (arith, ints))
  size (negsuc n) x y = let q : n < 2 ^ 127 = omega (arith, ints) in q

-- ---- the two parts

module _ (sums : FittingSumsFit) (nothing : RefutedBoundsSumToNothing) (g : Form) (plain : IsPlain g) (means : All HasMeanings g.atoms) where
  fits : (first second : ℕ) (ps : List Part) → map numbered ps ≡ both_parts first second → RefuteEachOther g ps
      → AllByRecursion (λ (p : Part). IsClose p.bound) ps → OperationsFit ps
  fits first second [] e h c = absurd cc
  fits first second (p ∷ []) e h c = absurd cc
  fits first second (p ∷ q ∷ r ∷ rest) e h c = absurd cc
  fits first second (p ∷ q ∷ []) e h c =
      let a = recursion_from_All (IsPart g) (p ∷ q ∷ []) h.are_parts in
      let w = nothing g (p ∷ q ∷ []) plain h.are_parts h.on_rows in
      sums g (p ∷ q ∷ []) h
      (All-from_recursion (λ (p : Part). HasProducts (pos 1) (meant p.sign p.atom)) (p ∷ q ∷ []) (meanings-fit g means (p ∷ q ∷ []) a))
      (λ x. pair-fits (number_of p, factor_in p.atom.terms x) (number_of q, factor_in q.atom.terms x)
      (product p a.0 (one-of p q e) x) (product q a.1.0 (other-of p q e) x)
      (subst (λ z. within z ≡ true) (sym (sums-same g 2 x (p ∷ q ∷ []) a ∙ w.left x)) nought))
      (pair-fits (number_of p, p.bound.limit) (number_of q, q.bound.limit)
      (subst (λ z. within z ≡ true) (sym (turned-unit p.bound.upper p.multiplier p.bound.limit (one-of p q e))) (close-within p.bound c.0))
      (subst (λ z. within z ≡ true) (sym (turned-unit q.bound.upper q.multiplier q.bound.limit (other-of p q e))) (close-within q.bound c.1.0))
      (sum-within (sum_in ((number_of p, p.bound.limit) ∷ (number_of q, q.bound.limit) ∷ []))
      (let x = turned-unit p.bound.upper p.multiplier p.bound.limit (one-of p q e) in
      let y = turned-unit q.bound.upper q.multiplier q.bound.limit (other-of p q e) in
      let l = c.0.from in let r = c.1.0.from in omega (arith, ints))
      (subst (λ z. z <ℤ pos 0) (sym (rights-same g 2 (p ∷ q ∷ []) a ∙ w.right)) h.absurd))) where
        one-of : (p q : Part) → numbered p ∷ numbered q ∷ [] ≡ both_parts first second → p.multiplier ≡ pos 1
        one-of p q e = ap (λ (x : ℤ × ℕ). x.0) (head (numbered p) (pos 1, first) _ _ e) where
          head : (x y : ℤ × ℕ) (xs ys : List (ℤ × ℕ)) → x ∷ xs ≡ y ∷ ys → x ≡ y
          head x y xs ys e = cc

        other-of : (p q : Part) → numbered p ∷ numbered q ∷ [] ≡ both_parts first second → q.multiplier ≡ pos 1
        other-of p q e = ap (λ (x : ℤ × ℕ). x.0) (next (numbered p) (numbered q) (pos 1, first) (pos 1, second) e) where
          next : (x y v w : ℤ × ℕ) → x ∷ y ∷ [] ≡ v ∷ w ∷ [] → y ≡ w
          next x y v w e = cc

        product : (p : Part) → IsPart g p → p.multiplier ≡ pos 1 → (x : ℕ) → within (number_of p *ℤ factor_in p.atom.terms x) ≡ true
        product p i m x =
            let k = meaning-of-part g means p i in
            subst (λ z. within z ≡ true) (sym (turned-unit p.bound.upper p.multiplier (factor_in p.atom.terms x) m))
            (factor-fits p.atom.terms x p.bound.upper k.as_it_stands.coefficients k.opposite.coefficients)

  pub crossing-taken : FittingStepsAreTaken → (s : Standing) → s.form ≡ g → (ms : List Meaning) → All IsNear ms
      → (first second : ℕ) (c : IsConflictOf s ms (both_parts first second)) → IsTaken s (conflict_step c.step.parts)
  crossing-taken steps s same ms near first second c =
      let ps = c.step.parts in
      steps s.form s.search.known ps (subst IsPlain (sym same) plain) c.step.refute
      (fits first second ps c.step.same (subst (λ f. RefuteEachOther f ps) same c.step.refute)
      (all-close ps (recursion_from_All (λ (p : Part). Contains (bounds_at s.search.trail 1 ms) p.bound) ps c.step.stand))) where
        all-close : (ps : List Part) → AllByRecursion (λ (p : Part). Contains (bounds_at s.search.trail 1 ms) p.bound) ps
            → AllByRecursion (λ (p : Part). IsClose p.bound) ps
        all-close [] a = tt
        all-close (p ∷ ps) a = (close-bound s.search.trail ms p.bound near a.0, all-close ps a.1)
