-- What atoms mean, one after the other.
use Rattle.std.specs.Prelude.{ℕ, ◌^◌, zero, suc, ◌≡◌, ◌+◌, ◌<◌, Bool, true, false, List, [], ◌∷◌, ◌++◌, length, map, take, get_or, not, Option, Some, None, Err, All, Contains, unsigned_abs, refl}
use Rattle.std.specs.Int.{int_div_euclid}
use Rattle.std.specs.List.{AllByRecursion}
use Rattle.std.proofs.Common.{sym, ◌∙◌, ap, subst, inl, inr, arith}
use Rattle.std.proofs.lemmas.Int.{ints}
use Rattle.std.proofs.lemmas.List.{append_assoc, append-nil}
use Rattle.std.proofs.lemmas.List.Elements.{Contains-append_left, Contains-append_right, Contains-append_cases, All-contains}
use lib.IntN.{ℤ, pos, negsuc, ◌+ℤ◌, ◌*ℤ◌, neg_ℤ, *ℤ-zero}
use lib.Signed.{◌≤ℤ◌, ◌<ℤ◌}
use Rattle.kind_num.specs.Division.{IsFloor}
use Rattle.kind_num.proofs.Ring.{times_sum, sum_times, times_le}
use Rattle.int_simplex.proofs.First.{times-one}
use Rattle.line_laws.proofs.OwnLines.{one-times}
use Rattle.proof_steps.specs.View.{Inequality}
use Rattle.proof_steps.specs.Bounds.{bound_by, bounds_from}
use Rattle.int_simplex.specs.Farkas.{Refutes}
use Rattle.proof_steps.specs.declared.Literal.TheVariants.{Atom}
use Rattle.proof_steps.specs.Meaning.{as_said}
use Rattle.int_simplex.specs.State.{Standing, State}
use Rattle.int_simplex.specs.Bounds.{tightest}
use Rattle.int_simplex.specs.Answers.{IsAsserted, a_bound}
use Rattle.int_simplex.specs.Refuting.{literal_in}
use Rattle.int_simplex.specs.declared.answers.Farkas.{Farkas}
use Rattle.int_simplex.specs.declared.answers.BoundFault.{BoundFault}
use Rattle.int_simplex.specs.declared.answers.BoundFault.TheVariants.{Crosses}
use Rattle.int_simplex.proofs.Asserts.{crossing_refutes}
use Rattle.line_laws.specs.Steps.{standing}
use Rattle.sat_core.specs.Trail.{value_of}
use Rattle.sat_core.specs.declared.assigned.Assigned.{Assigned}
use Rattle.smt_solver.specs.declared.numbers.meanings.Meaning.{Meaning}
use Rattle.smt_solver.specs.Sums.{all_meant, all_divisors, divisor_in}
use Rattle.smt_solver.specs.Asserting.{signed_bound, bound_by_value, bound_at, bounds_at, both_parts, IsAssertedBy, AreAssertedBy}
use Rattle.smt_solver.specs.Near.{IsNear, IsMeasured}
use Rattle.smt_solver.proofs.Turns.{all-of}

-- the meanings are those so far and those that are to come
pub record AreMeantSo (first : ℕ) (all : List Inequality) (column : ℕ) (rest : List Inequality) (ms : List Meaning) : Type 0 where
  pub bounds : all_meant ms ++ bounds_from column rest ≡ bounds_from first all
  pub divisors : all_divisors ms ++ map divisor_in rest ≡ map divisor_in all
  pub near : All IsNear ms
  pub measured : AllByRecursion IsMeasured rest

-- ---- the bound of a term

pub upper-by : (x : ℕ) (a b : ℤ) → pos 0 <ℤ a
    → bound_by x a b ≡ Some record { column = x; upper = true; limit = int_div_euclid b a }
upper-by x (pos zero) b h = absurd (omega (arith, ints))
upper-by x (pos (suc d)) b h = refl
upper-by x (negsuc d) b h = absurd (omega (arith, ints))

pub lower-by : (x : ℕ) (a b d : ℤ) → a <ℤ pos 0 → d ≡ neg_ℤ a
    → bound_by x a b ≡ Some record { column = x; upper = false; limit = neg_ℤ (int_div_euclid b d) }
lower-by x (pos n) b d h e = absurd (omega (arith, ints))
lower-by x (negsuc n) b d h e = ap (λ z. Some record { column = x; upper = false; limit = neg_ℤ (int_div_euclid b z) }) (sym e)

pub size-above : (z : ℤ) → pos 0 <ℤ z → pos (unsigned_abs z) ≡ z
size-above (pos n) h = refl
size-above (negsuc n) h = absurd (omega (arith, ints))

pub size-below : (z : ℤ) → z <ℤ pos 0 → pos (unsigned_abs z) ≡ neg_ℤ z
size-below (pos n) h = absurd (omega (arith, ints))
size-below (negsuc n) h = refl

pub size-room : (z : ℤ) (n : ℕ) → unsigned_abs z < n → (neg_ℤ (pos n) <ℤ z) × (z <ℤ pos n)
size-room (pos k) n h = (omega (arith, ints), omega (arith, ints))
size-room (negsuc k) n h = (omega (arith, ints), omega (arith, ints))

-- ---- the bounds that stand

pub bounds-more : (trail : List Assigned) (n k : ℕ) (ms : List Meaning) (d : Meaning) → k < length ms
    → bounds_at trail n (take (suc k) ms) ≡ bounds_at trail n (take k ms) ++ bound_at trail (n + k) (get_or ms k d)
bounds-more trail n k [] d h = absurd (omega arith)
bounds-more trail n zero (m ∷ ms) d h =
    append-nil (bound_at trail n m) ∙ ap (λ i. bound_at trail i m) (same n) where
      same : (n : ℕ) → n ≡ n + 0
      same n = omega arith
bounds-more trail n (suc k) (m ∷ ms) d h =
    ap (λ bs. bound_at trail n m ++ bs) (bounds-more trail (suc n) k ms d (omega arith))
    ∙ ap (λ i. bound_at trail n m ++ (bounds_at trail (suc n) (take k ms) ++ bound_at trail i (get_or ms k d))) (next n k)
    ∙ sym (append_assoc (bound_at trail n m) (bounds_at trail (suc n) (take k ms)) (bound_at trail (n + suc k) (get_or ms k d))) where
      next : (n k : ℕ) → suc n + k ≡ n + suc k
      next n k = omega arith

pub bounds-front : (trail : List Assigned) (n k : ℕ) (ms : List Meaning) (b : Standing) → Contains (bounds_at trail n (take k ms)) b
    → Contains (bounds_at trail n ms) b
bounds-front trail n zero ms b (i, h, e) = absurd (omega arith)
bounds-front trail n (suc k) [] b (i, h, e) = absurd (omega arith)
bounds-front trail n (suc k) (m ∷ ms) b i =
    elim (Contains-append_cases (bound_at trail n m) (bounds_at trail (suc n) (take k ms)) b i) [
      | inl j ↦ Contains-append_left (bound_at trail n m) (bounds_at trail (suc n) ms) b j
      | inr j ↦ Contains-append_right (bound_at trail n m) (bounds_at trail (suc n) ms) b (bounds-front trail (suc n) k ms b j)
    ]

-- what some bounds refute, more bounds refute
pub refutes-more : (given : List (List (ℕ × ℤ))) (bounds more : List Standing) (parts : List (ℤ × ℕ))
    → ((b : Standing) → Contains bounds b → Contains more b) → Refutes given bounds parts → Refutes given more parts
refutes-more given bounds more parts f r = record {
  used = r.used;
  multipliers = r.multipliers;
  literals = r.literals;
  stand = all-of (Contains more) r.used (λ b i. f b (All-contains (Contains bounds) r.used b r.stand i));
  not_negative = r.not_negative;
  cancels = r.cancels;
  absurd = r.absurd;
}

-- a bound that crosses the tightest one of the other side refutes with it
pub crossed-as : (trail : List Assigned) (old new : State) (n : ℕ) (m : Meaning) (sign u : Bool) (z : ℤ) (f : Farkas) (x : BoundFault)
    (w : ℤ × ℕ)
    → value_of trail (Atom n true) ≡ Some sign → u ≡ (signed_bound sign m).upper → z ≡ (signed_bound sign m).limit
    → x ≡ Crosses f → IsAsserted old new (a_bound m.column u z n) (Err x) → tightest new.bounds m.column (not u) ≡ Some w
    → IsAssertedBy trail old new n m (Some w.1)
crossed-as trail old new n m sign u z f x w v e g q h t =
    let a : IsAsserted old new (a_bound m.column u z n) (Err (Crosses f)) =
    subst (λ y. IsAsserted old new (a_bound m.column u z n) (Err y)) q h in (
      a.2,
      subst (λ bs. Refutes old.given (old.bounds ++ bs) (both_parts w.1 n))
          (ap (λ b. b ∷ []) (same sign m e g) ∙ sym (ap (λ o. bound_by_value o n m) v))
          (crossing_refutes old.given old.bounds (a_bound m.column u z n) w.1 a.0
          (sym (ap literal_in (ap (λ (s : State). tightest s.bounds m.column (as_said u false)) (sym a.2)
          ∙ ap (tightest new.bounds m.column) (other u) ∙ t)))),
    ) where
      other : (u : Bool) → as_said u false ≡ not u
      other true = refl
      other false = refl

      same : (s : Bool) (m : Meaning) → u ≡ (signed_bound s m).upper → z ≡ (signed_bound s m).limit
          → a_bound m.column u z n ≡ standing n (signed_bound s m)
      same true m e g = ap (λ b. a_bound m.column b z n) e ∙ ap (λ y. a_bound m.column (signed_bound true m).upper y n) g
      same false m e g = ap (λ b. a_bound m.column b z n) e ∙ ap (λ y. a_bound m.column (signed_bound false m).upper y n) g

abbrev with_bounds : State → List Standing → State
with_bounds s bounds = record {
  given = s.given;
  columns = s.columns;
  basis = s.basis;
  values = s.values;
  bounds = bounds;
  usable = s.usable;
}

module _ (trail : List Assigned) (s t u : State) (ms : List Meaning) (k : ℕ) (d : Meaning) (l : k < length ms)
    (e : t ≡ with_bounds s (bounds_at trail 1 (take k ms))) where
  one-up : (k : ℕ) → 1 + k ≡ k + 1
  one-up k = omega arith

  up : (k : ℕ) → suc k ≡ k + 1
  up k = omega arith

  next : t.bounds ++ bound_at trail (k + 1) (get_or ms k d) ≡ bounds_at trail 1 (take (k + 1) ms)
  next =
      ap (λ (w : State). w.bounds ++ bound_at trail (k + 1) (get_or ms k d)) e
      ∙ ap (λ n. bounds_at trail 1 (take k ms) ++ bound_at trail n (get_or ms k d)) (sym (one-up k))
      ∙ sym (bounds-more trail 1 k ms d l) ∙ ap (λ n. bounds_at trail 1 (take n ms)) (up k)

  -- one more bound stands
  pub asserted-more : (o : Option ℕ) → o ≡ None → IsAssertedBy trail t u (k + 1) (get_or ms k d) o
      → u ≡ with_bounds s (bounds_at trail 1 (take (k + 1) ms))
  asserted-more None q a = a ∙ ap (λ (w : State). with_bounds w (t.bounds ++ bound_at trail (k + 1) (get_or ms k d))) e
      ∙ ap (with_bounds s) next
  asserted-more (Some x) q a = absurd cc

  -- or it crosses one that stands
  pub crossed-all : (o : Option ℕ) (first : ℕ) → o ≡ Some first → IsAssertedBy trail t u (k + 1) (get_or ms k d) o
      → AreAssertedBy trail s u ms (Some (first, k + 1))
  crossed-all None first q a = absurd cc
  crossed-all (Some x) first q a = (
    a.0 ∙ e ∙ ap (with_bounds s) (sym (ap (λ (w : State). w.bounds) (a.0 ∙ e))),
    subst (λ y. Refutes s.given (bounds_at trail 1 ms) (both_parts y (k + 1))) (is x first q)
        (refutes-more s.given (bounds_at trail 1 (take (k + 1) ms)) (bounds_at trail 1 ms) (both_parts x (k + 1))
        (bounds-front trail 1 (k + 1) ms)
        (subst (λ bs. Refutes s.given bs (both_parts x (k + 1))) next
        (subst (λ g. Refutes g (t.bounds ++ bound_at trail (k + 1) (get_or ms k d)) (both_parts x (k + 1)))
        (ap (λ (w : State). w.given) e) a.1))),
  ) where
    is : (x y : ℕ) → Some x ≡ Some y → x ≡ y
    is x y e = cc

-- ---- quotients are not larger

split-product : (k : ℕ) (q : ℤ) → pos (suc k) *ℤ q ≡ pos k *ℤ q +ℤ q
split-product k q =
    let a : (pos k +ℤ pos 1) *ℤ q ≡ pos k *ℤ q +ℤ pos 1 *ℤ q = times_sum (pos k) (pos 1) q in
    let b : pos 1 *ℤ q ≡ q = one-times q in
    let d : pos (suc k) ≡ pos k +ℤ pos 1 = omega (arith, ints) in
    let e : pos (suc k) *ℤ q ≡ (pos k +ℤ pos 1) *ℤ q = ap (λ z. z *ℤ q) d in omega (arith, ints)

quotient-room : (b d q : ℤ) → pos 0 <ℤ d → IsFloor b d q → unsigned_abs b < 2 ^ 100
    → (neg_ℤ (pos (2 ^ 100)) <ℤ q) × (q <ℤ pos (2 ^ 100))
quotient-room b (pos zero) q h f l = absurd (omega (arith, ints))
quotient-room b (negsuc k) q h f l = absurd (omega (arith, ints))
quotient-room b (pos (suc k)) (pos n) h f l =
    let a : (pos k *ℤ pos 0) ≤ℤ (pos k *ℤ pos n) = times_le k (pos 0) (pos n) (omega (arith, ints)) in
    let z : pos k *ℤ pos 0 ≡ pos 0 = *ℤ-zero (pos k) in
    let p = split-product k (pos n) in
    let m = f.at_most in let r = size-room b (2 ^ 100) l in let s = r.1 in
    (omega (arith, ints), omega (arith, ints))
quotient-room b (pos (suc k)) (negsuc n) h f l =
    let a : (pos k *ℤ (negsuc n +ℤ pos 1)) ≤ℤ (pos k *ℤ pos 0) = times_le k (negsuc n +ℤ pos 1) (pos 0) (omega (arith, ints)) in
    let z : pos k *ℤ pos 0 ≡ pos 0 = *ℤ-zero (pos k) in
    let w : pos k *ℤ (negsuc n +ℤ pos 1) ≡ pos k *ℤ negsuc n +ℤ pos k *ℤ pos 1 = sum_times (pos k) (negsuc n) (pos 1) in
    let v : pos k *ℤ pos 1 ≡ pos k = times-one (pos k) in
    let p = split-product k (negsuc n) in
    let m = f.greatest in let r = size-room b (2 ^ 100) l in let s = r.0 in
    (omega (arith, ints), omega (arith, ints))

pub near-lower : (x : ℕ) (b d q y e : ℤ) → pos 0 <ℤ d → IsFloor b d q → unsigned_abs b < 2 ^ 100 → y ≡ neg_ℤ q
    → IsNear record { column = x; upper = false; limit = y; divisor = e }
near-lower x b d q y e h f l w =
    let r = quotient-room b d q h f l in
    let low = r.0 in let high = r.1 in record {
      above = omega (arith, ints);
      below = omega (arith, ints);
      lower = λ t. omega (arith, ints);
    }
