-- With small numbers no operation over a kept row is outside 128 bits.
use Rattle.std.specs.Prelude.{ℕ, zero, suc, ◌≡◌, ◌⊎◌, ◌+◌, ◌*◌, ◌<◌, ◌≤◌, ◌^◌, Bool, true, false, List, [], ◌∷◌, ◌++◌, length, map, All, Contains, Some, slice_get, unsigned_abs}
use Rattle.std.specs.Int.{w128}
use Rattle.std.proofs.Common.{sym, subst, arith, refl, inl, inr}
use Rattle.std.proofs.lemmas.Int.{ints, unsigned_abs-mul, fits_signed_from_abs}
use Rattle.std.proofs.lemmas.List.Elements.{All-contains, All-head, All-tail, All-weaker}
use lib.IntN.{ℤ, pos, ◌+ℤ◌, ◌-ℤ◌, ◌*ℤ◌, *ℤ_comm}
use lib.Signed.{◌≤ℤ◌}
use Rattle.kind_num.specs.Exact.{within}
use Rattle.kind_num.proofs.Within.{within-fits}
use Rattle.kind_num.specs.declared.Op.{Op}
use Rattle.kind_num.specs.declared.Op.TheVariants.{Add, Sub, Mul, Div}
use Rattle.proof_steps.specs.Rows.{Form, rows_of, columns_of, AllDiffer}
use Rattle.proof_steps.specs.Bounds.{Bound, IsGiven}
use Rattle.proof_steps.specs.Splits.{IsSplit, AreSplits, AreSplitsAfter}
use Rattle.proof_steps.specs.Stopped.{Row, IsRowOf, numbers, IsSplitEnd, IsNumberOf, IsFactor, Product, IsProduct, signed, total, AreOperands, result_of}
use Rattle.cause_laws.specs.Small.{IsSmall, HasItsVariables, EachHasRange, HasSmallNumbers}
use Rattle.cause_laws.specs.Laws.{SmallNumbersStayWithin}
use Rattle.cause_laws.proofs.Summed.{summed, summed-map, summed-append, summed-same, below, summed-different, size-at, is-size, past-end, all-sizes}
use Rattle.cause_laws.proofs.Rowed.{small-numbers, numbers-sum}

there : {X : Type 0} (xs : List X) (k : ℕ) (x : X) → slice_get xs k ≡ Some x → Contains xs x
there [] k x e = absurd cc
there (y ∷ xs) zero x e = (0, omega arith, is y x e) where
  is : {X : Type 0} (y x : X) → Some y ≡ Some x → y ≡ x
  is y x e = cc
there (y ∷ xs) (suc k) x e = let i = there xs k x e in (suc i.0, (let l = i.1 in omega arith), i.2)

fits : (z : ℤ) → unsigned_abs z < 2 ^ 127 → within z ≡ true
fits z h = within-fits z (fits_signed_from_abs w128 z h)

-- ---- sums of products

abbrev weight : List Product → ℕ
weight = summed (λ (p : Product). unsigned_abs p.number)

signed-size : (b : Bool) (z : ℤ) → unsigned_abs (signed b z) ≡ unsigned_abs z
signed-size true (pos zero) = refl
signed-size true (pos (suc n)) = refl
signed-size true z = omega (arith, ints)
signed-size false z = refl

times-at-most : (m n k : ℕ) → n ≤ k → m * n ≤ m * k
times-at-most zero n k h = omega arith
times-at-most (suc m) n k h =
    let i : m * n ≤ m * k = times-at-most m n k h in
    let e : suc m * n ≡ m * n + n = grind arith in
    let f : suc m * k ≡ m * k + k = grind arith in
    omega arith

product-size : (a b : ℤ) → IsSmall b → unsigned_abs (a *ℤ b) ≤ unsigned_abs a * 2 ^ 40
product-size a b h =
    let e : unsigned_abs (a *ℤ b) ≡ unsigned_abs a * unsigned_abs b = unsigned_abs-mul a b in
    let l : unsigned_abs a * unsigned_abs b ≤ unsigned_abs a * 2 ^ 40 = times-at-most (unsigned_abs a) (unsigned_abs b) (2 ^ 40) (omega arith) in
    omega arith

sum-size : (a b : ℤ) → unsigned_abs (a +ℤ b) ≤ unsigned_abs a + unsigned_abs b
sum-size a b = omega (arith, ints)

difference-size : (a b : ℤ) → unsigned_abs (a -ℤ b) ≤ unsigned_abs a + unsigned_abs b
difference-size a b = omega (arith, ints)

total-size : (ps : List Product) → All (λ (p : Product). IsSmall p.factor) ps → unsigned_abs (total ps) ≤ weight ps * 2 ^ 40
total-size [] h = omega arith
total-size (p ∷ ps) h =
    let i : unsigned_abs (total ps) ≤ weight ps * 2 ^ 40 = total-size ps (All-tail (λ (p : Product). IsSmall p.factor) p ps h) in
    let a : unsigned_abs (p.number *ℤ p.factor) ≤ unsigned_abs p.number * 2 ^ 40 =
    product-size p.number p.factor (All-head (λ (p : Product). IsSmall p.factor) p ps h) in
    let b : unsigned_abs (signed p.negative (p.number *ℤ p.factor)) ≡ unsigned_abs (p.number *ℤ p.factor) =
    signed-size p.negative (p.number *ℤ p.factor) in
    let c : unsigned_abs (signed p.negative (p.number *ℤ p.factor) +ℤ total ps)
    ≤ unsigned_abs (signed p.negative (p.number *ℤ p.factor)) + unsigned_abs (total ps) =
    sum-size (signed p.negative (p.number *ℤ p.factor)) (total ps) in
    omega arith

-- of different numbers of a list
weight-at-most : (zs : List ℤ) (ps : List Product) → AllDiffer (map (λ (p : Product). p.place) ps)
    → All (λ (p : Product). slice_get zs p.place ≡ Some p.number) ps → weight ps ≤ summed unsigned_abs zs
weight-at-most zs ps d h =
    let a : weight ps ≡ summed (λ (p : Product). size-at zs p.place) ps =
    summed-same (λ (p : Product). unsigned_abs p.number) (λ (p : Product). size-at zs p.place) ps
    (All-weaker (λ (p : Product). slice_get zs p.place ≡ Some p.number)
    (λ (p : Product). unsigned_abs p.number ≡ size-at zs p.place) (λ p e. sym (is-size zs p.place p.number e)) ps h) in
    let b : summed (size-at zs) (map (λ (p : Product). p.place) ps) ≡ summed (λ (p : Product). size-at zs p.place) ps =
    summed-map (size-at zs) (λ (p : Product). p.place) ps in
    let c : summed (size-at zs) (map (λ (p : Product). p.place) ps) ≤ below (size-at zs) (length zs) =
    summed-different (size-at zs) (length zs) (map (λ (p : Product). p.place) ps) d (past-end zs) in
    let e : below (size-at zs) (length zs) ≡ summed unsigned_abs zs = all-sizes zs in
    omega arith

-- ---- ends of splits

split-of : (f : Form) (earlier pairs : List (ℕ × ℤ)) → AreSplitsAfter f earlier pairs → (x : ℕ) (c : ℤ) → Contains pairs (x, c)
    → (before : List (ℕ × ℤ)) × IsSplit f before x c
split-of f earlier [] h x c (k, l, e) = absurd (omega arith)
split-of f earlier ((y, d) ∷ rest) h x c (zero, l, e) =
    (earlier, subst (λ (p : ℕ × ℤ). IsSplit f earlier p.0 p.1) {x = (y, d)} {y = (x, c)} e h.0)
split-of f earlier ((y, d) ∷ rest) h x c (suc k, l, e) = split-of f (earlier ++ (y, d) ∷ []) rest h.1 x c (k, omega arith, e)

between : (l c u z : ℤ) → IsSmall l → IsSmall u → l ≤ℤ c → (c +ℤ pos 1) ≤ℤ u → ((z ≡ c) ⊎ (z -ℤ pos 1 ≡ c)) → IsSmall z
between l c u z a b p q (inl e) = omega (arith, ints)
between l c u z a b p q (inr e) = omega (arith, ints)

module _ (f : Form) (low high : ℕ → ℤ) (over : HasItsVariables f) (ranges : EachHasRange f low high) (small : HasSmallNumbers f) where
  given-small : (b : Bound) → IsGiven f b → IsSmall b.limit
  given-small b (l, c, e) = small.limits b.limit (b, (l, e), refl)

  split-small : (pairs : List (ℕ × ℤ)) → AreSplits f pairs → (x : ℕ) (c z : ℤ) → Contains pairs (x, c)
      → ((z ≡ c) ⊎ (z -ℤ pos 1 ≡ c)) → IsSmall z
  split-small pairs s x c z i e =
      let w = split-of f [] pairs s x c i in
      let r = ranges x w.1.number in
      let t = w.1.inside (low x) (high x) r in
      between (low x) c (high x) z (given-small record { column = x; upper = false; limit = low x } r.from_low)
      (given-small record { column = x; upper = true; limit = high x } r.to_high) t.0 t.1 e

  end-small : (pairs : List (ℕ × ℤ)) → AreSplits f pairs → (z : ℤ) → IsSplitEnd pairs z → IsSmall z
  end-small pairs s z (x, inl i) = split-small pairs s x z z i (inl refl)
  end-small pairs s z (x, inr i) = split-small pairs s x (z -ℤ pos 1) z i (inr refl)

  module _ (pairs : List (ℕ × ℤ)) (s : AreSplits f pairs) (rows : List Row) (are : All (IsRowOf (rows_of f) (columns_of f)) rows) where
    number-small : (k : ℕ) (r : Row) → slice_get rows k ≡ Some r → (z : ℤ) → Contains (numbers r) z → IsSmall z
    number-small k r e z i =
        All-contains IsSmall (numbers r) z
        (small-numbers f over small r (All-contains (IsRowOf (rows_of f) (columns_of f)) rows r are (there rows k r e))) i

    factor-small : (i : ℕ) (z : ℤ) → IsFactor (IsNumberOf f pairs) rows i z → IsSmall z
    factor-small i z (inl (j, r, n, e, c)) = number-small j r e z c
    factor-small i z (inr (inl c)) = small.coefficients z c
    factor-small i z (inr (inr (inl l))) = small.limits z l
    factor-small i z (inr (inr (inr e))) = end-small pairs s z e

    module _ (i : ℕ) (r : Row) (is : slice_get rows i ≡ Some r) where
      abbrev IsPart : Product → Type 0
      IsPart = IsProduct (IsNumberOf f pairs) rows i r

      product-within : (p : Product) → IsPart p → unsigned_abs (p.number *ℤ p.factor) < 2 ^ 127
      product-within p h =
          let a : IsSmall p.number = number-small i r is p.number (there (numbers r) p.place p.number h.of_row) in
          let b : unsigned_abs (p.number *ℤ p.factor) ≤ unsigned_abs p.number * 2 ^ 40 =
          product-size p.number p.factor (factor-small i p.factor h.by_factor) in
          omega arith

      sums-within : (ps qs : List Product) → All IsPart (ps ++ qs) → AllDiffer (map (λ (p : Product). p.place) (ps ++ qs))
          → unsigned_abs (total ps) + unsigned_abs (total qs) < 2 ^ 127
      sums-within ps qs h d =
          let w : weight (ps ++ qs) ≤ summed unsigned_abs (numbers r) =
          weight-at-most (numbers r) (ps ++ qs) d
          (All-weaker IsPart (λ (p : Product). slice_get (numbers r) p.place ≡ Some p.number) (λ p k. k.of_row) (ps ++ qs) h) in
          let m : summed unsigned_abs (numbers r) ≤ 2 ^ 61 =
          numbers-sum f over small r (All-contains (IsRowOf (rows_of f) (columns_of f)) rows r are (there rows i r is)) in
          let e : weight (ps ++ qs) ≡ weight ps + weight qs = summed-append (λ (p : Product). unsigned_abs p.number) ps qs in
          let g : All (λ (p : Product). IsSmall p.factor) (ps ++ qs) =
          All-weaker IsPart (λ (p : Product). IsSmall p.factor) (λ p k. factor-small i p.factor k.by_factor) (ps ++ qs) h in
          let a : unsigned_abs (total ps) ≤ weight ps * 2 ^ 40 = total-size ps (first-part ps qs g) in
          let b : unsigned_abs (total qs) ≤ weight qs * 2 ^ 40 = total-size qs (last-part ps qs g) in
          omega arith
        where
          first-part : (xs ys : List Product) → All (λ (p : Product). IsSmall p.factor) (xs ++ ys) → All (λ (p : Product). IsSmall p.factor) xs
          first-part [] ys h k p l = absurd (omega arith)
          first-part (x ∷ xs) ys h zero p l = h 0 p (omega arith)
          first-part (x ∷ xs) ys h (suc k) p l =
              first-part xs ys (All-tail (λ (p : Product). IsSmall p.factor) x (xs ++ ys) h) k p (omega arith)

          last-part : (xs ys : List Product) → All (λ (p : Product). IsSmall p.factor) (xs ++ ys) → All (λ (p : Product). IsSmall p.factor) ys
          last-part [] ys h = h
          last-part (x ∷ xs) ys h = last-part xs ys (All-tail (λ (p : Product). IsSmall p.factor) x (xs ++ ys) h)

      operands-within : (op : Op) (left right : ℤ) → AreOperands (IsNumberOf f pairs) rows i r op left right
          → within (result_of op left right) ≡ true
      operands-within Mul left right (p, h, inl (a, b)) =
          rw (a, b) (fits (p.number *ℤ p.factor) (product-within p h))
      operands-within Mul left right (p, h, inr (a, b)) =
          rw (a, b) (fits (p.factor *ℤ p.number) (subst (λ z. unsigned_abs z < 2 ^ 127) (*ℤ_comm p.number p.factor) (product-within p h)))
      operands-within Add left right (ps, qs, h, d, a, b) =
          let l = sums-within ps qs h d in
          let m = sum-size (total ps) (total qs) in
          rw (a, b) (fits (total ps +ℤ total qs) (omega arith))
      operands-within Sub left right (ps, qs, h, d, a, b) =
          let l = sums-within ps qs h d in
          let m = difference-size (total ps) (total qs) in
          rw (a, b) (fits (total ps -ℤ total qs) (omega arith))
      operands-within Div left right h = absurd h

pub small-within : SmallNumbersStayWithin
small-within f budgets low high step pairs over ranges small t =
    let h = t.1 in
    let w : within (result_of step.past.op step.past.left step.past.right) ≡ true =
    operands-within f low high over ranges small pairs t.0 h.rows h.are_rows h.place h.row h.is_row
    step.past.op step.past.left step.past.right h.operands in
    let o = h.outside in
    absurd cc
