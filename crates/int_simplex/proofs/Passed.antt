-- By what the rows of a check are multiplied: limits, and where columns stand as it begins.
use Rattle.std.specs.Prelude.{ℕ, zero, suc, ◌≡◌, ◌≢◌, ◌⊎◌, ◌<◌, ◌≤◌, ◌+◌, Bool, true, false, cond, List, [], ◌∷◌, Contains, Option, Some, None, slice_get}
use Rattle.std.proofs.Common.{sym, ◌∙◌, ap, subst, arith, refl, inl, inr, get_or}
use Rattle.std.proofs.lemmas.Option.{slice_get-get_or}
use lib.IntN.{ℤ, pos, negsuc}
use Rattle.kind_num.specs.declared.Op.{Op}
use Rattle.kind_num.specs.declared.Op.TheVariants.{Add, Sub, Mul, Div}
use Rattle.proof_steps.specs.Pivots.{raised, lowered}
use Rattle.proof_steps.specs.Stopped.{IsPastStep, IsFactor, IsProduct, AreOperands, Row, Product}
use Rattle.proof_steps.specs.StopView.{past_view, Operation}
use Rattle.proof_steps.specs.declared.stops.PastStep.{PastStep}
use Rattle.int_simplex.specs.State.{Standing, State, is_in, top_of}
use Rattle.int_simplex.specs.Sound.{IsSound}
use Rattle.int_simplex.specs.Answers.{IsNumberOf}
use Rattle.int_simplex.specs.Choosing.{bare, limit_at, limit_in, on_side}
use Rattle.int_simplex.specs.Valued.{place_at, place_of}
use Rattle.int_simplex.specs.Running.{AreTables, AreFirst, ArePlacesOf, AreLimitsOf, IsStopped, start_place}
use Rattle.int_simplex.specs.declared.trouble.Stopped.TheVariants as p
use Rattle.int_simplex.proofs.Sparse.{by_test}
use Rattle.int_simplex.proofs.Starts.{in_no}
use Rattle.int_simplex.proofs.Tables.{table_bound, bound_stands}
use Rattle.int_simplex.proofs.Ends.{raised_cases, lowered_cases}
use Rattle.int_simplex.proofs.Checks.{past_end}
use Rattle.int_simplex.proofs.Checked.{pair_with}

-- a stop whose factors are some numbers is one whose factors are all of which those are
module _ (P Q : ℤ → Type 0) (f : (z : ℤ) → P z → Q z) (rows : List Row) (i : ℕ) (r : Row) where
  factor-by : (z : ℤ) → IsFactor P rows i z → IsFactor Q rows i z
  factor-by z (inl h) = inl h
  factor-by z (inr h) = inr (f z h)

  product-by : (x : Product) → IsProduct P rows i r x → IsProduct Q rows i r x
  product-by x h = record { of_row = h.of_row; by_factor = factor-by x.factor h.by_factor }

  operands-by : (op : Op) (x y : ℤ) → AreOperands P rows i r op x y → AreOperands Q rows i r op x y
  operands-by Mul x y (a, h, e) = (a, product-by a h, e)
  operands-by Add x y (a, b, h, d, e, g) = (a, b, (λ k z l. product-by _ (h k z l)), d, e, g)
  operands-by Sub x y (a, b, h, d, e, g) = (a, b, (λ k z l. product-by _ (h k z l)), d, e, g)
  operands-by Div x y h = h

pub step_by : (P Q : ℤ → Type 0) → ((z : ℤ) → P z → Q z) → (given : List (List (ℕ × ℤ))) (columns : ℕ) (step : Operation)
    → IsPastStep given columns P step → IsPastStep given columns Q step
step_by P Q f given columns step h = record {
  rows = h.rows;
  kept = h.kept;
  are_rows = h.are_rows;
  place = h.place;
  row = h.row;
  is_row = h.is_row;
  operands = operands-by P Q f h.rows h.place h.row step.past.op step.past.left step.past.right h.operands;
  outside = h.outside;
}

abbrev with-number : ℤ → List ℤ → List ℤ
with-number (pos zero) rest = rest
with-number (pos (suc n)) rest = pos (suc n) ∷ rest
with-number (negsuc n) rest = negsuc n ∷ rest

-- the places of the columns outside the basis, but for 0
abbrev tops-from : ℕ → List (ℤ × ℤ) → List ℕ → List ℤ
tops-from n [] basis = []
tops-from n (v ∷ values) basis = cond (is_in basis n) (tops-from (suc n) values basis) (with-number v.0 (tops-from (suc n) values basis))

-- the limits of the bounds, and what follows
abbrev limits-then : List Standing → List ℤ → List ℤ
limits-then [] rest = rest
limits-then (b ∷ bounds) rest = b.limit ∷ limits-then bounds rest

one-later : (x : ℤ) (xs : List ℤ) (z : ℤ) → Contains xs z → Contains (x ∷ xs) z
one-later x xs z (k, h, e) = (suc k, (let l = h in omega arith), e)

at-front : (x : ℤ) (xs : List ℤ) → Contains (x ∷ xs) x
at-front x xs = (0, omega arith, refl)

front-or : (x : ℤ) (xs : List ℤ) (z : ℤ) → Contains (x ∷ xs) z → (x ≡ z) ⊎ Contains xs z
front-or x xs z (zero, h, e) = inl e
front-or x xs z (suc k, h, e) = inr (k, (let l = h in omega arith), e)

number-old : (x : ℤ) (xs : List ℤ) (z : ℤ) → Contains xs z → Contains (with-number x xs) z
number-old (pos zero) xs z h = h
number-old (pos (suc n)) xs z h = one-later (pos (suc n)) xs z h
number-old (negsuc n) xs z h = one-later (negsuc n) xs z h

number-new : (x : ℤ) (xs : List ℤ) → x ≢ pos 0 → Contains (with-number x xs) x
number-new (pos zero) xs h = absurd (h refl)
number-new (pos (suc n)) xs h = at-front (pos (suc n)) xs
number-new (negsuc n) xs h = at-front (negsuc n) xs

number-or : (x : ℤ) (xs : List ℤ) (z : ℤ) → Contains (with-number x xs) z → ((x ≡ z) × (z ≢ pos 0)) ⊎ Contains xs z
number-or (pos zero) xs z h = inr h
number-or (pos (suc n)) xs z h = elim (front-or (pos (suc n)) xs z h) [
  | inl e ↦ inl (e, λ q. absurd (no (e ∙ q)))
  | inr w ↦ inr w
] where
  no : pos (suc n) ≡ pos 0 → ⊥
  no e = absurd cc
number-or (negsuc n) xs z h = elim (front-or (negsuc n) xs z h) [
  | inl e ↦ inl (e, λ q. absurd (no (e ∙ q)))
  | inr w ↦ inr w
] where
  no : negsuc n ≡ pos 0 → ⊥
  no e = absurd cc

top-listed : (n k : ℕ) (values : List (ℤ × ℤ)) (basis : List ℕ) (v : ℤ × ℤ) → slice_get values k ≡ Some v → is_in basis (n + k) ≡ false → v.0 ≢ pos 0
    → Contains (tops-from n values basis) v.0
top-listed n k [] basis v e o h = absurd (none e) where
  none : slice_get {X = ℤ × ℤ} [] k ≡ Some v → ⊥
  none e = absurd cc
top-listed n zero (u ∷ values) basis v e o h =
    let q : u ≡ v = of-some u v e in
    let m : n + 0 ≡ n = omega arith in
    let t : is_in basis n ≡ false = ap (is_in basis) (sym m) ∙ o in
    let P : Bool → Type 0 = λ b. Contains (cond b (tops-from (suc n) values basis) (with-number u.0 (tops-from (suc n) values basis))) v.0 in
    let Q : ℤ × ℤ → Type 0 = λ w. Contains (with-number w.0 (tops-from (suc n) values basis)) v.0 in
    subst P (sym t) (subst Q (sym q) (number-new v.0 (tops-from (suc n) values basis) h)) where
      of-some : (u v : ℤ × ℤ) → Some u ≡ Some v → u ≡ v
      of-some u v e = cc
top-listed n (suc k) (u ∷ values) basis v e o h =
    let m : n + suc k ≡ suc n + k = omega arith in
    let r = top-listed (suc n) k values basis v e (ap (is_in basis) (sym m) ∙ o) h in
    either (is_in basis n) r where
      either : (b : Bool) → Contains (tops-from (suc n) values basis) v.0
          → Contains (cond b (tops-from (suc n) values basis) (with-number u.0 (tops-from (suc n) values basis))) v.0
      either true r = r
      either false r = number-old u.0 (tops-from (suc n) values basis) v.0 r

-- a column outside the basis that stands there
record IsTop (n : ℕ) (values : List (ℤ × ℤ)) (basis : List ℕ) (z : ℤ) : Type 0 where
  place : ℕ
  value : ℤ × ℤ
  stands : slice_get values place ≡ Some value
  outside : is_in basis (n + place) ≡ false
  top : value.0 ≡ z
  not_zero : z ≢ pos 0

top-later : (n : ℕ) (u : ℤ × ℤ) (values : List (ℤ × ℤ)) (basis : List ℕ) (z : ℤ) → IsTop (suc n) values basis z → IsTop n (u ∷ values) basis z
top-later n u values basis z t = record {
  place = suc t.place;
  value = t.value;
  stands = t.stands;
  outside = let m : n + suc t.place ≡ suc n + t.place = omega arith in ap (is_in basis) m ∙ t.outside;
  top = t.top;
  not_zero = t.not_zero;
}

top-of : (n : ℕ) (values : List (ℤ × ℤ)) (basis : List ℕ) (z : ℤ) → Contains (tops-from n values basis) z → IsTop n values basis z
top-of n [] basis z (k, h, e) = absurd (omega arith)
top-of n (u ∷ values) basis z h = either (is_in basis n) (top-of (suc n) values basis z) refl h where
  either : (b : Bool) → (Contains (tops-from (suc n) values basis) z → IsTop (suc n) values basis z) → is_in basis n ≡ b
      → Contains (cond b (tops-from (suc n) values basis) (with-number u.0 (tops-from (suc n) values basis))) z → IsTop n (u ∷ values) basis z
  either true r t h = top-later n u values basis z (r h)
  either false r t h = elim (number-or u.0 (tops-from (suc n) values basis) z h) [
    | inr w ↦ top-later n u values basis z (r w)
    | inl (e, d) ↦ record {
      place = 0;
      value = u;
      stands = refl;
      outside = let m : n + 0 ≡ n = omega arith in ap (is_in basis) m ∙ t;
      top = e;
      not_zero = d;
    }
  ]

limit-listed : (bounds : List Standing) (rest : List ℤ) (b : Standing) → Contains bounds b → Contains (limits-then bounds rest) b.limit
limit-listed [] rest b (k, h, e) = absurd (omega arith)
limit-listed (d ∷ bounds) rest b (zero, h, e) = (0, omega arith, ap (λ (x : Standing). x.limit) (first d b e)) where
  first : (d b : Standing) → d ≡ b → d ≡ b
  first d b e = e
limit-listed (d ∷ bounds) rest b (suc k, h, e) = one-later d.limit (limits-then bounds rest) b.limit
    (limit-listed bounds rest b (k, (let l = h in omega arith), e))

rest-listed : (bounds : List Standing) (rest : List ℤ) (z : ℤ) → Contains rest z → Contains (limits-then bounds rest) z
rest-listed [] rest z h = h
rest-listed (b ∷ bounds) rest z h = one-later b.limit (limits-then bounds rest) z (rest-listed bounds rest z h)

limit-or : (bounds : List Standing) (rest : List ℤ) (z : ℤ) → Contains (limits-then bounds rest) z
    → ((b : Standing) × Contains bounds b × (b.limit ≡ z)) ⊎ Contains rest z
limit-or [] rest z h = inr h
limit-or (b ∷ bounds) rest z h = elim (front-or b.limit (limits-then bounds rest) z h) [
  | inl e ↦ inl (b, (0, omega arith, refl), e)
  | inr w ↦ elim (limit-or bounds rest z w) [
    | inl (d, (k, l, q), e) ↦ inl (d, (suc k, omega arith, q), e)
    | inr v ↦ inr v
  ]
]

less-or : (c n : ℕ) → (c < n) ⊎ (n ≤ c)
less-or c n = grind arith

no-limit : (side : Bool) → bare (on_side side None None) ≡ None
no-limit true = refl
no-limit false = refl

module _ (s : State) (first : List ℤ) (lowers uppers : List (Option (ℤ × ℕ))) (sound : IsSound s) (tables : AreTables s.columns s.bounds lowers uppers)
    (f : AreFirst s.basis s.values lowers uppers first) where
  abbrev numbers : List ℤ
  numbers = limits-then s.bounds (tops-from 0 s.values s.basis)

  are-numbers : (z : ℤ) → Contains numbers z → IsNumberOf s z
  are-numbers z h = elim (limit-or s.bounds (tops-from 0 s.values s.basis) z h) [
    | inl w ↦ inl w
    | inr w ↦
        let t = top-of 0 s.values s.basis z w in
        let m : 0 + t.place ≡ t.place = omega arith in
        let n = in_no s.basis t.place (ap (is_in s.basis) (sym m) ∙ t.outside) in
        inr (t.not_zero, t.place, n, t.stands ∙ ap Some (pair_with t.value z t.top (sound.outside t.place t.value n t.stands)))
  ]

  are-limits : (side : Bool) (c : ℕ) (z : ℤ) → bare (on_side side (limit_at lowers c) (limit_at uppers c)) ≡ Some z → Contains numbers z
  are-limits side c z e = elim (less-or c s.columns) [
    | inl h ↦
        let b = (bound_stands s.columns s.bounds lowers uppers tables side c z (sym (table_bound s.columns s.bounds lowers uppers tables side c h) ∙ e)).1 in
        let P : ℤ → Type 0 = λ x. Contains numbers x in
        subst P b.limit (limit-listed s.bounds (tops-from 0 s.values s.basis) b.bound b.stands)
    | inr h ↦
        let l = tables.lows.count in let u = tables.highs.count in
        let x : limit_at lowers c ≡ None = ap limit_in (past_end lowers c (omega arith)) in
        let y : limit_at uppers c ≡ None = ap limit_in (past_end uppers c (omega arith)) in
        absurd (none z (sym (ap (λ o. bare (on_side side o (limit_at uppers c))) x ∙ ap (λ o. bare (on_side side None o)) y ∙ no-limit side) ∙ e))
  ] where
    none : (z : ℤ) → None ≡ Some z → ⊥
    none z e = absurd cc

  start-in : (c : ℕ) → c < s.columns → start_place s.basis s.values c ≢ pos 0 → Contains numbers (start_place s.basis s.values c)
  start-in c h n = elim (by_test (is_in s.basis c)) [
    | inl t ↦ absurd (n (ap (λ b. cond b (pos 0) (top_of (slice_get s.values c))) t))
    | inr t ↦
        let k = sound.count in
        let g : slice_get s.values c ≡ Some (get_or s.values c (pos 0, pos 1)) = slice_get-get_or s.values c (pos 0, pos 1) (omega arith) in
        let q : start_place s.basis s.values c ≡ (get_or s.values c (pos 0, pos 1)).0 =
        ap (λ b. cond b (pos 0) (top_of (slice_get s.values c))) t ∙ ap top_of g in
        let m : 0 + c ≡ c = omega arith in
        let P : ℤ → Type 0 = λ x. Contains numbers x in
        subst P (sym q) (rest-listed s.bounds (tops-from 0 s.values s.basis) (get_or s.values c (pos 0, pos 1)).0
        (top-listed 0 c s.values s.basis (get_or s.values c (pos 0, pos 1)) g (ap (is_in s.basis) m ∙ t) (λ e. n (q ∙ e))))
  ]

  abbrev up : ℕ → ℤ
  up c = raised (bare (limit_at lowers c)) (start_place s.basis s.values c)

  raised-in : (c : ℕ) → c < s.columns → up c ≢ pos 0 → Contains numbers (up c)
  raised-in c h n = elim (raised_cases (bare (limit_at lowers c)) (start_place s.basis s.values c)) [
    | inr e ↦ are-limits false c (up c) e
    | inl e ↦ let P : ℤ → Type 0 = λ x. Contains numbers x in subst P (sym e) (start-in c h (λ z. n (e ∙ z)))
  ]

  moved-in : (c : ℕ) → c < s.columns → lowered (bare (limit_at uppers c)) (up c) ≢ pos 0 → Contains numbers (lowered (bare (limit_at uppers c)) (up c))
  moved-in c h n = elim (lowered_cases (bare (limit_at uppers c)) (up c)) [
    | inr e ↦ are-limits true c (lowered (bare (limit_at uppers c)) (up c)) e
    | inl e ↦ let P : ℤ → Type 0 = λ x. Contains numbers x in subst P (sym e) (raised-in c h (λ z. n (e ∙ z)))
  ]

  are-places : (c : ℕ) → place_at first c ≢ pos 0 → Contains numbers (place_at first c)
  are-places c n =
      let k = sound.count in let l = f.count in
      elim (less-or c s.columns) [
        | inl h ↦
            let q = f.each c (omega arith) in
            let P : ℤ → Type 0 = λ x. Contains numbers x in
            subst P (sym q) (moved-in c h (λ e. n (q ∙ e)))
        | inr h ↦ absurd (n (ap place_of (past_end first c (omega arith))))
      ]

-- what stops a check has numbers of the tableau for factors
pub past_from : (s : State) (given : List (List (ℕ × ℤ))) (columns : ℕ) (first : List ℤ) (lowers lowers1 uppers uppers1 : List (Option (ℤ × ℕ))) → IsSound s
    → AreTables s.columns s.bounds lowers uppers → AreFirst s.basis s.values lowers uppers first → given ≡ s.given → columns ≡ s.columns
    → lowers1 ≡ lowers → uppers1 ≡ uppers
    → (step : PastStep) → ((ns : List ℤ) → ArePlacesOf ns first → AreLimitsOf ns lowers1 uppers1 → IsStopped given columns ns (p.Past step))
    → IsPastStep s.given s.columns (IsNumberOf s) (past_view step)
past_from s given columns first lowers lowers1 uppers uppers1 sound tables f eg ec el eu step h =
    let ns : List ℤ = limits-then s.bounds (tops-from 0 s.values s.basis) in
    let A : List (List (ℕ × ℤ)) → Type 0 = λ x. IsPastStep x columns (Contains (limits-then s.bounds (tops-from 0 s.values s.basis))) (past_view step) in
    let B : ℕ → Type 0 = λ x. IsPastStep s.given x (Contains (limits-then s.bounds (tops-from 0 s.values s.basis))) (past_view step) in
    let L : List (Option (ℤ × ℕ)) → Type 0 = λ x. AreLimitsOf (limits-then s.bounds (tops-from 0 s.values s.basis)) x uppers in
    let U : List (Option (ℤ × ℕ)) → Type 0 = λ x. AreLimitsOf (limits-then s.bounds (tops-from 0 s.values s.basis)) lowers1 x in
    step_by (Contains (limits-then s.bounds (tops-from 0 s.values s.basis))) (IsNumberOf s)
    (are-numbers s first lowers uppers sound tables f) s.given s.columns (past_view step)
    (subst B ec (subst A eg (h (limits-then s.bounds (tops-from 0 s.values s.basis)) (are-places s first lowers uppers sound tables f)
    (subst U (sym eu) (subst L (sym el) (are-limits s first lowers uppers sound tables f))))))
