-- A bound that comes, and bounds that are taken back.
use Rattle.std.specs.Prelude.{ℕ, zero, suc, ◌≡◌, ◌⊎◌, ◌==◌, Bool, true, false, cond, List, [], ◌∷◌, ◌++◌, map, take, All, Contains, Option, Some, None}
use Rattle.std.proofs.Common.{sym, ◌∙◌, ap, subst, arith, refl, inl, inr}
use Rattle.std.proofs.lemmas.List.Elements.{All-nil, All-cons}
use Rattle.std.proofs.lemmas.Int.{ints}
use lib.IntN.{ℤ, pos, ◌+ℤ◌, ◌*ℤ◌, neg_ℤ}
use lib.Signed.{◌≤ℤ◌, ◌<ℤ◌}
use Rattle.proof_steps.specs.Meaning.{as_said}
use Rattle.proof_steps.specs.Pivots.{bound_on}
use Rattle.int_simplex.specs.State.{Standing, plain}
use Rattle.int_simplex.specs.Bounds.{tightest, crosses, is_across}
use Rattle.int_simplex.specs.Farkas.{Refutes, turned, weight}
use Rattle.int_simplex.specs.Sound.{IsUncrossed}
use Rattle.int_simplex.specs.Refuting.{literal_in}
use Rattle.int_simplex.specs.Choosing.{bare}
use Rattle.int_simplex.proofs.Places.{same_some}
use Rattle.int_simplex.proofs.Sparse.{is_same}
use Rattle.int_simplex.proofs.Tables.{tightest_stands, tightest_bare, taken, front}
use Rattle.int_simplex.proofs.Floors.{is_below, not_below}

in-front : (xs ys : List Standing) (x : Standing) → Contains xs x → Contains (xs ++ ys) x
in-front [] ys x (k, h, e) = absurd (omega arith)
in-front (y ∷ xs) ys x (zero, h, e) = (0, omega arith, e)
in-front (y ∷ xs) ys x (suc k, h, e) = let w = in-front xs ys x (k, omega arith, e) in (suc w.0, (let l = w.1 in omega arith), w.2)

at-end : (xs : List Standing) (x : Standing) → Contains (xs ++ x ∷ []) x
at-end [] x = (0, omega arith, refl)
at-end (y ∷ xs) x = let w = at-end xs x in (suc w.0, (let l = w.1 in omega arith), w.2)

pub in-either : (xs : List Standing) (y x : Standing) → Contains (xs ++ y ∷ []) x → Contains xs x ⊎ (y ≡ x)
in-either [] y x (zero, h, e) = inr e
in-either [] y x (suc k, h, e) = absurd (omega arith)
in-either (z ∷ xs) y x (zero, h, e) = inl (0, omega arith, e)
in-either (z ∷ xs) y x (suc k, h, e) = elim (in-either xs y x (k, (let l = h in omega arith), e)) [
  | inl w ↦ inl (suc w.0, (let l = w.1 in omega arith), w.2)
  | inr w ↦ inr w
]

both-one : (u : Bool) → turned (as_said u false) (pos 1) +ℤ turned u (pos 1) ≡ pos 0
both-one true = refl
both-one false = refl

weight-two : (b d : Standing) (c : ℕ) → d.column ≡ b.column → d.upper ≡ as_said b.upper false → weight (pos 1 ∷ pos 1 ∷ []) (d ∷ b ∷ []) c ≡ pos 0
weight-two b d c ec eu =
    ap (λ k. cond (k == c) (turned d.upper (pos 1) +ℤ cond (b.column == c) (turned b.upper (pos 1) +ℤ pos 0) (pos 0))
    (cond (b.column == c) (turned b.upper (pos 1) +ℤ pos 0) (pos 0))) ec
    ∙ ap (λ u. cond (b.column == c) (turned u (pos 1) +ℤ cond (b.column == c) (turned b.upper (pos 1) +ℤ pos 0) (pos 0))
    (cond (b.column == c) (turned b.upper (pos 1) +ℤ pos 0) (pos 0))) eu
    ∙ by (b.column == c) b.upper where
      by : (t u : Bool) → cond t (turned (as_said u false) (pos 1) +ℤ cond t (turned u (pos 1) +ℤ pos 0) (pos 0))
          (cond t (turned u (pos 1) +ℤ pos 0) (pos 0)) ≡ pos 0
      by true true = refl
      by true false = refl
      by false u = refl

limits-two : (u v : Bool) (z w : ℤ) → v ≡ as_said u false → is_across u z (Some (w, 0)) ≡ true →
    ((pos 1 *ℤ turned v w) +ℤ ((pos 1 *ℤ turned u z) +ℤ pos 0)) <ℤ pos 0
limits-two true true z w e h = absurd cc
limits-two true false z w e h = let l = is_below z w h in omega (arith, ints)
limits-two false true z w e h = let l = is_below w z h in omega (arith, ints)
limits-two false false z w e h = absurd cc

-- a bound that crosses the other one refutes with it
pub crossing_refutes : (given : List (List (ℕ × ℤ))) (bounds : List Standing) (b : Standing) (first : ℕ) → crosses bounds b ≡ true
    → first ≡ literal_in (tightest bounds b.column (as_said b.upper false)) → Refutes given (bounds ++ b ∷ []) ((pos 1, first) ∷ (pos 1, b.literal) ∷ [])
crossing_refutes given bounds b first h e = by (tightest bounds b.column (as_said b.upper false)) refl where
  by : (o : Option (ℤ × ℕ)) → tightest bounds b.column (as_said b.upper false) ≡ o → Refutes given (bounds ++ b ∷ []) ((pos 1, first) ∷ (pos 1, b.literal) ∷ [])
  by None q = absurd (none (sym (ap (is_across b.upper b.limit) q) ∙ h)) where
    none : is_across b.upper b.limit None ≡ true → ⊥
    none x = by-side b.upper x where
      by-side : (u : Bool) → is_across u b.limit None ≡ true → ⊥
      by-side true x = absurd cc
      by-side false x = absurd cc
  by (Some p) q =
      let s = tightest_stands bounds b.column (as_said b.upper false) p q in
      let y : is_across b.upper b.limit (Some p) ≡ true = sym (ap (is_across b.upper b.limit) q) ∙ h in
      record {
        used = s.bound ∷ b ∷ [];
        multipliers = [];
        literals = ap (λ n. n ∷ b.literal ∷ []) (s.literal ∙ sym (e ∙ ap literal_in q));
        stand = All-cons (Contains (bounds ++ b ∷ [])) s.bound (b ∷ []) (in-front bounds (b ∷ []) s.bound s.stands)
            (All-cons (Contains (bounds ++ b ∷ [])) b [] (at-end bounds b) (All-nil (Contains (bounds ++ b ∷ []))));
        not_negative = All-cons (λ (p : ℤ × ℕ). pos 0 ≤ℤ p.0) (pos 1, first) ((pos 1, b.literal) ∷ []) (omega (arith, ints))
            (All-cons (λ (p : ℤ × ℕ). pos 0 ≤ℤ p.0) (pos 1, b.literal) [] (omega (arith, ints)) (All-nil (λ (p : ℤ × ℕ). pos 0 ≤ℤ p.0)));
        cancels = λ c. weight-two b s.bound c s.column s.upper;
        absurd = let P : ℤ → Type 0 = λ z. ((pos 1 *ℤ turned s.bound.upper z) +ℤ ((pos 1 *ℤ turned b.upper b.limit) +ℤ pos 0)) <ℤ pos 0 in
            subst P (sym s.limit) (limits-two b.upper s.bound.upper b.limit p.0 s.upper (same-across b.upper b.limit p.0 p.1 y));
      } where
        same-across : (u : Bool) (z w : ℤ) (n : ℕ) → is_across u z (Some (w, n)) ≡ true → is_across u z (Some (w, 0)) ≡ true
        same-across true z w n h = h
        same-across false z w n h = h

-- no bound on a side is past the tightest one
pub tightest_all : (bounds : List Standing) (d : Standing) → Contains bounds d → (z : ℤ) ×
    (bound_on d.upper (map plain bounds) d.column ≡ Some z) × (turned d.upper z ≤ℤ turned d.upper d.limit)
tightest_all [] d (k, h, e) = absurd (omega arith)
tightest_all (b ∷ bounds) d (zero, h, e) =
    let q : b ≡ d = e in
    let f = front d.upper d.upper d.column d.column d.limit (map plain bounds) in
    let g : bound_on d.upper (plain d ∷ map plain bounds) d.column ≡ taken d.upper true d.upper d.limit (bound_on d.upper (map plain bounds) d.column) =
    f ∙ ap (λ t. taken d.upper t d.upper d.limit (bound_on d.upper (map plain bounds) d.column)) (is_same d.column) in
    let w = first-taken d.upper d.limit (bound_on d.upper (map plain bounds) d.column) in
    (w.0, ap (λ (x : Standing). bound_on d.upper (plain x ∷ map plain bounds) d.column) q ∙ g ∙ w.1, w.2)
  where
    first-taken : (u : Bool) (z : ℤ) (o : Option ℤ) → (w : ℤ) × (taken u true u z o ≡ Some w) × (turned u w ≤ℤ turned u z)
    first-taken true z None = (z, refl, omega (arith, ints))
    first-taken true z (Some y) = (Rattle.std.specs.Int.int_min z y, refl, grind (arith, ints))
    first-taken false z None = (z, refl, omega (arith, ints))
    first-taken false z (Some y) = (Rattle.std.specs.Int.int_max z y, refl, grind (arith, ints))
tightest_all (b ∷ bounds) d (suc k, h, e) =
    let r = tightest_all bounds d (k, (let l = h in omega arith), e) in
    let f = front d.upper b.upper d.column b.column b.limit (map plain bounds) in
    let w = later-taken d.upper (b.column == d.column) b.upper b.limit r.0 in
    let o = r.2 in let p = w.2 in
    (w.0, f ∙ ap (λ x. taken d.upper (b.column == d.column) b.upper b.limit x) r.1 ∙ w.1, omega (arith, ints))
  where
    later-taken : (u t v : Bool) (z y : ℤ) → (w : ℤ) × (taken u t v z (Some y) ≡ Some w) × (turned u w ≤ℤ turned u y)
    later-taken true true true z y = (Rattle.std.specs.Int.int_min z y, refl, grind (arith, ints))
    later-taken false true false z y = (Rattle.std.specs.Int.int_max z y, refl, grind (arith, ints))
    later-taken true true false z y = (y, refl, omega (arith, ints))
    later-taken false true true z y = (y, refl, omega (arith, ints))
    later-taken true false v z y = (y, refl, omega (arith, ints))
    later-taken false false v z y = (y, refl, omega (arith, ints))

-- a bound that does not cross the other one crosses none
other-side : (bounds : List Standing) (b d : Standing) → crosses bounds b ≡ false → Contains bounds d → d.column ≡ b.column → d.upper ≡ as_said b.upper false
    → (turned b.upper d.limit ≤ℤ turned b.upper b.limit)
other-side bounds b d h i ec eu =
    let w = tightest_all bounds d i in
    let q : bare (tightest bounds b.column (as_said b.upper false)) ≡ Some w.0 =
    ap (λ c. bare (tightest bounds c (as_said b.upper false))) (sym ec) ∙ ap (λ u. bare (tightest bounds d.column u)) (sym eu)
    ∙ tightest_bare bounds d.column d.upper ∙ w.1 in
    let o = w.2 in
    by b.upper d.upper b.limit d.limit w.0 (tightest bounds b.column (as_said b.upper false)) q h eu o where
      by : (u v : Bool) (z y w : ℤ) (o : Option (ℤ × ℕ)) → bare o ≡ Some w → is_across u z o ≡ false → v ≡ as_said u false
          → turned v w ≤ℤ turned v y → turned u y ≤ℤ turned u z
      by u v z y w None e h ev l = absurd cc
      by true true z y w (Some p) e h ev l = absurd cc
      by true false z y w (Some p) e h ev l = let n = not_below z p.0 h in let q : p.0 ≡ w = same_some p.0 w e in omega (arith, ints)
      by false true z y w (Some p) e h ev l = let n = not_below p.0 z h in let q : p.0 ≡ w = same_some p.0 w e in omega (arith, ints)
      by false false z y w (Some p) e h ev l = absurd cc

pub uncrossed_more : (bounds : List Standing) (b : Standing) → crosses bounds b ≡ false → IsUncrossed bounds → IsUncrossed (bounds ++ b ∷ [])
uncrossed_more bounds b h u low high il ih ec el eu = elim (in-either bounds b low il) [
  | inl jl ↦ elim (in-either bounds b high ih) [
    | inl jh ↦ u low high jl jh ec el eu
    | inr q ↦
        let x : b.upper ≡ true = ap (λ (z : Standing). z.upper) q ∙ eu in
        let o = other-side bounds b low h jl (ec ∙ sym (ap (λ (z : Standing). z.column) q)) (el ∙ sym (ap (λ v. as_said v false) x)) in
        let P : Bool → Type 0 = λ v. turned v low.limit ≤ℤ turned v b.limit in
        let l : low.limit ≤ℤ b.limit = subst P x o in
        let e : b.limit ≡ high.limit = ap (λ (z : Standing). z.limit) q in omega (arith, ints)
  ]
  | inr q ↦ elim (in-either bounds b high ih) [
    | inl jh ↦
        let x : b.upper ≡ false = ap (λ (z : Standing). z.upper) q ∙ el in
        let o = other-side bounds b high h jh (sym ec ∙ sym (ap (λ (z : Standing). z.column) q)) (eu ∙ sym (ap (λ v. as_said v false) x)) in
        let P : Bool → Type 0 = λ v. turned v high.limit ≤ℤ turned v b.limit in
        let l : neg_ℤ high.limit ≤ℤ neg_ℤ b.limit = subst P x o in
        let e : b.limit ≡ low.limit = ap (λ (z : Standing). z.limit) q in omega (arith, ints)
    | inr p ↦
        let x : low.upper ≡ true = sym (ap (λ (z : Standing). z.upper) q) ∙ ap (λ (z : Standing). z.upper) p ∙ eu in absurd (both low.upper x el)
  ]
] where
  both : (b : Bool) → b ≡ true → b ≡ false → ⊥
  both true e f = absurd cc
  both false e f = absurd cc

pub in_taken : (n : ℕ) (xs : List Standing) (x : Standing) → Contains (take n xs) x → Contains xs x
in_taken zero xs x (k, h, e) = absurd (omega arith)
in_taken (suc n) [] x (k, h, e) = absurd (omega arith)
in_taken (suc n) (y ∷ xs) x (zero, h, e) = (0, omega arith, e)
in_taken (suc n) (y ∷ xs) x (suc k, h, e) = let w = in_taken n xs x (k, (let l = h in omega arith), e) in (suc w.0, (let l = w.1 in omega arith), w.2)

pub uncrossed_taken : (n : ℕ) (bounds : List Standing) → IsUncrossed bounds → IsUncrossed (take n bounds)
uncrossed_taken n bounds u low high il ih = u low high (in_taken n bounds low il) (in_taken n bounds high ih)

pub all_taken : (n : ℕ) (P : Standing → Type 0) (bounds : List Standing) → All P bounds → All P (take n bounds)
all_taken zero P bounds a k d h = absurd (omega arith)
all_taken (suc n) P [] a k d h = absurd (omega arith)
all_taken (suc n) P (b ∷ bounds) a zero d h = a 0 d (omega arith)
all_taken (suc n) P (b ∷ bounds) a (suc k) d h = all_taken n P bounds (λ j c i. a (suc j) c (omega arith)) k d (omega arith)

pub all_more : (P : Standing → Type 0) (bounds : List Standing) (b : Standing) → All P bounds → P b → All P (bounds ++ b ∷ [])
all_more P [] b a p = All-cons P b [] p (All-nil P)
all_more P (c ∷ bounds) b a p = All-cons P c (bounds ++ b ∷ []) (a 0 c (omega arith)) (all_more P bounds b (λ j d i. a (suc j) d (omega arith)) p)
