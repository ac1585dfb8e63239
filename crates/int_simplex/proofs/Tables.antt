-- The tables of limits say what the bounds of a column are.
use Rattle.std.specs.Prelude.{ℕ, suc, ◌≡◌, ◌⊎◌, ◌==◌, ◌<◌, Bool, true, false, cond, List, [], ◌∷◌, map, Contains, Option, Some, None}
use Rattle.std.specs.List.{fold}
use Rattle.std.specs.Int.{int_max, int_min}
use Rattle.std.proofs.Common.{sym, ◌∙◌, ap, subst, arith, refl, inl, inr}
use Rattle.std.proofs.lemmas.Int.{ints}
use lib.IntN.{ℤ}
use lib.Signed.{◌≤ℤ◌, lt_z}
use Rattle.proof_steps.specs.Meaning.{as_said}
use Rattle.proof_steps.specs.Pivots.{bound_on, lower, upper, greatest, least}
use Rattle.int_simplex.specs.State.{Standing, plain}
use Rattle.int_simplex.specs.Bounds.{tightest, with_bound, tighter, is_tighter}
use Rattle.int_simplex.specs.Choosing.{bare, limit_at, limit_in, on_side}
use Rattle.int_simplex.specs.Running.{AreTables}
use Rattle.int_simplex.proofs.Sparse.{by_test, same_if}
use Rattle.int_simplex.proofs.Places.{same_some}

abbrev best : Bool → ℤ → ℤ → ℤ
best true z w = int_min z w
best false z w = int_max z w

abbrev join : Bool → Option ℤ → Option ℤ → Option ℤ
join side None o = o
join side (Some z) None = Some z
join side (Some z) (Some w) = Some (best side z w)

best-next : (side : Bool) (a b z : ℤ) → best side (best side a b) z ≡ best side a (best side b z)
best-next true a b z = grind (arith, ints)
best-next false a b z = grind (arith, ints)

join-next : (side : Bool) (a : Option ℤ) (z : ℤ) (o : Option ℤ) → join side (join side a (Some z)) o ≡ join side a (join side (Some z) o)
join-next side None z o = refl
join-next side (Some a) z None = refl
join-next side (Some a) z (Some w) = ap Some (best-next side a z w)

tighter-bare : (side : Bool) (kept : Option (ℤ × ℕ)) (b : ℤ × ℕ) → bare (tighter side kept b) ≡ join side (bare kept) (Some b.0)
tighter-bare side None b = refl
tighter-bare true (Some a) b = choose (lt_z b.0 a.0) refl where
  choose : (t : Bool) → lt_z b.0 a.0 ≡ t → bare (cond t (Some b) (Some a)) ≡ Some (int_min a.0 b.0)
  choose true e = ap Some (grind (arith, ints))
  choose false e = ap Some (grind (arith, ints))
tighter-bare false (Some a) b = choose (lt_z a.0 b.0) refl where
  choose : (t : Bool) → lt_z a.0 b.0 ≡ t → bare (cond t (Some b) (Some a)) ≡ Some (int_max a.0 b.0)
  choose true e = ap Some (grind (arith, ints))
  choose false e = ap Some (grind (arith, ints))

none-after : (side : Bool) (o : Option ℤ) → join side o None ≡ o
none-after side None = refl
none-after side (Some z) = refl

upper-on : (z : ℤ) (o : Option ℤ) → Some (least z o) ≡ join true (Some z) o
upper-on z None = refl
upper-on z (Some w) = refl

lower-on : (z : ℤ) (o : Option ℤ) → Some (greatest z o) ≡ join false (Some z) o
lower-on z None = refl
lower-on z (Some w) = refl

-- one more bound, whatever its side and column
abbrev pub taken : Bool → Bool → Bool → ℤ → Option ℤ → Option ℤ
taken side t u z o = cond t (cond (as_said side u) (join side (Some z) o) o) o

same-both : (t : Bool) (o : Option ℤ) → o ≡ cond t o o
same-both true o = refl
same-both false o = refl

pub front : (side u : Bool) (c x : ℕ) (z : ℤ) (rest : List (ℕ × Bool × ℤ)) → bound_on side ((x, u, z) ∷ rest) c ≡ taken side (x == c) u z (bound_on side rest c)
front true true c x z rest = ap (λ o. cond (x == c) o (upper rest c)) (upper-on z (upper rest c))
front true false c x z rest = same-both (x == c) (upper rest c)
front false true c x z rest = same-both (x == c) (lower rest c)
front false false c x z rest = ap (λ o. cond (x == c) o (lower rest c)) (lower-on z (lower rest c))

kept-bare : (side t u : Bool) (acc : Option (ℤ × ℕ)) (z : ℤ) (n : ℕ) (o : Option ℤ)
    → join side (bare (cond t (cond (as_said side u) (tighter side acc (z, n)) acc) acc)) o ≡ join side (bare acc) (taken side t u z o)
kept-bare true true true acc z n o = ap (λ w. join true w o) (tighter-bare true acc (z, n)) ∙ join-next true (bare acc) z o
kept-bare false true false acc z n o = ap (λ w. join false w o) (tighter-bare false acc (z, n)) ∙ join-next false (bare acc) z o
kept-bare true true false acc z n o = refl
kept-bare false true true acc z n o = refl
kept-bare side false u acc z n o = refl

along : (side : Bool) (c : ℕ) (bounds : List Standing) (acc : Option (ℤ × ℕ))
    → bare (fold (with_bound c side) acc bounds) ≡ join side (bare acc) (bound_on side (map plain bounds) c)
along true c [] acc = sym (none-after true (bare acc))
along false c [] acc = sym (none-after false (bare acc))
along side c (b ∷ rest) acc =
    along side c rest (with_bound c side acc b)
    ∙ kept-bare side (b.column == c) b.upper acc b.limit b.literal (bound_on side (map plain rest) c)
    ∙ ap (λ o. join side (bare acc) o) (sym (front side b.upper c b.column b.limit (map plain rest)))

-- without its literal the tightest limit is the bound
pub tightest_bare : (bounds : List Standing) (c : ℕ) (side : Bool) → bare (tightest bounds c side) ≡ bound_on side (map plain bounds) c
tightest_bare bounds c side = along side c bounds None

-- the tightest limit is that of a bound that stands
pub record IsStanding (bounds : List Standing) (c : ℕ) (side : Bool) (p : ℤ × ℕ) : Type 0 where
  pub bound : Standing
  pub stands : Contains bounds bound
  pub column : bound.column ≡ c
  pub upper : bound.upper ≡ side
  pub limit : bound.limit ≡ p.0
  pub literal : bound.literal ≡ p.1

later : (bounds : List Standing) (b : Standing) (c : ℕ) (side : Bool) (p : ℤ × ℕ) → IsStanding bounds c side p → IsStanding (b ∷ bounds) c side p
later bounds b c side p s = record {
  bound = s.bound;
  stands = (suc s.stands.0, (let h = s.stands.1 in omega arith), s.stands.2);
  column = s.column;
  upper = s.upper;
  limit = s.limit;
  literal = s.literal;
}

said : (side u : Bool) → as_said side u ≡ true → u ≡ side
said true true e = refl
said true false e = absurd cc
said false true e = absurd cc
said false false e = refl

from-tighter : (side : Bool) (acc : Option (ℤ × ℕ)) (b p : ℤ × ℕ) → tighter side acc b ≡ Some p → (acc ≡ Some p) ⊎ (b ≡ p)
from-tighter side None b p e = inr (same_some b p e)
from-tighter side (Some a) b p e = by (is_tighter side b.0 a.0) e where
  by : (t : Bool) → cond t (Some b) (Some a) ≡ Some p → (Some a ≡ Some p) ⊎ (b ≡ p)
  by true e = inr (same_some b p e)
  by false e = inl e

from-one : (c : ℕ) (side : Bool) (acc : Option (ℤ × ℕ)) (b : Standing) (p : ℤ × ℕ) → with_bound c side acc b ≡ Some p
    → (acc ≡ Some p) ⊎ ((b.column ≡ c) × (b.upper ≡ side) × (b.limit ≡ p.0) × (b.literal ≡ p.1))
from-one c side acc b p e = elim (by_test (b.column == c)) [
  | inl t ↦ elim (by_test (as_said side b.upper)) [
    | inl u ↦ elim (from-tighter side acc (b.limit, b.literal) p
        (sym (ap (λ w. cond w (cond (as_said side b.upper) (tighter side acc (b.limit, b.literal)) acc) acc) t
        ∙ ap (λ w. cond w (tighter side acc (b.limit, b.literal)) acc) u) ∙ e)) [
          | inl q ↦ inl q
          | inr q ↦ inr (same_if b.column c t, said side b.upper u, ap (λ (w : ℤ × ℕ). w.0) q, ap (λ (w : ℤ × ℕ). w.1) q)
        ]
    | inr u ↦ inl (sym (ap (λ w. cond w (cond (as_said side b.upper) (tighter side acc (b.limit, b.literal)) acc) acc) t
        ∙ ap (λ w. cond w (tighter side acc (b.limit, b.literal)) acc) u) ∙ e)
  ]
  | inr t ↦ inl (sym (ap (λ w. cond w (cond (as_said side b.upper) (tighter side acc (b.limit, b.literal)) acc) acc) t) ∙ e)
]

from-fold : (c : ℕ) (side : Bool) (bounds : List Standing) (acc : Option (ℤ × ℕ)) (p : ℤ × ℕ) → fold (with_bound c side) acc bounds ≡ Some p
    → (acc ≡ Some p) ⊎ IsStanding bounds c side p
from-fold c side [] acc p e = inl e
from-fold c side (b ∷ rest) acc p e = elim (from-fold c side rest (with_bound c side acc b) p e) [
  | inl q ↦ elim (from-one c side acc b p q) [
    | inl r ↦ inl r
    | inr r ↦ inr record { bound = b; stands = (0, omega arith, refl); column = r.0; upper = r.1; limit = r.2; literal = r.3 }
  ]
  | inr s ↦ inr (later rest b c side p s)
]

pub tightest_stands : (bounds : List Standing) (c : ℕ) (side : Bool) (p : ℤ × ℕ) → tightest bounds c side ≡ Some p → IsStanding bounds c side p
tightest_stands bounds c side p e = elim (from-fold c side bounds None p e) [ inl q ↦ absurd (none q) | inr s ↦ s ] where
  none : None ≡ Some p → ⊥
  none q = absurd cc

pub bare-some : (o : Option (ℤ × ℕ)) (z : ℤ) → bare o ≡ Some z → (n : ℕ) × (o ≡ Some (z, n))
bare-some None z e = absurd cc
bare-some (Some (w, n)) z e = (n, ap (λ (v : ℤ). Some (v, n)) (same_some w z e))

module _ (columns : ℕ) (bounds : List Standing) (lowers uppers : List (Option (ℤ × ℕ))) (a : AreTables columns bounds lowers uppers) where
  pub table_is : (side : Bool) (c : ℕ) → c < columns → on_side side (limit_at lowers c) (limit_at uppers c) ≡ tightest bounds c side
  table_is true c h = ap limit_in (a.highs.each c h)
  table_is false c h = ap limit_in (a.lows.each c h)

  -- the tables' limits are the bounds
  pub table_bound : (side : Bool) (c : ℕ) → c < columns → bare (on_side side (limit_at lowers c) (limit_at uppers c)) ≡ bound_on side (map plain bounds) c
  table_bound side c h = ap bare (table_is side c h) ∙ tightest_bare bounds c side

  -- a bound is one that stands
  pub bound_stands : (side : Bool) (c : ℕ) (z : ℤ) → bound_on side (map plain bounds) c ≡ Some z → (n : ℕ) × IsStanding bounds c side (z, n)
  bound_stands side c z e =
      let w = bare-some (tightest bounds c side) z (tightest_bare bounds c side ∙ e) in (w.0, tightest_stands bounds c side (z, w.0) w.1)

  pub bounds_order : (x : ℕ) (l u : ℤ) → lower (map plain bounds) x ≡ Some l → upper (map plain bounds) x ≡ Some u → l ≤ℤ u
  bounds_order x l u el eu =
      let b = (bound_stands false x l el).1 in let d = (bound_stands true x u eu).1 in
      let h = a.uncrossed b.bound d.bound b.stands d.stands (b.column ∙ sym d.column) b.upper d.upper in
      let P : ℤ → Type 0 = λ z. z ≤ℤ u in let Q : ℤ → Type 0 = λ z. b.bound.limit ≤ℤ z in
      subst P b.limit (subst Q d.limit h)
