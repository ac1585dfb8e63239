-- Bounds of which those of some columns are replaced by a place each.
use Rattle.std.specs.Prelude.{ℕ, ◌≡◌, ◌==◌, Bool, true, false, cond, not, List, [], ◌∷◌, map, Option, Some, None}
use Rattle.std.specs.Int.{int_max, int_min}
use Rattle.std.proofs.Common.{sym, ◌∙◌, ap, subst, arith, refl}
use Rattle.std.proofs.lemmas.Int.{ints}
use lib.Dec.{T}
use lib.IntN.{ℤ}
use lib.Signed.{◌≤ℤ◌, ◌<ℤ◌, lt_z, lt_z_yes, lt_z_no}
use Rattle.proof_steps.specs.Pivots.{lower, upper, bound_on, greatest, least}
use Rattle.bland_laws.proofs.Listed.{is-same}

pub same-some : (a b : ℤ) → Some a ≡ Some b → a ≡ b
same-some a b e = cc

-- whether a lower bound is above an upper one
abbrev pub crossed : Option ℤ → Option ℤ → Bool
crossed None up = false
crossed (Some l) None = false
crossed (Some l) (Some u) = lt_z u l

-- two bounds that cross
pub record Cross (lo up : Option ℤ) : Type 0 where
  pub low : ℤ
  pub high : ℤ
  pub is_low : lo ≡ Some low
  pub is_high : up ≡ Some high
  pub above : high <ℤ low

pub do-cross : (lo up : Option ℤ) → crossed lo up ≡ true → Cross lo up
do-cross None up e = absurd cc
do-cross (Some l) None e = absurd cc
do-cross (Some l) (Some u) e = record { low = l; high = u; is_low = refl; is_high = refl; above = lt_z_yes (subst T (sym e) tt) }

pub leave-room : (lo up : Option ℤ) → crossed lo up ≡ false → (l u : ℤ) → lo ≡ Some l → up ≡ Some u → l ≤ℤ u
leave-room None up e l u p q = absurd cc
leave-room (Some k) None e l u p q = absurd cc
leave-room (Some k) (Some h) e l u p q =
    let a : k ≡ l = same-some k l p in
    let b : h ≡ u = same-some h u q in
    let w : k ≤ℤ h = lt_z_no {a = h} {b = k} (subst (λ t. T (not t)) (sym e) tt) in
    omega (arith, ints)

-- the place in place of the limit, where the column is one of those
abbrev pub replaced : (ℕ → Bool) → (ℕ → ℤ) → ℕ × Bool × ℤ → ℕ × Bool × ℤ
replaced those places (x, side, z) = (x, side, cond (those x) (places x) z)

abbrev pub put : Bool → ℤ → Option ℤ → Option ℤ
put b w None = None
put true w (Some z) = Some w
put false w (Some z) = Some z

pub put-off : (w : ℤ) (o : Option ℤ) → put false w o ≡ o
put-off w None = refl
put-off w (Some z) = refl

greatest-put : (b : Bool) (w z : ℤ) (o : Option ℤ) → Some (greatest (cond b w z) (put b w o)) ≡ put b w (Some (greatest z o))
greatest-put true w z None = refl
greatest-put true w z (Some y) = let e : int_max w w ≡ w = grind (arith, ints) in ap (λ v. Some v) e
greatest-put false w z None = refl
greatest-put false w z (Some y) = refl

least-put : (b : Bool) (w z : ℤ) (o : Option ℤ) → Some (least (cond b w z) (put b w o)) ≡ put b w (Some (least z o))
least-put true w z None = refl
least-put true w z (Some y) = let e : int_min w w ≡ w = grind (arith, ints) in ap (λ v. Some v) e
least-put false w z None = refl
least-put false w z (Some y) = refl

pub lower-replaced : (those : ℕ → Bool) (places : ℕ → ℤ) (bounds : List (ℕ × Bool × ℤ)) (c : ℕ)
    → lower (map (replaced those places) bounds) c ≡ put (those c) (places c) (lower bounds c)
lower-replaced those places [] c = refl
lower-replaced those places ((x, true, z) ∷ rest) c = lower-replaced those places rest c
lower-replaced those places ((x, false, z) ∷ rest) c = go (x == c) (is-same x c) (lower-replaced those places rest c) where
  go : (b : Bool) → (b ≡ true → x ≡ c)
      → lower (map (replaced those places) rest) c ≡ put (those c) (places c) (lower rest c)
      → cond b (Some (greatest (cond (those x) (places x) z) (lower (map (replaced those places) rest) c)))
      (lower (map (replaced those places) rest) c)
      ≡ put (those c) (places c) (cond b (Some (greatest z (lower rest c))) (lower rest c))
  go false h i = i
  go true h i =
      ap (λ o. Some (greatest (cond (those x) (places x) z) o)) i
      ∙ ap (λ y. Some (greatest (cond (those y) (places y) z) (put (those c) (places c) (lower rest c)))) (h refl)
      ∙ greatest-put (those c) (places c) z (lower rest c)

pub upper-replaced : (those : ℕ → Bool) (places : ℕ → ℤ) (bounds : List (ℕ × Bool × ℤ)) (c : ℕ)
    → upper (map (replaced those places) bounds) c ≡ put (those c) (places c) (upper bounds c)
upper-replaced those places [] c = refl
upper-replaced those places ((x, false, z) ∷ rest) c = upper-replaced those places rest c
upper-replaced those places ((x, true, z) ∷ rest) c = go (x == c) (is-same x c) (upper-replaced those places rest c) where
  go : (b : Bool) → (b ≡ true → x ≡ c)
      → upper (map (replaced those places) rest) c ≡ put (those c) (places c) (upper rest c)
      → cond b (Some (least (cond (those x) (places x) z) (upper (map (replaced those places) rest) c)))
      (upper (map (replaced those places) rest) c)
      ≡ put (those c) (places c) (cond b (Some (least z (upper rest c))) (upper rest c))
  go false h i = i
  go true h i =
      ap (λ o. Some (least (cond (those x) (places x) z) o)) i
      ∙ ap (λ y. Some (least (cond (those y) (places y) z) (put (those c) (places c) (upper rest c)))) (h refl)
      ∙ least-put (those c) (places c) z (upper rest c)

pub bound-on-replaced : (those : ℕ → Bool) (places : ℕ → ℤ) (bounds : List (ℕ × Bool × ℤ)) (side : Bool) (c : ℕ)
    → bound_on side (map (replaced those places) bounds) c ≡ put (those c) (places c) (bound_on side bounds c)
bound-on-replaced those places bounds true c = upper-replaced those places bounds c
bound-on-replaced those places bounds false c = lower-replaced those places bounds c
