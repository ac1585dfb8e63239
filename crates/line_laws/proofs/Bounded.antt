-- What literals mean, times multipliers, sums to what their bounds sum to, own columns put in.
use Rattle.std.specs.Prelude.{ℕ, zero, suc, ◌≡◌, ◌≢◌, ◌⊎◌, ◌==◌, ◌+◌, ◌<◌, ◌≤◌, Bool, true, false, cond, List, [], ◌∷◌, map, Some, slice_get, refl}
use Rattle.std.proofs.Common.{sym, ◌∙◌, ap, subst, arith, inl, inr}
use Rattle.std.proofs.lemmas.Int.{ints}
use lib.IntN.{ℤ, pos, negsuc, ◌+ℤ◌, ◌-ℤ◌, ◌*ℤ◌, neg_ℤ, *ℤ-zero, zero-*ℤ, *ℤ-one, +ℤ_idl}
use Rattle.kind_num.proofs.Ring.{neg_times, times_neg}
use Rattle.proof_steps.specs.View.{Inequality}
use Rattle.proof_steps.specs.Meaning.{negated_term}
use Rattle.proof_steps.specs.Rows.{is_long, entry}
use Rattle.proof_steps.specs.Bounds.{Bound, bound_of_sum, bound_by, bounds_from, bound_if}
use Rattle.int_simplex.specs.Farkas.{turned}
use Rattle.line_laws.specs.Lines.{said, divided_by}
use Rattle.line_laws.proofs.Substituted.{AreBelow, AtomsBelow, put_in, put_in_same, no-multipliers, other, same}

-- t in the column x, and nothing else
abbrev pub only : ℕ → ℤ → ℕ → ℤ
only x t k = cond (x == k) t (pos 0)

only-here : (x k : ℕ) (t : ℤ) → x ≡ k → only x t k ≡ t
only-here x k t e = ap (λ b. cond b t (pos 0)) (same x k e)

only-there : (x k : ℕ) (t : ℤ) → x ≢ k → only x t k ≡ pos 0
only-there x k t e = ap (λ b. cond b t (pos 0)) (other x k e)

put-nothing : (c m : ℕ) (atoms : List Inequality) (x : ℕ) (t : ℤ) → x < m → put_in c m atoms (only x t) ≡ pos 0
put-nothing c m atoms x t h =
    put_in_same c m atoms (only x t) (λ k. pos 0) (λ k l. only-there x k t (λ e. omega arith))
    ∙ no-multipliers c m atoms

some-is : (a b : Bound) → Some a ≡ Some b → a ≡ b
some-is a b e = cc

times-one : (x : ℤ) → x *ℤ pos 1 ≡ x
unfolding lib.IntN.one
times-one x = *ℤ-one x

times-less : (x : ℤ) → x *ℤ negsuc 0 ≡ neg_ℤ x
times-less x = let u : x *ℤ negsuc 0 ≡ neg_ℤ (x *ℤ pos 1) = times_neg x (pos 1) in u ∙ ap neg_ℤ (times-one x)

unit : (x c : ℕ) (mu : ℤ) → mu *ℤ entry ((x, pos 1) ∷ []) c ≡ only x mu c
unit x c mu = go (x == c) where
  go : (b : Bool) → mu *ℤ cond b (pos 1 +ℤ pos 0) (pos 0) ≡ cond b mu (pos 0)
  go true = times-one mu
  go false = *ℤ-zero mu

less_unit : (x c : ℕ) (mu : ℤ) → mu *ℤ entry ((x, negsuc 0) ∷ []) c ≡ only x (neg_ℤ mu) c
less_unit x c mu = go (x == c) where
  go : (b : Bool) → mu *ℤ cond b (negsuc 0 +ℤ pos 0) (pos 0) ≡ cond b (neg_ℤ mu) (pos 0)
  go true = times-less mu
  go false = *ℤ-zero mu

pub entry-negated : (ts : List (ℕ × ℤ)) (c : ℕ) → entry (map negated_term ts) c ≡ neg_ℤ (entry ts c)
entry-negated [] c = refl
entry-negated ((x, a) ∷ rest) c = go (x == c) (entry-negated rest c) where
  go : (b : Bool) → entry (map negated_term rest) c ≡ neg_ℤ (entry rest c)
      → cond b ((pos 0 -ℤ a) +ℤ entry (map negated_term rest) c) (entry (map negated_term rest) c) ≡ neg_ℤ
      (cond b (a +ℤ entry rest c) (entry rest c))
  go true e = omega (arith, ints)
  go false e = e

abbrev pub Claim : ℕ → ℕ → ℕ → List Inequality → ℤ → List (ℕ × ℤ) → Bound → Type 0
Claim n c m atoms mu terms b =
    ((b.column < n) ⊎ (m ≤ b.column))
    × (mu *ℤ entry terms c ≡ only b.column (turned b.upper mu) c +ℤ put_in c m atoms
    (only b.column (turned b.upper mu)))

module _ (n c : ℕ) (l : c < n) (mu : ℤ) where
  single : (m : ℕ) (atoms : List Inequality) (x : ℕ) (a z : ℤ) (sign : Bool) (b : Bound) → x < n → n ≤ m
      → bound_if sign (Some (bound_by x a z)) ≡ Some b
      → Claim n c m atoms mu (said sign record { terms = (x, a) ∷ []; bound = z }).terms b
  single m atoms x (pos zero) z true b h g e = absurd cc
  single m atoms x (pos zero) z false b h g e = absurd cc
  single m atoms x (pos (suc d)) z true b h g e = subst (Claim n c m atoms mu ((x, pos 1) ∷ [])) (some-is _ b e)
      (inl h, let p = put-nothing c m atoms x mu (omega arith) in let u = unit x c mu in omega (arith, ints))
  single m atoms x (negsuc d) z true b h g e = subst (Claim n c m atoms mu ((x, negsuc 0) ∷ [])) (some-is _ b e) (
    inl h,
    let p = put-nothing c m atoms x (neg_ℤ mu) (omega arith) in let u = less_unit x c mu in omega
        (arith, ints),
  )
  single m atoms x (pos (suc d)) z false b h g e =
      subst (λ y. Claim n c m atoms mu (divided_by x y (negsuc 0 -ℤ z)).terms b) (sym (+ℤ_idl (negsuc d)))
      (subst (Claim n c m atoms mu ((x, negsuc 0) ∷ [])) (some-is _ b e) (
        inl h,
        let p = put-nothing c m atoms x (neg_ℤ mu) (omega arith) in let u = less_unit x c mu in omega
            (arith, ints),
      ))
  single m atoms x (negsuc d) z false b h g e =
      subst (λ y. Claim n c m atoms mu (divided_by x y (negsuc 0 -ℤ z)).terms b) (sym (+ℤ_idl (pos (suc d))))
      (subst (Claim n c m atoms mu ((x, pos 1) ∷ [])) (some-is _ b e)
      (inl h, let p = put-nothing c m atoms x mu (omega arith) in let u = unit x c mu in omega (arith, ints)))

  -- in its own column the sum's bound has its atom's entries
  own : (m : ℕ) (rest : List Inequality) (t : ℤ) (e : ℤ) → n ≤ m
      → only m t c +ℤ (only m t m *ℤ e +ℤ put_in c (m + 1) rest (only m t)) ≡ t *ℤ e
  own m rest t e h =
      let p = put-nothing c (m + 1) rest m t (omega arith) in
      let q = only-there m c t (λ r. omega arith) in
      let r : only m t m *ℤ e ≡ t *ℤ e = ap (λ z. z *ℤ e) (only-here m m t refl) in omega (arith, ints)

  long : (m : ℕ) (rest : List Inequality) (t u : ℕ × ℤ) (ts : List (ℕ × ℤ)) (z : ℤ) (sign : Bool) (b : Bound) → n ≤ m
      → bound_if sign (Some (Some record { column = m; upper = true; limit = z })) ≡ Some b
      → Claim n c m (record { terms = t ∷ u ∷ ts; bound = z } ∷ rest) mu
      (said sign record { terms = t ∷ u ∷ ts; bound = z }).terms b
  unfolding put_in
  long m rest t u ts z true b g e =
      subst (Claim n c m (record { terms = t ∷ u ∷ ts; bound = z } ∷ rest) mu (t ∷ u ∷ ts)) (some-is _ b e)
      (inr (omega arith), sym (own m rest mu (entry (t ∷ u ∷ ts) c) g))
  long m rest t u ts z false b g e =
      subst (Claim n c m (record { terms = t ∷ u ∷ ts; bound = z } ∷ rest) mu (map negated_term (t ∷ u ∷ ts)))
      (some-is _ b e) (
        inr (omega arith),
        ap (λ y. mu *ℤ y) (entry-negated (t ∷ u ∷ ts) c) ∙ times_neg mu (entry (t ∷ u ∷ ts) c)
            ∙ sym (neg_times mu (entry (t ∷ u ∷ ts) c)) ∙ sym (own m rest (neg_ℤ mu) (entry (t ∷ u ∷ ts) c) g),
      )

  first : (m : ℕ) (rest : List Inequality) (terms : List (ℕ × ℤ)) (z : ℤ) (sign : Bool) (b : Bound) → n ≤ m
      → AreBelow n terms
      → bound_if sign (Some (bound_of_sum m terms z)) ≡ Some b
      → Claim n c m (record { terms = terms; bound = z } ∷ rest) mu
      (said sign record { terms = terms; bound = z }).terms b
  first m rest [] z true b g a e = absurd cc
  first m rest [] z false b g a e = absurd cc
  first m rest ((x, y) ∷ []) z sign b g a e = single m (record {
    terms =
        (x, y) ∷ [];
    bound = z;
  } ∷ rest) x y z sign b a.0 g e
  first m rest (t ∷ u ∷ ts) z sign b g a e = long m rest t u ts z sign b g e

  -- a part's inequality has the entries of its bound, own columns put in
  pub part : (m : ℕ) (atoms : List Inequality) (j : ℕ) (i : Inequality) (sign : Bool) (b : Bound) → n ≤ m
      → AtomsBelow n atoms
      → slice_get atoms j ≡ Some i → bound_if sign (slice_get (bounds_from m atoms) j) ≡ Some b
      → Claim n c m atoms mu (said sign i).terms b
  unfolding put_in
  part m [] j i sign b g a s e = absurd cc
  part m (k ∷ rest) zero i sign b g a s e =
      subst (λ w. Claim n c m (k ∷ rest) mu (said sign w).terms b) (inequality-is k i s)
      (first m rest k.terms k.bound sign b g a.0 e) where
        inequality-is : (k i : Inequality) → Some k ≡ Some i → k ≡ i
        inequality-is k i e = cc
  part m (k ∷ rest) (suc j) i sign b g a s e =
      go (is_long k.terms) e (λ f. part (m + 1) rest j i sign b (omega arith) a.1 s f)
      (λ f. part m rest j i sign b g a.1 s f) where
        go : (w : Bool) → bound_if sign (slice_get (bounds_from (cond w (m + 1) m) rest) j) ≡ Some b
            → (bound_if sign (slice_get (bounds_from (m + 1) rest) j) ≡ Some b
            → Claim n c (m + 1) rest mu (said sign i).terms b)
            → (bound_if sign (slice_get (bounds_from m rest) j) ≡ Some b → Claim n c m rest mu (said sign i).terms b)
            → ((b.column < n) ⊎ (m ≤ b.column))
            × (mu *ℤ entry (said sign i).terms c ≡ only b.column (turned b.upper mu) c
            +ℤ cond w (only b.column (turned b.upper mu) m *ℤ entry k.terms c +ℤ put_in c (m + 1) rest
            (only b.column (turned b.upper mu)))
            (put_in c m rest (only b.column (turned b.upper mu))))
        go false f p q = q f
        go true f p q = (
          elim (p f).0 as (λ _. (b.column < n) ⊎ (m ≤ b.column)) [ inl h ↦ inl h | inr h ↦ inr (omega arith) ],
          let d : b.column ≢ m = elim (p f).0 as (λ _. b.column ≢ m) [
            | inl h ↦ (λ v. omega arith)
            | inr h ↦
                (λ v. omega arith)
          ] in
              let r : only b.column (turned b.upper mu) m *ℤ entry k.terms c ≡ pos 0 =
              ap (λ y. y *ℤ entry k.terms c) (only-there b.column m (turned b.upper mu) d)
              ∙ zero-*ℤ (entry k.terms c) in
              let z = (p f).1 in omega (arith, ints),
        )
