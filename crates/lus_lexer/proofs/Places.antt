-- Lines and columns.
use Rattle.std.proofs.Common.{◌≡◌, ℕ, zero, suc, ◌+◌, ◌-◌, ◌<◌, ◌≤◌, ◌⊎◌, inl, inr, true, false, not, Bool, nat_le, ◌==◌, refl, sym, subst, arith, cond}
use Rattle.lus_tree.specs.declared.place.Pos.{Pos}
use Rattle.lus_lexer.specs.Tokens.{place, Each}
use Rattle.lus_lexer.specs.Laws.{IsPlace}

pub record IsSmall (i : ℕ) (p : Pos) : Type 0 where
  pub line : p.line ≤ i + 1
  pub column : p.column ≤ i + 1

small_next : (i : ℕ) (b : Bool) (p : Pos) → IsSmall i p → IsSmall (suc i)
    (cond b (record { line = p.line + 1; column = 1 }) (record { line = p.line; column = p.column + 1 }))
small_next i true p h = record { line = omega (arith, h.line); column = omega arith }
small_next i false p h = record { line = omega (arith, h.line); column = omega (arith, h.column) }

pub small : (s : ℕ → ℕ) (i : ℕ) → IsSmall i (place s i)
small s zero = record { line = omega arith; column = omega arith }
small s (suc i) = small_next i (s i == 10) (place s i) (small s i)

pub record IsAlong (p q : Pos) (d : ℕ) : Type 0 where
  pub line : q.line ≡ p.line
  pub column : q.column ≡ p.column + d

along_next : (p q : Pos) (d b : ℕ) → nat_le 32 b ≡ true → IsAlong p q d → IsAlong p
    (cond (b == 10) (record { line = q.line + 1; column = 1 }) (record { line = q.line; column = q.column + 1 })) (suc d)
along_next p q d b h k =
    let e : (b == 10) ≡ false = grind arith in
    rw e (record { line = k.line; column = omega (arith, k.column) })

-- within a line the column goes on with the bytes
pub along : (s : ℕ → ℕ) (i d : ℕ) → Each s (nat_le 32) i (i + d) → IsAlong (place s i) (place s (i + d)) d
along s i zero h = let e : i + 0 ≡ i = omega arith in rw e (record { line = refl; column = omega arith })
along s i (suc d) h =
    let e : i + suc d ≡ suc (i + d) = omega arith in
    let r = along s i d (λ k p q. h k p (omega arith)) in
    rw e (along_next (place s i) (place s (i + d)) d (s (i + d)) (h (i + d) (omega arith) (omega arith)) r)

pub same_pos : (p : Pos) (l c : ℕ) → p.line ≡ l → p.column ≡ c → (record { line = l; column = c }) ≡ p
same_pos p l c e f = rw (← e, ← f) refl

pub small_at : (s : ℕ → ℕ) (i : ℕ) (p : Pos) → p ≡ place s i → IsSmall i p
small_at s i p e = rw e (small s i)

pub along_to : (s : ℕ → ℕ) (i j : ℕ) (p : Pos) → p ≡ place s i → i ≤ j → Each s (nat_le 32) i j →
    (record { line = p.line; column = p.column + (j - i) }) ≡ place s j
along_to s i j p e l h =
    let d : i + (j - i) ≡ j = omega arith in
    let k : IsAlong (place s i) (place s (i + (j - i))) (j - i) = along s i (j - i) (λ k a b. h k a (omega arith)) in
    let k' : IsAlong (place s i) (place s j) (j - i) = subst (λ (x : ℕ). IsAlong (place s i) (place s x) (j - i)) d k in
    rw e (same_pos (place s j) (place s i).line ((place s i).column + (j - i)) k'.line k'.column)

-- ---- what a place is

feed : (b : ℕ) → (b == 10) ≡ true → b ≡ 10
feed b h = grind arith

no_feed : (b : ℕ) → (b == 10) ≡ false → not (b == 10) ≡ true
no_feed b h = rw h refl

last_or : (m j : ℕ) → m < suc j → (m ≡ j) ⊎ (m < j)
last_or m j h = grind arith

each_next : (s : ℕ → ℕ) (f : ℕ → Bool) (i j : ℕ) → Each s f i j → f (s j) ≡ true → Each s f i (suc j)
each_next s f i j h k m p q = elim (last_or m j q) [ inl e ↦ subst (λ (x : ℕ). f (s x) ≡ true) (sym e) k | inr l ↦ h m p l ]

place_next : (s : ℕ → ℕ) (i : ℕ) (p : Pos) (b : Bool) → (s i == 10) ≡ b → IsPlace s i p
    → IsPlace s (suc i) (cond b (record { line = p.line + 1; column = 1 }) (record { line = p.line; column = p.column + 1 }))
place_next s i p true e h = record {
  start = suc i;
  since = omega arith;
  begins = inr (omega arith, subst (λ (x : ℕ). s x ≡ 10) (omega arith) (feed (s i) e));
  no_feed = λ k a c. Prim.absurd (omega (arith, a, c));
  line = rw e (omega (arith, h.line));
  column = omega arith;
}
place_next s i p false e h = record {
  start = h.start;
  since = omega (arith, h.since);
  begins = h.begins;
  no_feed = each_next s (λ b. not (b == 10)) h.start i h.no_feed (no_feed (s i) e);
  line = rw e h.line;
  column = omega (arith, h.column, h.since);
}

pub place_is : (s : ℕ → ℕ) (i : ℕ) → IsPlace s i (place s i)
place_is s zero = record {
  start = 0;
  since = omega arith;
  begins = inl refl;
  no_feed = λ k a c. Prim.absurd (omega (arith, c));
  line = refl;
  column = refl;
}
place_is s (suc i) = place_next s i (place s i) (s i == 10) refl (place_is s i)
