-- Whole combinations of given rows, by their multipliers.
use Rattle.std.specs.Prelude.{ℕ, zero, suc, ◌≡◌, ◌≢◌, ◌⊎◌, ◌*◌, List, [], ◌∷◌, length, unsigned_abs}
use Rattle.std.proofs.Common.{sym, ◌∙◌, ap, arith, refl, inl, inr}
use Rattle.std.proofs.lemmas.Int.{ints, unsigned_abs-mul}
use Rattle.std.proofs.Math.Nat.{eq_of_mul-eq-mul_left}
use lib.IntN.{ℤ, pos, negsuc, ◌+ℤ◌, ◌-ℤ◌, ◌*ℤ◌, neg_ℤ, *ℤ-zero, zero-*ℤ, *ℤ_comm}
use Rattle.kind_num.proofs.Ring.{times_sum, sum_times, neg_times, times_times}
use Rattle.proof_steps.specs.Rows.{entry, combined}

pub zero-or : (z : ℤ) → (z ≡ pos 0) ⊎ (z ≢ pos 0)
zero-or (pos zero) = inl refl
zero-or (pos (suc n)) = inr (λ e. absurd (omega (arith, ints)))
zero-or (negsuc n) = inr (λ e. absurd (omega (arith, ints)))

pub abs-zero : (z : ℤ) → unsigned_abs z ≡ 0 → z ≡ pos 0
abs-zero (pos zero) e = refl
abs-zero (pos (suc n)) e = absurd (omega arith)
abs-zero (negsuc n) e = absurd (omega arith)

-- of a product that is 0 a factor is 0
pub null_factor : (a b : ℤ) → a ≢ pos 0 → a *ℤ b ≡ pos 0 → b ≡ pos 0
null_factor a b n e =
    let m : unsigned_abs a * unsigned_abs b ≡ unsigned_abs a * 0 = sym (unsigned_abs-mul a b) ∙ ap unsigned_abs e ∙ omega arith in
    let h : unsigned_abs a ≡ 0 → ⊥ = λ z. n (abs-zero a z) in
    abs-zero b (eq_of_mul-eq-mul_left (unsigned_abs a) (omega arith) (unsigned_abs b) 0 m)

pub zero_less : (p q : ℤ) → p *ℤ pos 0 -ℤ q *ℤ pos 0 ≡ pos 0
zero_less p q = let a : p *ℤ pos 0 ≡ pos 0 = *ℤ-zero p in let b : q *ℤ pos 0 ≡ pos 0 = *ℤ-zero q in omega (arith, ints)

pub swapped_less : (p q : ℤ) → p *ℤ q -ℤ q *ℤ p ≡ pos 0
swapped_less p q = let a : p *ℤ q ≡ q *ℤ p = *ℤ_comm p q in omega (arith, ints)

-- what is left of p times a, where b is 0
pub still_there : (p q a b : ℤ) → p ≢ pos 0 → a ≢ pos 0 → b ≡ pos 0 → p *ℤ a -ℤ q *ℤ b ≢ pos 0
still_there p q a b hp ha hb e =
    let s : p *ℤ a -ℤ q *ℤ pos 0 ≡ pos 0 = ap (λ w. p *ℤ a -ℤ q *ℤ w) (sym hb) ∙ e in
    let t : q *ℤ pos 0 ≡ pos 0 = *ℤ-zero q in
    ha (null_factor p a hp (omega (arith, ints)))

pub both_gone : (p q a b : ℤ) → a ≡ pos 0 → b ≡ pos 0 → p *ℤ a -ℤ q *ℤ b ≡ pos 0
both_gone p q a b ha hb = ap (λ w. p *ℤ w -ℤ q *ℤ b) ha ∙ ap (λ w. p *ℤ pos 0 -ℤ q *ℤ w) hb ∙ zero_less p q

-- p times the first less q times the second
abbrev pub crossed : ℤ → ℤ → List ℤ → List ℤ → List ℤ
crossed p q [] ns = []
crossed p q (m ∷ ms) [] = []
crossed p q (m ∷ ms) (n ∷ ns) = (p *ℤ m -ℤ q *ℤ n) ∷ crossed p q ms ns

pub length-crossed : (p q : ℤ) (ms ns : List ℤ) (k : ℕ) → length ms ≡ k → length ns ≡ k → length (crossed p q ms ns) ≡ k
length-crossed p q [] ns k h l = h
length-crossed p q (m ∷ ms) [] k h l = absurd (omega arith)
length-crossed p q (m ∷ ms) (n ∷ ns) zero h l = absurd (omega arith)
length-crossed p q (m ∷ ms) (n ∷ ns) (suc k) h l = ap suc (length-crossed p q ms ns k (omega arith) (omega arith))

crossed-head : (p q m n a s t : ℤ)
    → (p *ℤ m -ℤ q *ℤ n) *ℤ a +ℤ (p *ℤ s -ℤ q *ℤ t) ≡ p *ℤ (m *ℤ a +ℤ s) -ℤ q *ℤ (n *ℤ a +ℤ t)
crossed-head p q m n a s t =
    let l2 : (p *ℤ m -ℤ q *ℤ n) *ℤ a ≡ (p *ℤ m) *ℤ a +ℤ neg_ℤ (q *ℤ n) *ℤ a = times_sum (p *ℤ m) (neg_ℤ (q *ℤ n)) a in
    let l3 : neg_ℤ (q *ℤ n) *ℤ a ≡ neg_ℤ ((q *ℤ n) *ℤ a) = neg_times (q *ℤ n) a in
    let l4 : (p *ℤ m) *ℤ a ≡ p *ℤ (m *ℤ a) = times_times p m a in
    let l5 : (q *ℤ n) *ℤ a ≡ q *ℤ (n *ℤ a) = times_times q n a in
    let r1 : p *ℤ (m *ℤ a +ℤ s) ≡ p *ℤ (m *ℤ a) +ℤ p *ℤ s = sum_times p (m *ℤ a) s in
    let r2 : q *ℤ (n *ℤ a +ℤ t) ≡ q *ℤ (n *ℤ a) +ℤ q *ℤ t = sum_times q (n *ℤ a) t in
    omega (arith, ints)

pub combined-crossed : (p q : ℤ) (ms ns : List ℤ) (rows : List (List (ℕ × ℤ))) (c : ℕ) → length ms ≡ length rows → length ns ≡ length rows
    → combined (crossed p q ms ns) rows c ≡ p *ℤ combined ms rows c -ℤ q *ℤ combined ns rows c
combined-crossed p q [] [] rows c h l = sym (zero_less p q)
combined-crossed p q [] (n ∷ ns) [] c h l = sym (zero_less p q)
combined-crossed p q [] (n ∷ ns) (r ∷ rows) c h l = absurd (omega arith)
combined-crossed p q (m ∷ ms) [] [] c h l = absurd (omega arith)
combined-crossed p q (m ∷ ms) [] (r ∷ rows) c h l = absurd (omega arith)
combined-crossed p q (m ∷ ms) (n ∷ ns) [] c h l = absurd (omega arith)
combined-crossed p q (m ∷ ms) (n ∷ ns) (r ∷ rows) c h l =
    ap (λ z. (p *ℤ m -ℤ q *ℤ n) *ℤ entry r c +ℤ z) (combined-crossed p q ms ns rows c (omega arith) (omega arith))
    ∙ crossed-head p q m n (entry r c) (combined ms rows c) (combined ns rows c)

-- the rows that are left when one is taken out by a combination that has it: what the others combine to is combined
-- of the left ones, up to a factor and to multiples of that combination
pub record Fewer (given : List (List (ℕ × ℤ))) (ms : List ℤ) : Type 0 where
  pub left : List (List (ℕ × ℤ))
  pub count : suc (length left) ≡ length given
  pub factor : ℤ
  pub not_zero : factor ≢ pos 0
  pub others : (ns : List ℤ) → length ns ≡ length given
      → (ks : List ℤ) × (q : ℤ) × (length ks ≡ length left)
      × ((c : ℕ) → combined ks left c ≡ factor *ℤ combined ns given c -ℤ q *ℤ combined ms given c)

head-gone : (m n a s t : ℤ) → m *ℤ s -ℤ n *ℤ t ≡ m *ℤ (n *ℤ a +ℤ s) -ℤ n *ℤ (m *ℤ a +ℤ t)
head-gone m n a s t =
    let e1 : m *ℤ (n *ℤ a +ℤ s) ≡ m *ℤ (n *ℤ a) +ℤ m *ℤ s = sum_times m (n *ℤ a) s in
    let e2 : n *ℤ (m *ℤ a +ℤ t) ≡ n *ℤ (m *ℤ a) +ℤ n *ℤ t = sum_times n (m *ℤ a) t in
    let e3 : m *ℤ (n *ℤ a) ≡ n *ℤ (m *ℤ a) =
    sym (times_times m n a) ∙ ap (λ z. z *ℤ a) (*ℤ_comm m n) ∙ times_times n m a in
    omega (arith, ints)

head-kept : (f n a s q m t : ℤ) → m ≡ pos 0 → (f *ℤ n) *ℤ a +ℤ (f *ℤ s -ℤ q *ℤ t) ≡ f *ℤ (n *ℤ a +ℤ s) -ℤ q *ℤ (m *ℤ a +ℤ t)
head-kept f n a s q m t z =
    let e1 : (f *ℤ n) *ℤ a ≡ f *ℤ (n *ℤ a) = times_times f n a in
    let e2 : f *ℤ (n *ℤ a +ℤ s) ≡ f *ℤ (n *ℤ a) +ℤ f *ℤ s = sum_times f (n *ℤ a) s in
    let e3 : m *ℤ a ≡ pos 0 = ap (λ w. w *ℤ a) z ∙ zero-*ℤ a in
    let e4 : m *ℤ a +ℤ t ≡ t = omega (arith, ints) in
    let e5 : q *ℤ (m *ℤ a +ℤ t) ≡ q *ℤ t = ap (λ w. q *ℤ w) e4 in
    omega (arith, ints)

pub fewer_rows : (given : List (List (ℕ × ℤ))) (ms : List ℤ) (x : ℕ) → length ms ≡ length given → combined ms given x ≢ pos 0
    → Fewer given ms
fewer_rows [] [] x l n = absurd (n refl)
fewer_rows [] (m ∷ ms) x l n = absurd (omega arith)
fewer_rows (g ∷ given) [] x l n = absurd (omega arith)
fewer_rows (g ∷ given) (m ∷ ms) x l n = elim (zero-or m) [
  | inl z ↦ later z (fewer_rows given ms x (omega arith)
      (λ e. n (let a : m *ℤ entry g x ≡ pos 0 = ap (λ w. w *ℤ entry g x) z ∙ zero-*ℤ (entry g x) in omega (arith, ints))))
  | inr h ↦ first h
] where
  first : m ≢ pos 0 → Fewer (g ∷ given) (m ∷ ms)
  first h = record {
    left = given;
    count = refl;
    factor = m;
    not_zero = h;
    others = rest;
  } where
    rest : (ns : List ℤ) → length ns ≡ suc (length given) → (ks : List ℤ) × (q : ℤ) × (length ks ≡ length given)
        × ((c : ℕ) → combined ks given c ≡ m *ℤ combined ns (g ∷ given) c -ℤ q *ℤ combined (m ∷ ms) (g ∷ given) c)
    rest [] k = absurd (omega arith)
    rest (n ∷ ns) k = (
      crossed m n ns ms,
      n,
      length-crossed m n ns ms (length given) (omega arith) (omega arith),
      λ c. combined-crossed m n ns ms given c (omega arith) (omega arith)
          ∙ head-gone m n (entry g c) (combined ns given c) (combined ms given c),
    )

  later : m ≡ pos 0 → Fewer given ms → Fewer (g ∷ given) (m ∷ ms)
  later z r = record {
    left = g ∷ r.left;
    count = ap suc r.count;
    factor = r.factor;
    not_zero = r.not_zero;
    others = rest;
  } where
    rest : (ns : List ℤ) → length ns ≡ suc (length given) → (ks : List ℤ) × (q : ℤ) × (length ks ≡ suc (length r.left))
        × ((c : ℕ) → combined ks (g ∷ r.left) c ≡ r.factor *ℤ combined ns (g ∷ given) c -ℤ q *ℤ combined (m ∷ ms) (g ∷ given) c)
    rest [] k = absurd (omega arith)
    rest (n ∷ ns) k =
        let o = r.others ns (omega arith) in (
          (r.factor *ℤ n) ∷ o.0,
          o.1,
          ap suc o.2,
          λ c.
              ap (λ w. (r.factor *ℤ n) *ℤ entry g c +ℤ w) (o.3 c)
              ∙ head-kept r.factor n (entry g c) (combined ns given c) o.1 m (combined ms given c) z,
        )
