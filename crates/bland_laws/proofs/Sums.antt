-- Sums over columns.
use Rattle.std.specs.Prelude.{ℕ, zero, suc, ◌≡◌, ◌≢◌, ◌<◌, ◌≤◌, ◌==◌, cond}
use Rattle.std.proofs.Common.{sym, ◌∙◌, ap, arith, refl, inl, inr}
use Rattle.std.proofs.lemmas.Int.{ints}
use lib.IntN.{ℤ, pos, ◌+ℤ◌, ◌-ℤ◌, ◌*ℤ◌, neg_ℤ, *ℤ-zero, zero-*ℤ}
use lib.Signed.{◌≤ℤ◌}
use Rattle.kind_num.proofs.Ring.{times_sum, sum_times, neg_times, times_times}
use Rattle.proof_steps.specs.Rows.{rest_below}
use Rattle.bland_laws.proofs.Listed.{same-or, tests-same, tests-other}

-- the sum of all columns below n, each at its place times its entry
abbrev pub sum_below : (ℕ → ℤ) → (ℕ → ℤ) → ℕ → ℤ
sum_below entries places zero = pos 0
sum_below entries places (suc n) = entries n *ℤ places n +ℤ sum_below entries places n

rest-at : (e t : ℕ → ℤ) (x n : ℕ) → n ≡ x → rest_below e t x (suc n) ≡ rest_below e t x n
rest-at e t x n q =
    ap (λ b. cond b (rest_below e t x n) (e n *ℤ t n +ℤ rest_below e t x n)) (ap (λ z. n == z) (sym q) ∙ tests-same n)

rest-off : (e t : ℕ → ℤ) (x n : ℕ) → n ≢ x → rest_below e t x (suc n) ≡ e n *ℤ t n +ℤ rest_below e t x n
rest-off e t x n q = ap (λ b. cond b (rest_below e t x n) (e n *ℤ t n +ℤ rest_below e t x n)) (tests-other n x q)

sum-before : (e t : ℕ → ℤ) (x n : ℕ) → n ≤ x → sum_below e t n ≡ rest_below e t x n
sum-before e t x zero h = refl
sum-before e t x (suc n) h =
    ap (λ z. e n *ℤ t n +ℤ z) (sum-before e t x n (omega arith)) ∙ sym (rest-off e t x n (λ q. absurd (omega arith)))

-- one column apart
pub sum_apart : (e t : ℕ → ℤ) (x n : ℕ) → x < n → sum_below e t n ≡ e x *ℤ t x +ℤ rest_below e t x n
sum_apart e t x zero h = absurd (omega arith)
sum_apart e t x (suc n) h = elim (same-or n x) [
  | inl q ↦ ap (λ z. e n *ℤ t n +ℤ z) (sum-before e t x n (omega arith) ∙ sym (rest-at e t x n q))
      ∙ ap (λ z. e z *ℤ t z +ℤ rest_below e t x (suc n)) q
  | inr q ↦ let i : sum_below e t n ≡ e x *ℤ t x +ℤ rest_below e t x n = sum_apart e t x n (omega arith) in
      let r : rest_below e t x (suc n) ≡ e n *ℤ t n +ℤ rest_below e t x n = rest-off e t x n q in
      omega (arith, ints)
]

pub rest_scaled : (e f t u : ℕ → ℤ) (d : ℤ) (x n : ℕ) → ((c : ℕ) → c < n → c ≢ x → f c *ℤ u c ≡ d *ℤ (e c *ℤ t c))
    → rest_below f u x n ≡ d *ℤ rest_below e t x n
rest_scaled e f t u d x zero h = sym (*ℤ-zero d)
rest_scaled e f t u d x (suc n) h = elim (same-or n x) [
  | inl q ↦ rest-at f u x n q ∙ rest_scaled e f t u d x n (λ c l. h c (omega arith)) ∙ ap (λ z. d *ℤ z) (sym (rest-at e t x n q))
  | inr q ↦ let i : rest_below f u x n ≡ d *ℤ rest_below e t x n = rest_scaled e f t u d x n (λ c l. h c (omega arith)) in
      let k : f n *ℤ u n ≡ d *ℤ (e n *ℤ t n) = h n (omega arith) q in
      let s : d *ℤ (e n *ℤ t n +ℤ rest_below e t x n) ≡ d *ℤ (e n *ℤ t n) +ℤ d *ℤ rest_below e t x n =
      sum_times d (e n *ℤ t n) (rest_below e t x n) in
      let a : rest_below f u x (suc n) ≡ f n *ℤ u n +ℤ rest_below f u x n = rest-off f u x n q in
      let b : d *ℤ rest_below e t x (suc n) ≡ d *ℤ (e n *ℤ t n +ℤ rest_below e t x n) = ap (λ z. d *ℤ z) (rest-off e t x n q) in
      omega (arith, ints)
]

pub rest_at_most : (e f t u : ℕ → ℤ) (d : ℤ) (x n : ℕ) → ((c : ℕ) → c < n → c ≢ x → (f c *ℤ u c) ≤ℤ (d *ℤ (e c *ℤ t c)))
    → rest_below f u x n ≤ℤ (d *ℤ rest_below e t x n)
rest_at_most e f t u d x zero h = let z : d *ℤ pos 0 ≡ pos 0 = *ℤ-zero d in omega (arith, ints)
rest_at_most e f t u d x (suc n) h = elim (same-or n x) [
  | inl q ↦ let i : rest_below f u x n ≤ℤ (d *ℤ rest_below e t x n) = rest_at_most e f t u d x n (λ c l. h c (omega arith)) in
      let a : rest_below f u x (suc n) ≡ rest_below f u x n = rest-at f u x n q in
      let b : d *ℤ rest_below e t x (suc n) ≡ d *ℤ rest_below e t x n = ap (λ z. d *ℤ z) (rest-at e t x n q) in
      omega (arith, ints)
  | inr q ↦ let i : rest_below f u x n ≤ℤ (d *ℤ rest_below e t x n) = rest_at_most e f t u d x n (λ c l. h c (omega arith)) in
      let k : (f n *ℤ u n) ≤ℤ (d *ℤ (e n *ℤ t n)) = h n (omega arith) q in
      let s : d *ℤ (e n *ℤ t n +ℤ rest_below e t x n) ≡ d *ℤ (e n *ℤ t n) +ℤ d *ℤ rest_below e t x n =
      sum_times d (e n *ℤ t n) (rest_below e t x n) in
      let a : rest_below f u x (suc n) ≡ f n *ℤ u n +ℤ rest_below f u x n = rest-off f u x n q in
      let b : d *ℤ rest_below e t x (suc n) ≡ d *ℤ (e n *ℤ t n +ℤ rest_below e t x n) = ap (λ z. d *ℤ z) (rest-off e t x n q) in
      omega (arith, ints)
]

pub sum_scaled : (e f t u : ℕ → ℤ) (d : ℤ) (n : ℕ) → ((c : ℕ) → c < n → f c *ℤ u c ≡ d *ℤ (e c *ℤ t c))
    → sum_below f u n ≡ d *ℤ sum_below e t n
sum_scaled e f t u d zero h = sym (*ℤ-zero d)
sum_scaled e f t u d (suc n) h =
    let i : sum_below f u n ≡ d *ℤ sum_below e t n = sum_scaled e f t u d n (λ c l. h c (omega arith)) in
    let k : f n *ℤ u n ≡ d *ℤ (e n *ℤ t n) = h n (omega arith) in
    let s : d *ℤ (e n *ℤ t n +ℤ sum_below e t n) ≡ d *ℤ (e n *ℤ t n) +ℤ d *ℤ sum_below e t n =
    sum_times d (e n *ℤ t n) (sum_below e t n) in
    omega (arith, ints)

pub sum_nothing : (e t : ℕ → ℤ) (n : ℕ) → ((c : ℕ) → e c ≡ pos 0) → sum_below e t n ≡ pos 0
sum_nothing e t zero h = refl
sum_nothing e t (suc n) h =
    let i : sum_below e t n ≡ pos 0 = sum_nothing e t n h in
    let k : e n *ℤ t n ≡ pos 0 = ap (λ z. z *ℤ t n) (h n) ∙ zero-*ℤ (t n) in
    omega (arith, ints)

less-times : (p q a b x : ℤ) → (p *ℤ a -ℤ q *ℤ b) *ℤ x ≡ p *ℤ (a *ℤ x) -ℤ q *ℤ (b *ℤ x)
less-times p q a b x =
    let l2 : (p *ℤ a -ℤ q *ℤ b) *ℤ x ≡ (p *ℤ a) *ℤ x +ℤ neg_ℤ (q *ℤ b) *ℤ x = times_sum (p *ℤ a) (neg_ℤ (q *ℤ b)) x in
    let l3 : neg_ℤ (q *ℤ b) *ℤ x ≡ neg_ℤ ((q *ℤ b) *ℤ x) = neg_times (q *ℤ b) x in
    let l4 : (p *ℤ a) *ℤ x ≡ p *ℤ (a *ℤ x) = times_times p a x in
    let l5 : (q *ℤ b) *ℤ x ≡ q *ℤ (b *ℤ x) = times_times q b x in
    omega (arith, ints)

pub sum_crossed : (p q : ℤ) (a b e t : ℕ → ℤ) (n : ℕ) → ((c : ℕ) → e c ≡ p *ℤ a c -ℤ q *ℤ b c)
    → sum_below e t n ≡ p *ℤ sum_below a t n -ℤ q *ℤ sum_below b t n
sum_crossed p q a b e t zero h =
    let y : p *ℤ pos 0 ≡ pos 0 = *ℤ-zero p in let z : q *ℤ pos 0 ≡ pos 0 = *ℤ-zero q in omega (arith, ints)
sum_crossed p q a b e t (suc n) h =
    let i : sum_below e t n ≡ p *ℤ sum_below a t n -ℤ q *ℤ sum_below b t n = sum_crossed p q a b e t n h in
    let k : e n *ℤ t n ≡ p *ℤ (a n *ℤ t n) -ℤ q *ℤ (b n *ℤ t n) = ap (λ z. z *ℤ t n) (h n) ∙ less-times p q (a n) (b n) (t n) in
    let s1 : p *ℤ (a n *ℤ t n +ℤ sum_below a t n) ≡ p *ℤ (a n *ℤ t n) +ℤ p *ℤ sum_below a t n =
    sum_times p (a n *ℤ t n) (sum_below a t n) in
    let s2 : q *ℤ (b n *ℤ t n +ℤ sum_below b t n) ≡ q *ℤ (b n *ℤ t n) +ℤ q *ℤ sum_below b t n =
    sum_times q (b n *ℤ t n) (sum_below b t n) in
    omega (arith, ints)
