-- What is in a list.
use Rattle.std.specs.Prelude.{ℕ, zero, suc, ◌≡◌, ◌≢◌, ◌⊎◌, ◌==◌, Bool, true, false, cond, List, [], ◌∷◌, map, length, ◌<◌, Contains, All}
use Rattle.std.proofs.Common.{sym, ◌∙◌, ap, subst, arith, refl, get_or, inl, inr}
use Rattle.std.proofs.lemmas.List.{length-map, get_or-map}
use Rattle.std.proofs.lemmas.Bool.Decides.{nat_tests}
use Rattle.proof_steps.specs.Rows.{AllDiffer}
use Rattle.proof_steps.specs.Pivots.{exchanged}

pub either : (b : Bool) → (b ≡ true) ⊎ (b ≡ false)
either true = inl refl
either false = inr refl

pub is-same : (b x : ℕ) → (b == x) ≡ true → b ≡ x
is-same b x e = grind (arith, nat_tests)

pub is-other : (b x : ℕ) → (b == x) ≡ false → b ≢ x
is-other b x e q = absurd (grind (arith, nat_tests))

pub tests-same : (x : ℕ) → (x == x) ≡ true
tests-same x = grind (arith, nat_tests)

pub tests-other : (b x : ℕ) → b ≢ x → (b == x) ≡ false
tests-other b x n = grind (arith, nat_tests)

pub same-or : (b x : ℕ) → (b ≡ x) ⊎ (b ≢ x)
same-or b x = elim (either (b == x)) [ inl t ↦ inl (is-same b x t) | inr f ↦ inr (is-other b x f) ]

pub in-head : (x : ℕ) (xs : List ℕ) → Contains (x ∷ xs) x
in-head x xs = (0, omega arith, refl)

pub in-tail : (x b : ℕ) (xs : List ℕ) → Contains xs b → Contains (x ∷ xs) b
in-tail x b xs (k, h, e) = (suc k, omega arith, e)

pub head-or : (x b : ℕ) (xs : List ℕ) → Contains (x ∷ xs) b → (b ≡ x) ⊎ Contains xs b
head-or x b xs (zero, h, e) = inl (sym e)
head-or x b xs (suc k, h, e) = inr (k, omega arith, e)

pub in-nothing : (b : ℕ) → Contains [] b → ⊥
in-nothing b (k, h, e) = absurd (omega arith)

pub listed-or : (xs : List ℕ) (b : ℕ) → Contains xs b ⊎ (¬ Contains xs b)
listed-or [] b = inr (in-nothing b)
listed-or (x ∷ xs) b = elim (same-or b x) [
  | inl e ↦ inl (subst (λ (z : ℕ). Contains (z ∷ xs) b) e (in-head b xs))
  | inr n ↦ elim (listed-or xs b) [
    | inl i ↦ inl (in-tail x b xs i)
    | inr f ↦ inr (λ i. elim (head-or x b xs i) [ inl e ↦ n e | inr j ↦ f j ])
  ]
]

pub at-all : (P : ℕ → Type 0) (xs : List ℕ) (b : ℕ) → All P xs → Contains xs b → P b
at-all P xs b h (k, l, e) = subst P e (h k b l)

pub to-map : (f : ℕ → ℕ) (xs : List ℕ) (b : ℕ) → Contains xs b → Contains (map f xs) (f b)
to-map f [] b i = absurd (in-nothing b i)
to-map f (x ∷ xs) b i = elim (head-or x b xs i) [
  | inl e ↦ subst (λ (z : ℕ). Contains (f x ∷ map f xs) (f z)) (sym e) (in-head (f x) (map f xs))
  | inr j ↦ in-tail (f x) (f b) (map f xs) (to-map f xs b j)
]

pub from-map : (f : ℕ → ℕ) (xs : List ℕ) (z : ℕ) → Contains (map f xs) z → (b : ℕ) × Contains xs b × (z ≡ f b)
from-map f [] z i = absurd (in-nothing z i)
from-map f (x ∷ xs) z i = elim (head-or (f x) z (map f xs) i) [
  | inl e ↦ (x, in-head x xs, e)
  | inr j ↦ let r = from-map f xs z j in (r.0, in-tail x r.0 xs r.1, r.2)
]

pub stays : (x c b : ℕ) → b ≢ x → exchanged x c b ≡ b
stays x c b n = ap (λ w. cond w c b) (tests-other b x n)

pub goes : (x c : ℕ) → exchanged x c x ≡ c
goes x c = ap (λ w. cond w c x) (tests-same x)

-- what is in the basis after c entered for x
pub after-or : (x c : ℕ) (basis : List ℕ) (y : ℕ) → Contains (map (exchanged x c) basis) y → (y ≡ c) ⊎ (Contains basis y × (y ≢ x))
after-or x c basis y i =
    let r = from-map (exchanged x c) basis y i in
    elim (same-or r.0 x) [
      | inl e ↦ inl (r.2 ∙ ap (exchanged x c) e ∙ goes x c)
      | inr n ↦ let q : y ≡ r.0 = r.2 ∙ stays x c r.0 n in
          inr (subst (λ (z : ℕ). Contains basis z) (sym q) r.1, λ e. n (sym q ∙ e))
    ]

pub kept-in : (x c : ℕ) (basis : List ℕ) (b : ℕ) → Contains basis b → b ≢ x → Contains (map (exchanged x c) basis) b
kept-in x c basis b i n = subst (λ (z : ℕ). Contains (map (exchanged x c) basis) z) (stays x c b n) (to-map (exchanged x c) basis b i)

pub entered : (x c : ℕ) (basis : List ℕ) → Contains basis x → Contains (map (exchanged x c) basis) c
entered x c basis i = subst (λ (z : ℕ). Contains (map (exchanged x c) basis) z) (goes x c) (to-map (exchanged x c) basis x i)

one-to-one : (x c a b : ℕ) → a ≢ c → b ≢ c → exchanged x c a ≡ exchanged x c b → a ≡ b
one-to-one x c a b na nb e = elim (same-or a x) [
  | inl s ↦ elim (same-or b x) [
    | inl t ↦ s ∙ sym t
    | inr n ↦ absurd (nb (sym (sym (goes x c) ∙ ap (exchanged x c) (sym s) ∙ e ∙ stays x c b n)))
  ]
  | inr m ↦ elim (same-or b x) [
    | inl t ↦ absurd (na (sym (stays x c a m) ∙ e ∙ ap (exchanged x c) t ∙ goes x c))
    | inr n ↦ sym (stays x c a m) ∙ e ∙ stays x c b n
  ]
]

pub still-differ : (x c : ℕ) (basis : List ℕ) → AllDiffer basis → (¬ Contains basis c) → AllDiffer (map (exchanged x c) basis)
still-differ x c [] d n = tt
still-differ x c (b ∷ basis) d n = (
  λ i. let r = from-map (exchanged x c) basis (exchanged x c b) i in
      let e : b ≡ r.0 = one-to-one x c b r.0 (λ q. n (subst (λ (z : ℕ). Contains (b ∷ basis) z) q (in-head b basis)))
      (λ q. n (subst (λ (z : ℕ). Contains (b ∷ basis) z) q (in-tail b r.0 basis r.1))) r.2 in
      d.0 (subst (λ (z : ℕ). Contains basis z) (sym e) r.1),
  still-differ x c basis d.1 (λ i. n (in-tail b c basis i)),
)

pub all-after : (P : ℕ → Type 0) (x c : ℕ) (basis : List ℕ) → All P basis → P c → All P (map (exchanged x c) basis)
all-after P x c basis h p k d l =
    let m : k < length basis = rw (length-map basis (exchanged x c)) at l in
    subst P (sym (get_or-map (exchanged x c) basis k d d m))
    (elim (same-or (get_or basis k d) x) [
      | inl e ↦ subst P (sym (ap (exchanged x c) e ∙ goes x c)) p
      | inr n ↦ subst P (sym (stays x c (get_or basis k d) n)) (h k d m)
    ])
