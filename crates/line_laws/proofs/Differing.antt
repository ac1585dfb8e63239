-- Sums in which each variable has one term.
use Rattle.std.specs.Prelude.{ℕ, ◌≡◌, ◌==◌, Bool, true, false, cond, List, [], ◌∷◌, ◌++◌, refl}
use Rattle.std.specs.Int.{int_div_euclid}
use Rattle.std.proofs.Common.{sym, ◌∙◌, ap, arith}
use Rattle.std.proofs.lemmas.Bool.Decides.{nat_tests}
use Rattle.std.proofs.lemmas.Int.{ints}
use lib.IntN.{ℤ, pos, ◌+ℤ◌, ◌*ℤ◌, *ℤ-one, *ℤ-zero}
use Rattle.kind_num.specs.Exact.{within}
use Rattle.proof_steps.specs.Meaning.{sum_of}
use Rattle.proof_steps.specs.Rows.{entry}
use Rattle.proof_checker.specs.Theory.{coefficient, plus, add_scaled, add_terms, quotients, is_zero}
use Rattle.line_laws.proofs.Outcomes.{Gives, gives-then, gives-kept}

abbrev pub HasNone : ℕ → List (ℕ × ℤ) → Type 0
HasNone x [] = Unit
HasNone x ((y, q) ∷ rest) = ((y == x) ≡ false) × HasNone x rest

abbrev pub Differ : List (ℕ × ℤ) → Type 0
Differ [] = Unit
Differ ((x, a) ∷ rest) = HasNone x rest × Differ rest

pub turned-test : (x y : ℕ) → (y == x) ≡ false → (x == y) ≡ false
turned-test x y h = grind (arith, nat_tests)

none-plus : (z : ℕ) (sum : List (ℕ × ℤ)) (x : ℕ) (p : ℤ) → (x == z) ≡ false → HasNone z sum → HasNone z (plus sum x p)
none-plus z [] x p h n = (h, tt)
none-plus z ((y, q) ∷ rest) x p h n = go (y == x) (none-plus z rest x p h n.1) where
  go : (b : Bool) → HasNone z (plus rest x p) → HasNone z (cond b ((y, q +ℤ p) ∷ rest) ((y, q) ∷ plus rest x p))
  go true m = n
  go false m = (n.0, m)

differ-plus : (sum : List (ℕ × ℤ)) (x : ℕ) (p : ℤ) → Differ sum → Differ (plus sum x p)
differ-plus [] x p d = (tt, tt)
differ-plus ((y, q) ∷ rest) x p d = go (y == x) refl (differ-plus rest x p d.1) where
  go : (b : Bool) → (y == x) ≡ b → Differ (plus rest x p)
      → Differ (cond b ((y, q +ℤ p) ∷ rest) ((y, q) ∷ plus rest x p))
  go true e m = d
  go false e m = (none-plus y rest x p (turned-test x y e) d.0, m)

pub differ-added : (sum : List (ℕ × ℤ)) (m : ℤ) (ts : List (ℕ × ℤ)) → Differ sum → Gives Differ (add_terms sum m ts)
differ-added sum m [] d = d
differ-added sum m (t ∷ rest) d =
    gives-then Differ Differ (add_scaled sum m t) (λ s. add_terms s m rest)
    (gives-kept Differ (within (m *ℤ t.1)) _ (gives-kept Differ (within (coefficient sum t.0 +ℤ m *ℤ t.1)) _
    (differ-plus sum t.0 (m *ℤ t.1) d)))
    (λ s q. differ-added s m rest q)

none-divided : (z : ℕ) (d : ℤ) (ts : List (ℕ × ℤ)) → HasNone z ts → HasNone z (quotients d ts)
none-divided z d [] n = tt
none-divided z d ((x, a) ∷ rest) n = go (is_zero a) (none-divided z d rest n.1) where
  go : (b : Bool) → HasNone z (quotients d rest) → HasNone z (cond b []
      ((x, int_div_euclid a d) ∷ []) ++ quotients d rest)
  go true m = m
  go false m = (n.0, m)

pub differ-divided : (d : ℤ) (ts : List (ℕ × ℤ)) → Differ ts → Differ (quotients d ts)
differ-divided d [] n = tt
differ-divided d ((x, a) ∷ rest) n = go (is_zero a) (differ-divided d rest n.1) (none-divided x d rest n.0) where
  go : (b : Bool) → Differ (quotients d rest) → HasNone x (quotients d rest)
      → Differ (cond b [] ((x, int_div_euclid a d) ∷ []) ++ quotients d rest)
  go true m w = m
  go false m w = (w, m)

-- 1 at that variable, 0 at all others
abbrev pub alone : ℕ → ℕ → ℤ
alone c k = cond (k == c) (pos 1) (pos 0)

times-one : (x : ℤ) → x *ℤ pos 1 ≡ x
unfolding lib.IntN.one
times-one x = *ℤ-one x

pub sum-alone : (c : ℕ) (ts : List (ℕ × ℤ)) → sum_of (alone c) ts ≡ entry ts c
sum-alone c [] = refl
sum-alone c ((x, a) ∷ rest) = go (x == c) (sum-alone c rest) where
  go : (b : Bool) → sum_of (alone c) rest ≡ entry rest c
      → a *ℤ cond b (pos 1) (pos 0) +ℤ sum_of (alone c) rest ≡ cond b (a +ℤ entry rest c) (entry rest c)
  go true e = let o = times-one a in omega (arith, ints)
  go false e = let z = *ℤ-zero a in omega (arith, ints)

pub none-entry : (x : ℕ) (ts : List (ℕ × ℤ)) → HasNone x ts → entry ts x ≡ pos 0
none-entry x [] h = refl
none-entry x ((y, q) ∷ rest) h = ap (λ b. cond b (q +ℤ entry rest x) (entry rest x)) h.0 ∙ none-entry x rest h.1

pub same : (x : ℕ) → (x == x) ≡ true
same x = grind (arith, nat_tests)

-- where each variable's coefficient is 0, nothing is left of the sum
pub nothing-is-left : (d : ℤ) (ts : List (ℕ × ℤ)) → Differ ts → ((c : ℕ) → entry ts c ≡ pos 0) → quotients d ts ≡ []
nothing-is-left d [] n h = refl
nothing-is-left d ((x, a) ∷ rest) n h =
    let own : a +ℤ entry rest x ≡ pos 0 = ap (λ b. cond b (a +ℤ entry rest x) (entry rest x)) (sym (same x)) ∙ h x in
    let none = none-entry x rest n.0 in
    let zero_is : a ≡ pos 0 = omega (arith, ints) in
    let left : quotients d ((x, a) ∷ rest) ≡ quotients d rest = ap (λ z. quotients d ((x, z) ∷ rest)) zero_is in
    left ∙ nothing-is-left d rest n.1 (λ c. go c (x == c) zero_is (h c)) where
      go : (c : ℕ) (b : Bool) → a ≡ pos 0 → cond b (a +ℤ entry rest c) (entry rest c) ≡ pos 0 → entry rest c ≡ pos 0
      go c true z e = omega (arith, ints)
      go c false z e = e
