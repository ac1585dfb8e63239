-- A computation whose numbers are within 128 bits does not end past them.
use Rattle.std.specs.Prelude.{ℕ, suc, ◌≡◌, ◌==◌, ◌<◌, Bool, true, false, cond, List, [], ◌∷◌, map, refl}
use Rattle.std.specs.List.{AllByRecursion, AllPairs}
use Rattle.std.specs.List.Sorted.{IsStrictlyIncreasing}
use Rattle.std.proofs.Common.{sym, ◌∙◌, ap, subst, arith}
use Rattle.std.proofs.lemmas.Bool.Decides.{nat_tests}
use Rattle.std.proofs.lemmas.Int.{ints}
use Rattle.std.proofs.lemmas.List.Elements.{recursion_from_All}
use Rattle.std.proofs.lemmas.List.Kept.{AllPairs-from_increasing}
use lib.IntN.{ℤ, pos, ◌+ℤ◌, ◌-ℤ◌, ◌*ℤ◌}
use Rattle.kind_num.specs.Exact.{within}
use Rattle.proof_steps.specs.View.{Inequality}
use Rattle.proof_steps.specs.Meaning.{negated_term}
use Rattle.proof_steps.specs.Rows.{entry}
use Rattle.proof_checker.specs.Theory.{Outcome, value, past, stopped, and_then, coefficient, plus, add_scaled, add_terms, bound_after, add_part, all_negatable, divides, divided}
use Rattle.line_laws.specs.Steps.{HasProducts}
use Rattle.line_laws.proofs.Outcomes.{Gives, gives-kept}
use Rattle.line_laws.proofs.Differing.{HasNone, Differ, none-entry, turned-test, same}

abbrev pub NotPast : {X : Type 0} → Outcome X → Type 0
NotPast (value x) = Unit
NotPast past = ⊥
NotPast stopped = Unit

pub then-not-past : {X Y : Type 0} (o : Outcome X) (f : X → Outcome Y) → NotPast o
    → ((x : X) → o ≡ value x → NotPast (f x)) → NotPast (and_then o f)
then-not-past (value x) f h k = k x refl
then-not-past past f h k = absurd h
then-not-past stopped f h k = tt

pub kept-not-past : {X : Type 0} (b : Bool) (o : Outcome X) → b ≡ true → NotPast o → NotPast (cond b o past)
kept-not-past true o e h = h
kept-not-past false o e h = absurd cc

went-not-past : {X : Type 0} (b : Bool) (o : Outcome X) → NotPast o → NotPast (cond b o stopped)
went-not-past true o h = h
went-not-past false o h = tt

pub gives-value : {X : Type 0} (P : X → Type 0) (o : Outcome X) (x : X) → Gives P o → o ≡ value x → P x
gives-value P o x h e = subst (Gives P) e h

pub divided-not-past : (d : ℤ) (i : Inequality) → NotPast (divided d i)
divided-not-past d i = went-not-past _ _ (went-not-past (divides d i.terms) _ tt)

same-is : (x y : ℕ) → (x == y) ≡ true → x ≡ y
same-is x y h = grind (arith, nat_tests)

coefficient-entry : (sum : List (ℕ × ℤ)) (c : ℕ) → Differ sum → coefficient sum c ≡ entry sum c
coefficient-entry [] c d = refl
coefficient-entry ((y, q) ∷ rest) c d = go (y == c) refl (coefficient-entry rest c d.1) where
  go : (b : Bool) → (y == c) ≡ b → coefficient rest c ≡ entry rest c
      → cond b q (coefficient rest c) ≡ cond b (q +ℤ entry rest c) (entry rest c)
  go true e i =
      let z : entry rest c ≡ pos 0 = none-entry c rest (subst (λ w. HasNone w rest) (same-is y c e) d.0) in omega
      (arith, ints)
  go false e i = i

coefficient-plus : (sum : List (ℕ × ℤ)) (x : ℕ) (p : ℤ) (c : ℕ) → (x == c) ≡ false
    → coefficient (plus sum x p) c ≡ coefficient sum c
coefficient-plus [] x p c h = ap (λ b. cond b p (pos 0)) h
coefficient-plus ((y, q) ∷ rest) x p c h = go (y == x) refl (coefficient-plus rest x p c h) where
  other : (y x c : ℕ) → (y == x) ≡ true → (x == c) ≡ false → (y == c) ≡ false
  other y x c e h = grind (arith, nat_tests)

  go : (b : Bool) → (y == x) ≡ b → coefficient (plus rest x p) c ≡ coefficient rest c
      → coefficient (cond b ((y, q +ℤ p) ∷ rest) ((y, q) ∷ plus rest x p)) c ≡ cond (y == c) q (coefficient rest c)
  go true e i =
      let f = other y x c e h in
      ap (λ b. cond b (q +ℤ p) (coefficient rest c)) f ∙ sym (ap (λ b. cond b q (coefficient rest c)) f)
  go false e i = ap (λ z. cond (y == c) q z) i

later : (sum : List (ℕ × ℤ)) (x : ℕ) (p m : ℤ) (ts : List (ℕ × ℤ)) → HasNone x ts
    → AllByRecursion (λ (t : ℕ × ℤ). within (coefficient sum t.0 +ℤ m *ℤ t.1) ≡ true) ts
    → AllByRecursion (λ (t : ℕ × ℤ). within (coefficient (plus sum x p) t.0 +ℤ m *ℤ t.1) ≡ true) ts
later sum x p m [] n a = tt
later sum x p m ((y, a) ∷ rest) n h = (
  subst (λ z. within (z +ℤ m *ℤ a) ≡ true) (sym (coefficient-plus sum x p y (turned-test x y n.0))) h.0,
  later sum x p m rest n.1 h.1,
)

terms-not-past : (sum : List (ℕ × ℤ)) (m : ℤ) (ts : List (ℕ × ℤ)) → Differ ts
    → AllByRecursion (λ (t : ℕ × ℤ). within (m *ℤ t.1) ≡ true) ts
    → AllByRecursion (λ (t : ℕ × ℤ). within (coefficient sum t.0 +ℤ m *ℤ t.1) ≡ true) ts
    → NotPast (add_terms sum m ts)
terms-not-past sum m [] d a h = tt
terms-not-past sum m ((x, b) ∷ rest) d a h =
    then-not-past (add_scaled sum m (x, b)) (λ s. add_terms s m rest)
    (kept-not-past (within (m *ℤ b)) _ a.0 (kept-not-past (within (coefficient sum x +ℤ m *ℤ b)) _ h.0 tt))
    (λ s e. terms-not-past s m rest d.1 a.1
    (subst (λ w. AllByRecursion (λ (t : ℕ × ℤ). within (coefficient w t.0 +ℤ m *ℤ t.1) ≡ true) rest)
    (sym (gives-value (λ w. w ≡ plus sum x (m *ℤ b)) (add_scaled sum m (x, b)) s
    (gives-kept _ (within (m *ℤ b)) _ (gives-kept (λ w. w ≡ plus sum x (m *ℤ b))
    (within (coefficient sum x +ℤ m *ℤ b)) _ refl)) e))
    (later sum x (m *ℤ b) m rest d.0 h.1)))

-- ---- a listed term is its variable's entry

skipped : (x : ℕ) (a : ℤ) (rest scan : List (ℕ × ℤ)) → HasNone x scan
    → AllByRecursion (λ (t : ℕ × ℤ). entry rest t.0 ≡ t.1) scan
    → AllByRecursion (λ (t : ℕ × ℤ). entry ((x, a) ∷ rest) t.0 ≡ t.1) scan
skipped x a rest [] n h = tt
skipped x a rest ((y, b) ∷ scan) n h =
    (ap (λ w. cond w (a +ℤ entry rest y) (entry rest y)) (turned-test x y n.0) ∙ h.0, skipped x a rest scan n.1 h.1)

pub listed : (ts : List (ℕ × ℤ)) → Differ ts → AllByRecursion (λ (t : ℕ × ℤ). entry ts t.0 ≡ t.1) ts
listed [] d = tt
listed ((x, a) ∷ rest) d = (
  ap (λ w. cond w (a +ℤ entry rest x) (entry rest x)) (same x) ∙ (let z = none-entry x rest d.0 in omega (arith, ints)),
  skipped x a rest rest d.0 (listed rest d.1),
)

pub each : (P : ℕ → ℤ → Type 0) (whole ts : List (ℕ × ℤ)) → ((c : ℕ) → P c (entry whole c))
    → AllByRecursion (λ (t : ℕ × ℤ). entry whole t.0 ≡ t.1) ts → AllByRecursion (λ (t : ℕ × ℤ). P t.0 t.1) ts
each P whole [] h a = tt
each P whole ((x, b) ∷ rest) h a = (subst (P x) a.0 (h x), each P whole rest h a.1)

pub part-not-past : (sum : Inequality) (m : ℤ) (i : Inequality) → Differ sum.terms → Differ i.terms → HasProducts m i
    → ((c : ℕ) → within (entry sum.terms c +ℤ m *ℤ entry i.terms c) ≡ true) → within (sum.bound +ℤ m *ℤ i.bound) ≡ true
    → NotPast (add_part sum m i)
part-not-past sum m i d e f h b =
    then-not-past (add_terms sum.terms m i.terms) _
    (terms-not-past sum.terms m i.terms e
    (each (λ c z. within (m *ℤ z) ≡ true) i.terms i.terms f.coefficients (listed i.terms e))
    (each (λ c z. within (coefficient sum.terms c +ℤ m *ℤ z) ≡ true) i.terms i.terms
    (λ c. subst (λ y. within (y +ℤ m *ℤ entry i.terms c) ≡ true) (sym (coefficient-entry sum.terms c d)) (h c))
    (listed i.terms e)))
    (λ ts _. then-not-past (bound_after sum.bound m i.bound) _
    (kept-not-past (within (m *ℤ i.bound)) _ f.bound (kept-not-past (within (sum.bound +ℤ m *ℤ i.bound)) _ b tt))
    (λ w _. tt))

-- ---- opposites

negatable : (ts : List (ℕ × ℤ)) → AllByRecursion (λ (t : ℕ × ℤ). within (pos 0 -ℤ t.1) ≡ true) ts
    → all_negatable ts ≡ true
negatable [] a = refl
negatable ((x, b) ∷ rest) a = ap (λ w. cond w (all_negatable rest) false) a.0 ∙ negatable rest a.1

pub all-negatable : (ts : List (ℕ × ℤ)) → Differ ts → ((c : ℕ) → within (pos 0 -ℤ entry ts c) ≡ true)
    → all_negatable ts ≡ true
all-negatable ts d h = negatable ts (each (λ c z. within (pos 0 -ℤ z) ≡ true) ts ts h (listed ts d))

none-negated : (x : ℕ) (ts : List (ℕ × ℤ)) → HasNone x ts → HasNone x (map negated_term ts)
none-negated x [] n = tt
none-negated x ((y, b) ∷ rest) n = (n.0, none-negated x rest n.1)

pub differ-negated : (ts : List (ℕ × ℤ)) → Differ ts → Differ (map negated_term ts)
differ-negated [] d = tt
differ-negated ((x, b) ∷ rest) d = (none-negated x rest d.0, differ-negated rest d.1)

-- ---- terms in order

column : ℕ × ℤ → ℕ
column t = t.0

none-of : (x : ℕ) (ts : List (ℕ × ℤ)) → AllByRecursion (λ y. x < y) (map (λ (t : ℕ × ℤ). t.0) ts) → HasNone x ts
none-of x [] a = tt
none-of x ((y, b) ∷ rest) a = (apart x y a.0, none-of x rest a.1) where
  apart : (x y : ℕ) → x < y → (y == x) ≡ false
  apart x y l = grind (arith, nat_tests)

pairs-differ : (ts : List (ℕ × ℤ)) → AllPairs (λ x y. x < y) (map (λ (t : ℕ × ℤ). t.0) ts) → Differ ts
pairs-differ [] h = tt
pairs-differ ((x, b) ∷ rest) h = (
  none-of x rest (recursion_from_All (λ y. x < y) (map (λ (t : ℕ × ℤ). t.0) rest)
      (λ k d l. h 0 (suc k) d (omega arith) (omega arith))),
  pairs-differ rest (λ i j d l w. h (suc i) (suc j) d (omega arith) (omega arith)),
)

pub in-order-differ : (ts : List (ℕ × ℤ)) → IsStrictlyIncreasing (map (λ (t : ℕ × ℤ). t.0) ts) → Differ ts
in-order-differ ts h = pairs-differ ts (AllPairs-from_increasing (map (λ (t : ℕ × ℤ). t.0) ts) h)
