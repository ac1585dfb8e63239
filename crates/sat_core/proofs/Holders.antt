-- Counts of clauses, pair by pair and entry by entry.
use Rattle.std.specs.Prelude.{ℕ, zero, suc, ◌≡◌, ◌⊎◌, ◌+◌, ◌<◌, ◌≤◌, Bool, true, false, cond, List, [], ◌∷◌, ◌++◌, length, Option, Some, None, Contains, drop, take, slice_get, get_or, count_by, refl}
use Rattle.std.proofs.Common.{sym, ◌∙◌, ap, subst, arith, inl, inr}
use Rattle.std.proofs.lemmas.List.{map-append, take_all}
use Rattle.std.proofs.lemmas.List.Elements.{Contains-append_left}
use Rattle.std.proofs.lemmas.List.Sums.{sum_by-cons, sum_by_more, sum_by-take-le, sum_by-take-drop}
use Rattle.proof_steps.specs.declared.Literal.{Literal}
use Rattle.proof_steps.specs.Meaning.{at, opposite}
use Rattle.proof_checker.specs.Derived.{has}
use Rattle.proof_checker.proofs.Sets.{has-contains, contains-has, has-not}
use Rattle.proof_checker.proofs.Sound.{either}
use Rattle.sat_core.specs.declared.assigned.Assigned.{Assigned}
use Rattle.sat_core.specs.declared.visiting.Visit.TheVariants.{Next, Failed}
use Rattle.sat_core.specs.Trail.{trues}
use Rattle.sat_core.specs.Store.{IsLooked}
use Rattle.sat_core.specs.Shown.{Shown, Grows}
use Rattle.sat_core.specs.Looking.{holders, weight, spent, LooksAtHolders}
use Rattle.sat_core.specs.Watching.{Watching, IsPair, IsWatching}
use Rattle.sat_core.specs.Charged.{is_due, due, IsCharged}
use Rattle.sat_core.proofs.Places.{some_is, take-push}

count-cons : {X : Type 0} (p : X → Bool) (x : X) (xs : List X) → count_by p (x ∷ xs) ≡ cond (p x) 1 0 + count_by p xs
count-cons p x xs = sum_by-cons (λ y. cond (p y) 1 0) x xs

bit-less : (b c : Bool) → (c ≡ true → b ≡ true) → cond c 1 0 ≤ cond b 1 0
bit-less true true h = omega arith
bit-less false true h = absurd (let e : false ≡ true = h refl in cc)
bit-less true false h = omega arith
bit-less false false h = omega arith

-- where each that counts in one list counts in the other, no more count
pub fewer : {X Y : Type 0} (p : X → Bool) (q : Y → Bool) (xs : List X) (ys : List Y) → length ys ≡ length xs
    → ((i : ℕ) (x : X) (y : Y) → slice_get xs i ≡ Some x → slice_get ys i ≡ Some y → q y ≡ true → p x ≡ true)
    → count_by q ys ≤ count_by p xs
fewer p q [] [] e h = omega arith
fewer p q [] (y ∷ ys) e h = absurd (omega arith)
fewer p q (x ∷ xs) [] e h = absurd (omega arith)
fewer p q (x ∷ xs) (y ∷ ys) e h =
    let a = count-cons p x xs in let b = count-cons q y ys in
    let c = bit-less (p x) (q y) (h 0 x y refl refl) in
    let d = fewer p q xs ys (omega arith) (λ i u v s t. h (suc i) u v s t) in omega arith

one-bit : (k l m n : ℕ) (b c : Bool) → l ≡ cond b 1 0 + n → k ≡ cond c 1 0 + m → m ≤ n → b ≡ true → c ≡ false → suc k ≤ l
one-bit k l m n true false e f h a b = omega arith
one-bit k l m n false c e f h a b = absurd cc
one-bit k l m n true true e f h a b = absurd cc

-- where one counts in that other list alone, fewer count
one-fewer : {X Y : Type 0} (p : X → Bool) (q : Y → Bool) (xs : List X) (ys : List Y) → length ys ≡ length xs
    → ((i : ℕ) (x : X) (y : Y) → slice_get xs i ≡ Some x → slice_get ys i ≡ Some y → q y ≡ true → p x ≡ true)
    → (j : ℕ) (x : X) (y : Y) → slice_get xs j ≡ Some x → slice_get ys j ≡ Some y → p x ≡ true → q y ≡ false
    → suc (count_by q ys) ≤ count_by p xs
one-fewer p q [] ys e h j x y s t a b = absurd cc
one-fewer p q (u ∷ xs) [] e h j x y s t a b = absurd cc
one-fewer p q (u ∷ xs) (v ∷ ys) e h zero x y s t a b =
    let c = count-cons p u xs in let d = count-cons q v ys in
    let k = fewer p q xs ys (omega arith) (λ i m n w z. h (suc i) m n w z) in
    one-bit (count_by q (v ∷ ys)) (count_by p (u ∷ xs)) (count_by q ys) (count_by p xs) (p u) (q v) c d k
    (ap p (some_is u x s) ∙ a) (ap q (some_is v y t) ∙ b)
one-fewer p q (u ∷ xs) (v ∷ ys) e h (suc j) x y s t a b =
    let c = count-cons p u xs in let d = count-cons q v ys in
    let f = bit-less (p u) (q v) (h 0 u v refl refl) in
    let k = one-fewer p q xs ys (omega arith) (λ i m n w z. h (suc i) m n w z) j x y s t a b in omega arith

pub fewer_at : {X Y : Type 0} (p : X → Bool) (q : Y → Bool) (xs : List X) (ys : List Y) → length ys ≡ length xs
    → ((n : ℕ) (x : X) (y : Y) → at xs n ≡ Some x → at ys n ≡ Some y → q y ≡ true → p x ≡ true)
    → (n : ℕ) (x : X) (y : Y) → at xs n ≡ Some x → at ys n ≡ Some y → p x ≡ true → q y ≡ false
    → suc (count_by q ys) ≤ count_by p xs
fewer_at p q xs ys e h zero x y s t a b = absurd cc
fewer_at p q xs ys e h (suc n) x y s t a b = one-fewer p q xs ys e (λ i u v w z. h (suc i) u v w z) n x y s t a b

pub some_counted : {X : Type 0} (p : X → Bool) (xs : List X) (n : ℕ) (x : X) → at xs n ≡ Some x → p x ≡ true → 0 < count_by p xs
some_counted p xs n x s a =
    let f = fewer_at p (λ y. false) xs xs refl (λ m u v w z e. absurd (let q : false ≡ true = e in cc)) n x x s s a refl in omega arith

pub two-of : {X : Type 0} (a b f : X) → Contains (a ∷ b ∷ []) f → (a ≡ f) ⊎ (b ≡ f)
two-of a b f (zero, h, e) = inl e
two-of a b f (suc zero, h, e) = inr e
two-of a b f (suc (suc k), h, e) = absurd (omega arith)

-- which pairs are due
module _ (trail : List Assigned) (f : Literal) (p : Literal × Literal) where
  pub due_no_first : has (trues trail) p.0 ≡ true → is_due trail f (Some p) ≡ false
  due_no_first h = ap (λ b. cond b false (cond (has (trues trail) p.1) false (has (p.0 ∷ p.1 ∷ []) f))) h

  pub due_no_second : has (trues trail) p.1 ≡ true → is_due trail f (Some p) ≡ false
  due_no_second h = either (has (trues trail) p.0) due_no_first
      (λ n. ap (λ b. cond b false (cond (has (trues trail) p.1) false (has (p.0 ∷ p.1 ∷ []) f))) n
      ∙ ap (λ b. cond b false (has (p.0 ∷ p.1 ∷ []) f)) h)

  due-else : has (trues trail) p.0 ≡ false → has (trues trail) p.1 ≡ false → is_due trail f (Some p) ≡ has (p.0 ∷ p.1 ∷ []) f
  due-else n m = ap (λ b. cond b false (cond (has (trues trail) p.1) false (has (p.0 ∷ p.1 ∷ []) f))) n
      ∙ ap (λ b. cond b false (has (p.0 ∷ p.1 ∷ []) f)) m

  pub due_no_watch : has (p.0 ∷ p.1 ∷ []) f ≡ false → is_due trail f (Some p) ≡ false
  due_no_watch h = either (has (trues trail) p.0) due_no_first
      (λ n. either (has (trues trail) p.1) due_no_second (λ m. due-else n m ∙ h))

  pub due_yes : has (trues trail) p.0 ≡ false → has (trues trail) p.1 ≡ false → has (p.0 ∷ p.1 ∷ []) f ≡ true
      → is_due trail f (Some p) ≡ true
  due_yes n m h = due-else n m ∙ h

  clash : is_due trail f (Some p) ≡ true → is_due trail f (Some p) ≡ false → ⊥
  clash e n = let q : true ≡ false = sym e ∙ n in cc

  pub due_in : is_due trail f (Some p) ≡ true
      → (has (trues trail) p.0 ≡ false) × (has (trues trail) p.1 ≡ false) × (has (p.0 ∷ p.1 ∷ []) f ≡ true)
  due_in e = either (has (trues trail) p.0) (λ y. absurd (clash e (due_no_first y)))
      (λ n. either (has (trues trail) p.1) (λ y. absurd (clash e (due_no_second y)))
      (λ m. (n, m, sym (due-else n m) ∙ e)))

less-true : (trail more : List Assigned) (l : Literal) → has (trues (trail ++ more)) l ≡ false → has (trues trail) l ≡ false
less-true trail more l e = either (has (trues trail) l)
    (λ y. absurd (has-not (trues (trail ++ more)) l e
    (subst (λ x. Contains x l) (sym (map-append (λ (a : Assigned). a.literal) trail more))
    (Contains-append_left (trues trail) (trues more) l (has-contains (trues trail) l y)))))
    (λ n. n)

-- no pair becomes due as the trail grows
pub due_less : (trail more : List Assigned) (f : Literal) (q : Option (Literal × Literal)) → is_due (trail ++ more) f q ≡ true
    → is_due trail f q ≡ true
due_less trail more f None e = absurd cc
due_less trail more f (Some p) e = let r = due_in (trail ++ more) f p e in
    due_yes trail f p (less-true trail more p.0 r.0) (less-true trail more p.1 r.1) r.2

held-by : (trail : List Assigned) (f : Literal) (c : List Literal) (q : Option (Literal × Literal))
    → ((p : Literal × Literal) → q ≡ Some p → IsPair c p) → is_due trail f q ≡ true → has c f ≡ true
held-by trail f c None k e = absurd cc
held-by trail f c (Some p) k e =
    let i = k p refl in
    contains-has c f (elim (two-of p.0 p.1 f (has-contains (p.0 ∷ p.1 ∷ []) f (due_in trail f p e).2)) as (λ _. Contains c f)
    [ inl x ↦ subst (Contains c) x i.first | inr x ↦ subst (Contains c) x i.second ])

-- what is due is held
pub due_holders : (known : List (List Literal)) (trail : List Assigned) (w : Watching) (f : Literal) → IsWatching known w
    → due trail w f ≤ holders known f
due_holders known trail w f k = fewer (λ c. has c f) (is_due trail f) known w.pairs k.count
    (λ i c q s t e. held-by trail f c q (λ p z. k.pairs (suc i) c p s (t ∙ ap (λ y. Some y) z)) e)

pub charged_next : {looks looks' before after : ℕ} (k : ℕ) → IsLooked looks looks' → suc after ≤ before
    → IsCharged before after looks looks' (Next k)
charged_next k (inl e) h = (omega arith, omega arith)
charged_next k (inr e) h = let x = e.1 in (omega arith, omega arith)

pub charged_failed : {looks looks' before : ℕ} (after n : ℕ) → IsLooked looks looks' → 0 < before
    → IsCharged before after looks looks' (Failed n)
charged_failed after n (inl e) h = (omega arith, omega arith)
charged_failed after n (inr e) h = let x = e.1 in (omega arith, omega arith)

-- what the first entries weigh
module _ (known : List (List Literal)) where
  pub spent_next : (trail : List Assigned) (n : ℕ) (a : Assigned) → n < length trail
      → spent known trail (n + 1) ≡ spent known trail n + holders known (opposite (get_or trail n a).literal)
  spent_next trail n a h = sum_by_more (λ (x : Assigned). holders known (opposite x.literal)) trail n a h

  pub spent_less : (trail : List Assigned) (n : ℕ) → spent known trail n ≤ weight known trail
  spent_less trail n = sum_by-take-le (λ (x : Assigned). holders known (opposite x.literal)) trail n

  pub spent_all : (trail : List Assigned) (n : ℕ) → n ≡ length trail → spent known trail n ≡ weight known trail
  spent_all trail n e = ap (weight known) (take_all n trail (omega arith))

  pub spent_grown : (old new : List Assigned) (n : ℕ) → Grows old new → n ≤ length old → spent known new n ≡ spent known old n
  spent_grown old new n g h = ap (weight known) (ap (take n) g.1 ∙ take-push old g.0 n h)

  pub weight_grown : (old new : List Assigned) → Grows old new → weight known old ≤ weight known new
  weight_grown old new g =
      let a = spent_grown old new (length old) g (omega arith) in
      let b = spent_all old (length old) refl in
      let c = spent_less new (length old) in omega arith

  pub weight_after : (old new : List Assigned) → Grows old new → weight known old + weight known (drop (length old) new) ≡ weight known new
  weight_after old new g =
      let a = sum_by-take-drop (λ (x : Assigned). holders known (opposite x.literal)) new (length old) in
      let b = spent_grown old new (length old) g (omega arith) in
      let c = spent_all old (length old) refl in omega arith

  -- the list of one more entry was gone through
  pub spent_on : (old new : List Assigned) (n : ℕ) (a : Assigned) (l : Literal) → Grows old new → n < length old
      → l ≡ opposite (get_or old n a).literal → spent known new (n + 1) ≡ spent known old n + holders known l
  spent_on old new n a l g h e =
      let x = spent_next old n a h in let y = spent_grown old new (n + 1) g (omega arith) in
      let z = ap (holders known) e in omega arith

pub looks_at_holders : (old new : Shown) → Grows old.trail new.trail
    → new.looks + weight old.known old.trail ≤ old.looks + weight old.known new.trail → old.looks ≤ new.looks → LooksAtHolders old new
looks_at_holders old new g h m = record { grows = m; at_most = (let a = weight_after old.known old.trail new.trail g in omega arith) }
