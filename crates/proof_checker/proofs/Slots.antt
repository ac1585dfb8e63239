-- The kept places stand for those in the list: what a write keeps.
use Rattle.std.specs.Prelude.{ℕ, zero, suc, ◌≡◌, ◌==◌, ◌<◌, ◌+◌, ◌-◌, ◌≤◌, Bool, true, false, cond, List, [], ◌∷◌, length, get_or, drop, slice_set, replicate, refl}
use Rattle.std.proofs.Common.{sym, ◌∙◌, ap, subst, arith}
use Rattle.std.proofs.lemmas.List.{length-set, drop_more, drop_all, length-replicate, get_or-replicate}
use Rattle.std.proofs.lemmas.Bool.Decides.{nat_tests}
use lib.IntN.{ℤ, ◌+ℤ◌}
use Rattle.proof_checker.specs.Theory.{plus}
use Rattle.proof_checker.specs.Slots.{place, later, slot, AreSlots, AreForgotten}
use Rattle.proof_checker.proofs.Sound.{either}

zero-is-suc : (m : ℕ) → (0 == suc m) ≡ false
zero-is-suc m = grind (arith, nat_tests)

suc-is-zero : (m : ℕ) → (suc m == 0) ≡ false
suc-is-zero m = grind (arith, nat_tests)

suc-is-suc : (n m : ℕ) → (suc n == suc m) ≡ (n == m)
suc-is-suc n m = grind (arith, nat_tests)

get-set : (slots : List ℕ) (n v x : ℕ) → x < length slots → get_or (slice_set slots n v) x 0 ≡ cond (n == x) v (get_or slots x 0)
get-set [] n v x h = absurd (omega arith)
get-set (s ∷ ss) zero v zero h = refl
get-set (s ∷ ss) zero v (suc x) h = subst (λ b. get_or ss x 0 ≡ cond b v (get_or ss x 0)) (sym (zero-is-suc x)) refl
get-set (s ∷ ss) (suc n) v zero h = subst (λ b. s ≡ cond b v s) (sym (suc-is-zero n)) refl
get-set (s ∷ ss) (suc n) v (suc x) h = subst (λ b. get_or (slice_set ss n v) x 0 ≡ cond b v (get_or ss x 0)) (sym (suc-is-suc n x))
    (get-set ss n v x (omega arith))

none-before : (y x : ℕ) (rest : List (ℕ × ℤ)) (q : ℤ) → slot ((y, q) ∷ rest) x ≡ 0 → ((y == x) ≡ false) × (slot rest x ≡ 0)
none-before y x rest q h = go (y == x) (slot rest x) h where
  go : (b : Bool) (s : ℕ) → cond b 1 (later s) ≡ 0 → (b ≡ false) × (s ≡ 0)
  go true s h = absurd (omega arith)
  go false zero h = (refl, refl)
  go false (suc s) h = absurd (omega arith)

no-place : (ts : List (ℕ × ℤ)) (x : ℕ) → slot ts x ≡ 0 → place ts x ≡ length ts
no-place [] x h = refl
no-place ((y, q) ∷ rest) x h =
    let n = none-before y x rest q h in
    ap (λ b. cond b 0 (suc (place rest x))) n.0 ∙ ap suc (no-place rest x n.1)

earlier : (s j : ℕ) → later s ≡ suc j → (i : ℕ) × (s ≡ suc i) × (j ≡ suc i)
earlier zero j h = absurd (omega arith)
earlier (suc s) j h = (s, refl, omega arith)

some-more : (b : Bool) (s p k : ℕ) → cond b 1 (later s) ≡ suc k → ((i : ℕ) → s ≡ suc i → p ≡ i) → cond b 0 (suc p) ≡ k
some-more true s p k h f = omega arith
some-more false s p k h f = let (i, e, w) = earlier s k h in let q : p ≡ i = f i e in omega arith

some-place : (ts : List (ℕ × ℤ)) (x k : ℕ) → slot ts x ≡ suc k → place ts x ≡ k
some-place [] x k h = absurd (omega arith)
some-place ((y, q) ∷ rest) x k h = some-more (y == x) (slot rest x) (place rest x) k h (λ i e. some-place rest x i e)

below-more : (b : Bool) (p n : ℕ) → p ≤ n → cond b 0 (suc p) ≤ suc n
below-more true p n h = omega arith
below-more false p n h = omega arith

pub place_at_most : (ts : List (ℕ × ℤ)) (x : ℕ) → place ts x ≤ length ts
place_at_most [] x = omega arith
place_at_most ((y, q) ∷ rest) x = below-more (y == x) (place rest x) (length rest) (place_at_most rest x)

pub place_none : (slots : List ℕ) (ts : List (ℕ × ℤ)) (x : ℕ) → AreSlots slots ts → x < length slots → get_or slots x 0 ≡ 0 → place ts x ≡ length ts
place_none slots ts x a h e = no-place ts x (sym (a.each x h) ∙ e)

pub place_some : (slots : List ℕ) (ts : List (ℕ × ℤ)) (x : ℕ) → AreSlots slots ts → x < length slots → 0 < get_or slots x 0 → get_or slots x 0 - 1 ≡ place ts x
place_some slots ts x a h g = go (get_or slots x 0) refl g where
  go : (s : ℕ) → get_or slots x 0 ≡ s → 0 < s → s - 1 ≡ place ts x
  go zero e g = absurd (omega arith)
  go (suc k) e g = let p : place ts x ≡ k = some-place ts x k (sym (a.each x h) ∙ e) in omega arith

number-is : (m n : ℕ) → (m == n) ≡ true → m ≡ n
number-is m n h = grind (arith, nat_tests)

differ : (y n x : ℕ) → (y == n) ≡ false → (n == x) ≡ true → (y == x) ≡ false
differ y n x h g = let e : n ≡ x = number-is n x g in subst (λ z. (y == z) ≡ false) e h

slot-plus : (ts : List (ℕ × ℤ)) (n : ℕ) (p : ℤ) (x : ℕ) → slot (plus ts n p) x ≡ cond (n == x) (suc (place ts n)) (slot ts x)
slot-plus [] n p x = refl
slot-plus ((y, q) ∷ rest) n p x = either (y == n)
    (λ h. subst (λ b. slot (cond b ((y, q +ℤ p) ∷ rest) ((y, q) ∷ plus rest n p)) x ≡ cond (n == x) (suc (cond b 0 (suc (place rest n))))
    (slot ((y, q) ∷ rest) x)) (sym h)
    (let e : y ≡ n = number-is y n h in
    subst (λ z. cond (y == x) 1 (later (slot rest x)) ≡ cond (z == x) 1 (cond (y == x) 1 (later (slot rest x)))) e (same (y == x) (later (slot rest x)))))
    (λ h. subst (λ b. slot (cond b ((y, q +ℤ p) ∷ rest) ((y, q) ∷ plus rest n p)) x ≡ cond (n == x) (suc (cond b 0 (suc (place rest n))))
    (slot ((y, q) ∷ rest) x)) (sym h)
    (ap (λ s. cond (y == x) 1 (later s)) (slot-plus rest n p x)
    ∙ either (n == x)
    (λ g. subst (λ b. cond (y == x) 1 (later (cond b (suc (place rest n)) (slot rest x))) ≡ cond b (suc (suc (place rest n)))
    (cond (y == x) 1 (later (slot rest x)))) (sym g)
    (ap (λ b. cond b 1 (suc (suc (place rest n)))) (differ y n x h g)))
    (λ g. subst (λ b. cond (y == x) 1 (later (cond b (suc (place rest n)) (slot rest x))) ≡ cond b (suc (suc (place rest n)))
    (cond (y == x) 1 (later (slot rest x)))) (sym g) refl)))
  where
    same : (b : Bool) (s : ℕ) → cond b 1 s ≡ cond b 1 (cond b 1 s)
    same true s = refl
    same false s = refl

-- a term more, whose place is kept
pub slots_more : (slots slots' : List ℕ) (ts ts' : List (ℕ × ℤ)) (n : ℕ) (p : ℤ) (k : ℕ) → AreSlots slots ts → k ≡ suc (place ts n)
    → ts' ≡ plus ts n p → slots' ≡ slice_set slots n k → AreSlots slots' ts'
slots_more slots slots' ts ts' n p k a e t s =
    subst (λ z. AreSlots z ts') (sym s) (subst (λ z. AreSlots (slice_set slots n k) z) (sym t) (record {
      each = λ x h. let l : x < length slots = subst (λ z. x < z) (length-set slots n k) h in
          get-set slots n k x l
          ∙ ap (λ z. cond (n == x) k z) (a.each x l)
          ∙ ap (λ z. cond (n == x) z (slot ts x)) e
          ∙ sym (slot-plus ts n p x);
    }))

pub forgotten_first : (slots : List ℕ) (ts : List (ℕ × ℤ)) → AreSlots slots ts → AreForgotten slots ts
forgotten_first slots ts a = record { each = λ x h e. a.each x h ∙ e }

forgotten-next : (slots : List ℕ) (t : ℕ × ℤ) (rest : List (ℕ × ℤ)) → AreForgotten slots (t ∷ rest) → AreForgotten (slice_set slots t.0 0) rest
forgotten-next slots (y, q) rest f = record {
  each = λ x h e. let l : x < length slots = subst (λ z. x < z) (length-set slots y 0) h in
      get-set slots y 0 x l ∙ either (y == x)
      (λ g. ap (λ b. cond b 0 (get_or slots x 0)) g)
      (λ g. ap (λ b. cond b 0 (get_or slots x 0)) g ∙ f.each x l (ap (λ b. cond b 1 (later (slot rest x))) g ∙ ap later e));
}

pub forgotten_more : (slots slots' : List ℕ) (ts : List (ℕ × ℤ)) (i : ℕ) (d : ℕ × ℤ) (n : ℕ) → i < length ts → n ≡ (get_or ts i d).0
    → AreForgotten slots (drop i ts) → slots' ≡ slice_set slots n 0 → AreForgotten slots' (drop (i + 1) ts)
forgotten_more slots slots' ts i d n h e f s =
    subst (λ z. AreForgotten z (drop (i + 1) ts)) (sym (s ∙ ap (λ z. slice_set slots z 0) e))
    (forgotten-next slots (get_or ts i d) (drop (i + 1) ts) (subst (AreForgotten slots) (drop_more ts i d h) f))

pub forgotten_all : (slots : List ℕ) (ts : List (ℕ × ℤ)) (i : ℕ) → length ts ≤ i → AreForgotten slots (drop i ts) → AreSlots slots []
forgotten_all slots ts i h f = record {
  each = λ x l. f.each x l (ap (λ z. slot z x) (drop_all i ts h));
}

pub slots_new : (n : ℕ) → AreSlots (replicate n 0) []
slots_new n = record { each = λ x h. get_or-replicate n x 0 0 (subst (λ z. x < z) (length-replicate n 0) h) }
