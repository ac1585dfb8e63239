-- What an expression or a source is worth, and what is outside in it, depends on the slots alone that it reads.
use Rattle.std.proofs.Common.{◌≡◌, ℕ, Bool, true, false, List, [], ◌∷◌, ◌++◌, refl}
use Rattle.std.specs.List.{AllByRecursion}
use Rattle.lus_meaning.specs.Value.{Value, is}
use Rattle.slot_values.specs.Resolution.{Resolution, known, slot, negated, opposite, combined, chosen, started, sampled, merged, latest}
use Rattle.slot_values.specs.Evaluated.{SlotValues, is_there, worth, outside}
use Rattle.slot_sources.specs.Source.{Source, always, runs, runs_while, same, given, argument, listed, remembered, starting, held, unread}
use Rattle.slot_sources.specs.Rows.{brought_next, outside_next, outside_now, reads_before, reads_now, slots_read, value_now}

abbrev pub SameOn : SlotValues → SlotValues → List ℕ → Type 0
SameOn s r ks = AllByRecursion (λ k. s k ≡ r k) ks

pub left_of : {X : Type 0} (P : X → Type 0) (xs ys : List X) → AllByRecursion P (xs ++ ys) → AllByRecursion P xs
left_of P [] ys a = tt
left_of P (x ∷ xs) ys a = (a.0, left_of P xs ys a.1)

pub right_of : {X : Type 0} (P : X → Type 0) (xs ys : List X) → AllByRecursion P (xs ++ ys) → AllByRecursion P ys
right_of P [] ys a = a
right_of P (x ∷ xs) ys a = right_of P xs ys a.1

module _ (s r : SlotValues) where
  first : (a b : Resolution) → SameOn s r (slots_read a ++ slots_read b) → SameOn s r (slots_read a)
  first a b h = left_of (λ k. s k ≡ r k) (slots_read a) (slots_read b) h

  second : (a b : Resolution) → SameOn s r (slots_read a ++ slots_read b) → SameOn s r (slots_read b)
  second a b h = right_of (λ k. s k ≡ r k) (slots_read a) (slots_read b) h

  front : (a b d : Resolution) → SameOn s r ((slots_read a ++ slots_read b) ++ slots_read d) → SameOn s r (slots_read a ++ slots_read b)
  front a b d h = left_of (λ k. s k ≡ r k) (slots_read a ++ slots_read b) (slots_read d) h

  back : (a b d : Resolution) → SameOn s r ((slots_read a ++ slots_read b) ++ slots_read d) → SameOn s r (slots_read d)
  back a b d h = right_of (λ k. s k ≡ r k) (slots_read a ++ slots_read b) (slots_read d) h

  one : (a : Resolution) (ks : List ℕ) → SameOn s r (slots_read a ++ ks) → SameOn s r (slots_read a)
  one a ks h = left_of (λ k. s k ≡ r k) (slots_read a) ks h

  rest : (a : Resolution) (ks : List ℕ) → SameOn s r (slots_read a ++ ks) → SameOn s r ks
  rest a ks h = right_of (λ k. s k ≡ r k) (slots_read a) ks h

  pub worth_same : (on : Bool) (e : Resolution) → SameOn s r (slots_read e) → worth s on e ≡ worth r on e
  worth_same on (known v) h = refl
  worth_same on (slot k) h = rw (h.0) refl
  worth_same on (negated a) h = rw (worth_same on a h) refl
  worth_same on (opposite p a) h = rw (worth_same on a h) refl
  worth_same on (combined p o a b) h = rw (worth_same on a (first a b h), worth_same on b (second a b h)) refl
  worth_same on (chosen a b d) h =
      let q = front a b d h in rw (worth_same on a (first a b q), worth_same on b (second a b q), worth_same on d (back a b d h)) refl
  worth_same on (started k a b) h = rw (h.0, worth_same on a (first a b h.1), worth_same on b (second a b h.1)) refl
  worth_same on (sampled k w a) h = rw (h.0, worth_same (is_there (r k)) a h.1) refl
  worth_same on (merged k a b) h =
      rw (h.0, worth_same (is true (r k)) a (first a b h.1), worth_same (is false (r k)) b (second a b h.1)) refl
  worth_same on (latest a b o d) h = let q = rest a (b ∷ o ∷ d ∷ []) h in rw (q.0, q.1.0, q.1.1.0) refl

  pub outside_same : (on : Bool) (e : Resolution) → SameOn s r (slots_read e) → outside s on e ≡ outside r on e
  outside_same on (known v) h = refl
  outside_same on (slot k) h = refl
  outside_same on (negated a) h = outside_same on a h
  outside_same on (opposite p a) h = rw (outside_same on a h, worth_same on a h) refl
  outside_same on (combined p o a b) h =
      rw (outside_same on a (first a b h), outside_same on b (second a b h), worth_same on a (first a b h), worth_same on b (second a b h)) refl
  outside_same on (chosen a b d) h =
      let q = front a b d h in rw (outside_same on a (first a b q), outside_same on b (second a b q), outside_same on d (back a b d h)) refl
  outside_same on (started k a b) h = rw (outside_same on a (first a b h.1), outside_same on b (second a b h.1)) refl
  outside_same on (sampled k w a) h = rw (h.0, outside_same (is_there (r k)) a h.1) refl
  outside_same on (merged k a b) h =
      rw (h.0, outside_same (is true (r k)) a (first a b h.1), outside_same (is false (r k)) b (second a b h.1)) refl
  outside_same on (latest a b o d) h = outside_same on a (one a (b ∷ o ∷ d ∷ []) h)

  -- ---- sources

  pub now_same : (v : Value) (e : Source) → SameOn s r (reads_now e) → value_now s v e ≡ value_now r v e
  now_same v always h = refl
  now_same v (runs w) h = rw (h.0) refl
  now_same v (runs_while w e) h = rw (h.0, worth_same (is w.wanted (r w.slot)) e h.1) refl
  now_same v (same k) h = h.0
  now_same v (given w e) h = rw (h.0) (worth_same (is w.wanted (r w.slot)) e h.1)
  now_same v (argument b w e) h = rw (h.0, h.1.0, worth_same (is w.wanted (r w.slot)) e h.1.1) refl
  now_same v (listed w) h = rw (h.0) refl
  now_same v (remembered w e) h = refl
  now_same v (starting w) h = refl
  now_same v (held b o d) h = refl
  now_same v unread h = refl

  pub outside_now_same : (e : Source) → SameOn s r (reads_now e) → outside_now s e ≡ outside_now r e
  outside_now_same always h = refl
  outside_now_same (runs w) h = refl
  outside_now_same (runs_while w e) h = rw (h.0) (outside_same (is w.wanted (r w.slot)) e h.1)
  outside_now_same (same k) h = refl
  outside_now_same (given w e) h = rw (h.0) (outside_same (is w.wanted (r w.slot)) e h.1)
  outside_now_same (argument b w e) h = rw (h.1.0) (outside_same (is w.wanted (r w.slot)) e h.1.1)
  outside_now_same (listed w) h = refl
  outside_now_same (remembered w e) h = refl
  outside_now_same (starting w) h = refl
  outside_now_same (held b o d) h = refl
  outside_now_same unread h = refl

  pub next_same : (k : ℕ) (e : Source) → s k ≡ r k → SameOn s r (reads_before e) → brought_next s k e ≡ brought_next r k e
  next_same k always q h = refl
  next_same k (runs w) q h = refl
  next_same k (runs_while w e) q h = refl
  next_same k (same j) q h = refl
  next_same k (given w e) q h = refl
  next_same k (argument b w e) q h = refl
  next_same k (listed w) q h = refl
  next_same k (remembered w e) q h = rw (h.0, q, worth_same (is w.wanted (r w.slot)) e h.1) refl
  next_same k (starting w) q h = rw (h.0, q) refl
  next_same k (held b o d) q h = rw (h.0, h.1.0, q) refl
  next_same k unread q h = refl

  pub outside_next_same : (e : Source) → SameOn s r (reads_before e) → outside_next s e ≡ outside_next r e
  outside_next_same always h = refl
  outside_next_same (runs w) h = refl
  outside_next_same (runs_while w e) h = refl
  outside_next_same (same j) h = refl
  outside_next_same (given w e) h = refl
  outside_next_same (argument b w e) h = refl
  outside_next_same (listed w) h = refl
  outside_next_same (remembered w e) h = rw (h.0) (outside_same (is w.wanted (r w.slot)) e h.1)
  outside_next_same (starting w) h = refl
  outside_next_same (held b o d) h = refl
  outside_next_same unread h = refl
