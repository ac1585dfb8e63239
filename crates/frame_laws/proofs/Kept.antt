-- Streams of which the instants are left out at which something is off, and what stays of them.
use Rattle.std.proofs.Common.{◌≡◌, ℕ, zero, suc, ◌<◌, ◌≤◌, ◌+◌, Bool, true, false, cond, ◌||◌, List, [], ◌∷◌, map, length, refl, sym, ap, ◌∙◌, subst, arith, slice_index_or}
use Rattle.std.proofs.lemmas.Bool.{cases_Bool}
use Rattle.std.proofs.Math.Logic.{◌⊎◌, inl, inr}
use Rattle.lus_meaning.specs.Value.{Value, absent, Stream, Instants, was_on, latest}
use Rattle.lus_meaning.specs.Meaning.{head_stream, held, held_outputs}
use Rattle.lus_meaning.specs.Run.{at_instant}
use Rattle.lus_meaning.specs.Squeeze.{kept, beats_before}

-- ---- instants

pub before_on : (o : Instants) (t : ℕ) → o t ≡ true → beats_before o (suc t) ≡ suc (beats_before o t)
before_on o t e = ap (λ c. cond c (beats_before o t + 1) (beats_before o t)) e ∙ one (beats_before o t)
  where
    one : (k : ℕ) → k + 1 ≡ suc k
    one k = omega arith

pub before_off : (o : Instants) (t : ℕ) → o t ≡ false → beats_before o (suc t) ≡ beats_before o t
before_off o t e = ap (λ c. cond c (beats_before o t + 1) (beats_before o t)) e

-- each instant that is left is that of one before
pub over_kept : (o : Instants) (n : ℕ) (P : ℕ → Type 0) → ((t : ℕ) → t < n → o t ≡ true → P (beats_before o t))
    → (u : ℕ) → u < beats_before o n → P u
over_kept o zero P h u l = absurd (omega arith)
over_kept o (suc n) P h u l = go (cases_Bool (o n)) (over_kept o n P (λ t q. h t (omega arith)) u)
  where
    split : (v j : ℕ) → v < suc j → (v < j) ⊎ (v ≡ j)
    split zero zero q = inr refl
    split zero (suc j) q = inl (omega arith)
    split (suc v) zero q = absurd (omega arith)
    split (suc v) (suc j) q = over (split v j (omega arith))
      where
        over : (v < j) ⊎ (v ≡ j) → (suc v < suc j) ⊎ (suc v ≡ suc j)
        over (inl a) = inl (omega arith)
        over (inr a) = inr (ap suc a)

    last : o n ≡ true → (u < beats_before o n → P u) → (u < beats_before o n) ⊎ (u ≡ beats_before o n) → P u
    last k r (inl m) = r m
    last k r (inr m) = subst P (sym m) (h n (omega arith) k)

    go : (o n ≡ true) ⊎ (o n ≡ false) → (u < beats_before o n → P u) → P u
    go (inl k) r = last k r (split u (beats_before o n) (subst (λ m. u < m) (before_on o n k) l))
    go (inr k) r = r (subst (λ m. u < m) (before_off o n k) l)

-- ---- lists of values

abbrev one_more : Bool → ℕ → ℕ
one_more c m = cond c (suc m) m

-- so many instants from k on
abbrev between : Instants → ℕ → ℕ → ℕ
between o k zero = 0
between o k (suc n) = one_more (o k) (between o (suc k) n)

between_last : (o : Instants) (k n : ℕ) → between o k (suc n) ≡ one_more (o (k + n)) (between o k n)
between_last o k zero = let e : k ≡ k + 0 = omega arith in ap (λ j. one_more (o j) 0) e
between_last o k (suc n) =
    ap (one_more (o k)) (between_last o (suc k) n) ∙ swap (o k) (o (suc k + n)) (between o (suc k) n)
    ∙ ap (λ j. one_more (o j) (one_more (o k) (between o (suc k) n))) same
  where
    same : suc k + n ≡ k + suc n
    same = omega arith

    swap : (c d : Bool) (m : ℕ) → one_more c (one_more d m) ≡ one_more d (one_more c m)
    swap true true m = refl
    swap true false m = refl
    swap false d m = refl

between_all : (o : Instants) (n : ℕ) → between o 0 n ≡ beats_before o n
between_all o zero = refl
between_all o (suc n) =
    between_last o 0 n ∙ ap (λ j. one_more (o j) (between o 0 n)) same ∙ ap (one_more (o n)) (between_all o n)
    ∙ ap (λ m. cond (o n) m (beats_before o n)) one
  where
    same : 0 + n ≡ n
    same = omega arith

    one : suc (beats_before o n) ≡ beats_before o n + 1
    one = omega arith

kept_length : (o : Instants) (k : ℕ) (xs : List Value) → length (kept o k xs) ≡ between o k (length xs)
kept_length o k [] = refl
kept_length o k (x ∷ xs) = go (o k) (kept_length o (suc k) xs)
  where
    go : (c : Bool) → length (kept o (suc k) xs) ≡ between o (suc k) (length xs)
        → length (cond c (x ∷ kept o (suc k) xs) (kept o (suc k) xs)) ≡ cond c (suc (between o (suc k) (length xs))) (between o (suc k) (length xs))
    go true r = ap suc r
    go false r = r

pub all_kept : (o : Instants) (xs : List Value) → length (kept o 0 xs) ≡ beats_before o (length xs)
all_kept o xs = kept_length o 0 xs ∙ between_all o (length xs)

kept_at : (o : Instants) (k : ℕ) (xs : List Value) (t : ℕ) → o (k + t) ≡ true
    → slice_index_or (kept o k xs) (between o k t) absent ≡ slice_index_or xs t absent
kept_at o k [] t e = refl
kept_at o k (x ∷ xs) zero e =
    let here : o k ≡ true = (let z : k ≡ k + 0 = omega arith in ap o z) ∙ e in
    ap (λ c. slice_index_or (cond c (x ∷ kept o (suc k) xs) (kept o (suc k) xs)) 0 absent) here
kept_at o k (x ∷ xs) (suc t) e = go (o k) (kept_at o (suc k) xs t ((let z : suc k + t ≡ k + suc t = omega arith in ap o z) ∙ e))
  where
    go : (c : Bool) → slice_index_or (kept o (suc k) xs) (between o (suc k) t) absent ≡ slice_index_or xs t absent
        → slice_index_or (cond c (x ∷ kept o (suc k) xs) (kept o (suc k) xs)) (cond c (suc (between o (suc k) t)) (between o (suc k) t)) absent
        ≡ slice_index_or xs t absent
    go true r = r
    go false r = r

pub kept_value : (o : Instants) (xs : List Value) (t : ℕ) → o t ≡ true
    → slice_index_or (kept o 0 xs) (beats_before o t) absent ≡ slice_index_or xs t absent
kept_value o xs t e = ap (λ k. slice_index_or (kept o 0 xs) k absent) (sym (between_all o t)) ∙ kept_at o 0 xs t (ap o same ∙ e)
  where
    same : 0 + t ≡ t
    same = omega arith

-- ---- streams

module _ (o : Instants) (n : ℕ) where
  -- the second is the first without the instants that are left out
  abbrev pub IsKept : Stream → Stream → Type 0
  IsKept xs xs' = (t : ℕ) → t < n → o t ≡ true → xs' (beats_before o t) ≡ xs t

  -- so of instants, and where instants are left out it is off
  pub record AreKept (on on' : Instants) : Type 0 where
    pub same : (t : ℕ) → t < n → o t ≡ true → on' (beats_before o t) ≡ on t
    pub off : (t : ℕ) → t < n → o t ≡ false → on t ≡ false

  abbrev pub EachKept : List Stream → List Stream → Type 0
  EachKept [] [] = Unit {0}
  EachKept (x ∷ xs) (y ∷ ys) = IsKept x y × EachKept xs ys
  EachKept [] (y ∷ ys) = ⊥
  EachKept (x ∷ xs) [] = ⊥

  pub latest_kept : (on on' : Instants) → AreKept on on' → (xs xs' : Stream) → IsKept xs xs' → (v v' : Value) → v' ≡ v → (t : ℕ) → t ≤ n
      → latest on' xs' v' (beats_before o t) ≡ latest on xs v t
  latest_kept on on' a xs xs' k v v' e zero l = e
  latest_kept on on' a xs xs' k v v' e (suc t) l = go (cases_Bool (o t)) (latest_kept on on' a xs xs' k v v' e t (omega arith))
    where
      go : (o t ≡ true) ⊎ (o t ≡ false) → latest on' xs' v' (beats_before o t) ≡ latest on xs v t
          → latest on' xs' v' (beats_before o (suc t)) ≡ cond (on t) (xs t) (latest on xs v t)
      go (inl h) r = ap (latest on' xs' v') (before_on o t h) ∙ rw (a.same t (omega arith) h, k t (omega arith) h, r) refl
      go (inr h) r = ap (latest on' xs' v') (before_off o t h) ∙ rw (a.off t (omega arith) h) r

  pub was_on_kept : (on on' : Instants) → AreKept on on' → (t : ℕ) → t ≤ n → was_on on' (beats_before o t) ≡ was_on on t
  was_on_kept on on' a zero l = refl
  was_on_kept on on' a (suc t) l = go (cases_Bool (o t)) (was_on_kept on on' a t (omega arith))
    where
      go : (o t ≡ true) ⊎ (o t ≡ false) → was_on on' (beats_before o t) ≡ was_on on t
          → was_on on' (beats_before o (suc t)) ≡ (on t || was_on on t)
      go (inl h) r = ap (was_on on') (before_on o t h) ∙ rw (a.same t (omega arith) h, r) refl
      go (inr h) r = ap (was_on on') (before_off o t h) ∙ rw (a.off t (omega arith) h) r

  pub held_kept : (on on' act act' : Instants) → AreKept on on' → AreKept act act' → (xs xs' ds ds' : Stream) → IsKept xs xs' → IsKept ds ds'
      → IsKept (held on act xs ds) (held on' act' xs' ds')
  held_kept on on' act act' a b xs xs' ds ds' x d t l h =
      let latest_same : latest act' xs' (ds' (beats_before o t)) (suc (beats_before o t)) ≡ latest act xs (ds t) (suc t) =
      ap (latest act' xs' (ds' (beats_before o t))) (sym (before_on o t h))
      ∙ latest_kept act act' b xs xs' x (ds t) (ds' (beats_before o t)) (d t l h) (suc t) (omega arith) in
      ap (λ c. cond c (latest act' xs' (ds' (beats_before o t)) (suc (beats_before o t))) absent) (a.same t l h)
      ∙ ap (λ v. cond (on t) v absent) latest_same

  pub held_each_kept : (on on' act act' : Instants) → AreKept on on' → AreKept act act' → (xs xs' ds ds' : List Stream) → EachKept xs xs' → EachKept ds ds'
      → EachKept (held_outputs on act xs ds) (held_outputs on' act' xs' ds')
  held_each_kept on on' act act' a b [] [] ds ds' x d = tt
  held_each_kept on on' act act' a b [] (y ∷ xs') ds ds' x d = absurd x
  held_each_kept on on' act act' a b (y ∷ xs) [] ds ds' x d = absurd x
  held_each_kept on on' act act' a b (y ∷ xs) (y' ∷ xs') [] [] x d = tt
  held_each_kept on on' act act' a b (y ∷ xs) (y' ∷ xs') [] (z ∷ ds') x d = absurd d
  held_each_kept on on' act act' a b (y ∷ xs) (y' ∷ xs') (z ∷ ds) [] x d = absurd d
  held_each_kept on on' act act' a b (y ∷ xs) (y' ∷ xs') (z ∷ ds) (z' ∷ ds') x d =
      (held_kept on on' act act' a b y y' z z' x.0 d.0, held_each_kept on on' act act' a b xs xs' ds ds' x.1 d.1)

  pub head_kept : (xs xs' : List Stream) → EachKept xs xs' → IsKept (head_stream xs) (head_stream xs')
  head_kept [] [] h t l e = refl
  head_kept (x ∷ xs) (y ∷ ys) h t l e = h.0 t l e
  head_kept [] (y ∷ ys) h t l e = absurd h
  head_kept (x ∷ xs) [] h t l e = absurd h

  pub at_kept : (xs xs' : List Stream) → EachKept xs xs' → (t : ℕ) → t < n → o t ≡ true → at_instant (beats_before o t) xs' ≡ at_instant t xs
  at_kept [] [] h t l e = refl
  at_kept (x ∷ xs) (y ∷ ys) h t l e = rw (h.0 t l e, at_kept xs ys h.1 t l e) refl
  at_kept [] (y ∷ ys) h t l e = absurd h
  at_kept (x ∷ xs) [] h t l e = absurd h

  pub mapped_kept : {A : Type 0} (g g' : A → Stream) → ((a : A) → IsKept (g a) (g' a)) → (as_ : List A) → EachKept (map g as_) (map g' as_)
  mapped_kept g g' h [] = tt
  mapped_kept g g' h (a ∷ as_) = (h a, mapped_kept g g' h as_)
