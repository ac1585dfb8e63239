-- The numbers below a count that are marked.
use Rattle.std.proofs.Common.{◌≡◌, ℕ, zero, suc, ◌<◌, ◌≤◌, ◌+◌, Bool, true, false, cond, List, [], ◌∷◌, ◌++◌, length, refl, sym, ap, ◌∙◌, subst, arith, add-one}
use Rattle.std.specs.Prelude.{Contains, slice_index}
use Rattle.std.specs.List.Sorted.{IsStrictlyIncreasing}
use Rattle.std.proofs.Math.Logic.{◌⊎◌, inl, inr}
use Rattle.std.proofs.lemmas.List.{append-nil}
use Rattle.std.proofs.lemmas.List.Elements.{Contains-append_cases, Contains-append_left, Contains-append_right}
use Rattle.std.proofs.lemmas.Bool.{cases_lt}
use Rattle.lus_tree.specs.Tree.{Name, Variable}
use Rattle.number_graphs.specs.Graphs.{Rows, is_marked}
use Rattle.lus_order.specs.MarkedBelow.{marked_below, IsLedBelow, AreLed}

behind : (x k : ℕ) (xs : List ℕ) → Contains xs k → Contains (x ∷ xs) k
behind x k xs (j, l, e) = (suc j, omega arith, e)

-- each number is below the next
abbrev Rises : List ℕ → Type 0
Rises xs = (j : ℕ) → suc j < length xs → slice_index xs j < slice_index xs (suc j)

more_rising : (xs : List ℕ) (k : ℕ) → Rises xs → ((j : ℕ) → Contains xs j → j < k) → Rises (xs ++ k ∷ [])
more_rising [] k h b j l = absurd (omega arith)
more_rising (x ∷ []) k h b zero l = b x (0, omega arith, refl)
more_rising (x ∷ []) k h b (suc j) l = absurd (omega arith)
more_rising (x ∷ y ∷ ys) k h b zero l = h 0 (omega arith)
more_rising (x ∷ y ∷ ys) k h b (suc j) l =
    more_rising (y ∷ ys) k (λ i m. h (suc i) (omega arith)) (λ i c. b i (behind x i (y ∷ ys) c)) j (omega arith)

rising : (xs : List ℕ) → Rises xs → IsStrictlyIncreasing xs
rising xs h j l = subst (λ i. slice_index xs j < slice_index xs i) (sym (add-one j)) (h j (omega arith))

module _ (marks : List Bool) where
  pub marked_there : (count k : ℕ) → Contains (marked_below marks count) k → (k < count) × (is_marked marks k ≡ true)
  marked_there zero k (j, l, e) = absurd (omega arith)
  marked_there (suc c) k h = go (marked_there c k) (Contains-append_cases (marked_below marks c) (cond (is_marked marks c) (c ∷ []) []) k h)
    where
      last : (b : Bool) → is_marked marks c ≡ b → Contains (cond b (c ∷ []) []) k → (k < suc c) × (is_marked marks k ≡ true)
      last false t (j, l, e) = absurd (omega arith)
      last true t (zero, l, e) = (omega (arith, e), subst (λ z. is_marked marks z ≡ true) e t)
      last true t (suc j, l, e) = absurd (omega arith)

      go : (Contains (marked_below marks c) k → (k < c) × (is_marked marks k ≡ true))
          → Contains (marked_below marks c) k ⊎ Contains (cond (is_marked marks c) (c ∷ []) []) k → (k < suc c) × (is_marked marks k ≡ true)
      go r (inl i) = let q : (k < c) × (is_marked marks k ≡ true) = r i in (omega (arith, q.0), q.1)
      go r (inr i) = last (is_marked marks c) refl i

  pub there_marked : (count k : ℕ) → k < count → is_marked marks k ≡ true → Contains (marked_below marks count) k
  there_marked zero k l e = absurd (omega arith)
  there_marked (suc c) k l e = go (λ h. there_marked c k h e) (cases_lt k c)
    where
      go : (k < c → Contains (marked_below marks c) k) → (k < c) ⊎ (c ≤ k) → Contains (marked_below marks (suc c)) k
      go r (inl h) = Contains-append_left (marked_below marks c) (cond (is_marked marks c) (c ∷ []) []) k (r h)
      go r (inr h) =
          let s : c ≡ k = omega arith in
          Contains-append_right (marked_below marks c) (cond (is_marked marks c) (c ∷ []) []) k
          (subst (λ b. Contains (cond b (c ∷ []) []) k) (sym (ap (is_marked marks) s ∙ e)) (0, omega arith, s))

  marked_rising : (count : ℕ) → Rises (marked_below marks count)
  marked_rising zero = λ j l. absurd (omega arith)
  marked_rising (suc c) = go (marked_rising c) (is_marked marks c)
    where
      go : Rises (marked_below marks c) → (b : Bool) → Rises (marked_below marks c ++ cond b (c ∷ []) [])
      go r true = more_rising (marked_below marks c) c r (λ j h. (marked_there c j h).0)
      go r false = subst Rises (sym (append-nil (marked_below marks c))) r

  pub marked_increasing : (count : ℕ) → IsStrictlyIncreasing (marked_below marks count)
  marked_increasing count = rising (marked_below marks count) (marked_rising count)

-- ---- output by output

module _ (rows : Rows) (names : List Name) (count : ℕ) where
  pub led_more : (os : List Variable) (kss : List (List ℕ)) (o : Variable) (ks : List ℕ) → AreLed rows names count os kss
      → IsLedBelow rows names count o.name.text ks → AreLed rows names count (os ++ o ∷ []) (kss ++ ks ∷ [])
  led_more [] [] o ks a b = (b, tt)
  led_more [] (j ∷ kss) o ks a b = absurd a
  led_more (p ∷ os) [] o ks a b = absurd a
  led_more (p ∷ os) (j ∷ kss) o ks a b = (a.0, led_more os kss o ks a.1 b)

pub below_more : (marks : List Bool) (k : ℕ) (old new : List ℕ) → old ≡ marked_below marks k
    → new ≡ old ++ cond (is_marked marks k) (k ∷ []) [] → new ≡ marked_below marks (k + 1)
below_more marks k old new e f = rw add-one (f ∙ ap (λ ks. ks ++ cond (is_marked marks k) (k ∷ []) []) e)
