-- Values read and cut into states one after the other.
use Rattle.std.specs.Prelude.{ℕ, zero, suc, ◌≡◌, ◌+◌, ◌*◌, ◌-◌, ◌<◌, ◌≤◌, List, [], ◌∷◌, ◌++◌, length, take, drop, get_or}
use Rattle.std.proofs.Common.{sym, ◌∙◌, ap, subst, arith}
use Rattle.std.proofs.lemmas.List.{append_assoc}
use lib.IntN.{ℤ}
use Rattle.kind_num.specs.declared.Shape.{Shape}
use Rattle.sys_terms.specs.declared.term.Entry.{Entry}
use Rattle.sys_terms.specs.Answers.{states_in}
use Rattle.sat_core.specs.declared.assigned.Assigned.{Assigned}
use Rattle.smt_solver.specs.NumberStates.{number_entry, number_entries}

entries-next : (trail : List Assigned) (values : List (ℤ × ℤ)) (n i : ℕ) (shapes : List Shape) (d : Shape) → i < length shapes
    → number_entries trail values n (take (suc i) shapes)
    ≡ number_entries trail values n (take i shapes) ++ number_entry trail values (n + i) (get_or shapes i d) ∷ []
entries-next trail values n i [] d h = absurd (omega arith)
entries-next trail values n zero (s ∷ shapes) d h = ap (λ m. number_entry trail values m s ∷ []) (same n) where
  same : (n : ℕ) → n ≡ n + 0
  same n = omega arith
entries-next trail values n (suc i) (s ∷ shapes) d h =
    ap (λ es. number_entry trail values n s ∷ es)
    (entries-next trail values (suc n) i shapes d (omega arith)
    ∙ ap (λ m. number_entries trail values (suc n) (take i shapes) ++ number_entry trail values m (get_or shapes i d) ∷ []) (next n i)) where
      next : (n i : ℕ) → suc n + i ≡ n + suc i
      next n i = omega arith

-- one more entry
pub entries-more : (trail : List Assigned) (values : List (ℤ × ℤ)) (i : ℕ) (shapes : List Shape) (d : Shape) → i < length shapes
    → number_entries trail values 0 (take (i + 1) shapes)
    ≡ number_entries trail values 0 (take i shapes) ++ number_entry trail values i (get_or shapes i d) ∷ []
entries-more trail values i shapes d h =
    ap (λ k. number_entries trail values 0 (take k shapes)) (up i) ∙ entries-next trail values 0 i shapes d h
    ∙ ap (λ m. number_entries trail values 0 (take i shapes) ++ number_entry trail values m (get_or shapes i d) ∷ []) (same i) where
      up : (i : ℕ) → i + 1 ≡ suc i
      up i = omega arith

      same : (i : ℕ) → 0 + i ≡ i
      same i = omega arith

-- one more state
pub states-more : (size left : ℕ) (values : List Entry) (made all : List (List Entry))
    → made ++ states_in size (suc left) values ≡ all
    → (made ++ take size values ∷ []) ++ states_in size left (drop size values) ≡ all
states-more size left values made all h =
    append_assoc made (take size values ∷ []) (states_in size left (drop size values)) ∙ h

room-less : (left size n m : ℕ) → suc left * size ≤ n → m + size ≡ n → left * size ≤ m
room-less left size n m h e = let f : suc left * size ≡ left * size + size = grind arith in omega arith

-- after i of them
module _ (size count i : ℕ) (below : i < count) where
  left : count - i ≡ suc (count - (i + 1))
  left = omega arith

  pub states-step : (rest first later : List Entry) (made new all : List (List Entry))
      → made ++ states_in size (count - i) rest ≡ all → first ≡ take size rest → later ≡ drop size rest
      → new ≡ made ++ first ∷ [] → new ++ states_in size (count - (i + 1)) later ≡ all
  states-step rest first later made new all h p q r =
      subst (λ n. n ++ states_in size (count - (i + 1)) later ≡ all) (sym r)
      (subst (λ l. (made ++ first ∷ []) ++ states_in size (count - (i + 1)) l ≡ all) (sym q)
      (subst (λ f. (made ++ f ∷ []) ++ states_in size (count - (i + 1)) (drop size rest) ≡ all) (sym p)
      (states-more size (count - (i + 1)) rest made all
      (subst (λ k. made ++ states_in size k rest ≡ all) left h))))

  pub room-step : (n m : ℕ) → (count - i) * size ≤ n → m + size ≡ n → (count - (i + 1)) * size ≤ m
  room-step n m h e = room-less (count - (i + 1)) size n m (subst (λ k. k * size ≤ n) left h) e
