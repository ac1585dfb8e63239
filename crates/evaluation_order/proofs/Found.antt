-- What is found of each part are the parts for which it waits.
use Rattle.std.proofs.Common.{◌≡◌, ◌∙◌, ℕ, zero, suc, ◌<◌, ◌≤◌, ◌+◌, ◌-◌, List, [], ◌∷◌, ◌++◌, length, Some, slice_get, refl, ap, sym, subst, arith, length-append}
use Rattle.std.proofs.Math.Logic.{◌⊎◌, inl, inr}
use Rattle.std.proofs.lemmas.Bool.{cases_order}
use Rattle.std.proofs.lemmas.List.{get_or_push, get_or_append_left}
use Rattle.std.proofs.lemmas.Option.{same_Some}
use Rattle.lus_meaning.specs.Cycle.{Place}
use Rattle.lus_meaning.specs.Order.{Passes, IsLeastOrder, IsStuck}
use Rattle.lus_meaning.specs.Scene.{Instance}
use Rattle.lus_evaluation.specs.Part.{Part}
use Rattle.lus_evaluation.specs.Evaluation.{Waits}
use Rattle.number_graphs.specs.Graphs.{Rows, row_at, leads, AreReached}
use Rattle.evaluation_order.specs.Numbered.{HaveAll, need_rows}
use Rattle.evaluation_order.specs.Givers.{Giver, givers_from, given_above, AreWaited}
use Rattle.evaluation_order.specs.GiverViews.{IsFound, AreFound}
use Rattle.evaluation_order.proofs.Giving.{waited}
use Rattle.evaluation_order.proofs.Orders.{least_of_rows, stuck_of_rows}

pub nothing_found : (rows : Rows) (first : ℕ) (qs : List Part) (gs : List Giver) (found : Rows) → found ≡ [] → AreFound rows first qs gs 0 found
nothing_found rows first qs gs found e = record { many = ap length e; each = λ k q l s. absurd (omega (arith, l)) }

pub one_found : (rows : Rows) (first : ℕ) (qs : List Part) (gs : List Giver) (n : ℕ) (found new : Rows) (row : List ℕ) (p : Part) → AreFound rows first qs gs n found
    → slice_get qs n ≡ Some p → IsFound rows (first + n) p.way gs row → new ≡ found ++ row ∷ [] → AreFound rows first qs gs (n + 1) new
one_found rows first qs gs n found new row p a s f e = subst (AreFound rows first qs gs (n + 1)) (sym e) (record {
  many = omega (arith, length-append found (row ∷ []), a.many);
  each = λ k q l t. each k q l t (cases_order k n);
})
  where
    each : (k : ℕ) (q : Part) → k < n + 1 → slice_get qs k ≡ Some q → (k ≡ n) ⊎ ((k < n) ⊎ (n < k))
        → IsFound rows (first + k) q.way gs (row_at (found ++ row ∷ []) k)
    each k q l t (inr (inl b)) =
        subst (IsFound rows (first + k) q.way gs) (sym (get_or_append_left found (row ∷ []) [] k (subst (λ z. k < z) (sym a.many) b))) (a.each k q b t)
    each k q l t (inl b) =
        let same : q ≡ p = same_Some q p (sym t ∙ ap (slice_get qs) b ∙ s) in
        subst (IsFound rows (first + k) q.way gs) (sym (get_or_push found row [] k (a.many ∙ sym b)))
        (subst (λ z. IsFound rows (first + k) z.way gs row) (sym same) (subst (λ m. IsFound rows (first + m) p.way gs row) (sym b) f))
    each k q l t (inr (inr b)) = absurd (omega (arith, l, b))

-- the same by the number in the graph
pub next_found : (rows : Rows) (first : ℕ) (qs : List Part) (gs : List Giver) (m : ℕ) (found new : Rows) (row : List ℕ) (p : Part) → first ≤ m
    → AreFound rows first qs gs (m - first) found → slice_get qs (m - first) ≡ Some p → IsFound rows m p.way gs row → new ≡ found ++ row ∷ []
    → AreFound rows first qs gs ((m + 1) - first) new
next_found rows first qs gs m found new row p l a s f e =
    let here : m ≡ first + (m - first) = omega (arith, l) in
    let next : (m - first) + 1 ≡ (m + 1) - first = omega (arith, l) in
    subst (λ n. AreFound rows first qs gs n new) next
    (one_found rows first qs gs (m - first) found new row p a s (subst (λ n. IsFound rows n p.way gs row) here f) e)

there : (qs : List Part) (k : ℕ) → k < length qs → (q : Part) × (slice_get qs k ≡ Some q)
there [] k l = absurd (omega (arith, l))
there (q ∷ qs) zero l = (q, refl)
there (q ∷ qs) (suc k) l = there qs k (omega (arith, l))

module _ (i : Instance) (ps : List Place) (qs : List Part) (have : HaveAll i qs ps) (rows found : Rows) (gs : List Giver) (first : ℕ) (needs : rows ≡ need_rows i ps qs)
    (givers : gs ≡ givers_from ps qs 0 qs) (start : first ≡ length ps) (all : AreFound rows first qs gs (length qs) found) where
  found_waits : (k : ℕ) → k < length qs → AreWaited i qs k (row_at found k)
  found_waits k l =
      let q : (p : Part) × (slice_get qs k ≡ Some p) = there qs k l in
      let f : IsFound rows (first + k) q.0.way gs (row_at found k) = all.each k q.0 l q.1 in
      let reach : AreReached (need_rows i ps qs) (length ps + k) f.marks =
      subst (λ z. AreReached (need_rows i ps qs) (z + k) f.marks) start (subst (λ z. AreReached z (first + k) f.marks) needs f.reached) in
      let row : row_at found k ≡ given_above f.marks q.0.way (givers_from ps qs 0 qs) = f.found ∙ ap (given_above f.marks q.0.way) givers in
      subst (AreWaited i qs k) (sym row) (waited i ps qs have k q.0 q.1 f.marks reach)

  pub least_found : (ks : List ℕ) → IsLeastOrder (length found) (Passes (leads found)) ks → IsLeastOrder (length qs) (Waits i qs) ks
  least_found ks o = least_of_rows i qs found all.many found_waits ks o

  pub stuck_found : (ks : List ℕ) → IsStuck (length found) (Passes (leads found)) ks → IsStuck (length qs) (Waits i qs) ks
  stuck_found ks s = stuck_of_rows i qs found all.many found_waits ks s
