-- While places are met that others need, all that the parts need is among them, and what those before the turn need.
use Rattle.std.proofs.lemmas.Option.{slice_get-map, slice_get-get_or}
use Rattle.std.proofs.Common.{◌≡◌, ◌∙◌, ℕ, zero, suc, ◌<◌, ◌≤◌, ◌+◌, List, [], ◌∷◌, ◌++◌, length, get_or, map, option_map, Some, slice_get, refl, ap, sym, subst, arith, length-append, append_assoc}
use Rattle.std.specs.List.{AllByRecursion}
use Rattle.std.proofs.Math.Logic.{◌⊎◌, inl, inr}
use Rattle.std.proofs.lemmas.Bool.{cases_order}
use Rattle.std.proofs.lemmas.Option.{none-some, same_Some}
use Rattle.lus_meaning.proofs.Exists.{length_mapped}
use Rattle.lus_meaning.specs.Cycle.{Place}
use Rattle.lus_meaning.specs.Scene.{Instance}
use Rattle.lus_evaluation.specs.Part.{Part}
use Rattle.evaluation_order.specs.Numbered.{met_all, met_parts, AreAmong, next_of, HaveAll}
use Rattle.evaluation_order.proofs.Numbered.{still_all, more, all_met}

pub record IsClosing (i : Instance) (qs : List Part) (ps : List Place) (turn : ℕ) : Type 0 where
  pub needed : AllByRecursion (λ q. AreAmong ps q.needs) qs
  pub closed : (k : ℕ) (q : Place) → k < turn → slice_get ps k ≡ Some q → AreAmong ps (next_of i q)
  pub within : turn ≤ length ps

parts_more : (ps : List Place) (qs : List Part) → (rs : List Place) × (met_parts ps qs ≡ ps ++ rs)
parts_more ps [] = more ps []
parts_more ps (q ∷ qs) =
    let a : (rs : List Place) × (met_all ps q.needs ≡ ps ++ rs) = more ps q.needs in
    let b : (rs : List Place) × (met_parts (met_all ps q.needs) qs ≡ met_all ps q.needs ++ rs) = parts_more (met_all ps q.needs) qs in
    (a.0 ++ b.0, b.1 ∙ ap (λ z. z ++ b.0) a.1 ∙ append_assoc ps a.0 b.0)

parts_met : (ps : List Place) (qs : List Part) → AllByRecursion (λ q. AreAmong (met_parts ps qs) q.needs) qs
parts_met ps [] = tt
parts_met ps (q ∷ qs) =
    let r : (rs : List Place) × (met_parts (met_all ps q.needs) qs ≡ met_all ps q.needs ++ rs) = parts_more (met_all ps q.needs) qs in
    (subst (λ z. AreAmong z q.needs) (sym r.1) (still_all (met_all ps q.needs) r.0 q.needs (all_met ps q.needs)), parts_met (met_all ps q.needs) qs)

pub begins : (i : Instance) (qs : List Part) (start ps : List Place) → ps ≡ met_parts start qs → IsClosing i qs ps 0
begins i qs start ps e = record {
  needed = subst (λ z. AllByRecursion (λ q. AreAmong z q.needs) qs) (sym e) (parts_met start qs);
  closed = λ k q l s. absurd (omega (arith, l));
  within = omega arith;
}

kept : (ps rs : List Place) (k : ℕ) → k < length ps → slice_get (ps ++ rs) k ≡ slice_get ps k
kept [] rs k l = absurd (omega (arith, l))
kept (p ∷ ps) rs zero l = refl
kept (p ∷ ps) rs (suc k) l = kept ps rs k (omega (arith, l))

still_needed : (ps rs : List Place) (qs : List Part) → AllByRecursion (λ q. AreAmong ps q.needs) qs → AllByRecursion (λ q. AreAmong (ps ++ rs) q.needs) qs
still_needed ps rs [] a = tt
still_needed ps rs (q ∷ qs) a = (still_all ps rs q.needs a.0, still_needed ps rs qs a.1)

pub goes_on : (i : Instance) (qs : List Part) (ps new : List Place) (turn : ℕ) (q : Place) → IsClosing i qs ps turn → slice_get ps turn ≡ Some q
    → turn < length ps → new ≡ met_all ps (next_of i q) → IsClosing i qs new (turn + 1)
goes_on i qs ps new turn q c s l e =
    let r : (rs : List Place) × (met_all ps (next_of i q) ≡ ps ++ rs) = more ps (next_of i q) in
    let same : new ≡ ps ++ r.0 = e ∙ r.1 in
    let long : length (ps ++ r.0) ≡ length ps + length r.0 = length-append ps r.0 in
    subst (λ z. IsClosing i qs z (turn + 1)) (sym same) (record {
      needed = still_needed ps r.0 qs c.needed;
      closed = λ k p h t. each r.0 r.1 k p h t (cases_order k turn);
      within = omega (arith, l, long);
    })
  where
    each : (rs : List Place) → met_all ps (next_of i q) ≡ ps ++ rs → (k : ℕ) (p : Place) → k < turn + 1 → slice_get (ps ++ rs) k ≡ Some p
        → (k ≡ turn) ⊎ ((k < turn) ⊎ (turn < k)) → AreAmong (ps ++ rs) (next_of i p)
    each rs m k p h t (inr (inl b)) = still_all ps rs (next_of i p) (c.closed k p b (sym (kept ps rs k (omega (arith, b, l))) ∙ t))
    each rs m k p h t (inl b) =
        let there : slice_get ps turn ≡ Some p = subst (λ z. slice_get ps z ≡ Some p) b (sym (kept ps rs k (omega (arith, b, l))) ∙ t) in
        let is : q ≡ p = same_Some q p (sym s ∙ there) in
        subst (λ z. AreAmong (ps ++ rs) (next_of i z)) is (subst (λ z. AreAmong z (next_of i q)) m (all_met ps (next_of i q)))
    each rs m k p h t (inr (inr b)) = absurd (omega (arith, h, b))

pub ends : (i : Instance) (qs : List Part) (ps : List Place) (turn : ℕ) → IsClosing i qs ps turn → length ps ≤ turn → HaveAll i qs ps
ends i qs ps turn c l = record { needed = c.needed; closed = λ k q s. c.closed k q (before ps k q s (λ h. omega (arith, h, l))) s }
  where
    before : (xs : List Place) (k : ℕ) (q : Place) → slice_get xs k ≡ Some q → (k < length xs → k < turn) → k < turn
    before xs k q s h = h (inside xs k q s)
      where
        inside : (ys : List Place) (n : ℕ) (p : Place) → slice_get ys n ≡ Some p → n < length ys
        inside [] n p t = absurd (none-some p t)
        inside (y ∷ ys) zero p t = omega arith
        inside (y ∷ ys) (suc n) p t = let r : n < length ys = inside ys n p t in omega (arith, r)

-- the same of places as the code has them
module _ {A : Type 0} (f : A → Place) (i : Instance) (qs : List Part) (xs : List A) (turn : ℕ) (c : IsClosing i qs (map f xs) turn) where
  pub goes_on_seen : (new : List Place) (x : A) → x ≡ get_or xs turn x → turn < length xs → new ≡ met_all (map f xs) (next_of i (f x)) → IsClosing i qs new (turn + 1)
  goes_on_seen new x is l e =
      let long : length (map f xs) ≡ length xs = length_mapped f xs in
      let there : slice_get (map f xs) turn ≡ Some (f x) =
      slice_get-map f xs turn ∙ ap (option_map f) (slice_get-get_or xs turn x l ∙ ap Some (sym is)) in
      goes_on i qs (map f xs) new turn (f x) c there (omega (arith, l, long)) e

  pub ends_seen : length xs ≤ turn → HaveAll i qs (map f xs)
  ends_seen l = let long : length (map f xs) ≡ length xs = length_mapped f xs in ends i qs (map f xs) turn c (omega (arith, l, long))
