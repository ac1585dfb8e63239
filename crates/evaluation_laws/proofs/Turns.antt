-- Where places have ranks, no parts of an instant wait for each other in a circle: so there is a least order.
use Rattle.std.proofs.Common.{◌≡◌, ℕ, zero, suc, pred, ◌<◌, ◌≤◌, Bool, true, List, [], ◌∷◌, map, length, Some, slice_get, refl, ◌∙◌, sym, subst, arith}
use Rattle.std.specs.List.{AllByRecursion}
use Rattle.std.proofs.lemmas.Option.{same_Some}
use Rattle.lus_meaning.specs.Scene.{Instance}
use Rattle.lus_meaning.specs.Depends.{named_in}
use Rattle.lus_meaning.specs.Trace.{same_numbers}
use Rattle.lus_meaning.specs.Cycle.{Place, next_places, IsAt, IsWay, last_place, Lowers}
use Rattle.lus_meaning.specs.Order.{IsLeastOrder, IsStuck, Passes}
use Rattle.lus_meaning.proofs.Members.{IsIn, at_some}
use Rattle.lus_meaning.proofs.Orders.{least_order, IsWalk, last_of, stuck_walk}
use Rattle.lus_meaning.proofs.Steps.{far_least}
use Rattle.clock_laws.proofs.Reaching.{at_in}
use Rattle.sys_meaning.proofs.Shows.{same_ways}
use Rattle.lus_evaluation.specs.Part.{Part}
use Rattle.lus_evaluation.specs.Evaluation.{gives_name, place_named, NeedsPlace, Waits}
use Rattle.evaluation_laws.proofs.Wholes.{NeedsItsWhole}
use Rattle.evaluation_laws.proofs.Waiting.{both_true, Passing, first_passes, waits, waits_if, if_waits}

all_at : {A : Type 0} (P : A → Type 0) (xs : List A) → AllByRecursion P xs → (k : ℕ) (x : A) → slice_get xs k ≡ Some x → P x
all_at P [] a k x e = cc
all_at P (y ∷ xs) a zero x e = subst P (same_Some y x e) a.0
all_at P (y ∷ xs) a (suc k) x e = all_at P xs a.1 k x e

module _ (i : Instance) (rank : Place → ℕ) (lowers : Lowers i rank) where
  -- what is needed has no higher rank
  way_lowers : (s : Place) (rest : List (ℕ × Place)) → IsWay i s rest → rank (last_place s rest) ≤ rank s
  way_lowers s [] w = omega arith
  way_lowers s (q ∷ rest) w =
      let l : rank q.1 < rank s = lowers s q.1 q.0 w.0 in let m : rank (last_place q.1 rest) ≤ rank q.1 = way_lowers q.1 rest w.1 in omega arith

  module _ (ps : List Part) (whole : AllByRecursion (NeedsItsWhole i) ps) where
    -- all that the part with that number needs is below a rank
    abbrev NeedsBelow : ℕ → ℕ → Type 0
    NeedsBelow k m = (q : Part) → slice_get ps k ≡ Some q → (z : Place) → IsIn z q.needs → rank z < m

    -- a part for which one waits needs what has a lower rank
    pub record Below (j m : ℕ) : Type 0 where
      pub bound : ℕ
      pub lower : bound < m
      pub needs : NeedsBelow j bound

    waited_for : (k j m : ℕ) → Waits i ps k j → NeedsBelow k m → Below j m
    waited_for k j m a b = record { bound = rank there; lower = lower; needs = needs }
      where
        there : Place
        there = place_named a.way a.name

        n : NeedsPlace i a.waiting.needs there
        n = a.needed

        lower : rank there < m
        lower =
            let l : rank n.start < m = b a.waiting a.is_there n.start (at_in n.number n.start a.waiting.needs n.starts) in
            let h : rank (last_place n.start n.rest) ≤ rank n.start = way_lowers n.start n.rest n.way in
            let r : rank there ≤ rank n.start = subst (λ z. rank z ≤ rank n.start) n.last h in
            omega arith

        g : Passing (gives_name a.way a.name) ps j
        g = first_passes (gives_name a.way a.name) ps j a.given

        needs : NeedsBelow j (rank there)
        needs q e z h =
            let s : g.item ≡ q = same_Some g.item q (sym g.is_there ∙ e) in
            let d : (same_numbers a.way q.way ≡ true) × (named_in a.name q.gives ≡ true) =
            both_true (same_numbers a.way q.way) (named_in a.name q.gives) (subst (λ y. gives_name a.way a.name y ≡ true) s g.passes) in
            let next : IsIn z (next_places i (map pred a.way) (Some a.name)) =
            subst (λ v. IsIn z (next_places i (map pred v) (Some a.name))) (sym (same_ways a.way q.way d.0))
            (all_at (NeedsItsWhole i) ps whole j q e a.name d.1 z h) in
            let at : (c : ℕ) × IsAt c z (next_places i (map pred a.way) (Some a.name)) =
            at_some z (next_places i (map pred a.way) (Some a.name)) next in
            lowers there z at.0 at.1

    abbrev test : ℕ → ℕ → Bool
    test = waits i ps

    walk_down : (k j : ℕ) (js : List ℕ) (m : ℕ) → IsWalk (length ps) test k (j ∷ js) → NeedsBelow k m → Below (last_of (length ps) test j js) m
    walk_down k j [] m w b = waited_for k j m (waits_if i ps k j w.0) b
    walk_down k j (l ∷ js) m w b =
        let r : Below j m = waited_for k j m (waits_if i ps k j w.0) b in
        let s : Below (last_of (length ps) test l js) r.bound = walk_down j l js r.bound w.1 r.needs in
        let h : s.bound < r.bound = s.lower in
        let g : r.bound < m = r.lower in
        record { bound = s.bound; lower = omega arith; needs = s.needs }

    no_circle : (fuel k j : ℕ) (js : List ℕ) (m : ℕ) → m < fuel → IsWalk (length ps) test k (j ∷ js) → last_of (length ps) test j js ≡ k →
        NeedsBelow k m → ⊥
    no_circle zero k j js m l w e b = absurd (omega arith)
    no_circle (suc fuel) k j js m l w e b =
        let r : Below k m = subst (λ q. Below q m) e (walk_down k j js m w b) in
        let h : r.bound < m = r.lower in
        no_circle fuel k j js r.bound (omega arith) w e r.needs

    module _ (bound : ℕ) (bounded : (z : Place) → rank z < bound) where
      never_stuck : (done : List ℕ) → IsStuck (length ps) (Passes test) done → ⊥
      never_stuck done stuck =
          let t : (k : ℕ) × (k < length ps) × (j : ℕ) × (js : List ℕ) × IsWalk (length ps) test k (j ∷ js) × (last_of (length ps) test j js ≡ k) =
          stuck_walk (length ps) test done stuck in
          no_circle (suc bound) t.0 t.2 t.3 bound (omega arith) t.4 t.5 (λ q e z h. bounded z)

      pub least_turn : (ks : List ℕ) × IsLeastOrder (length ps) (Waits i ps) ks
      least_turn =
          let r : (ks : List ℕ) × IsLeastOrder (length ps) (Passes test) ks = least_order (length ps) test never_stuck in (
            r.0,
            far_least (length ps) (Passes test) (Waits i ps) (λ k j a b h. waits_if i ps k j h)
                (λ k j a b h. record { first = j; rest = []; steps = (b, if_waits i ps k j h, tt); last = refl }) r.0 r.1,
          )
