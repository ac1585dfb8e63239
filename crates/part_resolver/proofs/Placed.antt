-- The slots of a frame and those of its calls stand at the end of ways of calls.
use Rattle.std.proofs.Common.{◌≡◌, ℕ, zero, suc, pred, ◌+◌, ◌<◌, Bool, true, false, List, [], ◌∷◌, ◌++◌, map, Some, zero-add, refl, sym, ap, ◌∙◌, subst, arith}
use Rattle.std.specs.Prelude.{slice_get}
use Rattle.std.specs.List.{AllByRecursion}
use Rattle.lus_limits.specs.declared.calls.Way.{Way}
use Rattle.lus_meaning.specs.Scene.{Manner, plain, Site, Instance, Instances, instance, no_instances, with_instance, call_instance, calls_of, component_of, instance_at}
use Rattle.lus_meaning.specs.Slots.{Cell, Slot, held_cells, own_cells, slot, slots, width}
use Rattle.lus_meaning.proofs.Lists.{all_from, both_parts}
use Rattle.evaluation_laws.specs.Rows.{AreCalls}
use Rattle.sys_meaning.specs.Slot.{Place, Spot, place_of, same_place}
use Rattle.sys_meaning.specs.System.{below_call, number_of}
use Rattle.sys_meaning.specs.WellTyped.{count_of}
use Rattle.sys_meaning.proofs.Shows.{same_places}
use Rattle.path_laws.proofs.OnePlace.{behind, slots_are, tree_calls, tree_slots}
use Rattle.sys_places.proofs.Numbers.{none_there, stands_at_root}
use Rattle.sys_texts.specs.Sights.{Sight}
use Rattle.sys_tables.specs.Tabled.{Linked, Tabled}
use Rattle.sys_tables.specs.Numbers.{behind_own, frame_base, sight_at}
use Rattle.sys_frames.proofs.Seen.{CallsSeen, Seen}

abbrev pub IsOnCalls : Instance → Slot → Type 0
IsOnCalls i s = AreCalls i s.path

own_on : (i : Instance) (cs : List Cell) → AllByRecursion (IsOnCalls i) (map (slot i []) cs)
own_on i [] = tt
own_on i (c ∷ cs) = (tt, own_on i cs)

frame_on : (i : Instance) (k : ℕ) → 0 < k → pred k < count_of (calls_of i) → (ss : List Slot) → AllByRecursion (IsOnCalls (call_instance i k)) ss
    → AllByRecursion (IsOnCalls i) (map (behind k) ss)
frame_on i k l m [] a = tt
frame_on i k l m (s ∷ ss) a = ((l, m, a.0), frame_on i k l m ss a.1)

-- the calls from a place on are calls of the instance
abbrev AreThere : Instance → ℕ → Instances → Type 0
AreThere i j is = (r : ℕ) → r < count_of is → (j + r < count_of (calls_of i)) × (instance_at (calls_of i) (j + r) ≡ instance_at is r)

at_first : (i : Instance) → AreThere i 0 (calls_of i)
at_first i r l =
    subst (λ n. (n < count_of (calls_of i)) × (instance_at (calls_of i) n ≡ instance_at (calls_of i) r)) (sym (zero-add r)) (l, refl)

later : (i : Instance) (j : ℕ) (c : Site) (k : Instance) (is : Instances) → AreThere i j (with_instance c k is) → AreThere i (suc j) is
later i j c k is h r l =
    let e : j + suc r ≡ suc j + r = omega arith in
    let m : suc r < suc (count_of is) = omega (arith, l) in
    subst (λ n. (n < count_of (calls_of i)) × (instance_at (calls_of i) n ≡ instance_at is r)) e (h (suc r) m)

module _ (missing : ℕ) (ts : List Tabled) where
  mutual
    frames_on : (d : ℕ) (t : Tabled) (y : Way) (b : ℕ) (m : Manner) (i : Instance) (at : Place → ℕ) → Seen missing ts d t y b m i at → (n : Manner)
        → AllByRecursion (IsOnCalls i) (tree_slots n i)
    frames_on d t y b m (instance x cs is) at h n =
        both_parts (IsOnCalls (instance x cs is)) (map (slot (instance x cs is) []) (own_cells n x)) (tree_calls (instance x cs is) is)
        (own_on (instance x cs is) (own_cells n x))
        (calls_on d (instance x cs is) at (sight_at t y b missing) (behind_own y t b) 0 t.calls is h.1 (at_first (instance x cs is)))

    calls_on : (d : ℕ) (i : Instance) (at : Place → ℕ) (s : Sight) (from j : ℕ) (qs : List Linked) (is : Instances) → CallsSeen missing ts d i at s from j qs is
        → AreThere i j is → AllByRecursion (IsOnCalls i) (tree_calls i is)
    calls_on d i at s from j [] no_instances h e = tt
    calls_on d i at s from j (q ∷ qs) no_instances h e = tt
    calls_on d i at s from j [] (with_instance c k is) h e = absurd h
    calls_on zero i at s from j (q ∷ qs) (with_instance c k is) h e = absurd h
    calls_on (suc d) i at s from j (q ∷ qs) (with_instance c k is) h e =
        both_parts (IsOnCalls i) (map (slot i []) (held_cells c (component_of k) c.manner)) (map (behind c.number) (tree_slots c.manner k) ++ tree_calls i is)
        (own_on i (held_cells c (component_of k) c.manner))
        (both_parts (IsOnCalls i) (map (behind c.number) (tree_slots c.manner k)) (tree_calls i is)
        (frame_on i c.number positive (subst (λ n. pred n < count_of (calls_of i)) (sym h.0.number) there.0) (tree_slots c.manner k)
        (subst (λ z. AllByRecursion (IsOnCalls z) (tree_slots c.manner k)) (sym same)
        (frames_on d h.1.0 _ (frame_base from q) c.manner k (below_call c.number at) h.1.2 c.manner)))
        (calls_on (suc d) i at s from (suc j) qs is h.2 (later i j c k is e)))
      where
        none : j + 0 ≡ j
        none = omega arith

        counts : 0 < suc (count_of is)
        counts = omega arith

        there : (j < count_of (calls_of i)) × (instance_at (calls_of i) j ≡ k)
        there = subst (λ n. (n < count_of (calls_of i)) × (instance_at (calls_of i) n ≡ k)) none (e 0 counts)

        positive : 0 < c.number
        positive = let f : c.number ≡ suc j = h.0.number in omega (arith, f)

        same : call_instance i c.number ≡ k
        same = ap (call_instance i) h.0.number ∙ there.1

  -- what stands at no way of calls has the number of what is missing
  pub others_missing : (d : ℕ) (t : Tabled) (y : Way) (b : ℕ) (m : Manner) (i : Instance) → Seen missing ts d t y b m i (number_of i) → missing ≡ width i
      → (v : List ℕ) (z : Spot) → (AreCalls i v → ⊥) → number_of i (v, z) ≡ missing
  others_missing d t y b m i h e v z off =
      stands_at_root i (v, z) ∙ (none_there (width i) 0 (slots i) (v, z) none ∙ sym e)
    where
      all : AllByRecursion (IsOnCalls i) (slots i)
      all = subst (AllByRecursion (IsOnCalls i)) (sym (slots_are plain i)) (frames_on d t y b m i (number_of i) h plain)

      other : (s : Slot) → IsOnCalls i s → (b : Bool) → same_place (v, z) (place_of s) ≡ b → b ≡ false
      other s a true f = absurd (off (subst (AreCalls i) (ap (λ (p : Place). p.0) (sym (same_places (v, z) (place_of s) f))) a))
      other s a false f = refl

      none : AllByRecursion (λ s. same_place (v, z) (place_of s) ≡ false) (slots i)
      none = all_from (IsOnCalls i) (λ s. same_place (v, z) (place_of s) ≡ false) (λ s a. other s a (same_place (v, z) (place_of s)) refl) (slots i) all
