-- The parts of each frame by the tables are those by the instances.
use Rattle.std.proofs.Common.{◌≡◌, ℕ, zero, suc, pred, ◌+◌, ◌<◌, List, [], ◌∷◌, Some, None, zero-add, refl, sym, ap, ◌∙◌, subst, arith}
use Rattle.std.specs.Prelude.{slice_get}
use Rattle.lus_limits.specs.Calls.{way_of}
use Rattle.lus_limits.specs.declared.calls.Way.{Way}
use Rattle.lus_meaning.specs.Scene.{Manner, Instance, Instances, instance, no_instances, with_instance, calls_of, instance_at}
use Rattle.lus_evaluation.specs.Evaluation.{instance_on}
use Rattle.lus_evaluation.specs.Part.{Part}
use Rattle.evaluation_laws.specs.Rows.{AreCalls, numbers_on}
use Rattle.sys_meaning.specs.Slot.{Place, Spot}
use Rattle.sys_meaning.specs.System.{below_call}
use Rattle.sys_meaning.specs.WellTyped.{count_of}
use Rattle.sys_texts.specs.Sights.{Sight, counted_from_one}
use Rattle.sys_tables.specs.Tabled.{Linked, Tabled}
use Rattle.sys_tables.specs.Numbers.{behind_own, frame_base, sight_at}
use Rattle.sys_frames.proofs.Seen.{CallsSeen, Seen, SeesOwn}
use Rattle.frame_sources.proofs.FrameModes.{modes_so}
use Rattle.part_resolver.specs.declared.seats.Seat.{Seat}
use Rattle.part_resolver.specs.Seats.{called, nowhere, seat_on, seat_or_nowhere}
use Rattle.part_resolver.specs.SlotParts.{modes_there, part_at, part_over, sight_there}
use Rattle.part_resolver.proofs.Rooms.{counted}
use Rattle.part_resolver.proofs.Nobody.{lost_so, part_by, seen_so}

module _ (missing : ℕ) (ts : List Tabled) where
  -- what stands at no way of calls has the number of what is missing
  abbrev pub OthersMissing : Instance → (Place → ℕ) → Type 0
  OthersMissing i at = (v : List ℕ) (z : Spot) → (AreCalls i v → ⊥) → at (v, z) ≡ missing

  abbrev seat : ℕ → ℕ → Way → ℕ → Seat
  seat d place y b = record { depth = d; place = place; way = y; base = b }

  abbrev IsSoOn : List ℕ → Type 0
  IsSoOn w = (d place : ℕ) (t : Tabled) (y : Way) (b : ℕ) (m : Manner) (i : Instance) (at : Place → ℕ) → slice_get ts place ≡ Some t
      → Seen missing ts d t y b m i at → OthersMissing i at → (q : Part)
      → part_at ts missing (seat_on ts missing (seat d place y b) w) q ≡ part_by (instance_on i w) (numbers_on w at) q

  own_of : (d : ℕ) (t : Tabled) (y : Way) (b : ℕ) (m : Manner) (i : Instance) (at : Place → ℕ) → Seen missing ts d t y b m i at → SeesOwn missing t y b m i at
  own_of d t y b m (instance n cs is) at h = h.0

  calls_of_seen : (d : ℕ) (t : Tabled) (y : Way) (b : ℕ) (m : Manner) (i : Instance) (at : Place → ℕ) → Seen missing ts d t y b m i at
      → CallsSeen missing ts d i at (sight_at t y b missing) (behind_own y t b) 0 t.calls (calls_of i)
  calls_of_seen d t y b m (instance n cs is) at h = h.1

  -- ---- a frame itself

  here_so : IsSoOn []
  here_so d place t y b m i at there h others q =
      ap (λ o. part_over (sight_there missing (seat d place y b) o) (modes_there ts missing (seat d place y b) o) q) there
      ∙ (ap (λ l. part_over (sight_at t y b missing) l q) (modes_so missing ts d t y b m i at h)
      ∙ seen_so (sight_at t y b missing) i at (own_of d t y b m i at h).sight q)

  -- ---- the frame of a call

  abbrev OthersOf : (Place → ℕ) → ℕ → ℕ → Instances → Type 0
  OthersOf at n r is = (v : List ℕ) (z : Spot) → ((r < count_of is) × AreCalls (instance_at is r) v → ⊥) → at (n ∷ v, z) ≡ missing

  none_below : (n r : ℕ) (at : Place → ℕ) → OthersOf at n r no_instances → (p : Place) → below_call n at p ≡ missing
  none_below n r at others p = others p.0 p.1 (λ a. let l : r < 0 = a.0 in omega (arith, l))

  calls_so : (w : List ℕ) → IsSoOn w → (d : ℕ) (i : Instance) (at : Place → ℕ) (s : Sight) (from j : ℕ) (qs : List Linked) (is : Instances)
      → CallsSeen missing ts d i at s from j qs is → (r n : ℕ) → n ≡ suc (j + r) → OthersOf at n r is → (q : Part)
      → part_at ts missing (seat_on ts missing (seat_or_nowhere ts missing d from (slice_get qs r)) w) q
      ≡ part_by (instance_on (instance_at is r) w) (numbers_on w (below_call n at)) q
  calls_so w below d i at s from j [] no_instances h r n e others q =
      lost_so ts missing w (below_call n at) (none_below n r at others) q
  calls_so w below d i at s from j (x ∷ qs) no_instances h r n e others q = absurd h
  calls_so w below d i at s from j [] (with_instance c k is) h r n e others q = absurd h
  calls_so w below zero i at s from j (x ∷ qs) (with_instance c k is) h r n e others q = absurd h
  calls_so w below (suc d) i at s from j (x ∷ qs) (with_instance c k is) h zero n e others q =
      below d x.place h.1.0 (way_of x.site.manner) (frame_base from x) c.manner k (below_call c.number at) h.1.1 h.1.2
      (λ v z off. ap (λ l. at (l ∷ v, z)) same ∙ others v z (λ a. off a.1)) q
      ∙ ap (λ l. part_by (instance_on k w) (numbers_on w (below_call l at)) q) same
    where
      same : c.number ≡ n
      same = let f : c.number ≡ suc j = h.0.number in omega (arith, f, e)
  calls_so w below (suc d) i at s from j (x ∷ qs) (with_instance c k is) h (suc r) n e others q =
      calls_so w below (suc d) i at s from (suc j) qs is h.2 r n next (λ v z off. others v z (λ a. off (closer a.0, a.1))) q
    where
      next : n ≡ suc (suc j + r)
      next = omega (arith, e)

      closer : suc r < suc (count_of is) → r < count_of is
      closer l = omega (arith, l)

  -- ---- each frame

  pub frames_so : (w : List ℕ) → IsSoOn w
  frames_so [] d place t y b m i at there h others q = here_so d place t y b m i at there h others q
  frames_so (zero ∷ w) d place t y b m i at there h others q =
      ap (λ o. part_at ts missing (seat_on ts missing (called ts missing (seat d place y b) o 0) w) q) there
      ∙ lost_so ts missing w (below_call 0 at) (λ p. others (0 ∷ p.0) p.1 (λ a. let l : 0 < 0 = a.0 in omega (arith, l))) q
  frames_so (suc r ∷ w) d place t y b m i at there h others q =
      ap (λ o. part_at ts missing (seat_on ts missing (called ts missing (seat d place y b) o (suc r)) w) q) there
      ∙ (ap (λ o. part_at ts missing (seat_on ts missing (seat_or_nowhere ts missing d (behind_own y t b) o) w) q) (counted t.calls r)
      ∙ calls_so w (frames_so w) d i at (sight_at t y b missing) (behind_own y t b) 0 t.calls (calls_of i) (calls_of_seen d t y b m i at h) r (suc r) (ap suc (sym (zero-add r)))
      (λ v z off. others (suc r ∷ v) z (λ a. off (a.1, a.2))) q)
