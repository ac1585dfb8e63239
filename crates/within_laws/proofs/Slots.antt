-- The parts of an instant in the row of a run, by their resolutions over slots.
use Rattle.std.proofs.Common.{◌≡◌, ℕ, List, [], ◌∷◌, ◌++◌, refl, ap, ◌∙◌, sym, subst, arith}
use Rattle.std.specs.List.{AllByRecursion}
use Rattle.lus_tree.specs.Tree.{Expression}
use Rattle.lus_meaning.specs.Frame.{Frame}
use Rattle.lus_meaning.specs.Scene.{Clock, base, sampled_by, Instance}
use Rattle.lus_meaning.specs.Program.{instance_of}
use Rattle.lus_meaning.specs.Verdict.{throughout}
use Rattle.lus_evaluation.specs.Turn.{in_turn}
use Rattle.lus_evaluation.specs.Part.{Part}
use Rattle.slot_values.specs.Evaluated.{SlotValues, outside}
use Rattle.slot_values.specs.Resolved.{Numbering, resolution}
use Rattle.slot_values.specs.Clocked.{row_by, clock_on}
use Rattle.slot_sources.specs.Rows.{is_on}
use Rattle.slot_sources.specs.Sources.{numbering_of, switch_of}
use Rattle.slot_sources.specs.Parts.{numbering_there, part_switch}
use Rattle.evaluation_laws.specs.Rows.{row_at, AreCalls, numbers_there, resolution_there}
use Rattle.order_laws.proofs.FirstByRows.{laid}
use Rattle.order_laws.proofs.Frames.{same_place}
use Rattle.order_laws.proofs.Placed.{Placed, EachPlaced}
use Rattle.within_laws.specs.Instants.{IsOverSlots, PartsStandAtCalls, PartsAreOverSlots}
use Rattle.within_laws.proofs.Lists.{each_picked}
use Rattle.within_laws.proofs.SomeRun.{some_run}

pub switch_is : (row : SlotValues) (g : Numbering) (c : Clock) → is_on row (switch_of g c) ≡ clock_on (row_by g.number row) c
switch_is row g base = refl
switch_is row g (sampled_by b x) = refl

module _ (i : Instance) (f : Frame) (t : ℕ) (every : List Part) where
  same_resolution : (w : List ℕ) (e : Expression) → resolution_there i f w e ≡ resolution (numbering_there i w) e
  same_resolution w e = ap (λ z. resolution (numbering_of z (numbers_there i w)) e) (same_place w i throughout f)

  over_slots : (b : List Part) (q : Part) → Placed i f t every b q → IsOverSlots i f t q
  over_slots b q h =
      ap (λ o. outside (row_at i f t) o (resolution_there i f q.way q.expression))
      (sym (switch_is (row_at i f t) (numbering_there i q.way) q.clock ∙ h.clock))
      ∙ ap (outside (row_at i f t) (is_on (row_at i f t) (part_switch i q))) (same_resolution q.way q.expression)

  -- what holds of each part that is placed
  each_part : (P : Part → Type 0) → ((b : List Part) (q : Part) → Placed i f t every b q → P q) → (b qs : List Part) → EachPlaced i f t every b qs →
      AllByRecursion P qs
  each_part P h b [] a = tt
  each_part P h b (q ∷ qs) a = (h b q a.0, each_part P h (b ++ q ∷ []) qs a.1)

pub parts_stand_at_calls : PartsStandAtCalls
parts_stand_at_calls p c n j qs ev =
    let i : Instance = instance_of p n in
    let r = some_run p c n j in
    subst (AllByRecursion (λ q. AreCalls i q.way)) (sym ev.parts)
    (each_picked (λ q. AreCalls i q.way) ev.numbers (in_turn ev.orders i)
    (each_part i r.0 0 (in_turn ev.orders i) (λ q. AreCalls i q.way) (λ b q h. h.calls) [] (in_turn ev.orders i)
    (laid p c n j qs ev 1 r.0 r.1 0 (omega arith))))

pub parts_are_over_slots : PartsAreOverSlots
parts_are_over_slots p c n j qs ev m f run t l =
    let i : Instance = instance_of p n in
    subst (AllByRecursion (IsOverSlots i f t)) (sym ev.parts)
    (each_picked (IsOverSlots i f t) ev.numbers (in_turn ev.orders i)
    (each_part i f t (in_turn ev.orders i) (IsOverSlots i f t) (over_slots i f t (in_turn ev.orders i)) [] (in_turn ev.orders i)
    (laid p c n j qs ev m f run t l)))
