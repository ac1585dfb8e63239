-- The row of a run at an instant shows the frame at the end of each way of calls.
use Rattle.std.proofs.Common.{◌≡◌, ℕ, zero, suc, pred, ◌+◌, ◌<◌, Bool, true, false, cond, List, [], ◌∷◌, map, refl, ap, sym, subst, arith, Some, unwrap_or, slice_get}
use Rattle.std.proofs.lemmas.Option.{none-some}
use Rattle.lus_tree.specs.declared.place.Sort.{Sort}
use Rattle.lus_meaning.specs.Value.{Value, absent}
use Rattle.lus_meaning.specs.Frame.{Frame}
use Rattle.lus_tree.specs.Tree.{Expression}
use Rattle.lus_meaning.specs.Meaning.{value}
use Rattle.lus_meaning.specs.Program.{instance_of}
use Rattle.lus_meaning.specs.Scene.{Clock, plain, Instance, Instances, no_instances, with_instance, calls_of, call_instance, Scene, is_on}
use Rattle.lus_meaning.specs.Contract.{scene}
use Rattle.lus_meaning.specs.Run.{IsRun}
use Rattle.lus_meaning.specs.Slots.{Slot, slots}
use Rattle.lus_meaning.specs.Verdict.{throughout}
use Rattle.sys_terms.specs.Meaning.{values_of}
use Rattle.sys_meaning.specs.Slot.{Place, place_of, same_place, number_in}
use Rattle.sys_meaning.specs.State.{reading, state_of}
use Rattle.sys_meaning.specs.System.{number_of}
use Rattle.sys_meaning.specs.WellTyped.{count_of, IsCall, IsKnown, Stands, ClockFits, CallsFit, slot_sort, WellTyped}
use Rattle.sys_meaning.proofs.Forward.{calls_fit}
use Rattle.sys_meaning.proofs.Shows.{same_places, in_any, state_reads}
use Rattle.path_laws.proofs.Main.{each_is_well_typed}
use Rattle.lus_evaluation.specs.Past.{scene_on}
use Rattle.slot_values.specs.Evaluated.{SlotValues, worth}
use Rattle.slot_values.specs.Resolved.{resolution}
use Rattle.slot_values.specs.FrameRow.{numbering, Shows}
use Rattle.slot_values.proofs.FrameRow.{value_by_row}
use Rattle.evaluation_laws.specs.Resolvings.{at_numbers, resolvings}
use Rattle.evaluation_laws.specs.Rows.{row_at, AreCalls, numbers_on, knows, RowsShow, RowsGiveValues}
use Rattle.evaluation_laws.proofs.FrameShown.{Standing, RowHas, called, clock_shown}
use Rattle.evaluation_laws.proofs.ModesShown.{frame_shown}

-- ---- the row of the slots

value_there : (w : Place → Value) (qs : List Slot) (p : Place) (z : Sort) → slot_sort IsKnown qs p ≡ Some z →
    unwrap_or (slice_get (map (λ q. w (place_of q)) qs) (number_in qs p)) absent ≡ w p
value_there w [] p z e = absurd (none-some z e)
value_there w (q ∷ qs) p z e = go (same_place p (place_of q)) refl e (value_there w qs p z)
  where
    go : (c : Bool) → same_place p (place_of q) ≡ c → cond c (Some q.sort) (slot_sort IsKnown qs p) ≡ Some z →
        (slot_sort IsKnown qs p ≡ Some z → unwrap_or (slice_get (map (λ q. w (place_of q)) qs) (number_in qs p)) absent ≡ w p) →
        unwrap_or (slice_get (w (place_of q) ∷ map (λ q. w (place_of q)) qs) (cond c zero (suc (number_in qs p)))) absent ≡ w p
    go true k d r = ap w (sym (same_places p (place_of q) k))
    go false k d r = r d

row_has : (i : Instance) → WellTyped IsKnown i → (f : Frame) (t : ℕ) → RowHas i (number_of i) throughout f (row_at i f t) t
row_has i w f t ks p z h =
    value_there (λ q. reading i throughout f q t) (slots i) (ks, p) z (w.places ks p z (in_any IsKnown plain ks i p z h))

-- ---- ways of calls

call_at : (i : Instance) (is : Instances) (p j : ℕ) → CallsFit IsKnown i is p → j < count_of is → IsCall i (IsKnown i) (suc (p + j))
call_at i no_instances p j w h = absurd (omega arith)
call_at i (with_instance c k is) p zero w h = subst (λ q. IsCall i (IsKnown i) (suc q)) (let e : p ≡ p + 0 = omega arith in e) w.0.call
call_at i (with_instance c k is) p (suc j) w h =
    subst (λ q. IsCall i (IsKnown i) (suc q)) (let e : suc p + j ≡ p + suc j = omega arith in e) (call_at i is (suc p) j w.2 (omega arith))

is_call : (i : Instance) (v : Standing i) (k : ℕ) → 0 < k → pred k < count_of (calls_of i) → IsCall i (IsKnown i) k
is_call i v zero c l = absurd (omega arith)
is_call i v (suc j) c l =
    subst (λ q. IsCall i (IsKnown i) (suc q)) (let e : 0 + j ≡ j = omega arith in e) (call_at i (calls_of i) 0 j (calls_fit IsKnown i v.fits) l)

-- of a frame that stands somewhere, what is so of each such frame is so at the end of each way of calls
along_way : (P : (s : Scene) → (Place → ℕ) → SlotValues → ℕ → Type 0) →
    ((i : Instance) (v : Standing i) → P (scene i v.b v.f) v.at v.row v.t) → (w : List ℕ) (i : Instance) (v : Standing i) → AreCalls i w →
    P (scene_on w i v.b v.f) (numbers_on w v.at) v.row v.t
along_way P each [] i v a = each i v
along_way P each (k ∷ w) i v a = along_way P each w (call_instance i k) (called i v k (is_call i v k a.0 a.1)) a.2

abbrev ShownBy : (s : Scene) → (Place → ℕ) → SlotValues → ℕ → Type 0
ShownBy s at row t = Shows s (knows s.place) at (at_numbers at (resolvings s.place)) row t

abbrev ValuesBy : (s : Scene) → (Place → ℕ) → SlotValues → ℕ → Type 0
ValuesBy s at row t =
    (c : Clock) (e : Expression) → Stands s.place (IsKnown s.place) c e → ClockFits s.place (IsKnown s.place) c →
    worth row (is_on s c t) (resolution (numbering s at (at_numbers at (resolvings s.place))) e) ≡ value s c e t

values_here : (i : Instance) (v : Standing i) → ValuesBy (scene i v.b v.f) v.at v.row v.t
values_here i v c e h o =
    value_by_row (scene i v.b v.f) (knows i) v.at (at_numbers v.at (resolvings i)) v.row v.t (frame_shown i v) c e h (clock_shown i v c o)

-- ---- the run of a checked declaration

abbrev top_standing : (i : Instance) → WellTyped IsKnown i → (m : ℕ) (f : Frame) → IsRun i m throughout f → (t : ℕ) → t < m → Standing i
top_standing i w m f r t l = record {
  at = number_of i;
  b = throughout;
  f = f;
  course = λ u. values_of (state_of i f u);
  n = m;
  run = r;
  fits = w.tree;
  reads = λ u h. state_reads IsKnown i w f u;
  row = row_at i f t;
  t = t;
  before = l;
  has = row_has i w f t;
}

pub rows_show : RowsShow
rows_show p c n j m f r t l w a =
    let i : Instance = instance_of p n in
    along_way ShownBy frame_shown w i (top_standing i (each_is_well_typed p c n j).0 m f r t l) a

pub rows_give_values : RowsGiveValues
rows_give_values p c n j m f r t l w a =
    let i : Instance = instance_of p n in
    along_way ValuesBy values_here w i (top_standing i (each_is_well_typed p c n j).0 m f r t l) a
