-- What each slot of a declaration stands for, and the slot of each place of a frame.
use Rattle.std.proofs.Common.{◌≡◌, ℕ, List, [], ◌∷◌, ◌++◌, map, Some, slice_get, unwrap_or}
use Rattle.lus_tree.specs.declared.place.Sort.{Sort}
use Rattle.lus_meaning.specs.Value.{Instants}
use Rattle.lus_meaning.specs.Frame.{Frame, call_frame}
use Rattle.lus_meaning.specs.Scene.{Manner, plain, as_import, Instance, call_instance}
use Rattle.lus_meaning.specs.Contract.{scene}
use Rattle.lus_meaning.specs.Run.{active}
use Rattle.lus_meaning.specs.Slots.{Slot, slots}
use Rattle.lus_meaning.specs.Verdict.{throughout}
use Rattle.sys_meaning.specs.Slot.{Spot, so_far, Place, place_of}
use Rattle.sys_meaning.specs.Defaults.{site_of}
use Rattle.sys_meaning.specs.WellTyped.{IsKnown, TreeFits, WellTyped, HasPlaceIn}
use Rattle.sys_meaning.proofs.Forward.{calls_fit}
use Rattle.sys_meaning.proofs.Shows.{in_any}
use Rattle.sys_meaning.proofs.Whole.{fits_called}
use Rattle.lus_evaluation.specs.Past.{scene_on}
use Rattle.evaluation_laws.specs.Rows.{AreCalls, numbers_there}
use Rattle.row_laws.proofs.Lists.{mapped_at}
use Rattle.row_laws.proofs.Running.{value_there}
use Rattle.row_laws.proofs.Ranking.{call_of_number}
use Rattle.order_laws.specs.Rows.{place_there}

-- where no slot is
abbrev nowhere : Place
nowhere = ([], so_far)

-- what the slot with a number stands for
abbrev pub place_at : Instance → ℕ → Place
place_at i k = unwrap_or (slice_get (map (λ q. place_of q) (slots i)) k) nowhere

pub place_of_slot : (i : Instance) (k : ℕ) (x : Slot) → slice_get (slots i) k ≡ Some x → place_at i k ≡ place_of x
place_of_slot i k x e = mapped_at (λ q. place_of q) nowhere (slots i) k x e

-- a place of the frame at the end of a way of calls
along : (w : List ℕ) (i : Instance) (b : Instants) (f : Frame) (m : Manner) → AreCalls i w → TreeFits IsKnown i → (ks : List ℕ) (p : Spot) (z : Sort) →
    HasPlaceIn IsKnown (as_import []) ks (scene_on w i b f).place p z → HasPlaceIn IsKnown m (w ++ ks) i p z
along [] i b f m a t ks p z h = in_any IsKnown m ks i p z h
along (k ∷ w) i b f m a t ks p z h = (
  call_of_number i t k a.0 a.1,
  along w (call_instance i k) (active (scene i b f) (site_of i k)) (call_frame f k) (site_of i k).manner a.2
      (fits_called IsKnown i k a.0 a.1 (calls_fit IsKnown i t)) ks p z h,
)

-- the slot of a place of that frame stands for it
pub slot_there : (i : Instance) (f : Frame) → WellTyped IsKnown i → (w : List ℕ) → AreCalls i w → (ks : List ℕ) (p : Spot) (z : Sort) →
    HasPlaceIn IsKnown (as_import []) ks (place_there i f w) p z → place_at i (numbers_there i w (ks, p)) ≡ (w ++ ks, p)
slot_there i f t w a ks p z h =
    value_there (λ (q : Place). q) nowhere (slots i) (w ++ ks, p) z (t.places (w ++ ks) p z (along w i throughout f plain a t.tree ks p z h))
