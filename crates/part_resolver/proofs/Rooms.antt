-- Where a frame has room, so have the frames of its calls.
use Rattle.std.proofs.Common.{◌≡◌, ℕ, zero, suc, pred, ◌+◌, ◌<◌, ◌≤◌, cond, List, [], ◌∷◌, length, drop, get_or, Option, Some, None, refl, sym, ap, ◌∙◌, subst, arith}
use Rattle.std.specs.Prelude.{slice_get}
use Rattle.std.specs.List.{AllByRecursion}
use Rattle.std.proofs.lemmas.Bool.{le-leb}
use Rattle.std.proofs.lemmas.Option.{slice_get_past}
use Rattle.lus_limits.specs.declared.calls.Way.{Way}
use Rattle.sys_texts.specs.Sights.{Sight, counted_from_one}
use Rattle.sys_frames.specs.Walked.{CallsHaveRoom, HasRoomWithin, IfThere}
use Rattle.sys_tables.specs.Tabled.{Linked, Tabled}
use Rattle.sys_tables.specs.Numbers.{CallHasRoom, behind_own, sight_at}
use Rattle.sys_frames.proofs.Steps.{dropped}
use Rattle.frame_sources.specs.Resolved.{Asked}
use Rattle.frame_sources.specs.Walked.{modes_seen, modes_within}
use Rattle.part_resolver.specs.declared.seats.Seat.{Seat}
use Rattle.part_resolver.specs.Seats.{HasRoomAt, call_seat, called, nowhere, seat_of, seat_on, seat_or_nowhere}

pub counted : {A : Type 0} (xs : List A) (k : ℕ) → counted_from_one xs (suc k) ≡ slice_get xs k
counted xs k = ap (λ b. cond b (slice_get xs k) None) (le-leb 1 (suc k) (omega arith))

-- what is so of each is so of one that is there
pub of_one : {A : Type 0} (P : A → Type 0) (xs : List A) (k : ℕ) (x : A) → AllByRecursion P xs → slice_get xs k ≡ Some x → P x
of_one P [] k x a e = cc
of_one P (y ∷ xs) zero x a e = subst P (some_same e) a.0
  where
    some_same : Some y ≡ Some x → y ≡ x
    some_same e = cc
of_one P (y ∷ xs) (suc k) x a e = of_one P xs k x a.1 e

pub of_counted : {A : Type 0} (P : A → Type 0) (xs : List A) (k : ℕ) (x : A) → AllByRecursion P xs → counted_from_one xs k ≡ Some x → P x
of_counted P xs zero x a e = cc
of_counted P xs (suc k) x a e = of_one P xs k x a (sym (counted xs k) ∙ e)

-- behind all declarations there is none
pub none_behind : (ts : List Tabled) → slice_get ts (length ts) ≡ None
none_behind ts = slice_get_past ts (length ts) (omega arith)

room_nowhere : (ts : List Tabled) (missing : ℕ) → HasRoomAt ts (nowhere ts missing)
room_nowhere ts missing =
    subst (λ o. IfThere (HasRoomWithin 0 ts) o (nowhere ts missing).way missing) (sym (none_behind ts)) tt

module _ (ts : List Tabled) (missing : ℕ) where
  room_of : (d : ℕ) (from : ℕ) (qs : List Linked) (k : ℕ) → CallsHaveRoom d ts from qs → (o : Option Linked) → counted_from_one qs k ≡ o
      → HasRoomAt ts (seat_or_nowhere ts missing d from o)
  room_of d from qs k h None e = room_nowhere ts missing
  room_of zero from qs k h (Some q) e = room_nowhere ts missing
  room_of (suc d) from qs k h (Some q) e = of_counted _ qs k q h e

  room_called : (s : Seat) (k : ℕ) (o : Option Tabled) → IfThere (HasRoomWithin s.depth ts) o s.way s.base → HasRoomAt ts (called ts missing s o k)
  room_called s k None h = room_nowhere ts missing
  room_called s k (Some t) h = room_of s.depth (behind_own s.way t s.base) t.calls k h.1 (counted_from_one t.calls k) refl

  pub room_at_call : (s : Seat) (k : ℕ) → HasRoomAt ts s → HasRoomAt ts (call_seat ts missing s k)
  room_at_call s k h = room_called s k (slice_get ts s.place) h

  pub room_on : (w : List ℕ) (s : Seat) → HasRoomAt ts s → HasRoomAt ts (seat_on ts missing s w)
  room_on [] s h = h
  room_on (k ∷ w) s h = room_on w (call_seat ts missing s k) (room_at_call s k h)

  -- ---- steps of a walk

  pub room_step : (s z : Seat) (k : ℕ) → z ≡ call_seat ts missing s k → HasRoomAt ts s → HasRoomAt ts z
  room_step s z k e h = subst (HasRoomAt ts) (sym e) (room_at_call s k h)

  pub led_step : (s z : Seat) (w : List ℕ) (i k : ℕ) (e : Seat) → z ≡ call_seat ts missing s k → i < length w → k ≡ get_or w i k
      → seat_on ts missing s (drop i w) ≡ e → seat_on ts missing z (drop (i + 1) w) ≡ e
  led_step s z w i k e so l is h =
      ap (λ y. seat_on ts missing y (drop (i + 1) w)) so ∙ (sym (ap (seat_on ts missing s) (dropped w i k l is)) ∙ h)

  pub room_there : (root z : Seat) (w : List ℕ) → z ≡ seat_on ts missing root w → HasRoomAt ts root → HasRoomAt ts z
  room_there root z w e h = subst (HasRoomAt ts) (sym e) (room_on w root h)

  pub room_of_call : (d : ℕ) (t : Tabled) (y : Way) (b k from : ℕ) (q : Linked) → HasRoomWithin d ts t y b → counted_from_one t.calls k ≡ Some q
      → from ≡ behind_own y t b → CallHasRoom from q
  room_of_call d t y b k from q h e f = subst (λ n. CallHasRoom n q) (sym f) (of_counted (CallHasRoom (behind_own y t b)) t.calls k q h.0.calls e)

  pub modes_step : (d : ℕ) (t : Tabled) (y : Way) (b from : ℕ) (s : Sight) (ms : List Asked) → s ≡ sight_at t y b missing → from ≡ behind_own y t b
      → ms ≡ modes_seen d ts missing t s from → ms ≡ modes_within d ts missing t y b
  modes_step d t y b from s ms e f h = h ∙ (ap (modes_seen d ts missing t s) f ∙ ap (λ z. modes_seen d ts missing t z (behind_own y t b)) e)
