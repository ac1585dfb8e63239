-- The state of a frame shows the frame, and with it each frame of a call.
use Rattle.std.proofs.Common.{◌<◌, ◌≡◌, ℕ, zero, suc, Bool, true, false, cond, ◌&&◌, List, [], ◌∷◌, map, refl, ap, ◌∙◌, sym, arith, Option, Some, None, ◌==◌}
use Rattle.std.specs.Str.{bytes_eq}
use Rattle.std.proofs.lemmas.Bool.{false≢true}
use Rattle.lus_tree.specs.declared.place.Sort.{Sort}
use Rattle.lus_tree.specs.declared.place.Sort.TheVariants.{Bool as Flags, Int as Numbers}
use Rattle.lus_meaning.specs.Value.{Value, absent, flag, whole, has_sort, Instants}
use Rattle.lus_meaning.specs.Frame.{Frame, call_frame}
use Rattle.lus_meaning.specs.Scene.{component_of, Manner, plain, as_import, Instance, call_instance}
use Rattle.lus_meaning.specs.Slots.{Slot, slots}
use Rattle.lus_meaning.specs.Trace.{or_default, same_numbers}
use Rattle.lus_meaning.specs.Verdict.{throughout}
use Rattle.lus_meaning.specs.Contract.{scene}
use Rattle.lus_meaning.specs.Run.{active}
use Rattle.lus_meaning.proofs.Unique.{same_bytes}
use Rattle.sys_terms.specs.declared.term.Entry.{Entry}
use Rattle.sys_terms.specs.Meaning.{Values, values_of}
use Rattle.sys_meaning.specs.Slot.{own, Spot, beat, named, memory, starting, so_far, held, Place, place_of, same_spot, same_place, number_in}
use Rattle.sys_meaning.specs.Items.{Key}
use Rattle.sys_meaning.specs.Defaults.{site_of}
use Rattle.sys_meaning.specs.State.{kept_so_far, entry_of, reading, state_of}
use Rattle.sys_meaning.specs.Part.{value_in}
use Rattle.sys_meaning.specs.System.{has_so_far, number_of, below_call}
use Rattle.sys_meaning.specs.WellTyped.{HasPlaceIn, HasPlace, IsCall, slot_sort, WellTyped}
use Rattle.sys_meaning.specs.Path.{Course}
use Rattle.sys_meaning.proofs.Conditions.{flags_same}

-- ---- equal places

pub numbers_same : (k j : ℕ) → (k == j) ≡ true → k ≡ j
numbers_same k j e = grind (arith, e)

pub same_both : (a b : Bool) → (a && b) ≡ true → (a ≡ true) × (b ≡ true)
same_both true b e = (refl, e)
same_both false b e = absurd (false≢true e)

pub same_ways : (ks js : List ℕ) → same_numbers ks js ≡ true → ks ≡ js
same_ways [] [] e = refl
same_ways [] (j ∷ js) e = absurd (false≢true e)
same_ways (k ∷ ks) [] e = absurd (false≢true e)
same_ways (k ∷ ks) (j ∷ js) e = let p =
    same_both (k == j) (same_numbers ks js) e in rw (numbers_same k j p.0, same_ways ks js p.1) refl

pub same_spots : (p q : Spot) → same_spot p q ≡ true → p ≡ q
same_spots beat beat e = refl
same_spots (named x) (named y) e = ap named (same_bytes x y e)
same_spots (memory k) (memory j) e = ap memory (numbers_same k j e)
same_spots (starting k) (starting j) e = ap starting (numbers_same k j e)
same_spots so_far so_far e = refl
same_spots (held k x) (held j y) e = let p =
    same_both (k == j) (bytes_eq x y) e in rw (numbers_same k j p.0, same_bytes x y p.1) refl
same_spots beat (named y) e = absurd (false≢true e)
same_spots beat (memory y) e = absurd (false≢true e)
same_spots beat (starting y) e = absurd (false≢true e)
same_spots beat so_far e = absurd (false≢true e)
same_spots beat (held k y) e = absurd (false≢true e)
same_spots (named x) beat e = absurd (false≢true e)
same_spots (named x) (memory y) e = absurd (false≢true e)
same_spots (named x) (starting y) e = absurd (false≢true e)
same_spots (named x) so_far e = absurd (false≢true e)
same_spots (named x) (held k y) e = absurd (false≢true e)
same_spots (memory x) beat e = absurd (false≢true e)
same_spots (memory x) (named y) e = absurd (false≢true e)
same_spots (memory x) (starting y) e = absurd (false≢true e)
same_spots (memory x) so_far e = absurd (false≢true e)
same_spots (memory x) (held k y) e = absurd (false≢true e)
same_spots (starting x) beat e = absurd (false≢true e)
same_spots (starting x) (named y) e = absurd (false≢true e)
same_spots (starting x) (memory y) e = absurd (false≢true e)
same_spots (starting x) so_far e = absurd (false≢true e)
same_spots (starting x) (held k y) e = absurd (false≢true e)
same_spots so_far beat e = absurd (false≢true e)
same_spots so_far (named y) e = absurd (false≢true e)
same_spots so_far (memory y) e = absurd (false≢true e)
same_spots so_far (starting y) e = absurd (false≢true e)
same_spots so_far (held k y) e = absurd (false≢true e)
same_spots (held k x) beat e = absurd (false≢true e)
same_spots (held k x) (named y) e = absurd (false≢true e)
same_spots (held k x) (memory y) e = absurd (false≢true e)
same_spots (held k x) (starting y) e = absurd (false≢true e)
same_spots (held k x) so_far e = absurd (false≢true e)

pub same_places : (p q : Place) → same_place p q ≡ true → p ≡ q
same_places p q e = let r =
    same_both (same_numbers p.0 q.0) (same_spot p.1 q.1) e in rw (same_ways p.0 q.0 r.0, same_spots p.1 q.1 r.1) refl

-- ---- an entry of a list

entry_value : (z : Sort) (v : Value) (rest : List Entry) → has_sort z (or_default z v) ≡ true →
    value_in (values_of (entry_of (or_default z v) ∷ rest)) z 0 ≡ or_default z v
entry_value Flags absent rest h = refl
entry_value Flags (flag b) rest h = refl
entry_value Flags (whole n) rest h = absurd (false≢true h)
entry_value Numbers absent rest h = refl
entry_value Numbers (whole n) rest h = refl
entry_value Numbers (flag b) rest h = absurd (false≢true h)

pub later_value : (z : Sort) (n : ℕ) (e : Entry) (rest : List Entry) →
    value_in (values_of (e ∷ rest)) z (suc n) ≡ value_in (values_of rest) z n
later_value Flags n e rest = refl
later_value Numbers n e rest = refl

some_sort : (x y : Sort) → Some x ≡ Some y → x ≡ y
some_sort x y e = ap back e
  where
    back : Option Sort → Sort
    back None = x
    back (Some z) = z

-- the entry of a place whose slot is listed
pub listed_value : (Modes : Instance → Key → Type 0) (w : Place → Value) (qs : List Slot) (p : Place) (z : Sort) →
    slot_sort Modes qs p ≡ Some z → has_sort z (or_default z (w p)) ≡ true →
    value_in (values_of (map (λ q. entry_of (or_default q.sort (w (place_of q)))) qs)) z
    (number_in qs p) ≡ or_default z (w p)
listed_value Modes w [] p z e h = absurd (false≢true (ap there e))
  where
    there : Option Sort → Bool
    there None = false
    there (Some x) = true
listed_value Modes w (q ∷ qs) p z e h = by (same_place p (place_of q)) refl e (listed_value Modes w qs p z)
  where
    rest : List Entry
    rest = map (λ q. entry_of (or_default q.sort (w (place_of q)))) qs

    by : (b : Bool) → same_place p (place_of q) ≡ b → cond b (Some q.sort) (slot_sort Modes qs p) ≡ Some z →
        (slot_sort Modes qs p ≡ Some z → has_sort z (or_default z (w p)) ≡ true → value_in (values_of rest) z
        (number_in qs p) ≡ or_default z (w p)) →
        value_in (values_of (entry_of (or_default q.sort (w (place_of q))) ∷ rest)) z (cond b zero (suc
        (number_in qs p))) ≡ or_default z (w p)
    by true k d r = rw (some_sort q.sort z d, sym (same_places p (place_of q) k)) (entry_value z (w p) rest h)
    by false k d r = later_value z (number_in qs p) (entry_of (or_default q.sort (w (place_of q)))) rest ∙ r d h

-- ---- what a state reads of a frame

module _ (Modes : Instance → Key → Type 0) where
  -- each variable is what the frame has there, absent as 0 or false
  -- the frame's own flag of the assumptions aside, which no import has
  abbrev pub Reads : Instance → (Place → ℕ) → Instants → Frame → ℕ → Values → Type 0
  Reads i at b f t now = (ks : List ℕ) (p : Spot) (z : Sort) → HasPlaceIn Modes (as_import []) ks i p z →
      has_sort z (or_default z (reading i b f (ks, p) t)) ≡ true →
      value_in now z (at (ks, p)) ≡ or_default z (reading i b f (ks, p) t)

  -- what a frame has as an import it has in any manner
  pub in_any : (m : Manner) (ks : List ℕ) (i : Instance) (p : Spot) (z : Sort) → HasPlaceIn Modes (as_import []) ks i p z →
      HasPlaceIn Modes m ks i p z
  in_any m [] i beat z h = h
  in_any m [] i (named x) z h = h
  in_any m [] i (memory k) z h = h
  in_any m [] i (starting k) z h = h
  in_any m [] i so_far z h = absurd (false≢true h.1)
  in_any m [] i (held k x) z h = h
  in_any m (k ∷ ks) i p z h = h

  pub state_reads : (i : Instance) → WellTyped Modes i → (f : Frame) (t : ℕ) →
      Reads i (number_of i) throughout f t (values_of (state_of i f t))
  state_reads i w f t ks p z h k =
      listed_value Modes (λ q. reading i throughout f q t) (slots i) (ks, p) z (w.places ks p z (in_any plain ks i p z h)) k

  -- and the frame of a call
  pub call_reads : (i : Instance) (at : Place → ℕ) (b : Instants) (f : Frame) (t : ℕ) (now : Values) →
      Reads i at b f t now → (k : ℕ) → IsCall i (Modes i) k →
      Reads (call_instance i k) (below_call k at) (active (scene i b f) (site_of i k)) (call_frame f k) t now
  call_reads i at b f t now r k c ks p z h e = r (k ∷ ks) p z (c, in_any (site_of i k).manner ks (call_instance i k) p z h) e

  -- the flag of the assumptions of a frame that has one
  abbrev pub FlagReads : Manner → Instance → (Place → ℕ) → Course → ℕ → Instants → Frame → Type 0
  FlagReads m i at c n b f = has_so_far m (component_of i) ≡ true → (t : ℕ) → t < n →
      (c t).flag_at (at (own so_far)) ≡ kept_so_far i b f t

  pub state_flag : (i : Instance) → WellTyped Modes i → (f : Frame) (n : ℕ) →
      FlagReads plain i (number_of i) (λ t. values_of (state_of i f t)) n throughout f
  state_flag i w f n e t h =
      flags_same ((values_of (state_of i f t)).flag_at (number_of i (own so_far))) (kept_so_far i throughout f t)
      (listed_value Modes (λ q. reading i throughout f q t) (slots i) ([], so_far) Flags (w.places [] so_far Flags (refl, e)) refl)

  -- that of a call's frame
  pub call_flag : (i : Instance) (at : Place → ℕ) (c : Course) (n : ℕ) (b : Instants) (f : Frame) →
      ((t : ℕ) → t < n → Reads i at b f t (c t)) → (k : ℕ) → IsCall i (Modes i) k →
      FlagReads (site_of i k).manner (call_instance i k) (below_call k at) c n (active (scene i b f) (site_of i k)) (call_frame f k)
  call_flag i at c n b f reads k call e t h =
      flags_same ((c t).flag_at (at (k ∷ [], so_far)))
      (kept_so_far (call_instance i k) (active (scene i b f) (site_of i k)) (call_frame f k) t)
      (reads t h (k ∷ []) so_far Flags (call, (refl, e)) refl)
