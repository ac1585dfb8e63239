-- The rows of a run are covered: its sources, its conditions and its parts have to do with each other as the replay asks.
use Rattle.std.proofs.Common.{◌≡◌, ℕ, zero, suc, ◌<◌, true, List, [], ◌∷◌, ◌++◌, map, length, Some, None, Option, slice_get, refl, ap, ◌∙◌, sym, subst, arith}
use Rattle.std.specs.Prelude.{Contains}
use Rattle.std.specs.List.{AllByRecursion}
use Rattle.std.proofs.lemmas.Bool.{false≢true}
use Rattle.kind_num.specs.declared.Past.{Past}
use Rattle.lus_tree.specs.declared.place.Pos.{Pos}
use Rattle.lus_tree.specs.Tree.{Component, Program}
use Rattle.lus_meaning.specs.ClockFaults.{components}
use Rattle.lus_meaning.specs.Refusals.{IsChecked}
use Rattle.lus_meaning.specs.Frame.{Frame}
use Rattle.lus_meaning.specs.Scene.{Instance}
use Rattle.lus_meaning.specs.Occurrences.{own}
use Rattle.lus_meaning.specs.Program.{instance_of}
use Rattle.lus_meaning.specs.Run.{IsRun}
use Rattle.lus_meaning.specs.Verdict.{throughout}
use Rattle.lus_meaning.proofs.Lists.{all_from, both_parts}
use Rattle.lus_evaluation.specs.Part.{Part}
use Rattle.lus_evaluation.specs.Evaluation.{IsEvaluation}
use Rattle.lus_evaluation.specs.Frame.{frame_text}
use Rattle.lus_evaluation.specs.Past.{IsFirstPast, NonePast, part_past}
use Rattle.lus_evaluation.specs.Turn.{in_turn}
use Rattle.slot_values.specs.Evaluated.{SlotValues, outside, told}
use Rattle.slot_values.specs.declared.resolved.PastAt.{PastAt}
use Rattle.slot_sources.specs.Source.{Source}
use Rattle.slot_sources.specs.Rows.{Choices, Follow, is_on, is_read, reads_before, reads_now}
use Rattle.slot_sources.specs.Sources.{sources_of}
use Rattle.slot_sources.specs.Parts.{part_resolution, part_switch}
use Rattle.slot_rows.specs.Order.{IsSlotOrder}
use Rattle.slot_rows.specs.Agreement.{IsClosed, is_read_at, read_slots}
use Rattle.slot_replay.specs.Parts.{Part as SlotPart, pasts_of}
use Rattle.slot_replay.specs.Agreement.{AreIn, part_reads}
use Rattle.slot_replay.specs.Following.{AreCovered, ConditionsWithin, IsCovered, IsFirstOutside, IsReadDone, PartsWithin}
use Rattle.evaluation_laws.specs.Rows.{row_at}
use Rattle.order_laws.specs.Laws.{FirstPastByRows, IsFirstByRows, OwnPastInOrder, operations_there}
use Rattle.order_laws.proofs.FirstByRows.{parts_have_own_past}
use Rattle.order_laws.proofs.Lists.{grouped, right_of}
use Rattle.row_laws.specs.OneRow.{IsReadSlot, ReadSlotsAlone}
use Rattle.condition_laws.specs.Within.{conditions_in_turn}
use Rattle.condition_laws.proofs.ConditionsWithin.{conditions_stay_within}
use Rattle.within_laws.specs.Laws.{AreQuiet}
use Rattle.within_laws.specs.Instants.{InstantsAreWithin, IsOverSlots, PartsAreOverSlots}
use Rattle.within_laws.proofs.Quiet.{parts_within_are_quiet, quiet_parts_are_within}
use Rattle.rest_laws.specs.Rests.{Rests, RestsBefore}
use Rattle.replay_laws.specs.OverSlots.{conditions_over, over_slots}
use Rattle.replay_laws.proofs.Lists.{IsSplitOf, all_picked, map_split, over_mapped}

-- ---- the slots that are read are a closed set

module _ (es : List Source) (alone : ReadSlotsAlone es) where
  is_read_there : (k : ℕ) (e : Source) → slice_get es k ≡ Some e → read_slots es k ≡ true → is_read e ≡ true
  is_read_there k e q i = subst (λ o. is_read_at o ≡ true) q i

  reads_there : (ks : List ℕ) → AllByRecursion (IsReadSlot es) ks → AllByRecursion (λ j. read_slots es j ≡ true) ks
  reads_there ks a = all_from (IsReadSlot es) (λ j. read_slots es j ≡ true) (λ j h. ap is_read_at h.1 ∙ h.2) ks a

  below : (xs : List Source) (k : ℕ) → is_read_at (slice_get xs k) ≡ true → k < length xs
  below [] k i = absurd (false≢true i)
  below (x ∷ xs) zero i = omega arith
  below (x ∷ xs) (suc k) i = let h : k < length xs = below xs k i in omega (arith, h)

  pub read_closed : IsClosed es (read_slots es)
  read_closed = record {
    slots = λ k i. below es k i;
    read = is_read_there;
    now = λ k e q i. reads_there (reads_now e) (alone k e q).0;
    before = λ k e q i. reads_there (reads_before e) (alone k e q).1;
  }

-- ---- of a run

module _ (p : Program) (c : IsChecked p) (n : Component) (j : Contains (components p) n) (qs : List Part) (ev : IsEvaluation (instance_of p n) qs)
    (m : ℕ) (f : Frame) (run : IsRun (instance_of p n) m throughout f) (over : PartsAreOverSlots) where
  abbrev i : Instance
  i = instance_of p n

  abbrev row : ℕ → SlotValues
  row t = row_at i f t

  abbrev parts : List SlotPart
  parts = map (over_slots i) qs

  abbrev Fine : ℕ → Part → Type 0
  Fine t q = part_past i f q t ≡ None

  over_all : (t : ℕ) → t < m → AllByRecursion (IsOverSlots i f t) qs
  over_all t l = over p c n j qs ev m f run t l

  -- ---- over slots and not

  quiet_slots : (t : ℕ) (fs : List Part) → AllByRecursion (IsOverSlots i f t) fs → AreQuiet i f t fs → PartsWithin (map (over_slots i) fs) (row t)
  quiet_slots t [] o a = refl
  quiet_slots t (q ∷ fs) o a = rw (sym o.0 ∙ a.0, quiet_slots t fs o.1 a.1) refl

  both_none : (xs ys : List PastAt) → xs ++ ys ≡ [] → (xs ≡ []) × (ys ≡ [])
  both_none [] ys e = (refl, e)
  both_none (x ∷ xs) ys e = cc

  slots_quiet : (t : ℕ) (fs : List Part) → AllByRecursion (IsOverSlots i f t) fs → PartsWithin (map (over_slots i) fs) (row t) → AreQuiet i f t fs
  slots_quiet t [] o a = tt
  slots_quiet t (q ∷ fs) o a =
      let h : (outside (row t) (is_on (row t) (part_switch i q)) (part_resolution i q) ≡ []) × (pasts_of (row t) (map (over_slots i) fs) ≡ []) =
      both_none (outside (row t) (is_on (row t) (part_switch i q)) (part_resolution i q)) (pasts_of (row t) (map (over_slots i) fs)) a in
      (o.0 ∙ h.0, slots_quiet t fs o.1 h.1)

  within_slots : (t : ℕ) → t < m → NonePast i f qs t → PartsWithin parts (row t)
  within_slots t l a = quiet_slots t qs (over_all t l) (parts_within_are_quiet p c n j qs ev m f run t l a)

  pub slots_within : (t : ℕ) → t < m → PartsWithin parts (row t) → NonePast i f qs t
  slots_within t l a = quiet_parts_are_within p c n j qs ev m f run t l (slots_quiet t qs (over_all t l) a)

  -- ---- fronts

  own_one : (t : ℕ) → t < m → OwnPastInOrder i f t qs
  own_one t l = parts_have_own_past p c n j qs ev m f run t l

  none_told : (at : Pos) (o : Option Past) → told at o ≡ [] → o ≡ None
  none_told at None e = refl
  none_told at (Some x) e = cc

  front_within : (t : ℕ) → t < m → (done front back : List Part) → qs ≡ done ++ (front ++ back) → NonePast i f done t → AreQuiet i f t front
      → NonePast i f front t
  front_within t l done [] back e a h = tt
  front_within t l done (q ∷ front) back e a h =
      let mine : Fine t q = none_told (own q.expression) (part_past i f q t) (sym (own_one t l done q (front ++ back) e a) ∙ h.0) in (
        mine,
        front_within t l (done ++ q ∷ []) front back (e ∙ sym (grouped done (q ∷ []) (front ++ back)))
            (both_parts (Fine t) done (q ∷ []) a (mine, tt)) h.1,
      )

  over_front : (t : ℕ) → (xs ys : List Part) → AllByRecursion (IsOverSlots i f t) (xs ++ ys) → AllByRecursion (IsOverSlots i f t) xs
  over_front t [] ys a = tt
  over_front t (x ∷ xs) ys a = (a.0, over_front t xs ys a.1)

  -- ---- conditions

  conditions_within : (t : ℕ) → t < m → NonePast i f qs t → ConditionsWithin (conditions_over i) (row t)
  conditions_within t l a = record { legal = both.0; properties = both.1 }
    where
      whole : NonePast i f (in_turn ev.orders i) t
      whole = all_picked (Fine t) ev.numbers (in_turn ev.orders i) ev.turn.order.all (subst (AllByRecursion (Fine t)) ev.parts a)

      both : AllByRecursion (λ e. outside (row t) true e ≡ []) (conditions_over i).legal
          × AllByRecursion (λ e. outside (row t) true e ≡ []) (conditions_over i).properties
      both = conditions_stay_within p c n j m f run t l ev.orders
          (right_of (Fine t) (frame_text ev.orders [] i).body (conditions_in_turn ev.orders i) whole)

  pub conditions_covered : (t : ℕ) → t < m → PartsWithin parts (row t) → ConditionsWithin (conditions_over i) (row t)
  conditions_covered t l a = conditions_within t l (slots_within t l a)

  -- ---- all of it

  module _ (rests : Rests i qs) (instants : InstantsAreWithin) (alone : ReadSlotsAlone (sources_of i)) where
    read_done : (t : ℕ) → t < m → (front : List SlotPart) (y : SlotPart) (rest : List SlotPart) → parts ≡ front ++ y ∷ rest
        → PartsWithin front (row t) → IsReadDone (sources_of i) rests.in_set y (row t)
    read_done t l front y rest e a = record {
      done = b.done;
      is_done = record { inside = b.inside; within = b.within; reads = b.now };
      read = subst (λ y. AreIn b.done (part_reads y)) (sym h.here_is) b.reads;
    }
      where
        h : IsSplitOf (over_slots i) qs front y
        h = map_split (over_slots i) qs front y rest e

        before : NonePast i f h.before t
        before = front_within t l [] h.before (h.here ∷ h.after) h.split tt
            (slots_quiet t h.before (over_front t h.before (h.here ∷ h.after) (subst (AllByRecursion (IsOverSlots i f t)) h.split (over_all t l)))
            (subst (λ fs. PartsWithin fs (row t)) h.front_is a))

        b : RestsBefore i f t rests.in_set h.here
        b = rests.before m f run t l h.before h.here h.after h.split before

    covered : (t : ℕ) → t < m → IsCovered (sources_of i) (conditions_over i) parts rests.in_set (row t)
    covered t l = record {
      parts = λ none conditions. within_slots t l (instants p c n j qs ev m f run t l
          (λ k e q r. none k e q (ap is_read_at q ∙ r)) conditions.legal conditions.properties);
      sources = λ a. rests.within m f run t l (slots_within t l a);
      conditions = λ a. conditions_covered t l a;
      first = read_done t l;
    }

    pub are_covered : (choices : Choices) (ks : List ℕ) → IsSlotOrder (sources_of i) ks → Follow (sources_of i) choices m row
        → AreCovered (sources_of i) choices ks (conditions_over i) parts rests.in_set m row
    are_covered choices ks order follow = record {
      order = order;
      read = read_closed (sources_of i) alone;
      closed = rests.closed;
      conditions = record { legal = rests.legal; properties = rests.properties };
      parts = over_mapped (λ y. AreIn rests.in_set (part_reads y)) (over_slots i) qs rests.parts;
      follow = follow;
      covered = covered;
    }

  -- ---- what is told

  record IsFirstPart (t : ℕ) (fs : List Part) (x : PastAt) : Type 0 where
    front : List Part
    part : Part
    rest : List Part
    split : fs ≡ front ++ part ∷ rest
    before : AreQuiet i f t front
    more : List PastAt
    outside : operations_there i f t part ≡ x ∷ more

  first_part : (t : ℕ) (fs : List Part) (x : PastAt) → AllByRecursion (IsOverSlots i f t) fs
      → slice_get (pasts_of (row t) (map (over_slots i) fs)) 0 ≡ Some x → IsFirstPart t fs x
  first_part t [] x o h = cc
  first_part t (q ∷ fs) x o h = go (outside (row t) (is_on (row t) (part_switch i q)) (part_resolution i q)) refl (first_part t fs x o.1)
    where
      some_is : (y : PastAt) → Some y ≡ Some x → y ≡ x
      some_is y e = cc

      go : (ys : List PastAt) → outside (row t) (is_on (row t) (part_switch i q)) (part_resolution i q) ≡ ys
          → (slice_get (pasts_of (row t) (map (over_slots i) fs)) 0 ≡ Some x → IsFirstPart t fs x) → IsFirstPart t (q ∷ fs) x
      go [] e later =
          let h : IsFirstPart t fs x = later (subst (λ ys. slice_get (ys ++ pasts_of (row t) (map (over_slots i) fs)) 0 ≡ Some x) e h) in
          record {
            front = q ∷ h.front;
            part = h.part;
            rest = h.rest;
            split = ap (λ fs. q ∷ fs) h.split;
            before = (o.0 ∙ e, h.before);
            more = h.more;
            outside = h.outside;
          }
      go (y ∷ ys) e later =
          let same : y ≡ x = some_is y (subst (λ ys. slice_get (ys ++ pasts_of (row t) (map (over_slots i) fs)) 0 ≡ Some x) e h) in
          record {
            front = [];
            part = q;
            rest = fs;
            split = refl;
            before = tt;
            more = ys;
            outside = o.0 ∙ e ∙ ap (λ x. x ∷ ys) same;
          }

  pub first_is_past : FirstPastByRows → (t : ℕ) (x : PastAt) → IsFirstOutside row parts m t x → IsFirstPast i f qs m x.at t x.past
  first_is_past first t x h = (first p c n j qs ev m f run m (omega arith) x.at t x.past).0 rows
    where
      q : IsFirstPart t qs x
      q = first_part t qs x (over_all t h.below) h.first

      rows : IsFirstByRows i f qs m x.at t x.past
      rows = record {
        below = h.below;
        earlier = λ u l. let k = h.below in slots_quiet u qs (over_all u (omega (arith, l, k))) (h.earlier u l);
        front = q.front;
        part = q.part;
        rest = q.rest;
        split = q.split;
        before = q.before;
        more = q.more;
        outside = q.outside;
      }
