-- Rows that follow from the sources of a declaration are those of the frame that lines give.
use Rattle.std.proofs.Common.{◌≡◌, ℕ, zero, suc, ◌<◌, Bool, true, false, cond, List, [], ◌∷◌, map, refl, ap, ◌∙◌, sym, subst, arith, Some, slice_get, unwrap_or}
use Rattle.std.specs.List.{AllByRecursion}
use Rattle.std.proofs.lemmas.Bool.{false≢true}
use Rattle.std.proofs.lemmas.Option.{none-some}
use Rattle.lus_tree.specs.declared.place.Sort.{Sort}
use Rattle.lus_tree.specs.Tree.{Expression}
use Rattle.lus_meaning.specs.Scene.{Clock, plain, Instance}
use Rattle.lus_meaning.specs.Program.{instance_of}
use Rattle.lus_meaning.specs.Slots.{Slot, slots}
use Rattle.lus_meaning.proofs.Lists.{all_from}
use Rattle.clock_laws.specs.Laws.{HasRank}
use Rattle.clock_laws.proofs.RunLaws.{each_has_rank}
use Rattle.sys_meaning.specs.Slot.{Spot, Place, place_of, spot_of, same_place, number_in}
use Rattle.sys_meaning.specs.System.{number_of}
use Rattle.sys_meaning.specs.WellTyped.{IsKnown, Stands, WellTyped, slot_sort}
use Rattle.sys_meaning.proofs.Shows.{in_any, same_places}
use Rattle.path_laws.proofs.Main.{each_is_well_typed}
use Rattle.slot_sources.specs.Source.{Source, always}
use Rattle.slot_sources.specs.Rows.{reads_now, reads_before, slots_read}
use Rattle.slot_sources.specs.Sources.{sources_of}
use Rattle.row_laws.specs.OneRow.{IsReadSlot, SourcesReadSlots, AreSameRows, RowsAreTheFrames, DoneSlotsAreTheFrames, on_there, FollowingRowsGiveValues, FollowingRowsTellParts}
use Rattle.row_laws.proofs.Lists.{Both, some_inner}
use Rattle.row_laws.proofs.Ranking.{spot_rank, spot_read, Ranking}
use Rattle.row_laws.proofs.Ranks.{sources_have_ranks}
use Rattle.row_laws.specs.Choices.{choices_of}
use Rattle.lus_meaning.specs.Frame.{Frame}
use Rattle.lus_meaning.specs.Verdict.{throughout}
use Rattle.slot_values.specs.Evaluated.{SlotValues}
use Rattle.evaluation_laws.specs.Rows.{row_at, AreCalls, scene_there, resolution_there}
use Rattle.evaluation_laws.proofs.RowFrames.{rows_give_values}
use Rattle.row_laws.proofs.Running.{value_there}
use Rattle.row_laws.proofs.OneRow.{Agree, worth_same, outside_same, one_row_follows, done_same}
use Rattle.row_laws.proofs.Follow.{rows_follow}
use Rattle.row_laws.proofs.SlotsRead.{IsReadAs, read_alike}
use Rattle.row_laws.proofs.Alone.{SourceReads, Seeing, reads_there, sources_reading}

-- ---- no source reads a slot that none is to read

module _ (i : Instance) (w : WellTyped IsKnown i) (h : HasRank i) where
  -- slots that are not read are above the bound
  abbrev place_rank : Place → ℕ
  place_rank p = cond (spot_read p.1) (spot_rank h.rank p.0 p.1) (suc h.bound)

  abbrev read_rank : ℕ → ℕ
  read_rank k = unwrap_or (slice_get (map (λ q. place_rank (place_of q)) (slots i)) k) (suc h.bound)

  on_true : (b : Bool) (x y : ℕ) → b ≡ true → cond b x y ≡ x
  on_true true x y e = refl
  on_true false x y e = absurd (false≢true e)

  abbrev top_ranking : Ranking read_rank i
  top_ranking = record {
    at = number_of i;
    r = h.rank;
    ranked = h.ranked;
    fits = w.tree;
    has = λ ks p z q o. value_there place_rank (suc h.bound) (slots i) (ks, p) z (w.places ks p z (in_any IsKnown plain ks i p z o))
        ∙ on_true (spot_read p) (spot_rank h.rank ks p) (suc h.bound) q;
  }

  -- of slots and sources side by side
  read_there : (qs : List Slot) (es : List Source) → Both IsReadAs qs es → (k : ℕ) →
      unwrap_or (slice_get (map (λ q. place_rank (place_of q)) qs) k) (suc h.bound) < suc h.bound → IsReadSlot es k
  read_there [] [] a zero l = absurd (omega (arith, l))
  read_there [] [] a (suc k) l = absurd (omega (arith, l))
  read_there [] (e ∷ es) a k l = absurd a
  read_there (q ∷ qs) [] a k l = absurd a
  read_there (q ∷ qs) (e ∷ es) a (suc k) l = read_there qs es a.1 k l
  read_there (q ∷ qs) (e ∷ es) a zero l = go (spot_read (spot_of q.cell)) refl l
    where
      go : (b : Bool) → spot_read (spot_of q.cell) ≡ b → cond b (spot_rank h.rank q.path (spot_of q.cell)) (suc h.bound) < suc h.bound →
          IsReadSlot (e ∷ es) zero
      go true y l = (e, refl, a.0 ∙ y)
      go false y l = absurd (omega (arith, l))

  -- the slot of a place is there, and it is read
  found_there : (qs : List Slot) (es : List Source) → Both IsReadAs qs es → (ks : List ℕ) (p : Spot) (z : Sort) → spot_read p ≡ true →
      slot_sort IsKnown qs (ks, p) ≡ Some z → IsReadSlot es (number_in qs (ks, p))
  found_there [] es a ks p z y e = absurd (none-some z e)
  found_there (q ∷ qs) [] a ks p z y e = absurd a
  found_there (q ∷ qs) (x ∷ es) a ks p z y e = go (same_place (ks, p) (place_of q)) refl e (found_there qs es a.1 ks p z y)
    where
      go : (c : Bool) → same_place (ks, p) (place_of q) ≡ c → cond c (Some q.sort) (slot_sort IsKnown qs (ks, p)) ≡ Some z →
          (slot_sort IsKnown qs (ks, p) ≡ Some z → IsReadSlot es (number_in qs (ks, p))) →
          IsReadSlot (x ∷ es) (cond c zero (suc (number_in qs (ks, p))))
      go true d e r =
          (x, refl, a.0 ∙ ap (λ (l : Place). spot_read l.1) (sym (same_places (ks, p) (place_of q) d)) ∙ y)
      go false d e r = r e

  abbrev seeing : Seeing read_rank h.bound (IsReadSlot (sources_of i)) (read_there (slots i) (sources_of i) (read_alike i)) i
  seeing = record {
    v = top_ranking;
    read = λ ks p z q o. found_there (slots i) (sources_of i) (read_alike i) ks p z q (w.places ks p z (in_any IsKnown plain ks i p z o));
    bounded = λ ks x. h.below ks x;
  }

  all_alone : AllByRecursion (SourceReads read_rank h.bound (IsReadSlot (sources_of i)) (read_there (slots i) (sources_of i) (read_alike i))) (sources_of i)
  all_alone =
      sources_reading read_rank h.bound (IsReadSlot (sources_of i)) (read_there (slots i) (sources_of i) (read_alike i)) plain i seeing always
      (tt, tt) [] tt

at_place : {A : Type 0} (P : A → Type 0) (xs : List A) → AllByRecursion P xs → (k : ℕ) (x : A) → slice_get xs k ≡ Some x → P x
at_place P [] a zero x e = absurd (none-some x e)
at_place P [] a (suc k) x e = absurd (none-some x e)
at_place P (y ∷ xs) a zero x e = subst P (some_inner y x e) a.0
at_place P (y ∷ xs) a (suc k) x e = at_place P xs a.1 k x e

pub sources_read_slots : SourcesReadSlots
sources_read_slots p c n j k e h =
    let i : Instance = instance_of p n in
    let w : WellTyped IsKnown i = (each_is_well_typed p c n j).0 in
    let r : HasRank i = each_has_rank p c n j in
    at_place (λ e. AllByRecursion (IsReadSlot (sources_of i)) (reads_now e) × AllByRecursion (IsReadSlot (sources_of i)) (reads_before e))
    (sources_of i) (all_alone i w r) k e h

pub rows_are_the_frames : RowsAreTheFrames
rows_are_the_frames p c n j ls m f h rows g =
    one_row_follows (sources_of (instance_of p n)) (sources_have_ranks p c n j) (sources_read_slots p c n j) (choices_of ls (instance_of p n)) m rows
    (λ t. row_at (instance_of p n) f t) g (rows_follow p c n j ls m f h)

pub done_slots_are_the_frames : DoneSlotsAreTheFrames
done_slots_are_the_frames p c n j ls m f h rows t l g done d =
    done_same (sources_of (instance_of p n)) (sources_have_ranks p c n j) (sources_read_slots p c n j) (choices_of ls (instance_of p n)) t rows
    (λ t. row_at (instance_of p n) f t) g (λ k e a z u y. rows_follow p c n j ls m f h k e a z u (omega (arith, y, l))) done d

-- ---- expressions

module _ (i : Instance) (w : WellTyped IsKnown i) (r : HasRank i) (f : Frame) (way : List ℕ) (calls : AreCalls i way) (rows : ℕ → SlotValues) (m t : ℕ)
    (l : t < m) (same : AreSameRows (sources_of i) m rows (λ t. row_at i f t)) where
  agree_there : (c : Clock) (e : Expression) → Stands (scene_there i f way).place (IsKnown (scene_there i f way).place) c e →
      Agree (rows t) (row_at i f t) (slots_read (resolution_there i f way e))
  agree_there c e h =
      all_from (IsReadSlot (sources_of i)) (λ k. rows t k ≡ row_at i f t k) (λ k y. same t l k y.0 y.1 y.2) (slots_read (resolution_there i f way e))
      (reads_there (read_rank i w r) r.bound (IsReadSlot (sources_of i)) (read_there i w r (slots i) (sources_of i) (read_alike i)) way i (seeing i w r)
      throughout f calls c e h)

pub following_rows_give_values : FollowingRowsGiveValues
following_rows_give_values p n j k ls m f h rows g t l way a c e st cl =
    let i : Instance = instance_of p j in
    worth_same (rows t) (row_at i f t) (resolution_there i f way e) (on_there i f t way c)
    (agree_there i (each_is_well_typed p n j k).0 (each_has_rank p n j k) f way a rows m t l (rows_are_the_frames p n j k ls m f h rows g) c e st)
    ∙ rows_give_values p n j k m f h.run t l way a c e st cl

pub following_rows_tell_parts : FollowingRowsTellParts
following_rows_tell_parts p n j k ls m f h rows g t l way a c e st cl =
    let i : Instance = instance_of p j in
    outside_same (rows t) (row_at i f t) (resolution_there i f way e) (on_there i f t way c)
    (agree_there i (each_is_well_typed p n j k).0 (each_has_rank p n j k) f way a rows m t l (rows_are_the_frames p n j k ls m f h rows g) c e st)
