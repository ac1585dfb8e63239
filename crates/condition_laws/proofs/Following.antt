-- Rows that follow from the sources of a declaration have its conditions as the frame has them.
use Rattle.std.proofs.Common.{◌≡◌, ℕ, zero, suc, ◌<◌, Bool, true, false, cond, List, [], ◌∷◌, refl, ap, ◌∙◌, sym, subst, arith, Option, Some, None, slice_get}
use Rattle.std.specs.List.{AllByRecursion}
use Rattle.std.proofs.lemmas.Option.{none-some}
use Rattle.lus_tree.specs.declared.place.Sort.{Sort}
use Rattle.lus_meaning.specs.Value.{is}
use Rattle.lus_meaning.specs.Program.{instance_of}
use Rattle.lus_meaning.specs.Scene.{plain, Instance}
use Rattle.lus_meaning.specs.Slots.{Slot, slots}
use Rattle.lus_meaning.proofs.Lists.{all_from}
use Rattle.sys_meaning.specs.Slot.{Spot, Place, place_of, same_place, number_in}
use Rattle.sys_meaning.specs.System.{number_of}
use Rattle.sys_meaning.specs.WellTyped.{IsKnown, slot_sort, WellTyped}
use Rattle.sys_meaning.proofs.Shows.{same_places, in_any}
use Rattle.path_laws.proofs.Main.{each_is_well_typed}
use Rattle.slot_values.specs.Resolution.{Resolution}
use Rattle.slot_values.specs.Evaluated.{SlotValues}
use Rattle.evaluation_laws.specs.Rows.{row_at}
use Rattle.slot_sources.specs.Source.{Source}
use Rattle.slot_sources.specs.Rows.{slots_read}
use Rattle.slot_sources.specs.Sources.{sources_of}
use Rattle.row_laws.specs.OneRow.{IsReadSlot, AreSameRows}
use Rattle.row_laws.proofs.Lists.{Both}
use Rattle.row_laws.proofs.OneRow.{worth_same, outside_same}
use Rattle.row_laws.proofs.Ranking.{spot_read}
use Rattle.row_laws.proofs.SlotsRead.{IsReadAs, read_alike}
use Rattle.row_laws.proofs.Frames.{rows_are_the_frames}
use Rattle.condition_laws.specs.Conditions.{legal_resolutions, property_resolutions}
use Rattle.condition_laws.specs.Breaks.{is_true, all_true, IsLawfulRow, BreaksRow, IsRowBreakOf, AreLawfulRows}
use Rattle.condition_laws.specs.Following.{ReadSlots, ConditionsReadSlots, AreAlike, FollowingRowsTellConditions, FollowingRowsBreak, FollowingRowsAreLawful}
use Rattle.condition_laws.proofs.Read.{Placed, legal_read, properties_read}
use Rattle.condition_laws.proofs.Runs.{breaks_by_rows, lawful_by_rows}

-- the slot of a place is there, and it is read
found_there : (qs : List Slot) (es : List Source) → Both IsReadAs qs es → (ks : List ℕ) (p : Spot) (z : Sort) → spot_read p ≡ true →
    slot_sort IsKnown qs (ks, p) ≡ Some z → IsReadSlot es (number_in qs (ks, p))
found_there [] es a ks p z y e = absurd (none-some z e)
found_there (q ∷ qs) [] a ks p z y e = absurd a
found_there (q ∷ qs) (x ∷ es) a ks p z y e = go (same_place (ks, p) (place_of q)) refl e (found_there qs es a.1 ks p z y)
  where
    go : (c : Bool) → same_place (ks, p) (place_of q) ≡ c → cond c (Some q.sort) (slot_sort IsKnown qs (ks, p)) ≡ Some z →
        (slot_sort IsKnown qs (ks, p) ≡ Some z → IsReadSlot es (number_in qs (ks, p))) →
        IsReadSlot (x ∷ es) (cond c zero (suc (number_in qs (ks, p))))
    go true d e r =
        (x, refl, a.0 ∙ ap (λ (l : Place). spot_read l.1) (sym (same_places (ks, p) (place_of q) d)) ∙ y)
    go false d e r = r e

abbrev placed : (i : Instance) → WellTyped IsKnown i → Placed (IsReadSlot (sources_of i)) i
placed i w = record {
  at = number_of i;
  fits = w.tree;
  read = λ ks p z q o. found_there (slots i) (sources_of i) (read_alike i) ks p z q (w.places ks p z (in_any IsKnown plain ks i p z o));
}

pub conditions_read_slots : ConditionsReadSlots
conditions_read_slots p c n j =
    let i : Instance = instance_of p n in
    let w : WellTyped IsKnown i = (each_is_well_typed p c n j).0 in
    (legal_read (IsReadSlot (sources_of i)) i (placed i w), properties_read (IsReadSlot (sources_of i)) i (placed i w))

-- ---- rows that agree in the slots that are read

module _ (i : Instance) (m : ℕ) (rows others : ℕ → SlotValues) (same : AreSameRows (sources_of i) m rows others) where
  all_alike : (t : ℕ) → t < m → (es : List Resolution) → ReadSlots (sources_of i) es → AllByRecursion (AreAlike (rows t) (others t)) es
  all_alike t l es a =
      all_from (λ e. AllByRecursion (IsReadSlot (sources_of i)) (slots_read e)) (AreAlike (rows t) (others t))
      (λ e a.
      let agree : AllByRecursion (λ k. rows t k ≡ others t k) (slots_read e) =
      all_from (IsReadSlot (sources_of i)) (λ k. rows t k ≡ others t k) (λ k y. same t l k y.0 y.1 y.2) (slots_read e) a in
      (worth_same (rows t) (others t) e true agree, outside_same (rows t) (others t) e true agree)) es a

  true_alike : (t : ℕ) (es : List Resolution) → AllByRecursion (AreAlike (rows t) (others t)) es → all_true (rows t) es ≡ all_true (others t) es
  true_alike t [] a = refl
  true_alike t (e ∷ es) a = rw (a.0.0, true_alike t es a.1) refl

  alike_at : (t : ℕ) (es : List Resolution) → AllByRecursion (AreAlike (rows t) (others t)) es → (k : ℕ) (e : Resolution) → slice_get es k ≡ Some e →
      is_true (rows t) e ≡ is_true (others t) e
  alike_at t [] a zero e h = absurd (none-some e h)
  alike_at t [] a (suc k) e h = absurd (none-some e h)
  alike_at t (x ∷ es) a zero e h = subst (λ o. is_true_in (rows t) o ≡ is_true_in (others t) o) h (ap (λ v. is true v) a.0.0)
    where
      is_true_in : SlotValues → Option Resolution → Bool
      is_true_in s None = true
      is_true_in s (Some e) = is_true s e
  alike_at t (x ∷ es) a (suc k) e h = alike_at t es a.1 k e h

  module _ (read : ReadSlots (sources_of i) (legal_resolutions i)) where
    lawful_there : (t : ℕ) → t < m → IsLawfulRow rows (legal_resolutions i) t → IsLawfulRow others (legal_resolutions i) t
    lawful_there t l h u y =
        let before : u < m = omega (arith, l, y) in
        sym (true_alike u (legal_resolutions i) (all_alike u before (legal_resolutions i) read)) ∙ h u y

    lawful_back : (t : ℕ) → t < m → IsLawfulRow others (legal_resolutions i) t → IsLawfulRow rows (legal_resolutions i) t
    lawful_back t l h u y =
        let before : u < m = omega (arith, l, y) in
        true_alike u (legal_resolutions i) (all_alike u before (legal_resolutions i) read) ∙ h u y

    lawful_rows : (a : ℕ) → AreLawfulRows rows (legal_resolutions i) m a → AreLawfulRows others (legal_resolutions i) m a
    lawful_rows a h = record {
      most = h.most;
      lawful = λ t l. lawful_there t (let s : t < m = omega (arith, l, h.most) in s) (h.lawful t l);
      lawless = λ t l y z. h.lawless t l y (lawful_back t y z);
    }

    module _ (props : ReadSlots (sources_of i) (property_resolutions i)) (k : ℕ) (e : Resolution) (d : slice_get (property_resolutions i) k ≡ Some e) where
      truth_same : (t : ℕ) → t < m → is_true (rows t) e ≡ is_true (others t) e
      truth_same t l = alike_at t (property_resolutions i) (all_alike t l (property_resolutions i) props) k e d

      broken_there : (t : ℕ) → t < m → BreaksRow rows (legal_resolutions i) e t → BreaksRow others (legal_resolutions i) e t
      broken_there t l h = record {
        lawful = lawful_there t l h.lawful;
        first = λ u y. sym (truth_same u (let s : u < m = omega (arith, l, y) in s)) ∙ h.first u y;
        fails = sym (truth_same t l) ∙ h.fails;
      }

      broken_back : (t : ℕ) → t < m → BreaksRow others (legal_resolutions i) e t → BreaksRow rows (legal_resolutions i) e t
      broken_back t l h = record {
        lawful = lawful_back t l h.lawful;
        first = λ u y. truth_same u (let s : u < m = omega (arith, l, y) in s) ∙ h.first u y;
        fails = truth_same t l ∙ h.fails;
      }

    break_there : (props : ReadSlots (sources_of i) (property_resolutions i)) (k : ℕ) (e : Option Resolution) → slice_get (property_resolutions i) k ≡ e →
        (hit : Option ℕ) → IsRowBreakOf rows (legal_resolutions i) m e hit → IsRowBreakOf others (legal_resolutions i) m e hit
    break_there props k None d hit h = h
    break_there props k (Some e) d None h = λ t l b. h t l (broken_back props k e d t l b)
    break_there props k (Some e) d (Some t) h = (h.0, broken_there props k e d t h.0 h.1)

-- ---- of checked programs

pub following_rows_tell_conditions : FollowingRowsTellConditions
following_rows_tell_conditions p c n j ls m f h rows g t l =
    let i : Instance = instance_of p n in
    let read = conditions_read_slots p c n j in
    let same : AreSameRows (sources_of i) m rows (λ t. row_at i f t) = rows_are_the_frames p c n j ls m f h rows g in (
      all_alike i m rows (λ t. row_at i f t) same t l (legal_resolutions i) read.0,
      all_alike i m rows (λ t. row_at i f t) same t l (property_resolutions i) read.1,
    )

pub following_rows_break : FollowingRowsBreak
following_rows_break p c n j ls m f h rows g hits b =
    let i : Instance = instance_of p n in
    let read = conditions_read_slots p c n j in
    let same : AreSameRows (sources_of i) m rows (λ t. row_at i f t) = rows_are_the_frames p c n j ls m f h rows g in
    breaks_by_rows p c n j m f h.run hits
    (λ k. break_there i m rows (λ t. row_at i f t) same read.0 read.1 k (slice_get (property_resolutions i) k) refl (hits k) (b k))

pub following_rows_are_lawful : FollowingRowsAreLawful
following_rows_are_lawful p c n j ls m f h rows g a b =
    let i : Instance = instance_of p n in
    let read = conditions_read_slots p c n j in
    let same : AreSameRows (sources_of i) m rows (λ t. row_at i f t) = rows_are_the_frames p c n j ls m f h rows g in
    lawful_by_rows p c n j m f h.run a (lawful_rows i m rows (λ t. row_at i f t) same read.0 a b)
