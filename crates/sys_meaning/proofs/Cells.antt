-- The slots of a frame without calls: each is found at its place, and no two are at one place.
use Rattle.std.proofs.Common.{◌≡◌, ℕ, zero, suc, Bool, true, false, cond, ◌||◌, List, [], ◌∷◌, ◌++◌, map, refl, ap, ◌∙◌, sym, Option, Some, None, option_map, slice_get, unwrap_or}
use Rattle.std.specs.Prelude.{◌==◌}
use Rattle.std.specs.List.{AllByRecursion, find}
use Rattle.std.specs.Str.{bytes_eq}
use Rattle.std.proofs.Math.Logic.{◌⊎◌, inl, inr}
use Rattle.std.proofs.lemmas.Bool.{false≢true, true≢false, cases_Bool}
use Rattle.lus_tree.specs.declared.place.Sort.{Sort}
use Rattle.lus_tree.specs.Tree.{Name, Variable}
use Rattle.lus_meaning.specs.Scene.{Instance}
use Rattle.lus_meaning.specs.Occurrences.{Memory, Start}
use Rattle.lus_meaning.specs.Run.{sort_of}
use Rattle.lus_meaning.specs.Trace.{same_numbers}
use Rattle.lus_meaning.specs.Depends.{named_in}
use Rattle.lus_meaning.specs.WellMade.{AreDistinct}
use Rattle.lus_meaning.specs.Slots.{Cell, name_cell, memory_cell, start_cell, Slot, cell_sort, slot}
use Rattle.lus_meaning.proofs.Lists.{all_from, both_parts, or_true}
use Rattle.lus_meaning.proofs.Exists.{self_bytes}
use Rattle.lus_meaning.proofs.Unique.{same_bytes}
use Rattle.sys_meaning.specs.Slot.{Spot, beat, named, memory, starting, so_far, held, Place, spot_of, place_of, same_spot, same_place, number_in}
use Rattle.sys_meaning.specs.Items.{Key}
use Rattle.sys_meaning.specs.WellTyped.{slot_sort}
use Rattle.sys_meaning.proofs.Follows.{some_same, none_some}
use Rattle.sys_meaning.proofs.PathStates.{at_index}
use Rattle.sys_meaning.proofs.Found.{self_number, turned, Differ, found}

-- ---- a place is itself

same_ways_self : (ks : List ℕ) → same_numbers ks ks ≡ true
same_ways_self [] = refl
same_ways_self (k ∷ ks) = rw (self_number k) (same_ways_self ks)

same_spot_self : (p : Spot) → same_spot p p ≡ true
same_spot_self beat = refl
same_spot_self (named x) = self_bytes x
same_spot_self (memory k) = self_number k
same_spot_self (starting k) = self_number k
same_spot_self so_far = refl
same_spot_self (held k x) = rw (self_number k) (self_bytes x)

pub same_place_self : (p : Place) → same_place p p ≡ true
same_place_self p = rw (same_ways_self p.0) (same_spot_self p.1)

-- ---- no two at one place

abbrev pub Apart : List Slot → Type 0
Apart [] = Unit {0}
Apart (q ∷ qs) = AllByRecursion (λ r. same_place (place_of r) (place_of q) ≡ false) qs × Apart qs

-- then each has its own number
pub own_number : (qs : List Slot) → Apart qs → (k : ℕ) (q : Slot) → slice_get qs k ≡ Some q →
    number_in qs (place_of q) ≡ k
own_number [] a k q e = absurd (none_some q e)
own_number (r ∷ qs) a zero q e = rw (sym (some_same r q e), same_place_self (place_of r)) refl
own_number (r ∷ qs) a (suc k) q e =
    rw (at_index (λ z. same_place (place_of z) (place_of r) ≡ false) qs a.0 k q e)
    (ap suc (own_number qs a.1 k q e))

-- the same of cells
abbrev pub CellsApart : List Cell → Type 0
CellsApart [] = Unit {0}
CellsApart (c ∷ cs) = AllByRecursion (λ r. same_spot (spot_of r) (spot_of c) ≡ false) cs × CellsApart cs

pub apart_both : (cs ds : List Cell) → CellsApart cs → CellsApart ds →
    AllByRecursion (λ c. AllByRecursion (λ r. same_spot (spot_of r) (spot_of c) ≡ false) ds) cs →
    CellsApart (cs ++ ds)
apart_both [] ds a b h = b
apart_both (c ∷ cs) ds a b h =
    (both_parts (λ r. same_spot (spot_of r) (spot_of c) ≡ false) cs ds a.0 h.0, apart_both cs ds a.1 b h.1)

pub all_mapped : {A B : Type 0} (P : B → Type 0) (g : A → B) (xs : List A) → AllByRecursion (λ x. P (g x)) xs →
    AllByRecursion P (map g xs)
all_mapped P g [] a = tt
all_mapped P g (x ∷ xs) a = (a.0, all_mapped P g xs a.1)

pub everywhere : {A : Type 0} (P : A → Type 0) → ((x : A) → P x) → (xs : List A) → AllByRecursion P xs
everywhere P h [] = tt
everywhere P h (x ∷ xs) = (h x, everywhere P h xs)

pub swapped : (x y : Name) → bytes_eq x y ≡ false → bytes_eq y x ≡ false
swapped x y f = go (cases_Bool (bytes_eq y x))
  where
    go : (bytes_eq y x ≡ true) ⊎ (bytes_eq y x ≡ false) → bytes_eq y x ≡ false
    go (inl t) = absurd (true≢false (sym (self_bytes x) ∙ ap (bytes_eq x) (sym (same_bytes y x t)) ∙ f))
    go (inr e) = e

-- names are apart, memories, and flags of `->`
pub names_apart : (vs : List Variable) → AreDistinct (map (λ v. v.name.text) vs) → CellsApart (map name_cell vs)
names_apart [] a = tt
names_apart (v ∷ vs) a = (others vs a.0, names_apart vs a.1)
  where
    neither : (a b : Bool) → (a || b) ≡ false → (a ≡ false) × (b ≡ false)
    neither true b e = absurd (true≢false e)
    neither false b e = (refl, e)

    others : (ws : List Variable) → named_in v.name.text (map (λ v. v.name.text) ws) ≡ false →
        AllByRecursion (λ r. same_spot (spot_of r) (named v.name.text) ≡ false) (map name_cell ws)
    others [] e = tt
    others (w ∷ ws) e =
        let n = neither (bytes_eq v.name.text w.name.text) (named_in v.name.text (map (λ v. v.name.text) ws)) e in
        (swapped v.name.text w.name.text n.0, others ws n.1)

pub memories_apart : (ms : List Memory) → Differ (λ (m : Memory). m.number) ms → CellsApart (map memory_cell ms)
memories_apart [] a = tt
memories_apart (m ∷ ms) a = (
  all_mapped (λ r. same_spot (spot_of r) (memory m.number) ≡ false) memory_cell ms a.0,
  memories_apart ms a.1,
)

pub starts_apart : (ss : List Start) → Differ (λ (a : Start). a.number) ss → CellsApart (map start_cell ss)
starts_apart [] a = tt
starts_apart (s ∷ ss) a = (
  all_mapped (λ r. same_spot (spot_of r) (starting s.number) ≡ false) start_cell ss a.0,
  starts_apart ss a.1,
)

-- each of a list is listed
pub listed_each : (vs : List Variable) →
    AllByRecursion (λ v. named_in v.name.text (map (λ v. v.name.text) vs) ≡ true) vs
listed_each [] = tt
listed_each (v ∷ vs) = (
  rw (self_bytes v.name.text) refl,
  all_from (λ w. named_in w.name.text (map (λ v. v.name.text) vs) ≡ true)
      (λ w. named_in w.name.text (v.name.text ∷ map (λ v. v.name.text) vs) ≡ true)
      (λ w e. or_true (bytes_eq w.name.text v.name.text) _ e) vs (listed_each vs),
)

-- ---- the type at a place

module _ (Modes : Instance → Key → Type 0) (i : Instance) where
  -- of the first cell there
  abbrev pub sort_at : List Cell → Spot → Option Sort
  sort_at [] p = None
  sort_at (c ∷ cs) p = cond (same_spot p (spot_of c)) (Some (cell_sort i c)) (sort_at cs p)

  pub slots_sort : (cs : List Cell) (p : Spot) → slot_sort Modes (map (slot i []) cs) ([], p) ≡ sort_at cs p
  slots_sort [] p = refl
  slots_sort (c ∷ cs) p =
      ap (λ o. cond (same_spot p (spot_of c)) (Some (cell_sort i c)) o) (slots_sort cs p)

  pub slots_apart : (cs : List Cell) → CellsApart cs → Apart (map (slot i []) cs)
  slots_apart [] a = tt
  slots_apart (c ∷ cs) a =
      (all_mapped (λ r. same_place (place_of r) ([], spot_of c) ≡ false) (slot i []) cs a.0, slots_apart cs a.1)

  pub sort_skips : (p : Spot) (cs ds : List Cell) → AllByRecursion (λ c. same_spot p (spot_of c) ≡ false) cs →
      sort_at (cs ++ ds) p ≡ sort_at ds p
  sort_skips p [] ds a = refl
  sort_skips p (c ∷ cs) ds a = rw a.0 (sort_skips p cs ds a.1)

  pub sort_first : (p : Spot) (z : Sort) (cs ds : List Cell) → sort_at cs p ≡ Some z → sort_at (cs ++ ds) p ≡ Some z
  sort_first p z [] ds e = absurd (none_some z e)
  sort_first p z (c ∷ cs) ds e = go (same_spot p (spot_of c)) e (sort_first p z cs ds)
    where
      go : (b : Bool) → cond b (Some (cell_sort i c)) (sort_at cs p) ≡ Some z →
          (sort_at cs p ≡ Some z → sort_at (cs ++ ds) p ≡ Some z) →
          cond b (Some (cell_sort i c)) (sort_at (cs ++ ds) p) ≡ Some z
      go true e r = e
      go false e r = r e

  pub sort_of_named : (x : Name) (z : Sort) (vs : List Variable) → named_in x (map (λ v. v.name.text) vs) ≡ true →
      sort_at (map name_cell vs) (named x)
      ≡ Some (unwrap_or (option_map (λ v. v.sort) (find (λ v. bytes_eq x v.name.text) vs)) z)
  sort_of_named x z [] e = absurd (false≢true e)
  sort_of_named x z (v ∷ vs) e = go (bytes_eq x v.name.text) e (sort_of_named x z vs)
    where
      go : (b : Bool) → (b || named_in x (map (λ v. v.name.text) vs)) ≡ true →
          (named_in x (map (λ v. v.name.text) vs) ≡ true → sort_at (map name_cell vs) (named x)
          ≡ Some (unwrap_or (option_map (λ v. v.sort) (find (λ v. bytes_eq x v.name.text) vs)) z)) →
          cond b (Some v.sort) (sort_at (map name_cell vs) (named x))
          ≡ Some (unwrap_or (option_map (λ v. v.sort) (cond b (Some v) (find (λ v. bytes_eq x v.name.text) vs))) z)
      go true e r = refl
      go false e r = r e

  pub sort_of_memory : (k : ℕ) (ms : List Memory) → sort_at (map memory_cell ms) (memory k)
      ≡ option_map (λ m. sort_of i m.operand) (found (λ (m : Memory). m.number) k ms)
  sort_of_memory k [] = refl
  sort_of_memory k (m ∷ ms) =
      rw (turned k m.number) (go (m.number == k) (sort_of_memory k ms))
    where
      go : (b : Bool) → sort_at (map memory_cell ms) (memory k)
          ≡ option_map (λ m. sort_of i m.operand) (found (λ (m : Memory). m.number) k ms) →
          cond b (Some (sort_of i m.operand)) (sort_at (map memory_cell ms) (memory k))
          ≡ option_map (λ m. sort_of i m.operand) (cond b (Some m) (found (λ (m : Memory). m.number) k ms))
      go true r = refl
      go false r = r

  pub sort_of_start : (k : ℕ) (ss : List Start) → sort_at (map start_cell ss) (starting k)
      ≡ option_map (λ a. cell_sort i (start_cell a)) (found (λ (a : Start). a.number) k ss)
  sort_of_start k [] = refl
  sort_of_start k (s ∷ ss) =
      rw (turned k s.number) (go (s.number == k) (sort_of_start k ss))
    where
      go : (b : Bool) → sort_at (map start_cell ss) (starting k)
          ≡ option_map (λ a. cell_sort i (start_cell a)) (found (λ (a : Start). a.number) k ss) →
          cond b (Some (cell_sort i (start_cell s))) (sort_at (map start_cell ss) (starting k))
          ≡ option_map (λ a. cell_sort i (start_cell a)) (cond b (Some s) (found (λ (a : Start). a.number) k ss))
      go true r = refl
      go false r = r
