-- No number of the frames of a system is 2^32 or more.
use Rattle.std.proofs.Common.{◌≡◌, ℕ, zero, suc, ◌+◌, ◌<◌, ◌≤◌, List, [], ◌∷◌, ◌++◌, ◌^◌, length, Option, Some, refl, sym, ◌∙◌, subst, arith}
use Rattle.std.specs.Prelude.{Contains, slice_get}
use Rattle.std.specs.List.{AllByRecursion}
use Rattle.lus_tree.specs.Tree.{Name, Component, Program}
use Rattle.lus_meaning.specs.ClockFaults.{components}
use Rattle.lus_meaning.specs.Program.{all_sites, component_named, instances_with, instance_of}
use Rattle.lus_meaning.specs.Refusals.{IsChecked}
use Rattle.lus_meaning.specs.Scene.{Manner, Site, Instance, instance, component_of}
use Rattle.lus_meaning.specs.Slots.{Slot, slots_in}
use Rattle.rule_laws.specs.Laws.{IsUnfolded, AreUnfolded}
use Rattle.rule_laws.proofs.Covered.{all_contained, found_declared}
use Rattle.rule_laws.proofs.Unfolded.{each_unfolded}
use Rattle.lus_limits.specs.Calls.{way_of}
use Rattle.lus_limits.specs.Instances.{callee, instance_called_so}
use Rattle.lus_limits.specs.Summaries.{bound}
use Rattle.lus_limits.specs.Widths.{frame_width}
use Rattle.lus_limits.proofs.Widths.{any_way}
use Rattle.lus_limits.proofs.Instances.{component_called, made_of_callees}
use Rattle.lus_layouts.proofs.Placed.{layouts_hold}
use Rattle.lus_layouts.specs.Layouts.{ArePlaced, layout_of, own_count}
use Rattle.lus_layouts.specs.declared.placing.CallSlots.{CallSlots}
use Rattle.sys_tables.specs.Tabled.{Tabled, all_linked, place_of, table_of}
use Rattle.sys_frames.specs.Walked.{HasRoomWithin, IfThere, OfCall}
use Rattle.sys_frames.proofs.Checked.{Laws, table_list, table_there}

-- what is in a list stands before its end
got_below : {A : Type 0} (xs : List A) (k : ℕ) (x : A) → slice_get xs k ≡ Some x → k < length xs
got_below [] k x e = cc
got_below (y ∷ xs) zero x e = omega arith
got_below (y ∷ xs) (suc k) x e = let r : k < length xs = got_below xs k x e in omega arith

some_at : {A : Type 0} (xs : List A) (k : ℕ) → k < length xs → (x : A) × (slice_get xs k ≡ Some x)
some_at [] k l = absurd (omega arith)
some_at (x ∷ xs) zero l = (x, refl)
some_at (x ∷ xs) (suc k) l = some_at xs k (omega arith)

-- a part that is not empty ends within the whole
part_within : {A : Type 0} (all part : List A) (from : ℕ) → 1 ≤ length part → ((k : ℕ) → k < length part → slice_get all (from + k) ≡ slice_get part k)
    → from + length part ≤ length all
part_within all [] from o h = absurd (omega (arith, o))
part_within {A = A} all (x ∷ part) from o h = last (length part) (omega arith) (h (length part) (omega arith)) (some_at (x ∷ part) (length part) (omega arith))
  where
    last : (k : ℕ) → k ≡ length part → slice_get all (from + k) ≡ slice_get (x ∷ part) k → ((y : A) × (slice_get (x ∷ part) k ≡ Some y))
        → from + suc (length part) ≤ length all
    last k same e s = let r : from + k < length all = got_below all (from + k) s.0 (e ∙ s.1) in omega arith

-- each frame has its beat
some_slots : (m : Manner) (path : List ℕ) (i : Instance) → 1 ≤ length (slots_in m path i)
some_slots m path (instance n cs is) = omega arith

module _ (laws : Laws) (p : Program) (c : IsChecked p) where
  abbrev f : Name → Instance
  f = instance_called_so p

  -- the frame of a declaration that ends below the limit
  abbrev HasRoomFor : ℕ → Type 0
  HasRoomFor d = (n : Component) → Contains (components p) n → (m : Manner) (base : ℕ) → base + frame_width p m n < bound
      → HasRoomWithin d (table_list p) (table_of p n) (way_of m) base

  declared : (x : Name) → component_named p x ≡ Some (component_of (f x)) → Contains (components p) (callee p x)
  declared x e = subst (Contains (components p)) (component_called p (callee p x)) (found_declared p x (component_of (f x)) e)

  calls_room : (d : ℕ) → HasRoomFor d → (n : Component) (all : List Slot) (own base : ℕ) → base + length all < bound → (ss : List Site) (ls : List CallSlots)
      → ArePlaced all own p (instance_of p n) [] ss ls → AreUnfolded p ss (instances_with f ss) → AllByRecursion (λ t. place_of p t.callee < length (components p)) ss
      → AllByRecursion (OfCall (HasRoomWithin d (table_list p)) (table_list p) (base + own)) (all_linked p n ss ls)
  calls_room d r n all own base l [] [] a u z = tt
  calls_room d r n all own base l [] (q ∷ ls) a u z = absurd a
  calls_room d r n all own base l (t ∷ ss) [] a u z = absurd a
  calls_room d r n all own base l (t ∷ ss) (q ∷ ls) a u z = (
    subst (λ (o : Option Tabled). IfThere (HasRoomWithin d (table_list p)) o (way_of t.manner) ((base + own) + q.frame)) (sym (table_there laws.stand p t.callee z.0))
        (r (callee p t.callee) (declared t.callee u.1) t.manner ((base + own) + q.frame) (ends base own q.frame (length all) (frame_width p t.manner (callee p t.callee)) fits l)),
    calls_room d r n all own base l ss ls a.1 u.3 z.1,
  )
    where
      part : List Slot
      part = slots_in t.manner ([] ++ t.number ∷ []) (f t.callee)

      wide : length part ≡ frame_width p t.manner (callee p t.callee)
      wide = any_way p t.manner ([] ++ t.number ∷ []) (callee p t.callee)

      fits : (own + q.frame) + frame_width p t.manner (callee p t.callee) ≤ length all
      fits =
          let r : (own + q.frame) + length part ≤ length all = part_within all part (own + q.frame) (some_slots t.manner ([] ++ t.number ∷ []) (f t.callee))
          (λ k l. a.0.frame k (subst (λ w. k < w) wide l)) in
          let e : length part ≡ frame_width p t.manner (callee p t.callee) = wide in
          omega arith

      ends : (b o q a w : ℕ) → (o + q) + w ≤ a → b + a < bound → ((b + o) + q) + w < bound
      ends b o q a w h l = omega arith

  pub rooms_within : (d : ℕ) → HasRoomFor d
  rooms_within zero n j m base l = (laws.room p c n j m base (omega (arith, l)) (below base (frame_width p m n) l), tt)
    where
      below : (b w : ℕ) → b + w < bound → b < 2 ^ 31
      below b w l = omega arith
  rooms_within (suc d) n j m base l = (
    laws.room p c n j m base (omega (arith, l)) (below base (frame_width p m n) l),
    calls_room d (rooms_within d) n (slots_in m [] (instance_of p n)) (own_count (way_of m) (layout_of p n)) base l (all_sites n) (layout_of p n).calls
        (layouts_hold p c n j m [] (omega (arith, l))).calls (subst (IsUnfolded p) (made_of_callees p c n j) (each_unfolded p c n j)).1
        (all_contained (λ (t : Site). place_of p t.callee < length (components p)) (all_sites n) (laws.there p c n j)),
  )
    where
      below : (b w : ℕ) → b + w < bound → b < 2 ^ 31
      below b w l = omega arith
