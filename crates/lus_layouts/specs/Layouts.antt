-- Where the slots of a frame stand: its own ones, then for each call those that are held of it and those of its frame.
use Rattle.std.specs.Prelude.{◌≡◌, ℕ, ◌+◌, ◌<◌, ◌≤◌, List, [], ◌∷◌, ◌++◌, map, length, slice_get}
use Rattle.lus_tree.specs.Tree.{Component, Program}
use Rattle.lus_meaning.specs.Program.{all_sites, instance_of}
use Rattle.lus_meaning.specs.RuleLaws.{OfEach}
use Rattle.lus_meaning.specs.Scene.{Manner, Instance, Site}
use Rattle.lus_meaning.specs.Slots.{Slot, slot, own_cells, held_cells, slots_in}
use Rattle.lus_limits.specs.Calls.{way_of}
use Rattle.lus_limits.specs.Framed.{Framed, frame_of}
use Rattle.lus_limits.specs.Instances.{callee, instance_called_so}
use Rattle.lus_limits.specs.Summaries.{bound, cut, sofar_count}
use Rattle.lus_limits.specs.Widths.{frame_width}
use Rattle.lus_limits.specs.declared.calls.Way.{Way}
use Rattle.lus_limits.specs.declared.calls.Way.TheVariants.{Plain, Condition, Import}
use Rattle.lus_limits.specs.declared.summing.Link.{Link}
use Rattle.lus_layouts.specs.declared.placing.Layout.{Layout}
use Rattle.lus_layouts.specs.declared.placing.CallSlots.{CallSlots}

-- ---- by the links of calls, each number cut

-- the variables of the callee's frame
abbrev pub callee_width : Link → ℕ
callee_width l = l.callee.frame + sofar_count l.way l.callee.contract

-- how many are held of the first call, and where its frame begins, behind so many; then the next call
abbrev pub calls_from : ℕ → List Link → List CallSlots
calls_from k [] = []
calls_from k (l ∷ ls) =
    record { held = l.held; frame = cut (k + l.held) } ∷ calls_from (cut (k + (l.held + callee_width l))) ls

-- how many cells a frame has of its own, and how many where it runs as an import, and where calls stand
pub record LaidOut : Type 0 where
  pub own : ℕ
  pub imported : ℕ
  pub calls : List CallSlots

abbrev pub layout_view : Layout → LaidOut
layout_view l = record { own = l.own; imported = l.imported; calls = l.calls.items }

abbrev pub laid_out : Framed → LaidOut
laid_out f = record { own = cut (f.own + sofar_count Plain f.contract); imported = f.own; calls = calls_from 0 f.links }

abbrev pub layout_of : Program → Component → LaidOut
layout_of p n = laid_out (frame_of p n)

-- how many cells a frame has of its own where it runs so
abbrev pub own_count : Way → LaidOut → ℕ
own_count Import l = l.imported
own_count Plain l = l.own
own_count Condition l = l.own

-- ---- what they say

-- In a list of slots, behind so many, the cells that are held of a call stand right before its frame, and the slots of
-- this are those of the callee.
pub record IsPlaced (all : List Slot) (own : ℕ) (p : Program) (i : Instance) (path : List ℕ) (s : Site) (q : CallSlots) : Type 0 where
  pub many : q.held ≡ length (held_cells s (callee p s.callee) s.manner)
  pub room : q.held ≤ q.frame
  pub held : (j k : ℕ) → j + q.held ≡ q.frame → k < q.held
      → slice_get all ((own + j) + k) ≡ slice_get (map (slot i path) (held_cells s (callee p s.callee) s.manner)) k
  pub frame : (k : ℕ) → k < frame_width p s.manner (callee p s.callee)
      → slice_get all ((own + q.frame) + k) ≡ slice_get (slots_in s.manner (path ++ s.number ∷ []) (instance_called_so p s.callee)) k

abbrev pub ArePlaced : List Slot → ℕ → Program → Instance → List ℕ → List Site → List CallSlots → Type 0
ArePlaced all own p i path [] [] = Unit {0}
ArePlaced all own p i path [] (q ∷ qs) = ⊥
ArePlaced all own p i path (s ∷ ss) [] = ⊥
ArePlaced all own p i path (s ∷ ss) (q ∷ qs) = IsPlaced all own p i path s q × ArePlaced all own p i path ss qs

-- the slots of a frame that runs in that manner, its own ones first
pub record IsLaidOut (p : Program) (m : Manner) (path : List ℕ) (n : Component) (l : LaidOut) : Type 0 where
  pub many : own_count (way_of m) l ≡ length (own_cells m n)
  pub own : (k : ℕ) → k < own_count (way_of m) l
      → slice_get (slots_in m path (instance_of p n)) k ≡ slice_get (map (slot (instance_of p n) path) (own_cells m n)) k
  pub calls : ArePlaced (slots_in m path (instance_of p n)) (own_count (way_of m) l) p (instance_of p n) path (all_sites n) l.calls

-- in a checked program so are the frames of a declaration that have no more variables than the limit
abbrev pub LayoutsHold : Type 0
LayoutsHold = OfEach (λ p n. (m : Manner) (path : List ℕ) → frame_width p m n < bound → IsLaidOut p m path n (layout_of p n))
