-- The frames of calls stand where their callers' layouts say.
use Rattle.std.proofs.Common.{ℕ, ◌+◌, ◌++◌, length, refl, sym, ap, ◌∙◌}
use Rattle.lus_tree.specs.Tree.{Program}
use Rattle.lus_meaning.specs.Program.{all_sites}
use Rattle.lus_meaning.specs.Scene.{Site, Instance, component_of}
use Rattle.lus_meaning.specs.Slots.{held_cells}
use Rattle.lus_limits.specs.Calls.{way_of}
use Rattle.lus_layouts.specs.Layouts.{layout_of, own_count}
use Rattle.lus_layouts.specs.declared.placing.CallSlots.{CallSlots}
use Rattle.sys_meaning.specs.Slot.{Place, in_call}
use Rattle.path_laws.proofs.OnePlace.{tree_slots, slots_are}
use Rattle.sys_places.specs.Places.{number_from, CallStandsAt, StandsAtCalls, StandsAtEachCall, own_end}
use Rattle.sys_places.proofs.Numbers.{behind_none, before_none, numbered_in_call}
use Rattle.sys_places.proofs.Parts.{each_call, at_each_place, called, held_slots, frame_slots, Part, parts_made}
use Rattle.sys_places.proofs.Whose.{made_of, cells_in_no_call}

module _ (p : Program) (i : Instance) (at : Place → ℕ) (missing base own : ℕ) where
  pub frame_stands : (s : Site) (q : CallSlots) → Part p i at missing base own s q → CallStandsAt at missing (base + own) p s q
  frame_stands s q h x =
      h.whole y
      ∙ behind_none missing base h.front (held_slots p i s ++ (frame_slots p i s ++ h.rest)) y (h.fore y refl)
      ∙ behind_none missing (base + length h.front) (held_slots p i s) (frame_slots p i s ++ h.rest) y
      (cells_in_no_call i (held_cells s (component_of (called p i s)) s.manner) s.number x)
      ∙ before_none missing begin (frame_slots p i s) h.rest y (h.aft y refl)
      ∙ numbered_in_call missing begin s.number (tree_slots s.manner (called p i s)) x
      ∙ ap (λ b. number_from missing b (tree_slots s.manner (called p i s)) x) h.frame_begin
      ∙ ap (λ qs. number_from missing ((base + own) + q.frame) qs x) (sym (slots_are s.manner (called p i s)))
    where
      y : Place
      y = in_call s.number x

      begin : ℕ
      begin = (base + length h.front) + length (held_slots p i s)

pub stands_at_calls : StandsAtCalls
stands_at_calls p c n j m at missing base l a =
    each_call (Part p (made_of p n) at missing base (own_count (way_of m) (layout_of p n))) (CallStandsAt at missing (own_end p m n base) p)
    (frame_stands p (made_of p n) at missing base (own_count (way_of m) (layout_of p n))) (all_sites n) (layout_of p n).calls
    (parts_made p c n j m at missing base a l)

pub stands_at_each_call : StandsAtEachCall
stands_at_each_call p c n j m at missing base l a =
    at_each_place (CallStandsAt at missing (own_end p m n base) p) (all_sites n) (layout_of p n).calls (stands_at_calls p c n j m at missing base l a)
