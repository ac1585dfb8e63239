-- The slots of a frame, call by call.
use Rattle.std.proofs.Common.{◌≡◌, ℕ, zero, suc, ◌+◌, ◌<◌, ◌≤◌, List, [], ◌∷◌, ◌++◌, map, length, length-append, append_assoc, Some, sym, ap, ◌∙◌, subst, arith}
use Rattle.std.specs.Prelude.{false, is_none, not}
use Rattle.std.specs.List.{AllByRecursion}
use Rattle.std.proofs.lemmas.Option.{none-some}
use Rattle.lus_tree.specs.Tree.{Name, Component, Program}
use Rattle.lus_meaning.specs.ClockFaults.{components}
use Rattle.lus_meaning.specs.Refusals.{IsChecked}
use Rattle.std.specs.Prelude.{Contains}
use Rattle.lus_meaning.specs.Program.{all_sites, instances_with, instance_of}
use Rattle.lus_meaning.specs.RuleLaws.{sites_width}
use Rattle.lus_meaning.specs.Scene.{Manner, as_import, Site, Instance, component_of}
use Rattle.lus_meaning.specs.Slots.{Slot, slot, own_cells, held_cells, slots_in}
use Rattle.lus_meaning.proofs.Exists.{length_mapped}
use Rattle.lus_meaning.proofs.Lists.{both_parts}
use Rattle.rule_laws.proofs.Truths.{same_some}
use Rattle.lus_limits.specs.Calls.{way_of}
use Rattle.lus_limits.specs.Instances.{callee, instance_called_so}
use Rattle.lus_limits.specs.Summaries.{bound, link_of, sofar_count}
use Rattle.lus_limits.specs.Widths.{frame_width}
use Rattle.lus_limits.proofs.Instances.{component_called, made_of_callees}
use Rattle.lus_limits.proofs.Sums.{frame_so}
use Rattle.lus_limits.proofs.Widths.{width_by_text}
use Rattle.lus_layouts.specs.Layouts.{calls_from, layout_of, own_count}
use Rattle.lus_layouts.specs.declared.placing.CallSlots.{CallSlots}
use Rattle.lus_layouts.proofs.Placed.{layouts_hold}
use Rattle.sys_meaning.specs.Slot.{Place, place_of, same_place}
use Rattle.sys_meaning.specs.WellTyped.{IsKnown, TreeFits, CallsFit}
use Rattle.path_laws.proofs.Main.{each_is_well_typed}
use Rattle.path_laws.proofs.Numbers.{CountedFrom}
use Rattle.path_laws.proofs.OnePlace.{behind, tree_slots, tree_calls, slots_are}
use Rattle.sys_places.specs.Places.{number_from, StandsAt, OfEachCall, AtEachPlace}
use Rattle.sys_places.proofs.Cuts.{has_room, held_begins, frame_begins, next_begins}
use Rattle.sys_places.proofs.Numbers.{NoneAt, call_of, none_of_others}
use Rattle.sys_places.proofs.Whose.{made_of, held_of, none_of_own, frame_of_call}

-- ---- each call, and where it stands

pub each_call : (P Q : Site → CallSlots → Type 0) → ((s : Site) (q : CallSlots) → P s q → Q s q) → (ss : List Site) (qs : List CallSlots)
    → OfEachCall P ss qs → OfEachCall Q ss qs
each_call P Q f [] [] h = tt
each_call P Q f [] (q ∷ qs) h = absurd h
each_call P Q f (s ∷ ss) [] h = absurd h
each_call P Q f (s ∷ ss) (q ∷ qs) h = (f s q h.0, each_call P Q f ss qs h.1)

-- with what is so of the call
pub each_call_so : (R : Site → Type 0) (P Q : Site → CallSlots → Type 0) → ((s : Site) (q : CallSlots) → R s → P s q → Q s q)
    → (ss : List Site) (qs : List CallSlots) → AllByRecursion R ss → OfEachCall P ss qs → OfEachCall Q ss qs
each_call_so R P Q f [] [] a h = tt
each_call_so R P Q f [] (q ∷ qs) a h = absurd h
each_call_so R P Q f (s ∷ ss) [] a h = absurd h
each_call_so R P Q f (s ∷ ss) (q ∷ qs) a h = (f s q a.0 h.0, each_call_so R P Q f ss qs a.1 h.1)

pub at_each_place : (P : Site → CallSlots → Type 0) (ss : List Site) (qs : List CallSlots) → OfEachCall P ss qs → AtEachPlace P ss qs
at_each_place P [] qs h j s q e f = absurd (none-some s e)
at_each_place P (t ∷ ss) [] h j s q e f = absurd h
at_each_place P (t ∷ ss) (r ∷ qs) h zero s q e f =
    subst (λ (z : Site). P z q) (same_some e) (subst (λ (z : CallSlots). P t z) (same_some f) h.0)
at_each_place P (t ∷ ss) (r ∷ qs) h (suc j) s q e f = at_each_place P ss qs h.1 j s q e f

-- ---- calls by number

abbrev pub call_number : Site → ℕ
call_number s = s.number

counted_calls : (i : Instance) (f : Name → Instance) (ss : List Site) (q : ℕ) → CallsFit IsKnown i (instances_with f ss) q
    → CountedFrom call_number (suc q) ss
counted_calls i f [] q t = tt
counted_calls i f (s ∷ ss) q t = (t.0.number, counted_calls i f ss (suc q) t.2)

each_fits : (i : Instance) (f : Name → Instance) (ss : List Site) (q : ℕ) → CallsFit IsKnown i (instances_with f ss) q
    → AllByRecursion (λ s. TreeFits IsKnown (f s.callee)) ss
each_fits i f [] q t = tt
each_fits i f (s ∷ ss) q t = (t.1, each_fits i f ss (suc q) t.2)

-- of none of so many calls that are numbered on from m
abbrev pub Outside : Place → ℕ → ℕ → Type 0
Outside y m many = (k : ℕ) → call_of y ≡ Some k → m ≤ k → m + many ≤ k

-- ---- calls

module _ (p : Program) (i : Instance) where
  abbrev pub called : Site → Instance
  called s = instance_called_so p s.callee

  abbrev pub held_slots : Site → List Slot
  held_slots s = map (slot i []) (held_cells s (component_of (called s)) s.manner)

  abbrev pub frame_slots : Site → List Slot
  frame_slots s = map (behind s.number) (tree_slots s.manner (called s))

  abbrev pub slots_behind : List Site → List Slot
  slots_behind ss = tree_calls i (instances_with (instance_called_so p) ss)

  abbrev held_many : Site → ℕ
  held_many s = length (held_cells s (callee p s.callee) s.manner)

  abbrev width_of : Site → ℕ
  width_of s = frame_width p s.manner (callee p s.callee)

  many_held : (s : Site) → length (held_slots s) ≡ held_many s
  many_held s =
      length_mapped (slot i []) (held_cells s (component_of (called s)) s.manner)
      ∙ ap (λ n. length (held_cells s n s.manner)) (component_called p (callee p s.callee))

  many_in_frame : (s : Site) → length (frame_slots s) ≡ width_of s
  many_in_frame s =
      length_mapped (behind s.number) (tree_slots s.manner (called s)) ∙ ap length (sym (slots_are s.manner (called s)))

  -- none at what is of none of these calls
  pub none_of_calls : (ss : List Site) (m : ℕ) (y : Place) → CountedFrom call_number m ss → Outside y m (length ss) → NoneAt y (slots_behind ss)
  none_of_calls [] m y c o = tt
  none_of_calls (s ∷ ss) m y c o =
      both_parts (λ q. same_place y (place_of q) ≡ false) (held_slots s) (frame_slots s ++ slots_behind ss)
      (none_of_others (Some s.number) y (held_slots s) (not_here c.0) (held_of i s (component_of (called s)) s.manner))
      (both_parts (λ q. same_place y (place_of q) ≡ false) (frame_slots s) (slots_behind ss)
      (none_of_others (Some s.number) y (frame_slots s) (not_here c.0) (frame_of_call s.number (tree_slots s.manner (called s))))
      (none_of_calls ss (suc m) y c.1 later))
    where
      not_here : s.number ≡ m → call_of y ≡ Some s.number → ⊥
      not_here f e = let h : m + suc (length ss) ≤ s.number = o s.number e (omega (arith, f)) in omega (arith, h, f)

      later : (k : ℕ) → call_of y ≡ Some k → suc m ≤ k → suc m + length ss ≤ k
      later k e l = let h : m + suc (length ss) ≤ k = o k e (omega (arith, l)) in omega (arith, h)

  module _ (at : Place → ℕ) (missing base own : ℕ) where
    -- what stands before a call and behind it, and the numbers where those begin that are held of it, and its frame
    pub record Part (s : Site) (q : CallSlots) : Type 0 where
      pub front : List Slot
      pub rest : List Slot
      pub whole : (y : Place) → at y ≡ number_from missing base (front ++ (held_slots s ++ (frame_slots s ++ rest))) y
      pub fore : (y : Place) → call_of y ≡ Some s.number → NoneAt y front
      pub aft : (y : Place) → call_of y ≡ Some s.number → NoneAt y rest
      pub room : q.held ≤ q.frame
      pub held_begin : (j : ℕ) → j + q.held ≡ q.frame → base + length front ≡ (base + own) + j
      pub frame_begin : (base + length front) + length (held_slots s) ≡ (base + own) + q.frame

    pub parts : (front : List Slot) (before m : ℕ) (ss : List Site) → length front ≡ own + before
        → before + sites_width (frame_width p) p ss < bound → CountedFrom call_number m ss
        → ((k : ℕ) (y : Place) → m ≤ k → call_of y ≡ Some k → NoneAt y front)
        → ((y : Place) → at y ≡ number_from missing base (front ++ slots_behind ss) y)
        → OfEachCall Part ss (calls_from before (map (link_of p) ss))
    parts front before m [] e l c none a = tt
    parts front before m (s ∷ ss) e l c none a =
        let f : before + (held_many s + width_of s) < bound = omega (arith, l) in
        let w : width_of s ≡ frame_width p (as_import []) (callee p s.callee) + sofar_count (way_of s.manner) (not (is_none (callee p s.callee).contract)) =
        frame_so p s.manner (callee p s.callee) in (
          record {
            front = front;
            rest = slots_behind ss;
            whole = a;
            fore = λ y h. none s.number y (numbered c.0) h;
            aft = λ y h. none_of_calls ss (suc m) y c.1 (λ k g r. absurd (only c.0 y h k g r));
            room = has_room before (held_many s);
            held_begin = λ j h. held_begins base own before (held_many s) (width_of s) j (length front) f e h;
            frame_begin = frame_begins base own before (held_many s) (width_of s) (length front) (length (held_slots s)) f e (many_held s);
          },
          subst (λ k. OfEachCall Part ss (calls_from k (map (link_of p) ss)))
              (sym (next_begins before (held_many s) (frame_width p (as_import []) (callee p s.callee))
              (sofar_count (way_of s.manner) (not (is_none (callee p s.callee).contract))) (width_of s) f w))
              (parts ((front ++ held_slots s) ++ frame_slots s) (before + (held_many s + width_of s)) (suc m) ss longer (omega (arith, l)) c.1
              (others c.0) moved),
        )
      where
        numbered : s.number ≡ m → m ≤ s.number
        numbered h = omega (arith, h)

        only : s.number ≡ m → (y : Place) → call_of y ≡ Some s.number → (k : ℕ) → call_of y ≡ Some k → suc m ≤ k → ⊥
        only h y g k f r = let d : s.number ≡ k = same_some (sym g ∙ f) in omega (arith, h, d, r)

        longer : length ((front ++ held_slots s) ++ frame_slots s) ≡ own + (before + (held_many s + width_of s))
        longer =
            let a : length ((front ++ held_slots s) ++ frame_slots s) ≡ length (front ++ held_slots s) + length (frame_slots s) =
            length-append (front ++ held_slots s) (frame_slots s) in
            let b : length (front ++ held_slots s) ≡ length front + length (held_slots s) = length-append front (held_slots s) in
            let h : length (held_slots s) ≡ held_many s = many_held s in
            let d : length (frame_slots s) ≡ width_of s = many_in_frame s in
            omega (arith, a, b, h, d, e)

        others : s.number ≡ m → (k : ℕ) (y : Place) → suc m ≤ k → call_of y ≡ Some k → NoneAt y ((front ++ held_slots s) ++ frame_slots s)
        others h k y r g =
            let d : call_of y ≡ Some s.number → ⊥ = λ f. only h y f k g r in
            both_parts (λ q. same_place y (place_of q) ≡ false) (front ++ held_slots s) (frame_slots s)
            (both_parts (λ q. same_place y (place_of q) ≡ false) front (held_slots s) (none k y (omega (arith, r)) g)
            (none_of_others (Some s.number) y (held_slots s) d (held_of i s (component_of (called s)) s.manner)))
            (none_of_others (Some s.number) y (frame_slots s) d (frame_of_call s.number (tree_slots s.manner (called s))))

        moved : (y : Place) → at y ≡ number_from missing base (((front ++ held_slots s) ++ frame_slots s) ++ slots_behind ss) y
        moved y =
            a y
            ∙ ap (λ qs. number_from missing base qs y) (sym (append_assoc (front ++ held_slots s) (frame_slots s) (slots_behind ss)
            ∙ append_assoc front (held_slots s) (frame_slots s ++ slots_behind ss)))

-- ---- frames

module _ (p : Program) (c : IsChecked p) (n : Component) (j : Contains (components p) n) where
  pub numbered_calls : CountedFrom call_number 1 (all_sites n)
  numbered_calls =
      let t : TreeFits IsKnown (made_of p n) = subst (TreeFits IsKnown) (made_of_callees p c n j) (each_is_well_typed p c n j).0.tree in
      counted_calls (made_of p n) (instance_called_so p) (all_sites n) 0 t.1

  -- all that is called fits
  pub callees_fit : AllByRecursion (λ s. TreeFits IsKnown (instance_called_so p s.callee)) (all_sites n)
  callees_fit =
      let t : TreeFits IsKnown (made_of p n) = subst (TreeFits IsKnown) (made_of_callees p c n j) (each_is_well_typed p c n j).0.tree in
      each_fits (made_of p n) (instance_called_so p) (all_sites n) 0 t.1

  module _ (m : Manner) (at : Place → ℕ) (missing base : ℕ) (a : StandsAt at missing base m (instance_of p n)) where
    pub stands_made : (y : Place) → at y ≡ number_from missing base (map (slot (made_of p n) []) (own_cells m n) ++ slots_behind p (made_of p n) (all_sites n)) y
    stands_made y =
        a y ∙ ap (λ k. number_from missing base (slots_in m [] k) y) (made_of_callees p c n j)
        ∙ ap (λ qs. number_from missing base qs y) (slots_are m (made_of p n))

    pub parts_made : frame_width p m n < bound
        → OfEachCall (Part p (made_of p n) at missing base (own_count (way_of m) (layout_of p n))) (all_sites n) (layout_of p n).calls
    parts_made l =
        let w : frame_width p m n ≡ length (own_cells m n) + sites_width (frame_width p) p (all_sites n) = width_by_text p c n j m in
        let many : own_count (way_of m) (layout_of p n) ≡ length (own_cells m n) = (layouts_hold p c n j m [] l).many in
        let long : length (map (slot (made_of p n) []) (own_cells m n)) ≡ length (own_cells m n) = length_mapped (slot (made_of p n) []) (own_cells m n) in
        parts p (made_of p n) at missing base (own_count (way_of m) (layout_of p n)) (map (slot (made_of p n) []) (own_cells m n)) 0 1 (all_sites n)
        (omega (arith, many, long)) (omega (arith, w, l)) numbered_calls (λ k y h e. none_of_own (made_of p n) m n k y e) stands_made
