-- The lines of a walk are those of the trace's definition.
use Rattle.std.proofs.Common.{◌≡◌, ℕ, zero, suc, ◌+◌, min, Bool, true, false, cond, not, List, [], ◌∷◌, ◌++◌, map, length, length-append, append_assoc, refl, sym, ap, ◌∙◌, arith, Option, Some, None, get_or}
use Rattle.std.specs.Prelude.{Contains, is_none, unwrap_or}
use Rattle.std.specs.List.{AllByRecursion}
use Rattle.std.specs.Str.{bytes_eq}
use Rattle.lus_tree.specs.Numbers.{arrow_number, pre_number, all_numbers}
use Rattle.lus_tree.specs.Tree.{Name, Variable, Expression, ContractStatement, Component, declared_constant, declared_node, declared_contract, Program}
use Rattle.lus_meaning.specs.ClockFaults.{components}
use Rattle.lus_meaning.specs.Frame.{Frame, calls_in, firsts_of, entry}
use Rattle.lus_meaning.specs.Occurrences.{Memory, Start, memories, starts}
use Rattle.lus_meaning.specs.Program.{all_sites, component_named, constants_in, first_of_two, in_order, instances_with, instance_of, instance_within}
use Rattle.lus_meaning.specs.Recompute.{sample}
use Rattle.lus_meaning.specs.Refusals.{IsChecked}
use Rattle.lus_meaning.specs.Run.{first_sorts}
use Rattle.lus_meaning.specs.Scene.{Manner, plain, while_true, as_import, Site, Instance, Instances, instance, no_component, no_instances, component_of, variables}
use Rattle.lus_meaning.specs.Slots.{Cell, beat_cell, name_cell, memory_cell, start_cell, contract_cells, own_cells, held_each, held_cells, Slot, slot, slots_in, call_slots, slots}
use Rattle.lus_meaning.specs.Value.{Value}
use Rattle.lus_meaning.specs.Trace.{BareLine, of_name, free_names, free_in}
use Rattle.lus_meaning.proofs.Exists.{length_mapped}
use Rattle.lus_meaning.proofs.InOrder.{in_order_length}
use Rattle.lus_meaning.proofs.Lists.{append_none, map_append}
use Rattle.lus_meaning.proofs.Numbering.{memory_numbers, start_numbers}
use Rattle.rule_laws.proofs.Covered.{found_declared}
use Rattle.rule_laws.proofs.Places.{numbered, memories_counted, starts_counted}
use Rattle.rule_laws.proofs.Unfolded.{component_within}
use Rattle.sys_terms.specs.declared.term.Entry.{Entry}
use Rattle.sys_terms.specs.Fits.{state_fits}
use Rattle.sys_terms.specs.Paths.{IsPath}
use Rattle.sys_meaning.specs.Slot.{Place, named, own}
use Rattle.sys_meaning.specs.Path.{course_of, frame_by, frames_by, frame_of_path, firsts_by, name_lines, first_lines, lines_from, lines_below, trace_of}
use Rattle.sys_meaning.specs.System.{below_call, number_of, shape_of, system_of}
use Rattle.sys_meaning.specs.WellTyped.{IsKnown, StreamFits, TreeFits, CallsFit, WellTyped, is_declared}
use Rattle.sys_meaning.proofs.Backward.{tree_own}
use Rattle.sys_meaning.proofs.PathStates.{some_length}
use Rattle.path_laws.proofs.Lines.{all_of_within, names_within, top_within}
use Rattle.path_laws.proofs.Main.{each_is_well_typed}
use Rattle.path_laws.proofs.Numbers.{CountedFrom, in_order_counted}
use Rattle.lus_limits.specs.Calls.{called_of, way_of}
use Rattle.lus_limits.specs.Instances.{callee}
use Rattle.lus_limits.specs.Summaries.{sofar_count}
use Rattle.path_traces.specs.Numbered.{name_line, name_number, place_in}
use Rattle.path_traces.specs.Numbered as n
use Rattle.path_traces.specs.Plans.{Plan, plan_of, plan_named, own_width, held_by, held_count, free_by}
use Rattle.path_traces.specs.Walked.{Walk, own_lines, call_width, calls_width, call_line, calls_lines, walk}
use Rattle.path_traces.proofs.Own.{longer, named_at, firsts_stand, names_so, own_at}

-- ---- plans by name

pub planned : (p : Program) (x : Name) → plan_named (map plan_of (components p)) x ≡ plan_of (callee p x)
planned [] x = refl
planned (declared_constant c ∷ ds) x = planned ds x
planned (declared_node d ∷ ds) x = go (bytes_eq x d.name.text) (planned ds x)
  where
    go : (b : Bool) → plan_named (map plan_of (components ds)) x ≡ plan_of (callee ds x)
        → cond b (plan_of d) (plan_named (map plan_of (components ds)) x)
        ≡ plan_of (unwrap_or (first_of_two (cond b (Some d) None) (component_named ds x)) no_component)
    go true r = refl
    go false r = r
planned (declared_contract d ∷ ds) x = go (bytes_eq x d.name.text) (planned ds x)
  where
    go : (b : Bool) → plan_named (map plan_of (components ds)) x ≡ plan_of (callee ds x)
        → cond b (plan_of d) (plan_named (map plan_of (components ds)) x)
        ≡ plan_of (unwrap_or (first_of_two (cond b (Some d) None) (component_named ds x)) no_component)
    go true r = refl
    go false r = r

-- ---- what has the numbers from 1 on

pub record IsCounted (d : Component) : Type 0 where
  pub kept : length (in_order (λ (m : Memory). m.number) (memories d)) ≡ length (all_numbers pre_number d)
  pub started : length (in_order (λ (a : Start). a.number) (starts d)) ≡ length (all_numbers arrow_number d)
  pub counted : CountedFrom (λ (m : Memory). m.number) 1 (in_order (λ (m : Memory). m.number) (memories d))

pub counted_at : (p : Program) → IsChecked p → (d : Component) → Contains (components p) d → IsCounted d
counted_at p c d i = record {
  kept = in_order_length (λ (m : Memory). m.number) (memories d) (memories_counted d (numbered p c.grammatical d i))
      ∙ sym (length_mapped (λ (m : Memory). m.number) (memories d)) ∙ ap length (memory_numbers d);
  started = in_order_length (λ (a : Start). a.number) (starts d) (starts_counted d (numbered p c.grammatical d i))
      ∙ sym (length_mapped (λ (a : Start). a.number) (starts d)) ∙ ap length (start_numbers d);
  counted = in_order_counted (λ (m : Memory). m.number) (memories d) (memories_counted d (numbered p c.grammatical d i));
}

pub counted_so : (p : Program) → IsChecked p → (x : Name) → IsCounted (callee p x)
counted_so p c x = go (component_named p x) (λ d e. counted_at p c d (found_declared p x d e))
  where
    go : (o : Option Component) → ((d : Component) → o ≡ Some d → IsCounted d) → IsCounted (unwrap_or o no_component)
    go (Some d) h = h d refl
    go None h = record { kept = refl; started = refl; counted = tt }

-- ---- widths

contract_count : (m : Manner) (o : Option (List ContractStatement)) → length (contract_cells m o) ≡ sofar_count (way_of m) (not (is_none o))
contract_count plain None = refl
contract_count (while_true a) None = refl
contract_count (as_import xs) None = refl
contract_count plain (Some cs) = refl
contract_count (while_true a) (Some cs) = refl
contract_count (as_import xs) (Some cs) = refl

own_count : (m : Manner) (d : Component) → IsCounted d → length (own_cells m d) ≡ own_width (way_of m) (plan_of d)
own_count m d g =
    let vs : List Cell = map name_cell (variables d) in
    let ms : List Cell = map memory_cell (in_order (λ p. p.number) (memories d)) in
    let ss : List Cell = map start_cell (in_order (λ p. p.number) (starts d)) in
    let cs : List Cell = contract_cells m d.contract in
    let a : length (vs ++ (ms ++ (ss ++ cs))) ≡ length vs + length (ms ++ (ss ++ cs)) = length-append vs (ms ++ (ss ++ cs)) in
    let b : length (ms ++ (ss ++ cs)) ≡ length ms + length (ss ++ cs) = length-append ms (ss ++ cs) in
    let c : length (ss ++ cs) ≡ length ss + length cs = length-append ss cs in
    let e : length vs ≡ length (variables d) = length_mapped name_cell (variables d) in
    let f : length ms ≡ length (all_numbers pre_number d) = length_mapped memory_cell (in_order (λ p. p.number) (memories d)) ∙ g.kept in
    let h : length ss ≡ length (all_numbers arrow_number d) = length_mapped start_cell (in_order (λ p. p.number) (starts d)) ∙ g.started in
    let k : length cs ≡ sofar_count (way_of m) (not (is_none d.contract)) = contract_count m d.contract in
    sums (length vs) (length ms) (length ss) (length cs) _ _ _ _ e f h k (ap suc (a ∙ ap (λ z. length vs + z) (b ∙ ap (λ z. length ms + z) c)))
  where
    sums : {t : ℕ} (v m s c v' m' s' c' : ℕ) → v ≡ v' → m ≡ m' → s ≡ s' → c ≡ c' → t ≡ suc (v + (m + (s + c))) → t ≡ suc v' + (m' + (s' + c'))
    sums v m s c v' m' s' c' e f h k r = omega arith

each_held : (s : Site) (vs : List Variable) (ds : List Expression) → length (held_each s vs ds) ≡ min (length vs) (length ds)
each_held s [] ds = omega arith
each_held s (v ∷ vs) [] = omega arith
each_held s (v ∷ vs) (d ∷ ds) = let r : length (held_each s vs ds) ≡ min (length vs) (length ds) = each_held s vs ds in omega arith

held_many : (s : Site) (d : Component) (m : Manner) → length (held_cells s d m) ≡ held_by (way_of m) (min (length d.outputs) (length s.defaults))
held_many s d (while_true a) = each_held s d.outputs s.defaults
held_many s d plain = refl
held_many s d (as_import xs) = refl

free_so : (m : Manner) (d : Component) → free_in m d ≡ free_by (way_of m) (plan_of d)
free_so plain d = refl
free_so (while_true a) d = refl
free_so (as_import xs) d = refl

free_streams : (P : Variable → Type 0) (m : Manner) (d : Component) → AllByRecursion P (variables d) → AllByRecursion P (free_in m d)
free_streams P plain d a = all_of_within P (free_names d) (variables d) (names_within d) a
free_streams P (while_true e) d a = all_of_within P (free_names d) (variables d) (names_within d) a
free_streams P (as_import xs) d a = tt

module _ (p : Program) (c : IsChecked p) (states : List (List Entry)) where
  abbrev ps : List Plan
  ps = map plan_of (components p)

  abbrev walked : ℕ → Walk
  walked f = walk states ps f

  abbrev below : ℕ → Name → Instance
  below f x = instance_within f p (callee p x)

  -- what is held of a call
  abbrev held_slots : Instance → List ℕ → ℕ → Site → List Slot
  held_slots i path f s = map (slot i path) (held_cells s (component_of (below f s.callee)) s.manner)

  held_length : (i : Instance) (path : List ℕ) (f : ℕ) (s : Site) → length (held_slots i path f s) ≡ held_count (called_of s) (plan_of (callee p s.callee))
  held_length i path f s =
      length_mapped (slot i path) (held_cells s (component_of (below f s.callee)) s.manner)
      ∙ ap (λ d. length (held_cells s d s.manner)) (component_within f p (callee p s.callee))
      ∙ held_many s (callee p s.callee) s.manner

  abbrev AreWide : ℕ → Type 0
  AreWide f = (d : Component) → IsCounted d → (m : Manner) (path : List ℕ)
      → length (slots_in m path (instance_within f p d)) ≡ (walked f).width (way_of m) (plan_of d)

  calls_widths : (f : ℕ) → AreWide f → (i : Instance) (path : List ℕ) (ss : List Site)
      → length (call_slots i path (instances_with (below f) ss)) ≡ calls_width (walked f) ps (map called_of ss)
  calls_widths f wide i path [] = refl
  calls_widths f wide i path (s ∷ ss) =
      let held : List Slot = held_slots i path f s in
      let frame : List Slot = slots_in s.manner (path ++ s.number ∷ []) (below f s.callee) in
      let rest : List Slot = call_slots i path (instances_with (below f) ss) in
      let a : length (held ++ (frame ++ rest)) ≡ length held + length (frame ++ rest) = length-append held (frame ++ rest) in
      let b : length (frame ++ rest) ≡ length frame + length rest = length-append frame rest in
      let h : length held ≡ held_count (called_of s) (plan_of (callee p s.callee)) = held_length i path f s in
      let k : length frame ≡ (walked f).width (way_of s.manner) (plan_of (callee p s.callee)) =
      wide (callee p s.callee) (counted_so p c s.callee) s.manner (path ++ s.number ∷ []) in
      let r : length rest ≡ calls_width (walked f) ps (map called_of ss) = calls_widths f wide i path ss in
      sums (length held) (length frame) (length rest) _ _ _ a b h k r
      ∙ ap (λ q. call_width (walked f) (called_of s) q + calls_width (walked f) ps (map called_of ss)) (sym (planned p s.callee))
    where
      sums : {t u : ℕ} (h f r h' f' r' : ℕ) → t ≡ h + u → u ≡ f + r → h ≡ h' → f ≡ f' → r ≡ r' → t ≡ (h' + f') + r'
      sums h f r h' f' r' a b d e g = omega arith

  pub widths : (f : ℕ) → AreWide f
  widths zero d g m path =
      let this : Instance = instance d (constants_in p d) no_instances in
      ap length (append_none (map (slot this path) (own_cells m d))) ∙ length_mapped (slot this path) (own_cells m d) ∙ own_count m d g
  widths (suc f) d g m path =
      let is : Instances = instances_with (below f) (all_sites d) in
      let this : Instance = instance d (constants_in p d) is in
      let a : length (map (slot this path) (own_cells m d) ++ call_slots this path is)
      ≡ length (map (slot this path) (own_cells m d)) + length (call_slots this path is) =
      length-append (map (slot this path) (own_cells m d)) (call_slots this path is) in
      a ∙ ap (λ k. k + length (call_slots this path is)) (length_mapped (slot this path) (own_cells m d) ∙ own_count m d g)
      ∙ ap (λ k. own_width (way_of m) (plan_of d) + k) (calls_widths f (widths f) this path (all_sites d))

  -- ---- lines

  module _ (top : Instance) (w : WellTyped IsKnown top) (fit : state_fits (map (λ q. shape_of q.sort) (slots top)) (get_or states 0 []) ≡ true) where
    abbrev len : ℕ
    len = length states

    abbrev IsAt : List ℕ → (Place → ℕ) → Type 0
    IsAt path at = (q : Place) → at q ≡ number_of top (path ++ q.0, q.1)

    both : {xs ys us vs : List BareLine} → xs ≡ ys → us ≡ vs → xs ++ us ≡ ys ++ vs
    both h k = rw (h, k) refl

    -- the lines of the frame itself
    module _ (d : Component) (g : IsCounted d) (cs : List (Name × Value)) (is : Instances) (m : Manner) (path : List ℕ) (at : Place → ℕ)
        (is_at : IsAt path at) (pre post : List Slot) (e : slots top ≡ pre ++ (map (slot (instance d cs is) path) (own_cells m d) ++ post)) where
      abbrev this : Instance
      this = instance d cs is

      abbrev here : Cell → Slot
      here k = slot this path k

      abbrev ns : List Cell
      ns = map name_cell (variables d)

      abbrev xs : List Memory
      xs = in_order (λ (x : Memory). x.number) (memories d)

      abbrev ms : List Cell
      ms = map memory_cell xs

      abbrev rest : List Cell
      rest = map start_cell (in_order (λ (a : Start). a.number) (starts d)) ++ contract_cells m d.contract

      abbrev one : List Slot
      one = pre ++ here beat_cell ∷ []

      abbrev two : List Slot
      two = one ++ map here ns

      behind_beat : slots top ≡ one ++ (map here ns ++ (map here (ms ++ rest) ++ post))
      behind_beat =
          e ∙ sym (append_assoc pre (here beat_cell ∷ []) (map here (ns ++ (ms ++ rest)) ++ post))
          ∙ ap (λ z. one ++ z) (ap (λ z. z ++ post) (map_append here ns (ms ++ rest)) ∙ append_assoc (map here ns) (map here (ms ++ rest)) post)

      behind_names : slots top ≡ two ++ (map here ms ++ (map here rest ++ post))
      behind_names =
          behind_beat ∙ sym (append_assoc one (map here ns) (map here (ms ++ rest) ++ post))
          ∙ ap (λ z. two ++ z) (ap (λ z. z ++ post) (map_append here ms rest) ∙ append_assoc (map here ms) (map here rest) post)

      long_one : length one ≡ suc (length pre)
      long_one = longer pre (here beat_cell)

      long_two : length two ≡ length pre + suc (length (variables d))
      long_two =
          let a : length two ≡ length one + length (map here ns) = length-append one (map here ns) in
          let b : length (map here ns) ≡ length (variables d) = length_mapped here ns ∙ length_mapped name_cell (variables d) in
          let o : length one ≡ suc (length pre) = long_one in
          omega arith

      name_so : (x : Name) → is_declared this (IsKnown this) x → at (own (named x)) ≡ name_number (variables d) (length pre) x
      name_so x h =
          let a : at (own (named x)) ≡ length one + place_in (variables d) x =
          named_at top w states this path at is_at (variables d) one (map here (ms ++ rest) ++ post) behind_beat x h in
          let o : length one ≡ suc (length pre) = long_one in
          omega arith

      firsts_so : first_lines path 1 (firsts_by 1 (first_sorts this) at (course_of states))
          ≡ n.first_lines path (get_or states 0 []) (length pre + suc (length (variables d))) 1 (plan_of d).memories
      firsts_so =
          firsts_stand top w states this path at is_at xs 1 g.counted two (map here rest ++ post) behind_names fit
          ∙ ap (λ k. n.first_lines path (get_or states 0 []) k 1 (length xs)) long_two
          ∙ ap (λ k. n.first_lines path (get_or states 0 []) (length pre + suc (length (variables d))) 1 k) g.kept

      own_so : (ws : List Variable) → AllByRecursion (StreamFits this (IsKnown this)) ws
          → name_lines path len (frame_by this at (course_of states) len) ws ++ first_lines path 1 (firsts_by 1 (first_sorts this) at (course_of states))
          ≡ own_lines states path (length pre) ws (plan_of d)
      own_so ws a =
          both (names_so top w states this path at is_at (length pre)
          (own_at top w states this path at is_at pre (map here (ns ++ (ms ++ rest)) ++ post) beat_cell e) name_so ws a) firsts_so

    abbrev AreSo : ℕ → Type 0
    AreSo f = (d : Component) → IsCounted d → (m : Manner) (path : List ℕ) (at : Place → ℕ) → IsAt path at → (pre post : List Slot)
        → slots top ≡ pre ++ (slots_in m path (instance_within f p d) ++ post) → TreeFits IsKnown (instance_within f p d) → (ws : List Variable)
        → AllByRecursion (StreamFits (instance_within f p d) (IsKnown (instance_within f p d))) ws
        → lines_from path len ws (instance_within f p d) (frame_by (instance_within f p d) at (course_of states) len)
        ≡ (walked f).lines (way_of m) path (length pre) ws (plan_of d)

    calls_so : (f : ℕ) → AreSo f → (i : Instance) (path : List ℕ) (at : Place → ℕ) → IsAt path at → (ss : List Site) (q : ℕ)
        → CallsFit IsKnown i (instances_with (below f) ss) q → (pre post : List Slot)
        → slots top ≡ pre ++ (call_slots i path (instances_with (below f) ss) ++ post)
        → lines_below path len (instances_with (below f) ss) (frames_by (instances_with (below f) ss) at (course_of states) len)
        ≡ calls_lines (walked f) ps path (length pre) (map called_of ss)
    calls_so f so i path at is_at [] q t pre post e = refl
    calls_so f so i path at is_at (s ∷ ss) q t pre post e =
        let d : Component = callee p s.callee in
        let k : Instance = below f s.callee in
        let h : List Slot = held_slots i path f s in
        let x : List Slot = slots_in s.manner (path ++ s.number ∷ []) k in
        let r : List Slot = call_slots i path (instances_with (below f) ss) in
        let e1 : slots top ≡ (pre ++ h) ++ (x ++ (r ++ post)) =
        e ∙ ap (λ z. pre ++ z) (append_assoc h (x ++ r) post) ∙ sym (append_assoc pre h ((x ++ r) ++ post))
        ∙ ap (λ z. (pre ++ h) ++ z) (append_assoc x r post) in
        let long_h : length h ≡ held_count (called_of s) (plan_of d) = held_length i path f s in
        let long_x : length x ≡ (walked f).width (way_of s.manner) (plan_of d) =
        widths f d (counted_so p c s.callee) s.manner (path ++ s.number ∷ []) in
        let long1 : length (pre ++ h) ≡ length pre + held_count (called_of s) (plan_of d) =
        length-append pre h ∙ ap (λ z. length pre + z) long_h in
        let a2 : length ((pre ++ h) ++ x) ≡ length (pre ++ h) + length x = length-append (pre ++ h) x in
        let long2 : length ((pre ++ h) ++ x) ≡ length pre + call_width (walked f) (called_of s) (plan_of d) =
        sums (length pre) (length x) _ _ a2 long1 long_x in
        let listed : free_in s.manner (component_of k) ≡ free_by (way_of s.manner) (plan_of d) =
        ap (free_in s.manner) (component_within f p d) ∙ free_so s.manner d in
        both
        (so d (counted_so p c s.callee) s.manner (path ++ s.number ∷ []) (below_call s.number at)
        (λ y. is_at (s.number ∷ y.0, y.1) ∙ ap (λ z. number_of top (z, y.1)) (sym (append_assoc path (s.number ∷ []) y.0)))
        (pre ++ h) (r ++ post) e1 t.1 (free_in s.manner (component_of k))
        (free_streams (StreamFits k (IsKnown k)) s.manner (component_of k) (tree_own IsKnown k t.1).streams)
        ∙ ap (λ z. (walked f).lines (way_of s.manner) (path ++ s.number ∷ []) z (free_in s.manner (component_of k)) (plan_of d)) long1
        ∙ ap (λ z. (walked f).lines (way_of s.manner) (path ++ s.number ∷ []) (length pre + held_count (called_of s) (plan_of d)) z (plan_of d)) listed)
        (calls_so f so i path at is_at ss (suc q) t.2 ((pre ++ h) ++ x) post (e1 ∙ sym (append_assoc (pre ++ h) x (r ++ post)))
        ∙ ap (λ z. calls_lines (walked f) ps path z (map called_of ss)) long2)
        ∙ ap (λ y. call_line (walked f) path (length pre) (called_of s) y
        ++ calls_lines (walked f) ps path (length pre + call_width (walked f) (called_of s) y) (map called_of ss)) (sym (planned p s.callee))
      where
        sums : {t u : ℕ} (b x h x' : ℕ) → t ≡ u + x → u ≡ b + h → x ≡ x' → t ≡ b + (h + x')
        sums b x h x' a d g = omega arith

    frame_so : (f : ℕ) → AreSo f
    frame_so zero d g m path at is_at pre post e t ws a =
        let this : Instance = instance d (constants_in p d) no_instances in
        append_none (name_lines path len (frame_by this at (course_of states) len) ws
        ++ first_lines path 1 (firsts_by 1 (first_sorts this) at (course_of states)))
        ∙ own_so d g (constants_in p d) no_instances m path at is_at pre post
        (e ∙ ap (λ z. pre ++ (z ++ post)) (append_none (map (slot this path) (own_cells m d)))) ws a
    frame_so (suc f) d g m path at is_at pre post e t ws a =
        let is : Instances = instances_with (below f) (all_sites d) in
        let this : Instance = instance d (constants_in p d) is in
        let o : List Slot = map (slot this path) (own_cells m d) in
        let k : List Slot = call_slots this path is in
        let e1 : slots top ≡ pre ++ (o ++ (k ++ post)) = e ∙ ap (λ z. pre ++ z) (append_assoc o k post) in
        let long : length (pre ++ o) ≡ length pre + own_width (way_of m) (plan_of d) =
        length-append pre o ∙ ap (λ z. length pre + z) (length_mapped (slot this path) (own_cells m d) ∙ own_count m d g) in
        both (own_so d g (constants_in p d) is m path at is_at pre (k ++ post) e1 ws a)
        (calls_so f (frame_so f) this path at is_at (all_sites d) 0 t.1 (pre ++ o) post (e1 ∙ sym (append_assoc pre o (k ++ post)))
        ∙ ap (λ z. calls_lines (walked f) ps path z (map called_of (all_sites d))) long)

  -- ---- the trace

  top_lines : (i : Instance) (n : ℕ) (f : Frame)
      → name_lines [] n f (component_of i).inputs ++ lines_from [] n (free_names (component_of i)) i f
      ≡ lines_from [] n ((component_of i).inputs ++ free_names (component_of i)) i f
  top_lines (instance d cs is) n f =
      let inputs : List BareLine = name_lines [] n f d.inputs in
      let free : List BareLine = name_lines [] n f (free_names d) in
      let firsts : List BareLine = first_lines [] 1 (firsts_of f) in
      let under : List BareLine = lines_below [] n is (calls_in f) in
      sym (append_assoc inputs (free ++ firsts) under) ∙ ap (λ l. l ++ under) (sym (append_assoc inputs free firsts)
      ∙ ap (λ l. l ++ firsts) (sym (map_append (λ (v : Variable). record { path = []; subject = of_name v.name.text; values = sample n (entry f v.name.text) })
      d.inputs (free_names d))))

  pub trace_so : (d : Component) → Contains (components p) d → IsPath (system_of (instance_of p d)) states
      → trace_of (instance_of p d) states ≡ (walked (length p)).lines (way_of plain) [] 0 (d.inputs ++ free_names d) (plan_of d)
  trace_so d j path =
      let i : Instance = instance_of p d in
      let w : WellTyped IsKnown i = (each_is_well_typed p c d j).0 in
      let n : ℕ = length states in
      let fit : state_fits (map (λ q. shape_of q.sort) (slots i)) (get_or states 0 []) ≡ true =
      (path.loose.each 0 [] (some_length states path.loose.some)).fit in
      let ws : List Variable = (component_of i).inputs ++ free_names (component_of i) in
      top_lines i n (frame_of_path i states)
      ∙ frame_so i w fit (length p) d (counted_at p c d j) plain [] (number_of i) (λ q. refl) [] [] (sym (append_none (slots i))) w.tree ws
      (all_of_within (StreamFits i (IsKnown i)) ws (variables (component_of i)) (top_within (component_of i)) (tree_own IsKnown i w.tree).streams)
      ∙ ap (λ z. (walked (length p)).lines (way_of plain) [] 0 (z.inputs ++ free_names z) (plan_of d)) (component_within (length p) p d)
