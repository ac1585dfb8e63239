-- What a frame holds of its calls, the streams of their frames, and what is not there.
use Rattle.std.proofs.Common.{◌≡◌, ℕ, zero, suc, ◌+◌, ◌<◌, ◌≤◌, false, List, [], ◌∷◌, ◌++◌, map, length, Some, unwrap_or, zero-add, refl, sym, ap, ◌∙◌, subst, arith, slice_get}
use Rattle.std.specs.Prelude.{Contains}
use Rattle.std.specs.List.{AllByRecursion}
use Rattle.lus_tree.specs.Tree.{Name, Variable, Component, Program}
use Rattle.lus_meaning.specs.ClockFaults.{components}
use Rattle.lus_meaning.specs.Program.{all_sites, component_named, instance_of}
use Rattle.lus_meaning.specs.Refusals.{IsChecked}
use Rattle.lus_meaning.specs.Scene.{Site, Instance, instance, component_of, call_instance, no_component, contract_statements, ghosts, variables}
use Rattle.lus_meaning.specs.Slots.{Slot, slot, own_cells}
use Rattle.lus_meaning.specs.WellMade.{AreDistinct}
use Rattle.lus_meaning.proofs.Lists.{all_from_both, both_parts}
use Rattle.rule_laws.specs.Laws.{IsUnfolded}
use Rattle.rule_laws.proofs.Truths.{same_some}
use Rattle.rule_laws.proofs.Unfolded.{each_unfolded}
use Rattle.lus_limits.specs.Calls.{way_of}
use Rattle.lus_limits.specs.Instances.{callee, instance_called_so}
use Rattle.lus_limits.proofs.Instances.{component_called}
use Rattle.lus_layouts.specs.Layouts.{layout_of, own_count}
use Rattle.lus_layouts.specs.declared.placing.CallSlots.{CallSlots}
use Rattle.sys_meaning.specs.Slot.{Spot, Place, own, in_call, held, named, place_of, same_place}
use Rattle.sys_meaning.specs.System.{below_call}
use Rattle.sys_meaning.specs.WellTyped.{IsKnown, TreeFits}
use Rattle.sys_meaning.proofs.Follows.{none_some}
use Rattle.path_laws.proofs.OnePlace.{behind, tree_slots}
use Rattle.path_laws.proofs.Places.{HeldMany, SiteMade, outputs_distinct, sites_made}
use Rattle.path_laws.proofs.Tree.{named_there}
use Rattle.sys_places.specs.Own.{name_number, held_number, streams_begin, CallVariablesAt, CallVariablesStand, EachCallVariablesStand, OthersAreMissing}
use Rattle.sys_places.specs.Places.{own_end}
use Rattle.sys_places.proofs.Calls.{frame_stands}
use Rattle.sys_places.proofs.Cells.{held_numbered, stream_numbered}
use Rattle.sys_places.proofs.Numbers.{NoneAt, call_of, none_there, behind_none, before_none}
use Rattle.sys_places.proofs.Own.{active_stands, streams_stand}
use Rattle.sys_places.proofs.Parts.{each_call_so, at_each_place, none_of_calls, called, held_slots, frame_slots, slots_behind, Part, callees_fit, numbered_calls, stands_made, parts_made}
use Rattle.sys_places.proofs.Whose.{made_of, none_of_own}

-- what is known of a call: it has as many defaults as outputs, and its callee's streams have different names
record CallKnown (p : Program) (s : Site) : Type 0 where
  many : HeldMany s.manner s.defaults (component_of (instance_called_so p s.callee)).outputs
  once : AreDistinct (map (λ v. v.name.text) (variables (callee p s.callee)))

-- ---- lists

got_behind : {A : Type 0} (xs ys : List A) (k : ℕ) (x : A) → slice_get ys k ≡ Some x → slice_get (xs ++ ys) (length xs + k) ≡ Some x
got_behind [] ys k x e = ap (slice_get ys) (zero-add k) ∙ e
got_behind (y ∷ xs) ys k x e = ap (slice_get (y ∷ (xs ++ ys))) moved ∙ got_behind xs ys k x e
  where
    moved : suc (length xs) + k ≡ suc (length xs + k)
    moved = omega arith

got_before : {A : Type 0} (xs ys : List A) (k : ℕ) (x : A) → slice_get xs k ≡ Some x → slice_get (xs ++ ys) k ≡ Some x
got_before [] ys k x e = absurd (none_some x e)
got_before (y ∷ xs) ys zero x e = e
got_before (y ∷ xs) ys (suc k) x e = got_before xs ys k x e

-- the outputs are the streams behind the inputs
output_stream : (n : Component) (k : ℕ) (v : Variable) → slice_get n.outputs k ≡ Some v
    → slice_get (variables n) (length n.inputs + k) ≡ Some v
output_stream n k v e =
    got_before (n.inputs ++ n.outputs ++ n.locals) (ghosts (contract_statements n)) (length n.inputs + k) v
    (got_before (n.inputs ++ n.outputs) n.locals (length n.inputs + k) v (got_behind n.inputs n.outputs k v e))

-- ---- of a call

-- a frame's own are in no call
own_in_no_call : (k : ℕ) (qs : List Slot) (x : Spot) → NoneAt (own x) (map (behind k) qs)
own_in_no_call k [] x = tt
own_in_no_call k (q ∷ qs) x = (refl, own_in_no_call k qs x)

module _ (p : Program) (i : Instance) (at : Place → ℕ) (missing base first : ℕ) where
  held_stand : (s : Site) (q : CallSlots) → CallKnown p s → Part p i at missing base first s q → (j : ℕ) → j + q.held ≡ q.frame → (x : Name)
      → at (own (held s.number x)) ≡ held_number missing ((base + first) + j) s.manner (callee p s.callee).outputs x
  held_stand s q d h j e x =
      h.whole y
      ∙ behind_none missing base h.front (held_slots p i s ++ (frame_slots p i s ++ h.rest)) y (h.fore y refl)
      ∙ before_none missing (base + length h.front) (held_slots p i s) (frame_slots p i s ++ h.rest) y
      (both_parts (λ r. same_place y (place_of r) ≡ false) (frame_slots p i s) h.rest
      (own_in_no_call s.number (tree_slots s.manner (called p i s)) (held s.number x)) (h.aft y refl))
      ∙ held_numbered i missing (base + length h.front) s (component_of (called p i s)) s.manner x d.many
      ∙ ap (λ b. held_number missing b s.manner (component_of (called p i s)).outputs x) (h.held_begin j e)
      ∙ ap (λ (n : Component). held_number missing ((base + first) + j) s.manner n.outputs x) (component_called p (callee p s.callee))
    where
      y : Place
      y = own (held s.number x)

  frame_streams : (s : Site) (q : CallSlots) → Part p i at missing base first s q → (x : Name)
      → at (in_call s.number (own (named x))) ≡ name_number missing (streams_begin ((base + first) + q.frame)) (variables (callee p s.callee)) x
  frame_streams s q h x =
      streams_stand (below_call s.number at) missing ((base + first) + q.frame) s.manner (called p i s) (frame_stands p i at missing base first s q h) x
      ∙ ap (λ (n : Component). name_number missing (streams_begin ((base + first) + q.frame)) (variables n) x) (component_called p (callee p s.callee))

  call_variables : (s : Site) (q : CallSlots) → CallKnown p s → Part p i at missing base first s q → CallVariablesAt at missing (base + first) p s q
  call_variables s q d h = record {
    room = h.room;
    holds = held_stand s q d h;
    active = active_stands (below_call s.number at) missing ((base + first) + q.frame) s.manner (called p i s) (frame_stands p i at missing base first s q h);
    streams = frame_streams s q h;
    outputs = λ k v e. frame_streams s q h v.name.text
        ∙ stream_numbered missing (streams_begin ((base + first) + q.frame)) (variables (callee p s.callee)) d.once (length (callee p s.callee).inputs + k) v
        (output_stream (callee p s.callee) k v e)
        ∙ sums (streams_begin ((base + first) + q.frame)) (length (callee p s.callee).inputs) k;
    held_outputs = λ a m j e k v f. held_stand s q d h j e v.name.text
        ∙ ap (λ n. held_number missing ((base + first) + j) n (callee p s.callee).outputs v.name.text) m
        ∙ stream_numbered missing ((base + first) + j) (callee p s.callee).outputs (outputs_distinct (callee p s.callee) d.once) k v f;
  }
    where
      sums : (a b c : ℕ) → a + (b + c) ≡ (a + b) + c
      sums a b c = omega arith

-- ---- what is known of calls

once_in_tree : (i : Instance) → TreeFits IsKnown i → AreDistinct (map (λ v. v.name.text) (variables (component_of i)))
once_in_tree (instance n cs is) t = t.0.once

module _ (p : Program) (c : IsChecked p) (n : Component) (j : Contains (components p) n) where
  unfolded : IsUnfolded p (instance_of p n)
  unfolded = each_unfolded p c n j

  call_known : (s : Site) → SiteMade (instance_of p n) s → TreeFits IsKnown (instance_called_so p s.callee) → CallKnown p s
  call_known s m t =
      let named : component_named p s.callee ≡ Some (component_of (call_instance (instance_of p n) s.number)) =
      named_there p c (instance_of p n) unfolded s m.number m.site in
      let same : component_of (instance_called_so p s.callee) ≡ component_of (call_instance (instance_of p n) s.number) =
      component_called p (callee p s.callee) ∙ ap (λ o. unwrap_or o no_component) named in
      record {
        many = subst (λ (k : Component). HeldMany s.manner s.defaults k.outputs) (sym same) m.many;
        once = subst (λ (k : Component). AreDistinct (map (λ v. v.name.text) (variables k))) (component_called p (callee p s.callee))
            (once_in_tree (instance_called_so p s.callee) t);
      }

  each_known : AllByRecursion (CallKnown p) (all_sites n)
  each_known =
      all_from_both (SiteMade (instance_of p n)) (λ s. TreeFits IsKnown (instance_called_so p s.callee)) (CallKnown p) call_known (all_sites n)
      (subst (λ (k : Component). AllByRecursion (SiteMade (instance_of p n)) (all_sites k)) (component_called p n)
      (sites_made p c (instance_of p n) unfolded (subst (Contains (components p)) (sym (component_called p n)) j)))
      (callees_fit p c n j)

-- ---- the laws

pub call_variables_stand : CallVariablesStand
call_variables_stand p c n j m at missing base l a =
    each_call_so (CallKnown p) (Part p (made_of p n) at missing base (own_count (way_of m) (layout_of p n)))
    (CallVariablesAt at missing (own_end p m n base) p)
    (call_variables p (made_of p n) at missing base (own_count (way_of m) (layout_of p n))) (all_sites n) (layout_of p n).calls
    (each_known p c n j) (parts_made p c n j m at missing base a l)

pub each_call_variables_stand : EachCallVariablesStand
each_call_variables_stand p c n j m at missing base l a =
    at_each_place (CallVariablesAt at missing (own_end p m n base) p) (all_sites n) (layout_of p n).calls
    (call_variables_stand p c n j m at missing base l a)

pub others_are_missing : OthersAreMissing
others_are_missing p c n j m at missing base a k h = record {
  frame = λ x. gone (in_call k x) refl;
  holds = λ x. gone (own (held k x)) refl;
}
  where
    outside : (y : Place) → call_of y ≡ Some k → (q : ℕ) → call_of y ≡ Some q → 1 ≤ q → 1 + length (all_sites n) ≤ q
    outside y e q f l =
        let d : k ≡ q = same_some (sym e ∙ f) in
        let g : length (all_sites n) < k = h (omega (arith, d, l)) in
        omega (arith, d, g)

    gone : (y : Place) → call_of y ≡ Some k → at y ≡ missing
    gone y e =
        stands_made p c n j m at missing base a y
        ∙ none_there missing base (map (slot (made_of p n) []) (own_cells m n) ++ slots_behind p (made_of p n) (all_sites n)) y
        (both_parts (λ q. same_place y (place_of q) ≡ false) (map (slot (made_of p n) []) (own_cells m n)) (slots_behind p (made_of p n) (all_sites n))
        (none_of_own (made_of p n) m n k y e) (none_of_calls p (made_of p n) (all_sites n) 1 y (numbered_calls p c n j) (outside y e)))
