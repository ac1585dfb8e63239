-- The width of a node by the widths of its callees.
use Rattle.std.proofs.Common.{◌≡◌, ℕ, zero, suc, List, [], ◌∷◌, ◌++◌, map, length, refl, ◌∙◌, unwrap_or, arith}
use Rattle.std.proofs.lemmas.List.{length-append}
use Rattle.lus_meaning.proofs.Exists.{length_mapped}
use Rattle.lus_tree.specs.Tree.{Component, Program}
use Rattle.lus_meaning.specs.Scene.{Manner, plain, Site, Instance, instance, no_instances, component_of, no_component}
use Rattle.lus_meaning.specs.Program.{all_sites, component_named, constants_in, instances_with, instance_within}
use Rattle.lus_meaning.specs.Slots.{Slot, slot, own_cells, held_cells, slots_in, call_slots}
use Rattle.lus_meaning.specs.RuleLaws.{callee_of, sites_width, width_within, WidthByCallees, CutSums}

component_within : (d : ℕ) (p : Program) (n : Component) → component_of (instance_within d p n) ≡ n
component_within zero p n = refl
component_within (suc d) p n = refl

module _ (d : ℕ) (p : Program) (below : (m : Manner) (path : List ℕ) (n : Component) → length (slots_in m path (instance_within d p n)) ≡ width_within d p m n) where
  calls_width : (i : Instance) (path : List ℕ) (ss : List Site) → length
      (call_slots i path (instances_with (λ x. instance_within d p (unwrap_or (component_named p x) no_component)) ss)) ≡ sites_width
      (width_within d p) p ss
  calls_width i path [] = refl
  calls_width i path (s ∷ ss) =
      let k : Instance = instance_within d p (callee_of p s) in
      let held : List Slot = map (slot i path) (held_cells s (component_of k) s.manner) in
      let rest : List Slot = call_slots i path (instances_with (λ x. instance_within d p (unwrap_or (component_named p x) no_component)) ss) in
      length-append held (slots_in s.manner (path ++ s.number ∷ []) k ++ rest)
      ∙ rw (
        length_mapped (slot i path) (held_cells s (component_of k) s.manner),
        component_within d p (callee_of p s),
        length-append
            (slots_in s.manner (path ++ s.number ∷ []) k) rest,
        below s.manner (path ++ s.number ∷ []) (callee_of p s),
        calls_width i path ss,
      )
      refl

pub frame_width : (d : ℕ) (p : Program) (m : Manner) (path : List ℕ) (n : Component) → length (slots_in m path (instance_within d p n)) ≡ width_within d p m n
frame_width zero p m path n = length-append (map (slot (instance n (constants_in p n) no_instances) path) (own_cells m n)) [] ∙ rw
    (length_mapped (slot (instance n (constants_in p n) no_instances) path) (own_cells m n)) (omega arith)
frame_width (suc d) p m path n =
    let i : Instance = instance_within (suc d) p n in
    length-append (map (slot i path) (own_cells m n)) (call_slots i path
    (instances_with (λ x. instance_within d p (unwrap_or (component_named p x) no_component)) (all_sites n)))
    ∙ rw (length_mapped (slot i path) (own_cells m n), calls_width d p (frame_width d p) i path (all_sites n)) refl

pub width_by_callees : WidthByCallees
width_by_callees p n = frame_width (length p) p plain [] n

pub cut_sums : CutSums
cut_sums k a b = omega arith
