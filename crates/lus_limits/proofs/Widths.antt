-- The width of a frame by the widths of its callees' frames.
use Rattle.std.proofs.Common.{◌≡◌, ℕ, ◌+◌, List, [], ◌∷◌, ◌++◌, map, length, length-append, refl, sym, ap, ◌∙◌, arith}
use Rattle.std.specs.Prelude.{min}
use Rattle.lus_tree.specs.Tree.{Component, Program}
use Rattle.lus_meaning.specs.Scene.{Manner, Site, Instance, instance, component_of}
use Rattle.lus_meaning.specs.Program.{all_sites, constants_in, instances_with, instance_of}
use Rattle.lus_meaning.specs.Slots.{Slot, slot, own_cells, held_cells, slots_in, call_slots}
use Rattle.lus_meaning.specs.RuleLaws.{sites_width}
use Rattle.lus_meaning.proofs.Exists.{length_mapped}
use Rattle.lus_meaning.proofs.Widths.{frame_width as width_of_frame}
use Rattle.lus_limits.specs.Instances.{callee, instance_called_so}
use Rattle.lus_limits.specs.Widths.{frame_width, WidthByText, WidthIsPlain, WidthCuts}
use Rattle.lus_limits.proofs.Instances.{component_called, made_of_callees}

-- the way to a frame doesn't count
pub any_way : (p : Program) (m : Manner) (path : List ℕ) (n : Component) → length (slots_in m path (instance_of p n)) ≡ frame_width p m n
any_way p m path n = width_of_frame (length p) p m path n ∙ sym (width_of_frame (length p) p m [] n)

calls_width : (p : Program) (i : Instance) (path : List ℕ) (ss : List Site) → length (call_slots i path (instances_with (instance_called_so p) ss))
    ≡ sites_width (frame_width p) p ss
calls_width p i path [] = refl
calls_width p i path (s ∷ ss) =
    let k : Instance = instance_called_so p s.callee in
    let rest : List Slot = call_slots i path (instances_with (instance_called_so p) ss) in
    length-append (map (slot i path) (held_cells s (component_of k) s.manner)) (slots_in s.manner (path ++ s.number ∷ []) k ++ rest)
    ∙ rw (
      length_mapped (slot i path) (held_cells s (component_of k) s.manner),
      component_called p (callee p s.callee),
      length-append (slots_in s.manner (path ++ s.number ∷ []) k) rest,
      any_way p s.manner (path ++ s.number ∷ []) (callee p s.callee),
      calls_width p i path ss,
    )
    refl

made_width : (p : Program) (m : Manner) (n : Component) →
    length (slots_in m [] (instance n (constants_in p n) (instances_with (instance_called_so p) (all_sites n))))
    ≡ length (own_cells m n) + sites_width (frame_width p) p (all_sites n)
made_width p m n =
    let i : Instance = instance n (constants_in p n) (instances_with (instance_called_so p) (all_sites n)) in
    length-append (map (slot i []) (own_cells m n)) (call_slots i [] (instances_with (instance_called_so p) (all_sites n)))
    ∙ rw (length_mapped (slot i []) (own_cells m n), calls_width p i [] (all_sites n)) refl

pub width_by_text : WidthByText
width_by_text p c n i m = ap (λ k. length (slots_in m [] k)) (made_of_callees p c n i) ∙ made_width p m n

pub width_is_plain : WidthIsPlain
width_is_plain p n = refl

pub width_cuts : WidthCuts
width_cuts k w p [] = refl
width_cuts k w p (s ∷ ss) = go (length (held_cells s (callee p s.callee) s.manner)) (w s.manner (callee p s.callee)) (width_cuts k w p ss)
  where
    go : (h v : ℕ) → min k (sites_width w p ss) ≡ min k (sites_width (λ m n. min k (w m n)) p ss) → min k (h + (v + sites_width w p ss))
        ≡ min k (h + (min k v + sites_width (λ m n. min k (w m n)) p ss))
    go h v e = omega arith
