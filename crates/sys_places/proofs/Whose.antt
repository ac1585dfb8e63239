-- Whose the slots of a frame are: its own, or those of a call.
use Rattle.std.proofs.Common.{◌≡◌, ℕ, List, [], ◌∷◌, map, Option, Some, None, refl, sym, ◌∙◌}
use Rattle.std.specs.List.{AllByRecursion}
use Rattle.std.proofs.lemmas.Option.{none-some}
use Rattle.lus_tree.specs.Tree.{Expression, Variable, ContractStatement, Component, Program}
use Rattle.lus_meaning.specs.Occurrences.{memories, starts}
use Rattle.lus_meaning.specs.Program.{in_order, all_sites, constants_in, instances_with}
use Rattle.lus_meaning.specs.Scene.{Manner, plain, while_true, as_import, Site, Instance, instance, variables}
use Rattle.lus_meaning.specs.Slots.{Cell, name_cell, memory_cell, start_cell, Slot, slot, own_cells, contract_cells, held_each, held_cells}
use Rattle.lus_limits.specs.Instances.{instance_called_so}
use Rattle.sys_meaning.specs.Slot.{Place, in_call}
use Rattle.sys_meaning.proofs.Cells.{everywhere}
use Rattle.path_laws.proofs.OnePlace.{behind, own_all}
use Rattle.sys_places.proofs.Numbers.{NoneAt, call_of, IsOf, none_of_others}

-- the instance of a declaration, made of those of its callees
abbrev pub made_of : Program → Component → Instance
made_of p n = instance n (constants_in p n) (instances_with (instance_called_so p) (all_sites n))

-- ---- whose slots these are

module _ (i : Instance) where
  -- cells are in no call
  pub cells_in_no_call : (cs : List Cell) (k : ℕ) (p : Place) → NoneAt (in_call k p) (map (slot i []) cs)
  cells_in_no_call [] k p = tt
  cells_in_no_call (c ∷ cs) k p = (refl, cells_in_no_call cs k p)

  held_each_of : (s : Site) (vs : List Variable) (ds : List Expression) → AllByRecursion (IsOf (Some s.number)) (map (slot i []) (held_each s vs ds))
  held_each_of s [] ds = tt
  held_each_of s (v ∷ vs) [] = tt
  held_each_of s (v ∷ vs) (d ∷ ds) = (refl, held_each_of s vs ds)

  pub held_of : (s : Site) (n : Component) (m : Manner) → AllByRecursion (IsOf (Some s.number)) (map (slot i []) (held_cells s n m))
  held_of s n (while_true a) = held_each_of s n.outputs s.defaults
  held_of s n plain = tt
  held_of s n (as_import xs) = tt

  contract_of_none : (m : Manner) (o : Option (List ContractStatement)) → AllByRecursion (IsOf None) (map (slot i []) (contract_cells m o))
  contract_of_none plain None = tt
  contract_of_none (while_true a) None = tt
  contract_of_none (as_import xs) None = tt
  contract_of_none plain (Some cs) = (refl, tt)
  contract_of_none (while_true a) (Some cs) = (refl, tt)
  contract_of_none (as_import xs) (Some cs) = tt

  pub own_of_none : (m : Manner) (n : Component) → AllByRecursion (IsOf None) (map (slot i []) (own_cells m n))
  own_of_none m n =
      own_all i m n (IsOf None) refl (everywhere (λ v. IsOf None (slot i [] (name_cell v))) (λ v. refl) (variables n))
      (everywhere (λ x. IsOf None (slot i [] (memory_cell x))) (λ x. refl) (in_order (λ x. x.number) (memories n)))
      (everywhere (λ x. IsOf None (slot i [] (start_cell x))) (λ x. refl) (in_order (λ x. x.number) (starts n)))
      (contract_of_none m n.contract)

  -- what is of a call is none of a frame's own
  pub none_of_own : (m : Manner) (n : Component) (k : ℕ) (y : Place) → call_of y ≡ Some k → NoneAt y (map (slot i []) (own_cells m n))
  none_of_own m n k y e = none_of_others None y (map (slot i []) (own_cells m n)) (λ f. none-some k (sym f ∙ e)) (own_of_none m n)

pub frame_of_call : (k : ℕ) (qs : List Slot) → AllByRecursion (IsOf (Some k)) (map (behind k) qs)
frame_of_call k [] = tt
frame_of_call k (q ∷ qs) = (refl, frame_of_call k qs)
