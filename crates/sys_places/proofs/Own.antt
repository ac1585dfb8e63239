-- The variables of a frame's own stand one behind the other.
use Rattle.std.proofs.Common.{◌≡◌, ℕ, suc, ◌+◌, false, List, [], ◌∷◌, ◌++◌, map, length, append_assoc, Option, Some, None, refl, sym, ap, ◌∙◌, subst, slice_get}
use Rattle.std.specs.Prelude.{cond}
use Rattle.std.specs.List.{AllByRecursion}
use Rattle.std.proofs.lemmas.Option.{none-some}
use Rattle.lus_tree.specs.Tree.{Name, ContractStatement, Component}
use Rattle.lus_meaning.specs.Occurrences.{Memory, Start, memories, starts}
use Rattle.lus_meaning.specs.Program.{in_order}
use Rattle.lus_meaning.specs.Scene.{Manner, plain, while_true, as_import, Instance, Instances, instance, no_instances, with_instance, component_of, variables}
use Rattle.lus_meaning.specs.Slots.{Cell, beat_cell, name_cell, memory_cell, start_cell, sofar_cell, Slot, slot, own_cells, contract_cells, held_cells, call_slots}
use Rattle.lus_meaning.proofs.Exists.{length_mapped}
use Rattle.lus_meaning.proofs.InOrder.{in_order_length}
use Rattle.lus_meaning.proofs.Lists.{both_parts, map_append}
use Rattle.lus_meaning.proofs.NamesOnce.{names_once}
use Rattle.rule_laws.proofs.Places.{memories_counted, numbered, starts_counted}
use Rattle.lus_limits.proofs.Instances.{made_of_callees}
use Rattle.sys_meaning.specs.Slot.{Place, own, spot_of, place_of, same_place, beat, named, memory, starting, so_far}
use Rattle.sys_meaning.specs.System.{has_so_far}
use Rattle.sys_meaning.specs.WellTyped.{IsKnown, TreeFits}
use Rattle.sys_meaning.proofs.Cells.{Apart}
use Rattle.sys_meaning.proofs.PathStates.{at_index}
use Rattle.path_laws.proofs.Main.{each_is_well_typed}
use Rattle.path_laws.proofs.Numbers.{CountedFrom, in_order_counted}
use Rattle.path_laws.proofs.OnePlace.{behind, tree_slots, tree_calls, slots_are, slots_apart}
use Rattle.sys_places.specs.Own.{name_number, counted_number, streams_begin, memories_begin, starts_begin, so_far_number, OwnStands}
use Rattle.sys_places.specs.Places.{number_from, StandsAt}
use Rattle.sys_places.proofs.Cells.{names_numbered, counted_numbered, contract_numbered, none_of_kind, none_of_contract, got_mapped, apart_numbered, stream_numbered}
use Rattle.sys_places.proofs.Numbers.{NoneAt, call_of, IsOf, none_of_others, behind_none, before_none}
use Rattle.sys_places.proofs.Whose.{made_of, held_of, own_of_none, frame_of_call}

-- ---- without calls

none_of_calls : (i : Instance) (is : Instances) (y : Place) → call_of y ≡ None → NoneAt y (tree_calls i is)
none_of_calls i no_instances y e = tt
none_of_calls i (with_instance c k is) y e =
    both_parts (λ q. same_place y (place_of q) ≡ false) (map (slot i []) (held_cells c (component_of k) c.manner))
    (map (behind c.number) (tree_slots c.manner k) ++ tree_calls i is)
    (none_of_others (Some c.number) y (map (slot i []) (held_cells c (component_of k) c.manner)) other (held_of i c (component_of k) c.manner))
    (both_parts (λ q. same_place y (place_of q) ≡ false) (map (behind c.number) (tree_slots c.manner k)) (tree_calls i is)
    (none_of_others (Some c.number) y (map (behind c.number) (tree_slots c.manner k)) other (frame_of_call c.number (tree_slots c.manner k)))
    (none_of_calls i is y e))
  where
    other : call_of y ≡ Some c.number → ⊥
    other f = none-some c.number (sym e ∙ f)

module _ (at : Place → ℕ) (missing base : ℕ) (m : Manner) where
  -- what is of no call is among a frame's own
  own_alone : (i : Instance) → StandsAt at missing base m i → (y : Place) → call_of y ≡ None
      → at y ≡ number_from missing base (map (slot i []) (own_cells m (component_of i))) y
  own_alone (instance n cs is) a y e =
      a y ∙ ap (λ qs. number_from missing base qs y) (slots_are m (instance n cs is))
      ∙ before_none missing base (map (slot (instance n cs is) []) (own_cells m n)) (tree_calls (instance n cs is) is) y
      (none_of_calls (instance n cs is) is y e)

  module _ (i : Instance) where
    abbrev name_slots : List Slot
    name_slots = map (slot i []) (map name_cell (variables (component_of i)))

    abbrev memory_slots : List Slot
    memory_slots = map (slot i []) (map memory_cell (in_order (λ p. p.number) (memories (component_of i))))

    abbrev start_slots : List Slot
    start_slots = map (slot i []) (map start_cell (in_order (λ p. p.number) (starts (component_of i))))

    abbrev contract_slots : List Slot
    contract_slots = map (slot i []) (contract_cells m (component_of i).contract)

    own_parts : map (slot i []) (own_cells m (component_of i)) ≡ slot i [] beat_cell ∷ (name_slots ++ (memory_slots ++ (start_slots ++ contract_slots)))
    own_parts =
        let ns : List Cell = map name_cell (variables (component_of i)) in
        let ms : List Cell = map memory_cell (in_order (λ p. p.number) (memories (component_of i))) in
        let ss : List Cell = map start_cell (in_order (λ p. p.number) (starts (component_of i))) in
        let cs : List Cell = contract_cells m (component_of i).contract in
        ap (λ l. slot i [] beat_cell ∷ l)
        (map_append (slot i []) ns (ms ++ (ss ++ cs))
        ∙ ap (λ l. name_slots ++ l) (map_append (slot i []) ms (ss ++ cs) ∙ ap (λ l. memory_slots ++ l) (map_append (slot i []) ss cs)))

    many_names : length name_slots ≡ length (variables (component_of i))
    many_names = length_mapped (slot i []) (map name_cell (variables (component_of i))) ∙ length_mapped name_cell (variables (component_of i))

    module _ (a : StandsAt at missing base m i) where
      pub active_stands : at (own beat) ≡ base
      active_stands = own_alone i a (own beat) refl

      by_parts : (y : Place) → call_of y ≡ None
          → at y ≡ number_from missing base (slot i [] beat_cell ∷ (name_slots ++ (memory_slots ++ (start_slots ++ contract_slots)))) y
      by_parts y e = own_alone i a y e ∙ ap (λ qs. number_from missing base qs y) own_parts

      pub streams_stand : (x : Name) → at (own (named x)) ≡ name_number missing (streams_begin base) (variables (component_of i)) x
      streams_stand x =
          by_parts y refl
          ∙ before_none missing (suc base) name_slots (memory_slots ++ (start_slots ++ contract_slots)) y
          (both_parts (λ q. same_place y (place_of q) ≡ false) memory_slots (start_slots ++ contract_slots)
          (none_of_kind i y memory_cell (λ z. refl) (in_order (λ p. p.number) (memories (component_of i))))
          (both_parts (λ q. same_place y (place_of q) ≡ false) start_slots contract_slots
          (none_of_kind i y start_cell (λ z. refl) (in_order (λ p. p.number) (starts (component_of i))))
          (none_of_contract i y refl m (component_of i).contract)))
          ∙ names_numbered i missing (suc base) (variables (component_of i)) x
        where
          y : Place
          y = own (named x)

      behind_names : (y : Place) → call_of y ≡ None → same_place y ([], beat) ≡ false → NoneAt y name_slots
          → at y ≡ number_from missing (memories_begin base (component_of i)) (memory_slots ++ (start_slots ++ contract_slots)) y
      behind_names y e f h =
          by_parts y e
          ∙ ap (λ b. cond b base (number_from missing (suc base) (name_slots ++ (memory_slots ++ (start_slots ++ contract_slots))) y)) f
          ∙ behind_none missing (suc base) name_slots (memory_slots ++ (start_slots ++ contract_slots)) y h
          ∙ ap (λ l. number_from missing (suc base + l) (memory_slots ++ (start_slots ++ contract_slots)) y) many_names

      module _ (ms : CountedFrom (λ (x : Memory). x.number) 1 (in_order (λ p. p.number) (memories (component_of i))))
          (many_memories : length (in_order (λ (p : Memory). p.number) (memories (component_of i))) ≡ length (memories (component_of i)))
          (ss : CountedFrom (λ (x : Start). x.number) 1 (in_order (λ p. p.number) (starts (component_of i))))
          (many_starts : length (in_order (λ (p : Start). p.number) (starts (component_of i))) ≡ length (starts (component_of i))) where
        many_memory_slots : length memory_slots ≡ length (memories (component_of i))
        many_memory_slots =
            length_mapped (slot i []) (map memory_cell (in_order (λ p. p.number) (memories (component_of i))))
            ∙ length_mapped memory_cell (in_order (λ p. p.number) (memories (component_of i))) ∙ many_memories

        many_start_slots : length start_slots ≡ length (starts (component_of i))
        many_start_slots =
            length_mapped (slot i []) (map start_cell (in_order (λ p. p.number) (starts (component_of i))))
            ∙ length_mapped start_cell (in_order (λ p. p.number) (starts (component_of i))) ∙ many_starts

        pub pres_stand : (k : ℕ) → at (own (memory k)) ≡ counted_number missing (memories_begin base (component_of i)) (length (memories (component_of i))) k
        pres_stand k =
            behind_names y refl refl (none_of_kind i y name_cell (λ z. refl) (variables (component_of i)))
            ∙ before_none missing (memories_begin base (component_of i)) memory_slots (start_slots ++ contract_slots) y
            (both_parts (λ q. same_place y (place_of q) ≡ false) start_slots contract_slots
            (none_of_kind i y start_cell (λ z. refl) (in_order (λ p. p.number) (starts (component_of i))))
            (none_of_contract i y refl m (component_of i).contract))
            ∙ counted_numbered (λ (x : Memory). x.number) memory_cell memory (λ j x. refl) i missing (memories_begin base (component_of i))
            (in_order (λ p. p.number) (memories (component_of i))) ms k
            ∙ ap (λ l. counted_number missing (memories_begin base (component_of i)) l k) many_memories
          where
            y : Place
            y = own (memory k)

        behind_memories : (y : Place) → call_of y ≡ None → same_place y ([], beat) ≡ false → NoneAt y name_slots → NoneAt y memory_slots
            → at y ≡ number_from missing (starts_begin base (component_of i)) (start_slots ++ contract_slots) y
        behind_memories y e f h g =
            behind_names y e f h ∙ behind_none missing (memories_begin base (component_of i)) memory_slots (start_slots ++ contract_slots) y g
            ∙ ap (λ l. number_from missing (memories_begin base (component_of i) + l) (start_slots ++ contract_slots) y) many_memory_slots

        pub arrows_stand : (k : ℕ) → at (own (starting k)) ≡ counted_number missing (starts_begin base (component_of i)) (length (starts (component_of i))) k
        arrows_stand k =
            behind_memories y refl refl (none_of_kind i y name_cell (λ z. refl) (variables (component_of i)))
            (none_of_kind i y memory_cell (λ z. refl) (in_order (λ p. p.number) (memories (component_of i))))
            ∙ before_none missing (starts_begin base (component_of i)) start_slots contract_slots y
            (none_of_contract i y refl m (component_of i).contract)
            ∙ counted_numbered (λ (x : Start). x.number) start_cell starting (λ j x. refl) i missing (starts_begin base (component_of i))
            (in_order (λ p. p.number) (starts (component_of i))) ss k
            ∙ ap (λ l. counted_number missing (starts_begin base (component_of i)) l k) many_starts
          where
            y : Place
            y = own (starting k)

        pub assumed_stands : at (own so_far) ≡ cond (has_so_far m (component_of i)) (so_far_number base (component_of i)) missing
        assumed_stands =
            behind_memories (own so_far) refl refl (none_of_kind i (own so_far) name_cell (λ z. refl) (variables (component_of i)))
            (none_of_kind i (own so_far) memory_cell (λ z. refl) (in_order (λ p. p.number) (memories (component_of i))))
            ∙ behind_none missing (starts_begin base (component_of i)) start_slots contract_slots (own so_far)
            (none_of_kind i (own so_far) start_cell (λ z. refl) (in_order (λ p. p.number) (starts (component_of i))))
            ∙ ap (λ l. number_from missing (starts_begin base (component_of i) + l) contract_slots (own so_far)) many_start_slots
            ∙ contract_numbered i missing (so_far_number base (component_of i)) m (component_of i)

-- ---- cell by cell

left_all : {A : Type 0} (P : A → Type 0) (xs ys : List A) → AllByRecursion P (xs ++ ys) → AllByRecursion P xs
left_all P [] ys a = tt
left_all P (x ∷ xs) ys a = (a.0, left_all P xs ys a.1)

left_apart : (xs ys : List Slot) → Apart (xs ++ ys) → Apart xs
left_apart [] ys a = tt
left_apart (x ∷ xs) ys a = (left_all (λ r. same_place (place_of r) (place_of x) ≡ false) xs ys a.0, left_apart xs ys a.1)

-- what a frame that runs plainly has besides
abbrev contract_more : Manner → Option (List ContractStatement) → List Cell
contract_more plain o = []
contract_more (while_true a) o = []
contract_more (as_import xs) None = []
contract_more (as_import xs) (Some cs) = sofar_cell ∷ []

contract_plain : (m : Manner) (o : Option (List ContractStatement)) → contract_cells plain o ≡ contract_cells m o ++ contract_more m o
contract_plain plain None = refl
contract_plain plain (Some cs) = refl
contract_plain (while_true a) None = refl
contract_plain (while_true a) (Some cs) = refl
contract_plain (as_import xs) None = refl
contract_plain (as_import xs) (Some cs) = refl

own_plain : (m : Manner) (n : Component) → own_cells plain n ≡ own_cells m n ++ contract_more m n.contract
own_plain m n =
    let ns : List Cell = map name_cell (variables n) in
    let ms : List Cell = map memory_cell (in_order (λ p. p.number) (memories n)) in
    let ss : List Cell = map start_cell (in_order (λ p. p.number) (starts n)) in
    let cs : List Cell = contract_cells m n.contract in
    let rest : List Cell = contract_more m n.contract in
    ap (λ l. beat_cell ∷ (ns ++ (ms ++ (ss ++ l)))) (contract_plain m n.contract)
    ∙ ap (λ l. beat_cell ∷ l)
    (ap (λ l. ns ++ l) (ap (λ l. ms ++ l) (sym (append_assoc ss cs rest)) ∙ sym (append_assoc ms (ss ++ cs) rest))
    ∙ sym (append_assoc ns (ms ++ (ss ++ cs)) rest))

own_apart : (m : Manner) (i : Instance) → TreeFits IsKnown i → Apart (map (slot i []) (own_cells m (component_of i)))
own_apart m (instance n cs is) t =
    let i : Instance = instance n cs is in
    left_apart (map (slot i []) (own_cells m n)) (map (slot i []) (contract_more m n.contract))
    (subst Apart (ap (map (slot i [])) (own_plain m n) ∙ map_append (slot i []) (own_cells m n) (contract_more m n.contract))
    (left_apart (map (slot i []) (own_cells plain n)) (call_slots i [] is) (slots_apart i t)))

-- ---- the law

pub own_stands : OwnStands
own_stands p c n j m at missing base a =
    let ms = in_order_counted (λ (x : Memory). x.number) (memories n) (memories_counted n (numbered p c.grammatical n j)) in
    let ss = in_order_counted (λ (x : Start). x.number) (starts n) (starts_counted n (numbered p c.grammatical n j)) in
    let many_ms = in_order_length (λ (x : Memory). x.number) (memories n) (memories_counted n (numbered p c.grammatical n j)) in
    let many_ss = in_order_length (λ (x : Start). x.number) (starts n) (starts_counted n (numbered p c.grammatical n j)) in
    record {
      active = active_stands at missing base m i made;
      streams = streams_stand at missing base m i made;
      pres = pres_stand at missing base m i made ms many_ms ss many_ss;
      arrows = arrows_stand at missing base m i made ms many_ms ss many_ss;
      assumed = assumed_stands at missing base m i made ms many_ms ss many_ss;
      named_streams = λ k v e. streams_stand at missing base m i made v.name.text
          ∙ stream_numbered missing (streams_begin base) (variables n) (names_once p c n j) k v e;
      cells = λ k x e. own_alone at missing base m i made (own (spot_of x)) (of_none k x e)
          ∙ apart_numbered missing base (map (slot i []) (own_cells m n)) (own_apart m i tree) k (slot i [] x) (got_mapped (slot i []) (own_cells m n) k x e);
    }
  where
    i : Instance
    i = made_of p n

    made : StandsAt at missing base m (made_of p n)
    made = subst (StandsAt at missing base m) (made_of_callees p c n j) a

    tree : TreeFits IsKnown (made_of p n)
    tree = subst (TreeFits IsKnown) (made_of_callees p c n j) (each_is_well_typed p c n j).0.tree

    of_none : (k : ℕ) (x : Cell) → slice_get (own_cells m n) k ≡ Some x → call_of (own (spot_of x)) ≡ None
    of_none k x e = at_index (IsOf None) (map (slot i []) (own_cells m n)) (own_of_none i m n) k (slot i [] x) (got_mapped (slot i []) (own_cells m n) k x e)
