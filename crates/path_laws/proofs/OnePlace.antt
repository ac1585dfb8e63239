-- The variables of a system by place: of a declaration whose texts fit no two stand at one place, and each place has one.
use Rattle.std.proofs.Common.{◌≡◌, ℕ, suc, ◌<◌, Bool, true, false, ◌&&◌, List, [], ◌∷◌, ◌++◌, map, Option, Some, None, refl, sym, ap, ◌∙◌, subst, arith, slice_get}
use Rattle.std.specs.Prelude.{◌==◌}
use Rattle.std.specs.List.{AllByRecursion}
use Rattle.std.specs.Str.{bytes_eq}
use Rattle.std.proofs.Math.Logic.{◌⊎◌, inl, inr}
use Rattle.std.proofs.lemmas.Bool.{false≢true}
use Rattle.std.proofs.lemmas.Option.{none-some}
use Rattle.lus_tree.specs.Tree.{Expression, ContractStatement, Variable, Component}
use Rattle.lus_meaning.specs.Scene.{Manner, plain, while_true, as_import, Site, Instance, Instances, instance, no_instances, with_instance, component_of, variables}
use Rattle.lus_meaning.specs.Program.{in_order}
use Rattle.lus_meaning.specs.Occurrences.{Memory, Start, memories, starts}
use Rattle.lus_meaning.specs.Slots.{Cell, beat_cell, name_cell, memory_cell, start_cell, sofar_cell, own_cells, contract_cells, held_each, held_cells, Slot, slot, slots_in, call_slots, slots}
use Rattle.lus_meaning.proofs.Lists.{all_from, both_parts, map_append}
use Rattle.sys_meaning.specs.Slot.{Spot, beat, named, memory, starting, so_far, held, Place, spot_of, place_of, same_spot, same_place, number_in}
use Rattle.sys_meaning.specs.WellTyped.{IsKnown, TreeFits, CallsFit}
use Rattle.sys_meaning.proofs.Cells.{Apart, own_number, CellsApart, apart_both, all_mapped, everywhere, names_apart, memories_apart, starts_apart}
use Rattle.sys_meaning.proofs.Found.{in_order_differ}
use Rattle.sys_meaning.proofs.Shows.{same_places}
use Rattle.path_laws.proofs.Places.{outputs_distinct}

-- ---- slots by way of the first call

abbrev pub behind : ℕ → Slot → Slot
behind k q = record { path = k ∷ q.path; cell = q.cell; sort = q.sort }

abbrev mutual
  pub tree_slots : Manner → Instance → List Slot
  tree_slots m (instance n cs is) = map (slot (instance n cs is) []) (own_cells m n) ++ tree_calls (instance n cs is) is

  pub tree_calls : Instance → Instances → List Slot
  tree_calls i no_instances = []
  tree_calls i (with_instance c k is) =
      map (slot i []) (held_cells c (component_of k) c.manner) ++ (map (behind c.number) (tree_slots c.manner k) ++ tree_calls i is)

cells_behind : (i : Instance) (k : ℕ) (path : List ℕ) (cs : List Cell) → map (slot i (k ∷ path)) cs ≡ map (behind k) (map (slot i path) cs)
cells_behind i k path [] = refl
cells_behind i k path (c ∷ cs) = ap (λ l. slot i (k ∷ path) c ∷ l) (cells_behind i k path cs)

joined : {xs ys us vs : List Slot} → xs ≡ ys → us ≡ vs → xs ++ us ≡ ys ++ vs
joined e f = rw (e, f) refl

mutual
  slots_behind : (m : Manner) (k : ℕ) (path : List ℕ) (i : Instance) → slots_in m (k ∷ path) i ≡ map (behind k) (slots_in m path i)
  slots_behind m k path (instance n cs is) =
      joined (cells_behind (instance n cs is) k path (own_cells m n)) (calls_behind (instance n cs is) k path is)
      ∙ sym (map_append (behind k) (map (slot (instance n cs is) path) (own_cells m n)) (call_slots (instance n cs is) path is))

  calls_behind : (i : Instance) (k : ℕ) (path : List ℕ) (is : Instances) → call_slots i (k ∷ path) is ≡ map (behind k) (call_slots i path is)
  calls_behind i k path no_instances = refl
  calls_behind i k path (with_instance c o is) =
      joined (cells_behind i k path (held_cells c (component_of o) c.manner))
      (joined (slots_behind c.manner k (path ++ c.number ∷ []) o) (calls_behind i k path is)
      ∙ sym (map_append (behind k) (slots_in c.manner (path ++ c.number ∷ []) o) (call_slots i path is)))
      ∙ sym (map_append (behind k) (map (slot i path) (held_cells c (component_of o) c.manner))
      (slots_in c.manner (path ++ c.number ∷ []) o ++ call_slots i path is))

mutual
  pub slots_are : (m : Manner) (i : Instance) → slots_in m [] i ≡ tree_slots m i
  slots_are m (instance n cs is) = ap (λ l. map (slot (instance n cs is) []) (own_cells m n) ++ l) (calls_are (instance n cs is) is)

  calls_are : (i : Instance) (is : Instances) → call_slots i [] is ≡ tree_calls i is
  calls_are i no_instances = refl
  calls_are i (with_instance c k is) =
      ap (λ l. map (slot i []) (held_cells c (component_of k) c.manner) ++ l)
      (joined (slots_behind c.manner c.number [] k ∙ ap (map (behind c.number)) (slots_are c.manner k)) (calls_are i is))

-- ---- at most one at a place

abbrev Cross : List Slot → List Slot → Type 0
Cross xs ys = AllByRecursion (λ q. AllByRecursion (λ r. same_place (place_of r) (place_of q) ≡ false) ys) xs

apart_append : (xs ys : List Slot) → Apart xs → Apart ys → Cross xs ys → Apart (xs ++ ys)
apart_append [] ys a b h = b
apart_append (x ∷ xs) ys a b h =
    (both_parts (λ r. same_place (place_of r) (place_of x) ≡ false) xs ys a.0 h.0, apart_append xs ys a.1 b h.1)

-- whose a place is: the frame's own, held of a call, or of a call's frame
abbrev holder : Spot → Option (Bool × ℕ)
holder (held k x) = Some (false, k)
holder beat = None
holder (named x) = None
holder (memory k) = None
holder (starting k) = None
holder so_far = None

abbrev owner : Place → Option (Bool × ℕ)
owner ([], s) = holder s
owner (k ∷ ks, s) = Some (true, k)

other_owner : (p q : Place) → (owner p ≡ owner q → ⊥) → same_place p q ≡ false
other_owner p q h = go (same_place p q) refl
  where
    go : (b : Bool) → same_place p q ≡ b → b ≡ false
    go true e = absurd (h (ap owner (same_places p q e)))
    go false e = refl

abbrev Owned : Option (Bool × ℕ) → Slot → Type 0
Owned o q = owner (place_of q) ≡ o

cross_owners : (o : Option (Bool × ℕ)) (P : Slot → Type 0) (xs ys : List Slot) → ((r : Slot) → P r → owner (place_of r) ≡ o → ⊥) →
    AllByRecursion (Owned o) xs → AllByRecursion P ys → Cross xs ys
cross_owners o P xs ys f a b =
    all_from (Owned o) (λ q. AllByRecursion (λ r. same_place (place_of r) (place_of q) ≡ false) ys)
    (λ q e. all_from P (λ r. same_place (place_of r) (place_of q) ≡ false)
    (λ r h. other_owner (place_of r) (place_of q) (λ w. f r h (w ∙ e))) ys b) xs a

-- of a call behind position p
abbrev Later : ℕ → Slot → Type 0
Later p q = (b : Bool) × (k : ℕ) × (owner (place_of q) ≡ Some (b, k)) × (p < k)

abbrev number_of_owner : Option (Bool × ℕ) → ℕ
number_of_owner None = 0
number_of_owner (Some w) = w.1

abbrev flag_of_owner : Option (Bool × ℕ) → Bool
flag_of_owner None = false
flag_of_owner (Some w) = w.0

later_not : (p : ℕ) (b : Bool) (r : Slot) → Later p r → owner (place_of r) ≡ Some (b, p) → ⊥
later_not p b r h e =
    let s : h.1 ≡ p = ap number_of_owner (sym h.2 ∙ e) in
    let l : p < h.1 = h.3 in
    omega (arith, s, l)

held_owned : (i : Instance) (c : Site) (vs : List Variable) (ds : List Expression) → AllByRecursion (Owned (Some (false, c.number)))
    (map (slot i []) (held_each c vs ds))
held_owned i c [] ds = tt
held_owned i c (v ∷ vs) [] = tt
held_owned i c (v ∷ vs) (d ∷ ds) = (refl, held_owned i c vs ds)

held_all_owned : (i : Instance) (c : Site) (n : Component) (m : Manner) → AllByRecursion (Owned (Some (false, c.number))) (map (slot i []) (held_cells c n m))
held_all_owned i c n (while_true a) = held_owned i c n.outputs c.defaults
held_all_owned i c n plain = tt
held_all_owned i c n (as_import xs) = tt

behind_owned : (k : ℕ) (qs : List Slot) → AllByRecursion (Owned (Some (true, k))) (map (behind k) qs)
behind_owned k [] = tt
behind_owned k (q ∷ qs) = (refl, behind_owned k qs)

mapped_both : {A B : Type 0} (P : B → Type 0) (f : A → B) (xs : List A) → ((x : A) → P (f x)) → AllByRecursion P (map f xs)
mapped_both P f [] h = tt
mapped_both P f (x ∷ xs) h = (h x, mapped_both P f xs h)

contract_owned : (i : Instance) (m : Manner) (o : Option (List ContractStatement)) → AllByRecursion (Owned None) (map (slot i []) (contract_cells m o))
contract_owned i plain None = tt
contract_owned i (while_true a) None = tt
contract_owned i (as_import xs) None = tt
contract_owned i plain (Some cs) = (refl, tt)
contract_owned i (while_true a) (Some cs) = (refl, tt)
contract_owned i (as_import xs) (Some cs) = tt

parted : (P : Slot → Type 0) (f : Cell → Slot) (xs ys : List Cell) → AllByRecursion P (map f xs) → AllByRecursion P (map f ys) →
    AllByRecursion P (map f (xs ++ ys))
parted P f xs ys a b = subst (AllByRecursion P) (sym (map_append f xs ys)) (both_parts P (map f xs) (map f ys) a b)

-- what holds of the cells of a frame's own
pub own_all : (i : Instance) (m : Manner) (n : Component) (P : Slot → Type 0) → P (slot i [] beat_cell) →
    AllByRecursion (λ v. P (slot i [] (name_cell v))) (variables n) →
    AllByRecursion (λ x. P (slot i [] (memory_cell x))) (in_order (λ x. x.number) (memories n)) →
    AllByRecursion (λ x. P (slot i [] (start_cell x))) (in_order (λ x. x.number) (starts n)) →
    AllByRecursion P (map (slot i []) (contract_cells m n.contract)) → AllByRecursion P (map (slot i []) (own_cells m n))
own_all i m n P b v x s c = (
  b,
  parted P (slot i []) (map name_cell (variables n)) (map memory_cell (in_order (λ x. x.number) (memories n))
      ++ (map start_cell (in_order (λ x. x.number) (starts n)) ++ contract_cells m n.contract))
      (all_mapped P (slot i []) (map name_cell (variables n)) (all_mapped (λ q. P (slot i [] q)) name_cell (variables n) v))
      (parted P (slot i []) (map memory_cell (in_order (λ x. x.number) (memories n)))
      (map start_cell (in_order (λ x. x.number) (starts n)) ++ contract_cells m n.contract)
      (all_mapped P (slot i []) (map memory_cell (in_order (λ x. x.number) (memories n)))
      (all_mapped (λ q. P (slot i [] q)) memory_cell (in_order (λ x. x.number) (memories n)) x))
      (parted P (slot i []) (map start_cell (in_order (λ x. x.number) (starts n))) (contract_cells m n.contract)
      (all_mapped P (slot i []) (map start_cell (in_order (λ x. x.number) (starts n)))
      (all_mapped (λ q. P (slot i [] q)) start_cell (in_order (λ x. x.number) (starts n)) s)) c)),
)

own_owned : (i : Instance) (m : Manner) (n : Component) → AllByRecursion (Owned None) (map (slot i []) (own_cells m n))
own_owned i m n =
    own_all i m n (Owned None) refl (everywhere (λ v. Owned None (slot i [] (name_cell v))) (λ v. refl) (variables n))
    (everywhere (λ x. Owned None (slot i [] (memory_cell x))) (λ x. refl) (in_order (λ x. x.number) (memories n)))
    (everywhere (λ x. Owned None (slot i [] (start_cell x))) (λ x. refl) (in_order (λ x. x.number) (starts n)))
    (contract_owned i m n.contract)

-- ---- a frame's own

contract_apart : (m : Manner) (o : Option (List ContractStatement)) → CellsApart (contract_cells m o)
contract_apart plain None = tt
contract_apart (while_true a) None = tt
contract_apart (as_import xs) None = tt
contract_apart plain (Some cs) = (tt, tt)
contract_apart (while_true a) (Some cs) = (tt, tt)
contract_apart (as_import xs) (Some cs) = tt

contract_each : (P : Cell → Type 0) → P sofar_cell → (m : Manner) (o : Option (List ContractStatement)) → AllByRecursion P (contract_cells m o)
contract_each P h plain None = tt
contract_each P h (while_true a) None = tt
contract_each P h (as_import xs) None = tt
contract_each P h plain (Some cs) = (h, tt)
contract_each P h (while_true a) (Some cs) = (h, tt)
contract_each P h (as_import xs) (Some cs) = tt

module _ (m : Manner) (n : Component) (u : Unit {0}) where
  abbrev name_cells : List Cell
  name_cells = map name_cell (variables n)

  abbrev memory_cells : List Cell
  memory_cells = map memory_cell (in_order (λ p. p.number) (memories n))

  abbrev start_cells : List Cell
  start_cells = map start_cell (in_order (λ p. p.number) (starts n))

  abbrev contract_part : List Cell
  contract_part = contract_cells m n.contract

  each_name : (P : Cell → Type 0) → ((v : Variable) → P (name_cell v)) → AllByRecursion P name_cells
  each_name P h = all_mapped P name_cell (variables n) (everywhere (λ v. P (name_cell v)) h (variables n))

  each_memory : (P : Cell → Type 0) → ((x : Memory) → P (memory_cell x)) → AllByRecursion P memory_cells
  each_memory P h = all_mapped P memory_cell (in_order (λ p. p.number) (memories n))
      (everywhere (λ x. P (memory_cell x)) h (in_order (λ p. p.number) (memories n)))

  each_start : (P : Cell → Type 0) → ((a : Start) → P (start_cell a)) → AllByRecursion P start_cells
  each_start P h = all_mapped P start_cell (in_order (λ p. p.number) (starts n))
      (everywhere (λ a. P (start_cell a)) h (in_order (λ p. p.number) (starts n)))

  behind_starts : (P : Cell → Type 0) → ((a : Start) → P (start_cell a)) → P sofar_cell → AllByRecursion P (start_cells ++ contract_part)
  behind_starts P s c = both_parts P start_cells contract_part (each_start P s) (contract_each P c m n.contract)

  behind_memories : (P : Cell → Type 0) → ((x : Memory) → P (memory_cell x)) → ((a : Start) → P (start_cell a)) → P sofar_cell →
      AllByRecursion P (memory_cells ++ (start_cells ++ contract_part))
  behind_memories P x s c = both_parts P memory_cells (start_cells ++ contract_part) (each_memory P x) (behind_starts P s c)

own_cells_apart : (m : Manner) (n : Component) → CellsApart (map name_cell (variables n)) → CellsApart (own_cells m n)
own_cells_apart m n names = (
  both_parts (λ r. same_spot (spot_of r) beat ≡ false) (map name_cell (variables n)) _
      (each_name m n tt (λ r. same_spot (spot_of r) beat ≡ false) (λ v. refl))
      (behind_memories m n tt (λ r. same_spot (spot_of r) beat ≡ false) (λ x. refl) (λ a. refl) refl),
  apart_both (map name_cell (variables n)) _ names
      (apart_both (memory_cells m n tt) (start_cells m n tt ++ contract_part m n tt)
      (memories_apart (in_order (λ p. p.number) (memories n)) (in_order_differ (λ p. p.number) (memories n)))
      (apart_both (start_cells m n tt) (contract_part m n tt)
      (starts_apart (in_order (λ p. p.number) (starts n)) (in_order_differ (λ p. p.number) (starts n)))
      (contract_apart m n.contract)
      (each_start m n tt (λ c. AllByRecursion (λ r. same_spot (spot_of r) (spot_of c) ≡ false) (contract_part m n tt))
      (λ a. contract_each (λ r. same_spot (spot_of r) (starting a.number) ≡ false) refl m n.contract)))
      (each_memory m n tt (λ c. AllByRecursion (λ r. same_spot (spot_of r) (spot_of c) ≡ false) (start_cells m n tt ++ contract_part m n tt))
      (λ x. behind_starts m n tt (λ r. same_spot (spot_of r) (memory x.number) ≡ false) (λ a. refl) refl)))
      (each_name m n tt (λ c. AllByRecursion (λ r. same_spot (spot_of r) (spot_of c) ≡ false)
      (memory_cells m n tt ++ (start_cells m n tt ++ contract_part m n tt)))
      (λ v. behind_memories m n tt (λ r. same_spot (spot_of r) (named v.name.text) ≡ false) (λ x. refl) (λ a. refl) refl)),
)

here_apart : (i : Instance) (cs : List Cell) → CellsApart cs → Apart (map (slot i []) cs)
here_apart i [] a = tt
here_apart i (c ∷ cs) a =
    (all_mapped (λ r. same_place (place_of r) ([], spot_of c) ≡ false) (slot i []) cs a.0, here_apart i cs a.1)

-- of a call's outputs
held_apart : (c : Site) (vs : List Variable) (ds : List Expression) → CellsApart (map name_cell vs) → CellsApart (held_each c vs ds)
held_apart c [] ds a = tt
held_apart c (v ∷ vs) [] a = tt
held_apart c (v ∷ vs) (d ∷ ds) a = (others vs ds a.0, held_apart c vs ds a.1)
  where
    never : (b d : Bool) → d ≡ false → (b && d) ≡ false
    never true d e = e
    never false d e = refl

    others : (ws : List Variable) (es : List Expression) → AllByRecursion (λ r. same_spot (spot_of r) (named v.name.text) ≡ false) (map name_cell ws) →
        AllByRecursion (λ r. same_spot (spot_of r) (held c.number v.name.text) ≡ false) (held_each c ws es)
    others [] es h = tt
    others (w ∷ ws) [] h = tt
    others (w ∷ ws) (e ∷ es) h = (never (c.number == c.number) (bytes_eq w.name.text v.name.text) h.0, others ws es h.1)

held_all_apart : (c : Site) (n : Component) (m : Manner) → CellsApart (map name_cell n.outputs) → CellsApart (held_cells c n m)
held_all_apart c n (while_true a) d = held_apart c n.outputs c.defaults d
held_all_apart c n plain d = tt
held_all_apart c n (as_import xs) d = tt

behind_apart : (k : ℕ) (qs : List Slot) → Apart qs → Apart (map (behind k) qs)
behind_apart k [] a = tt
behind_apart k (q ∷ qs) a = (others qs a.0, behind_apart k qs a.1)
  where
    never : (b d e : Bool) → (d && e) ≡ false → ((b && d) && e) ≡ false
    never true d e h = h
    never false d e h = refl

    others : (rs : List Slot) → AllByRecursion (λ r. same_place (place_of r) (place_of q) ≡ false) rs →
        AllByRecursion (λ r. same_place (place_of r) (place_of (behind k q)) ≡ false) (map (behind k) rs)
    others [] h = tt
    others (r ∷ rs) h = (never (k == k) _ _ h.0, others rs h.1)

-- ---- the tree

once_of : (i : Instance) → TreeFits IsKnown i → CellsApart (map name_cell (variables (component_of i)))
once_of (instance d cs is) t = names_apart (variables d) t.0.once

outputs_of_tree : (i : Instance) → TreeFits IsKnown i → CellsApart (map name_cell (component_of i).outputs)
outputs_of_tree (instance d cs is) t = names_apart d.outputs (outputs_distinct d t.0.once)

mutual
  tree_apart : (m : Manner) (i : Instance) → TreeFits IsKnown i → Apart (tree_slots m i)
  tree_apart m (instance d cs is) t =
      let i : Instance = instance d cs is in
      let q : Apart (tree_calls i is) × AllByRecursion (Later 0) (tree_calls i is) = calls_apart i is 0 t.1 in
      apart_append (map (slot i []) (own_cells m d)) (tree_calls i is)
      (here_apart i (own_cells m d) (own_cells_apart m d (once_of i t))) q.0
      (cross_owners None (Later 0) (map (slot i []) (own_cells m d)) (tree_calls i is)
      (λ r h e. none-some (h.0, h.1) (sym e ∙ h.2)) (own_owned i m d) q.1)

  calls_apart : (i : Instance) (is : Instances) (p : ℕ) → CallsFit IsKnown i is p → Apart (tree_calls i is) × AllByRecursion (Later p) (tree_calls i is)
  calls_apart i no_instances p t = (tt, tt)
  calls_apart i (with_instance c k is) p t =
      let number : c.number ≡ suc p = t.0.number in
      let rest : Apart (tree_calls i is) × AllByRecursion (Later (suc p)) (tree_calls i is) = calls_apart i is (suc p) t.2 in
      let later : AllByRecursion (Later c.number) (tree_calls i is) = subst (λ l. AllByRecursion (Later l) (tree_calls i is)) (sym number) rest.1 in
      let hs : List Slot = map (slot i []) (held_cells c (component_of k) c.manner) in
      let bs : List Slot = map (behind c.number) (tree_slots c.manner k) in
      let held_here : AllByRecursion (Owned (Some (false, c.number))) hs = held_all_owned i c (component_of k) c.manner in
      let behind_here : AllByRecursion (Owned (Some (true, c.number))) bs = behind_owned c.number (tree_slots c.manner k) in
      let two : Apart (bs ++ tree_calls i is) =
      apart_append bs (tree_calls i is) (behind_apart c.number (tree_slots c.manner k) (tree_apart c.manner k t.1)) rest.0
      (cross_owners (Some (true, c.number)) (Later c.number) bs (tree_calls i is) (λ r h e. later_not c.number true r h e) behind_here later) in (
        apart_append hs (bs ++ tree_calls i is)
            (here_apart i (held_cells c (component_of k) c.manner) (held_all_apart c (component_of k) c.manner (outputs_of_tree k t.1))) two
            (cross_owners (Some (false, c.number)) (λ r. Owned (Some (true, c.number)) r ⊎ Later c.number r) hs (bs ++ tree_calls i is)
            (λ r h e. neither c.number r h e) held_here
            (both_parts (λ r. Owned (Some (true, c.number)) r ⊎ Later c.number r) bs (tree_calls i is)
            (all_from (Owned (Some (true, c.number))) (λ r. Owned (Some (true, c.number)) r ⊎ Later c.number r) (λ r h. inl h) bs behind_here)
            (all_from (Later c.number) (λ r. Owned (Some (true, c.number)) r ⊎ Later c.number r) (λ r h. inr h) (tree_calls i is) later))),
        both_parts (Later p) hs (bs ++ tree_calls i is)
            (all_from (Owned (Some (false, c.number))) (Later p) (λ r e. (false, c.number, e, omega (arith, number))) hs held_here)
            (both_parts (Later p) bs (tree_calls i is)
            (all_from (Owned (Some (true, c.number))) (Later p) (λ r e. (true, c.number, e, omega (arith, number))) bs behind_here)
            (all_from (Later (suc p)) (Later p) (λ r h. (h.0, h.1, h.2, less p h.1 h.3)) (tree_calls i is) rest.1)),
      )
    where
      less : (p k : ℕ) → suc p < k → p < k
      less p k l = omega (arith, l)

      neither : (k : ℕ) (r : Slot) → Owned (Some (true, k)) r ⊎ Later k r → owner (place_of r) ≡ Some (false, k) → ⊥
      neither k r (inl h) e = false≢true (ap flag_of_owner (sym e ∙ h))
      neither k r (inr h) e = later_not k false r h e

pub slots_apart : (i : Instance) → TreeFits IsKnown i → Apart (slots i)
slots_apart i t = subst Apart (sym (slots_are plain i)) (tree_apart plain i t)

pub slots_numbered : (i : Instance) → TreeFits IsKnown i → (k : ℕ) (q : Slot) → slice_get (slots i) k ≡ Some q →
    number_in (slots i) (place_of q) ≡ k
slots_numbered i t = own_number (slots i) (slots_apart i t)
