-- Each place of a declaration whose texts fit has a variable of its type, and each variable has a place.
use Rattle.std.proofs.Common.{◌≡◌, ℕ, zero, suc, pred, ◌<◌, ◌≤◌, ◌+◌, Bool, true, false, cond, ◌||◌, List, [], ◌∷◌, ◌++◌, map, length, Option, Some, None, option_map, unwrap_or, is_some, refl, sym, ap, ◌∙◌, subst, arith}
use Rattle.std.specs.Prelude.{◌==◌, find}
use Rattle.std.specs.List.{AllByRecursion}
use Rattle.std.specs.Str.{bytes_eq}
use Rattle.std.proofs.Math.Logic.{◌⊎◌, inl, inr}
use Rattle.std.proofs.lemmas.Bool.{false≢true, eqb-true}
use Rattle.std.proofs.lemmas.Option.{none-some}
use Rattle.lus_tree.specs.declared.place.Sort.{Sort}
use Rattle.lus_tree.specs.declared.place.Sort.TheVariants.{Bool as Flags}
use Rattle.lus_tree.specs.Tree.{Name, Expression, Expressions, ContractStatement, Variable, Component}
use Rattle.lus_meaning.specs.Scene.{Manner, plain, while_true, as_import, Site, Instance, Instances, instance, no_instances, with_instance, component_of, calls_of, instance_at, outputs_of, variables}
use Rattle.lus_meaning.specs.Program.{in_order}
use Rattle.lus_meaning.specs.Occurrences.{Memory, Start, memories, starts}
use Rattle.lus_meaning.specs.Run.{sort_of, sort_of_name}
use Rattle.lus_meaning.specs.Depends.{named_in}
use Rattle.lus_meaning.specs.Slots.{Cell, name_cell, memory_cell, start_cell, own_cells, contract_cells, held_each, held_cells, Slot, slot, slots}
use Rattle.lus_meaning.proofs.InOrder.{in_order_all}
use Rattle.lus_meaning.proofs.Lists.{all_from, all_from_both, both_parts, map_append}
use Rattle.lus_meaning.proofs.Unique.{same_bytes}
use Rattle.rule_laws.proofs.Truths.{same_some}
use Rattle.sys_meaning.specs.Slot.{Spot, beat, named, memory, starting, so_far, held, Place, spot_of, place_of, same_place}
use Rattle.sys_meaning.specs.Defaults.{site_of}
use Rattle.sys_meaning.specs.Defaults as defaults
use Rattle.sys_meaning.specs.WellTyped.{HasPlaceIn, IsKnown, count_of, slot_sort, HasSpot, HasPlace, OwnFits, CallFits, TreeFits, CallsFit, MemoryFits, StartFits, StreamFits, IsHeldCall, OutputFits}
use Rattle.sys_meaning.proofs.Cells.{same_place_self, Apart, all_mapped}
use Rattle.sys_meaning.proofs.Cells.{listed_each}
use Rattle.sys_meaning.proofs.Found.{found, found_number, found_in_order}
use Rattle.sys_meaning.proofs.Owned.{found_one}
use Rattle.path_laws.proofs.OnePlace.{behind, tree_slots, tree_calls, slots_are, own_all, slots_apart}
use Rattle.path_laws.proofs.Places.{HeldMany}
use Rattle.sys_meaning.specs.System.{has_so_far}

-- ---- a slot at a place

-- some slot is there, of that type
abbrev pub HasSlot : List Slot → Place → Sort → Type 0
HasSlot [] p z = ⊥
HasSlot (q ∷ qs) p z = ((place_of q ≡ p) × (q.sort ≡ z)) ⊎ HasSlot qs p z

has_left : (xs ys : List Slot) (p : Place) (z : Sort) → HasSlot xs p z → HasSlot (xs ++ ys) p z
has_left [] ys p z h = absurd h
has_left (x ∷ xs) ys p z (inl e) = inl e
has_left (x ∷ xs) ys p z (inr h) = inr (has_left xs ys p z h)

has_right : (xs ys : List Slot) (p : Place) (z : Sort) → HasSlot ys p z → HasSlot (xs ++ ys) p z
has_right [] ys p z h = h
has_right (x ∷ xs) ys p z h = inr (has_right xs ys p z h)

other_there : (qs : List Slot) (p x : Place) (z : Sort) → HasSlot qs p z → AllByRecursion (λ r. same_place (place_of r) x ≡ false) qs →
    same_place p x ≡ false
other_there [] p x z h a = absurd h
other_there (q ∷ qs) p x z (inl e) a = subst (λ y. same_place y x ≡ false) e.0 a.0
other_there (q ∷ qs) p x z (inr h) a = other_there qs p x z h a.1

slot_found : (qs : List Slot) (p : Place) (z : Sort) → Apart qs → HasSlot qs p z → slot_sort IsKnown qs p ≡ Some z
slot_found [] p z a h = absurd h
slot_found (q ∷ qs) p z a (inl e) =
    ap (λ b. cond b (Some q.sort) (slot_sort IsKnown qs p))
    (subst (λ y. same_place y (place_of q) ≡ true) e.0 (same_place_self (place_of q))) ∙ ap Some e.1
slot_found (q ∷ qs) p z a (inr h) =
    ap (λ b. cond b (Some q.sort) (slot_sort IsKnown qs p)) (other_there qs p (place_of q) z h a.0) ∙ slot_found qs p z a.1 h

has_behind : (k : ℕ) (qs : List Slot) (ks : List ℕ) (s : Spot) (z : Sort) → HasSlot qs (ks, s) z → HasSlot (map (behind k) qs) (k ∷ ks, s) z
has_behind k [] ks s z h = absurd h
has_behind k (q ∷ qs) ks s z (inl e) = inl (ap (λ (p : Place). (k ∷ p.0, p.1)) e.0, e.1)
has_behind k (q ∷ qs) ks s z (inr h) = inr (has_behind k qs ks s z h)

-- ---- a frame's own

module _ (i : Instance) where
  here : Cell → Slot
  here c = slot i [] c

  left_cells : (xs ys : List Cell) (p : Place) (z : Sort) → HasSlot (map (slot i []) xs) p z → HasSlot (map (slot i []) (xs ++ ys)) p z
  left_cells xs ys p z h =
      subst (λ l. HasSlot l p z) (sym (map_append (slot i []) xs ys)) (has_left (map (slot i []) xs) (map (slot i []) ys) p z h)

  right_cells : (xs ys : List Cell) (p : Place) (z : Sort) → HasSlot (map (slot i []) ys) p z → HasSlot (map (slot i []) (xs ++ ys)) p z
  right_cells xs ys p z h =
      subst (λ l. HasSlot l p z) (sym (map_append (slot i []) xs ys)) (has_right (map (slot i []) xs) (map (slot i []) ys) p z h)

  named_slot : (x : Name) (d : Sort) (vs : List Variable) → named_in x (map (λ v. v.name.text) vs) ≡ true →
      HasSlot (map (slot i []) (map name_cell vs)) ([], named x) (unwrap_or (option_map (λ v. v.sort) (find (λ v. bytes_eq x v.name.text) vs)) d)
  named_slot x d [] e = absurd (false≢true e)
  named_slot x d (v ∷ vs) e = go (bytes_eq x v.name.text) refl e (named_slot x d vs)
    where
      go : (c : Bool) → bytes_eq x v.name.text ≡ c → (c || named_in x (map (λ v. v.name.text) vs)) ≡ true →
          (named_in x (map (λ v. v.name.text) vs) ≡ true → HasSlot (map (slot i []) (map name_cell vs)) ([], named x)
          (unwrap_or (option_map (λ v. v.sort) (find (λ v. bytes_eq x v.name.text) vs)) d)) →
          ((place_of (slot i [] (name_cell v)) ≡ ([], named x))
          × (v.sort ≡ unwrap_or (option_map (λ v. v.sort) (cond c (Some v) (find (λ v. bytes_eq x v.name.text) vs))) d))
          ⊎ HasSlot (map (slot i []) (map name_cell vs)) ([], named x)
          (unwrap_or (option_map (λ v. v.sort) (cond c (Some v) (find (λ v. bytes_eq x v.name.text) vs))) d)
      go true m h r = inl (ap (λ y. ([], named y)) (sym (same_bytes x v.name.text m)), refl)
      go false m h r = inr (r h)

  memory_slot : (k : ℕ) (m : Memory) (ms : List Memory) → found (λ (x : Memory). x.number) k ms ≡ Some m →
      HasSlot (map (slot i []) (map memory_cell ms)) ([], memory k) (sort_of i m.operand)
  memory_slot k m [] e = absurd (none-some m e)
  memory_slot k m (x ∷ ms) e = go (x.number == k) refl e (memory_slot k m ms)
    where
      go : (c : Bool) → (x.number == k) ≡ c → cond c (Some x) (found (λ (x : Memory). x.number) k ms) ≡ Some m →
          (found (λ (x : Memory). x.number) k ms ≡ Some m → HasSlot (map (slot i []) (map memory_cell ms)) ([], memory k) (sort_of i m.operand)) →
          HasSlot (map (slot i []) (map memory_cell (x ∷ ms))) ([], memory k) (sort_of i m.operand)
      go true q h r = inl (ap (λ n. ([], memory n)) (eqb-true x.number k q), ap (λ (y : Memory). sort_of i y.operand) (same_some h))
      go false q h r = inr (r h)

  start_slot : (k : ℕ) (m : Start) (ms : List Start) → found (λ (x : Start). x.number) k ms ≡ Some m →
      HasSlot (map (slot i []) (map start_cell ms)) ([], starting k) Flags
  start_slot k m [] e = absurd (none-some m e)
  start_slot k m (x ∷ ms) e = go (x.number == k) refl e (start_slot k m ms)
    where
      go : (c : Bool) → (x.number == k) ≡ c → cond c (Some x) (found (λ (x : Start). x.number) k ms) ≡ Some m →
          (found (λ (x : Start). x.number) k ms ≡ Some m → HasSlot (map (slot i []) (map start_cell ms)) ([], starting k) Flags) →
          HasSlot (map (slot i []) (map start_cell (x ∷ ms))) ([], starting k) Flags
      go true q h r = inl (ap (λ n. ([], starting n)) (eqb-true x.number k q), refl)
      go false q h r = inr (r h)

  contract_slot : (m : Manner) (d : Component) → has_so_far m d ≡ true → HasSlot (map (slot i []) (contract_cells m d.contract)) ([], so_far) Flags
  contract_slot plain d e = some d.contract e
    where
      some : (o : Option (List ContractStatement)) → is_some o ≡ true → HasSlot (map (slot i []) (contract_cells plain o)) ([], so_far) Flags
      some None e = absurd (false≢true e)
      some (Some cs) e = inl (refl, refl)
  contract_slot (while_true a) d e = some d.contract e
    where
      some : (o : Option (List ContractStatement)) → is_some o ≡ true → HasSlot (map (slot i []) (contract_cells (while_true a) o)) ([], so_far) Flags
      some None e = absurd (false≢true e)
      some (Some cs) e = inl (refl, refl)
  contract_slot (as_import xs) d e = absurd (false≢true e)

  module _ (m : Manner) (own : OwnFits i (IsKnown i)) where
    abbrev n : Component
    n = component_of i

    abbrev ncells : List Cell
    ncells = map name_cell (variables (component_of i))

    abbrev mcells : List Cell
    mcells = map memory_cell (in_order (λ p. p.number) (memories (component_of i)))

    abbrev scells : List Cell
    scells = map start_cell (in_order (λ p. p.number) (starts (component_of i)))

    abbrev ccells : List Cell
    ccells = contract_cells m (component_of i).contract

    abbrev OwnSlot : Spot → Sort → Type 0
    OwnSlot s z = HasSlot (map (slot i []) (own_cells m (component_of i))) ([], s) z

    pub beat_slot : (z : Sort) → z ≡ Flags → OwnSlot beat z
    beat_slot z e = inl (refl, sym e)

    pub own_named : (x : Name) (z : Sort) → HasSpot i (IsKnown i) m (named x) z → OwnSlot (named x) z
    own_named x z h = subst (OwnSlot (named x)) h.2 (inr (left_cells ncells (mcells ++ (scells ++ ccells)) ([], named x) _
        (named_slot x _ (variables (component_of i)) h.0)))

    memory_bounds : (k : ℕ) (x : Memory) → found (λ (y : Memory). y.number) k (memories (component_of i)) ≡ Some x →
        (1 ≤ k) × (k < 1 + length (memories (component_of i)))
    memory_bounds k x e =
        let f : MemoryFits i (IsKnown i) x = found_one (MemoryFits i (IsKnown i)) (λ y. y.number == k) (memories (component_of i)) x own.memories e in
        let s : x.number ≡ k = found_number (λ (y : Memory). y.number) k (memories (component_of i)) x e in
        let c : x.number ≡ suc (pred x.number) = f.counted in
        let l : pred x.number < length (memories (component_of i)) = f.listed in
        (omega (arith, s, c), omega (arith, s, c, l))

    start_bounds : (k : ℕ) (x : Start) → found (λ (y : Start). y.number) k (starts (component_of i)) ≡ Some x →
        (1 ≤ k) × (k < 1 + length (starts (component_of i)))
    start_bounds k x e =
        let f : StartFits i (IsKnown i) x = found_one (StartFits i (IsKnown i)) (λ y. y.number == k) (starts (component_of i)) x own.starts e in
        let s : x.number ≡ k = found_number (λ (y : Start). y.number) k (starts (component_of i)) x e in
        let c : x.number ≡ suc (pred x.number) = f.counted in
        let l : pred x.number < length (starts (component_of i)) = f.listed in
        (omega (arith, s, c), omega (arith, s, c, l))

    pub own_memory : (k : ℕ) (z : Sort) → HasSpot i (IsKnown i) m (memory k) z → OwnSlot (memory k) z
    own_memory k z h =
        let x : Memory = record { number = k; clock = h.0; operand = h.1 } in
        let b : (1 ≤ k) × (k < 1 + length (memories (component_of i))) = memory_bounds k x h.2 in
        subst (OwnSlot (memory k)) h.3 (inr (right_cells ncells (mcells ++ (scells ++ ccells)) ([], memory k) (sort_of i h.1)
        (left_cells mcells (scells ++ ccells) ([], memory k) (sort_of i h.1)
        (memory_slot k x (in_order (λ p. p.number) (memories (component_of i)))
        (found_in_order (λ (y : Memory). y.number) (memories (component_of i)) k x h.2 b.0 b.1)))))

    pub own_start : (k : ℕ) (z : Sort) → HasSpot i (IsKnown i) m (starting k) z → OwnSlot (starting k) z
    own_start k z h =
        let x : Start = record { number = k; clock = h.0 } in
        let b : (1 ≤ k) × (k < 1 + length (starts (component_of i))) = start_bounds k x h.1 in
        subst (OwnSlot (starting k)) (sym h.2) (inr (right_cells ncells (mcells ++ (scells ++ ccells)) ([], starting k) Flags
        (right_cells mcells (scells ++ ccells) ([], starting k) Flags (left_cells scells ccells ([], starting k) Flags
        (start_slot k x (in_order (λ p. p.number) (starts (component_of i)))
        (found_in_order (λ (y : Start). y.number) (starts (component_of i)) k x h.1 b.0 b.1))))))

    pub own_sofar : (z : Sort) → HasSpot i (IsKnown i) m so_far z → OwnSlot so_far z
    own_sofar z h = subst (OwnSlot so_far) (sym h.0) (inr (right_cells ncells (mcells ++ (scells ++ ccells)) ([], so_far) Flags
        (right_cells mcells (scells ++ ccells) ([], so_far) Flags (right_cells scells ccells ([], so_far) Flags
        (contract_slot m (component_of i) h.1)))))

  -- ---- what is held of a call

  held_slot : (c : Site) (S : Name → Sort) (x : Name) (vs : List Variable) (ds : List Expression) → length ds ≡ length vs →
      AllByRecursion (λ v. S v.name.text ≡ v.sort) vs → named_in x (map (λ v. v.name.text) vs) ≡ true →
      HasSlot (map (slot i []) (held_each c vs ds)) ([], held c.number x) (S x)
  held_slot c S x [] ds l a e = absurd (false≢true e)
  held_slot c S x (v ∷ vs) [] l a e = absurd (omega (arith, l))
  held_slot c S x (v ∷ vs) (d ∷ ds) l a e = go (bytes_eq x v.name.text) refl e (held_slot c S x vs ds (omega (arith, l)) a.1)
    where
      go : (b : Bool) → bytes_eq x v.name.text ≡ b → (b || named_in x (map (λ v. v.name.text) vs)) ≡ true →
          (named_in x (map (λ v. v.name.text) vs) ≡ true → HasSlot (map (slot i []) (held_each c vs ds)) ([], held c.number x) (S x)) →
          HasSlot (map (slot i []) (held_each c (v ∷ vs) (d ∷ ds))) ([], held c.number x) (S x)
      go true m h r =
          inl (ap (λ y. ([], held c.number y)) (sym (same_bytes x v.name.text m)), sym a.0 ∙ ap S (sym (same_bytes x v.name.text m)))
      go false m h r = inr (r h)

-- ---- the tree

abbrev mutual
  pub HeldTree : Instance → Type 0
  HeldTree (instance d cs is) = CallsHeld is

  pub CallsHeld : Instances → Type 0
  CallsHeld no_instances = Unit {0}
  CallsHeld (with_instance c k is) = HeldMany c.manner c.defaults (component_of k).outputs × HeldTree k × CallsHeld is

-- what a call has
record CallThere (i : Instance) (c : Site) (k : Instance) : Type 0 where
  many : HeldMany c.manner c.defaults (component_of k).outputs
  held_below : HeldTree k
  tree : TreeFits IsKnown k

call_there : (i : Instance) (is : Instances) (q : ℕ) → CallsFit IsKnown i is q → CallsHeld is → (l : ℕ) → l < count_of is →
    CallThere i (defaults.site_at is l) (instance_at is l)
call_there i no_instances q t h l b = absurd (omega (arith, b))
call_there i (with_instance c k is) q t h zero b = record { many = h.0; held_below = h.1; tree = t.1 }
call_there i (with_instance c k is) q t h (suc l) b = call_there i is (suc q) t.2 h.2 l (omega (arith, b))

held_in : (i : Instance) (is : Instances) (l : ℕ) (p : Place) (z : Sort) → l < count_of is →
    HasSlot (map (slot i []) (held_cells (defaults.site_at is l) (component_of (instance_at is l)) (defaults.site_at is l).manner)) p z →
    HasSlot (tree_calls i is) p z
held_in i no_instances l p z b h = absurd (omega (arith, b))
held_in i (with_instance c k is) zero p z b h =
    has_left (map (slot i []) (held_cells c (component_of k) c.manner)) (map (behind c.number) (tree_slots c.manner k) ++ tree_calls i is) p z h
held_in i (with_instance c k is) (suc l) p z b h =
    has_right (map (slot i []) (held_cells c (component_of k) c.manner)) (map (behind c.number) (tree_slots c.manner k) ++ tree_calls i is) p z
    (has_right (map (behind c.number) (tree_slots c.manner k)) (tree_calls i is) p z (held_in i is l p z (omega (arith, b)) h))

behind_in : (i : Instance) (is : Instances) (l : ℕ) (p : Place) (z : Sort) → l < count_of is →
    HasSlot (map (behind (defaults.site_at is l).number) (tree_slots (defaults.site_at is l).manner (instance_at is l))) p z →
    HasSlot (tree_calls i is) p z
behind_in i no_instances l p z b h = absurd (omega (arith, b))
behind_in i (with_instance c k is) zero p z b h =
    has_right (map (slot i []) (held_cells c (component_of k) c.manner)) (map (behind c.number) (tree_slots c.manner k) ++ tree_calls i is) p z
    (has_left (map (behind c.number) (tree_slots c.manner k)) (tree_calls i is) p z h)
behind_in i (with_instance c k is) (suc l) p z b h =
    has_right (map (slot i []) (held_cells c (component_of k) c.manner)) (map (behind c.number) (tree_slots c.manner k) ++ tree_calls i is) p z
    (has_right (map (behind c.number) (tree_slots c.manner k)) (tree_calls i is) p z (behind_in i is l p z (omega (arith, b)) h))

abbrev is_held : Manner → Bool
is_held (while_true a) = true
is_held plain = false
is_held (as_import xs) = false

held_place : (i : Instance) (c : Site) (k : Instance) (S : Name → Sort) (x : Name) (m : Manner) (a : Expression) → m ≡ while_true a →
    HeldMany m c.defaults (component_of k).outputs → AllByRecursion (λ v. S v.name.text ≡ v.sort) (component_of k).outputs →
    named_in x (outputs_of k) ≡ true → HasSlot (map (slot i []) (held_cells c (component_of k) m)) ([], held c.number x) (S x)
held_place i c k S x (while_true b) a e l s h = held_slot i c S x (component_of k).outputs c.defaults l s h
held_place i c k S x plain a e l s h = absurd (false≢true (ap is_held e))
held_place i c k S x (as_import xs) a e l s h = absurd (false≢true (ap is_held e))

-- the place of what is held of a call
held_there : (i : Instance) → TreeFits IsKnown i → HeldTree i → (m : Manner) (k : ℕ) (x : Name) (z : Sort) → HasSpot i (IsKnown i) m (held k x) z →
    HasSlot (tree_calls i (calls_of i)) ([], held k x) z
held_there (instance d cs is) t g m zero x z h = let l : 0 < 0 = h.3.call.counted in absurd (omega (arith, l))
held_there (instance d cs is) t g m (suc k) x z h =
    let i : Instance = instance d cs is in
    let there : CallThere i (defaults.site_at is k) (instance_at is k) = call_there i is 0 t.1 g k h.3.call.listed in
    let c : Site = defaults.site_at is k in
    let S : Name → Sort = sort_of_name (instance_at is k) in
    subst (HasSlot (tree_calls i is) ([], held (suc k) x)) h.5
    (subst (λ l. HasSlot (tree_calls i is) ([], held l x) (S x)) h.3.call.number
    (held_in i is k ([], held c.number x) (S x) h.3.call.listed
    (held_place i c (instance_at is k) S x c.manner h.1 h.3.manner there.many
    (all_from (OutputFits i (IsKnown i) (suc k)) (λ v. S v.name.text ≡ v.sort) (λ v o. o.1) (component_of (instance_at is k)).outputs h.3.call.named)
    h.4)))

own_of : (i : Instance) → TreeFits IsKnown i → OwnFits i (IsKnown i)
own_of (instance d cs is) t = t.0

own_in : (m : Manner) (i : Instance) (p : Place) (z : Sort) → HasSlot (map (slot i []) (own_cells m (component_of i))) p z → HasSlot (tree_slots m i) p z
own_in m (instance d cs is) p z h =
    has_left (map (slot (instance d cs is) []) (own_cells m d)) (tree_calls (instance d cs is) is) p z h

call_in : (m : Manner) (i : Instance) (p : Place) (z : Sort) → HasSlot (tree_calls i (calls_of i)) p z → HasSlot (tree_slots m i) p z
call_in m (instance d cs is) p z h =
    has_right (map (slot (instance d cs is) []) (own_cells m d)) (tree_calls (instance d cs is) is) p z h

place_slot : (ks : List ℕ) (m : Manner) (i : Instance) → TreeFits IsKnown i → HeldTree i → (s : Spot) (z : Sort) →
    HasPlaceIn IsKnown m ks i s z → HasSlot (tree_slots m i) (ks, s) z
place_slot [] m i t g beat z h = own_in m i ([], beat) z (beat_slot i m (own_of i t) z h)
place_slot [] m i t g (named x) z h = own_in m i ([], named x) z (own_named i m (own_of i t) x z h)
place_slot [] m i t g (memory k) z h = own_in m i ([], memory k) z (own_memory i m (own_of i t) k z h)
place_slot [] m i t g (starting k) z h = own_in m i ([], starting k) z (own_start i m (own_of i t) k z h)
place_slot [] m i t g so_far z h = own_in m i ([], so_far) z (own_sofar i m (own_of i t) z h)
place_slot [] m i t g (held k x) z h = call_in m i ([], held k x) z (held_there i t g m k x z h)
place_slot (zero ∷ ks) m i t g s z h = let l : 0 < 0 = h.0.counted in absurd (omega (arith, l))
place_slot (suc k ∷ ks) m (instance d cs is) t g s z h =
    let i : Instance = instance d cs is in
    let there : CallThere i (defaults.site_at is k) (instance_at is k) = call_there i is 0 t.1 g k h.0.listed in
    let c : Site = defaults.site_at is k in
    call_in m i (suc k ∷ ks, s) z
    (subst (λ l. HasSlot (tree_calls i is) (l ∷ ks, s) z) h.0.number
    (behind_in i is k (c.number ∷ ks, s) z h.0.listed
    (has_behind c.number (tree_slots c.manner (instance_at is k)) ks s z
    (place_slot ks c.manner (instance_at is k) there.tree there.held_below s z h.1))))

pub places_found : (i : Instance) → TreeFits IsKnown i → HeldTree i → (ks : List ℕ) (s : Spot) (z : Sort) → HasPlace IsKnown ks i s z →
    slot_sort IsKnown (slots i) (ks, s) ≡ Some z
places_found i t g ks s z h =
    slot_found (slots i) (ks, s) z (slots_apart i t)
    (subst (λ l. HasSlot l (ks, s) z) (sym (slots_are plain i)) (place_slot ks plain i t g s z h))

-- ---- each slot has a place

abbrev Placed : Manner → Instance → Slot → Type 0
Placed m i q = HasPlaceIn IsKnown m q.path i (spot_of q.cell) q.sort

contract_placed : (i : Instance) (m : Manner) (o : Option (List ContractStatement)) → (component_of i).contract ≡ o →
    AllByRecursion (Placed m i) (map (slot i []) (contract_cells m o))
contract_placed i plain None e = tt
contract_placed i (while_true a) None e = tt
contract_placed i (as_import xs) None e = tt
contract_placed i plain (Some cs) e = ((refl, ap is_some e), tt)
contract_placed i (while_true a) (Some cs) e = ((refl, ap is_some e), tt)
contract_placed i (as_import xs) (Some cs) e = tt

own_placed : (m : Manner) (i : Instance) → OwnFits i (IsKnown i) → AllByRecursion (Placed m i) (map (slot i []) (own_cells m (component_of i)))
own_placed m i own =
    own_all i m (component_of i) (Placed m i) refl
    (all_from (StreamFits i (IsKnown i)) (λ v. Placed m i (slot i [] (name_cell v))) (λ v s. (s.name.declared, s.name.stream, s.sort))
    (variables (component_of i)) own.streams)
    (in_order_all (λ x. x.number) (λ x. Placed m i (slot i [] (memory_cell x))) (memories (component_of i))
    (all_from (MemoryFits i (IsKnown i)) (λ x. Placed m i (slot i [] (memory_cell x))) (λ x f. (x.clock, x.operand, f.found, refl))
    (memories (component_of i)) own.memories))
    (in_order_all (λ x. x.number) (λ x. Placed m i (slot i [] (start_cell x))) (starts (component_of i))
    (all_from (StartFits i (IsKnown i)) (λ x. Placed m i (slot i [] (start_cell x))) (λ x f. (x.clock, f.found, refl))
    (starts (component_of i)) own.starts))
    (contract_placed i m (component_of i).contract refl)

held_placed : (n : Manner) (i : Instance) (c : Site) (vs : List Variable) (ds : List Expression) →
    AllByRecursion (λ v. HasSpot i (IsKnown i) n (held c.number v.name.text) v.sort) vs → AllByRecursion (Placed n i) (map (slot i []) (held_each c vs ds))
held_placed n i c [] ds a = tt
held_placed n i c (v ∷ vs) [] a = tt
held_placed n i c (v ∷ vs) (d ∷ ds) a = (a.0, held_placed n i c vs ds a.1)

held_spots : (n : Manner) (i : Instance) (c : Site) (k : Instance) (q : ℕ) → CallFits IsKnown i c k q → instance_at (calls_of i) q ≡ k → (m : Manner) →
    c.manner ≡ m → AllByRecursion (Placed n i) (map (slot i []) (held_cells c (component_of k) m))
held_spots n i c k q f same plain e = tt
held_spots n i c k q f same (as_import xs) e = tt
held_spots n i c k q f same (while_true a) e =
    let h : (ds : Expressions) × IsHeldCall i (IsKnown i) (suc q) c.clock a ds = f.held a e in
    held_placed n i c (component_of k).outputs c.defaults
    (subst (λ o. AllByRecursion (λ v. HasSpot i (IsKnown i) n (held c.number v.name.text) v.sort) (component_of o).outputs) same
    (all_from_both (OutputFits i (IsKnown i) (suc q)) (λ v. named_in v.name.text (outputs_of (instance_at (calls_of i) q)) ≡ true)
    (λ v. HasSpot i (IsKnown i) n (held c.number v.name.text) v.sort)
    (λ v o e. subst (λ l. HasSpot i (IsKnown i) n (held l v.name.text) v.sort) (sym f.number) (c.clock, a, h.0, h.1, e, o.1))
    (component_of (instance_at (calls_of i) q)).outputs f.call.named (listed_each (component_of (instance_at (calls_of i) q)).outputs)))

mutual
  tree_placed : (m : Manner) (i : Instance) → TreeFits IsKnown i → AllByRecursion (Placed m i) (tree_slots m i)
  tree_placed m (instance d cs is) t =
      let i : Instance = instance d cs is in
      both_parts (Placed m i) (map (slot i []) (own_cells m d)) (tree_calls i is) (own_placed m i t.0)
      (calls_placed m i is 0 t.1 (λ l j e. ap (instance_at is) (e ∙ plus_none l)) (λ l j e. ap (defaults.site_at is) (e ∙ plus_none l)))
    where
      plus_none : (l : ℕ) → l + 0 ≡ l
      plus_none l = omega arith

  calls_placed : (n : Manner) (i : Instance) (is : Instances) (q : ℕ) → CallsFit IsKnown i is q →
      ((l j : ℕ) → j ≡ l + q → instance_at (calls_of i) j ≡ instance_at is l) →
      ((l j : ℕ) → j ≡ l + q → defaults.site_at (calls_of i) j ≡ defaults.site_at is l) → AllByRecursion (Placed n i) (tree_calls i is)
  calls_placed n i no_instances q t at sites = tt
  calls_placed n i (with_instance c k is) q t at sites =
      let same : instance_at (calls_of i) q ≡ k = at 0 q (omega arith) in
      let below : AllByRecursion (Placed c.manner k) (tree_slots c.manner k) = tree_placed c.manner k t.1 in
      both_parts (Placed n i) (map (slot i []) (held_cells c (component_of k) c.manner))
      (map (behind c.number) (tree_slots c.manner k) ++ tree_calls i is) (held_spots n i c k q t.0 same c.manner refl)
      (both_parts (Placed n i) (map (behind c.number) (tree_slots c.manner k)) (tree_calls i is)
      (all_mapped (Placed n i) (behind c.number) (tree_slots c.manner k)
      (all_from (Placed c.manner k) (λ s. Placed n i (behind c.number s))
      (λ s h. subst (λ l. HasPlaceIn IsKnown n (l ∷ s.path) i (spot_of s.cell) s.sort) (sym t.0.number) (
        t.0.call,
        subst (λ (z : Manner). HasPlaceIn IsKnown z s.path (instance_at (calls_of i) q) (spot_of s.cell) s.sort) (sym (ap (λ (z : Site). z.manner) (sites 0 q (omega arith))))
            (subst (λ o. HasPlaceIn IsKnown c.manner s.path o (spot_of s.cell) s.sort) (sym same) h),
      ))
      (tree_slots c.manner k) below))
      (calls_placed n i is (suc q) t.2 (λ l j e. at (suc l) j (omega (arith, e))) (λ l j e. sites (suc l) j (omega (arith, e)))))

pub slots_placed : (i : Instance) → TreeFits IsKnown i → AllByRecursion (λ q. HasPlace IsKnown q.path i (spot_of q.cell) q.sort) (slots i)
slots_placed i t = subst (AllByRecursion (Placed plain i)) (sym (slots_are plain i)) (tree_placed plain i t)
