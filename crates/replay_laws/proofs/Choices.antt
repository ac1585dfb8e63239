-- What lines choose, of each slot by its type: rows that follow by what lines of a trace choose follow by that too.
use Rattle.std.proofs.Common.{◌≡◌, ℕ, zero, suc, List, [], ◌∷◌, ◌++◌, map, Option, Some, None, slice_get, refl, ap, ◌∙◌, sym}
use Rattle.std.specs.Prelude.{option_map, unwrap_or}
use Rattle.std.specs.Option.{option_map_or}
use Rattle.std.specs.List.{AllByRecursion}
use Rattle.std.specs.Map.{lookup}
use Rattle.std.specs.Str.{bytes_eq}
use Rattle.kind_num.specs.declared.Shape.{Shape}
use Rattle.lus_tree.specs.declared.place.Sort.{Sort}
use Rattle.lus_tree.specs.declared.place.Sort.TheVariants.{Bool as Flags, Int as Numbers}
use Rattle.lus_tree.specs.Tree.{Name, Variable, Expression, ContractStatement, Component}
use Rattle.lus_meaning.specs.Value.{Value, absent, flag, whole}
use Rattle.lus_meaning.specs.Scene.{Manner, plain, while_true, as_import, Site, Instance, Instances, instance, no_instances, with_instance, component_of, clock_from, clock_of_names, outputs_of, variables}
use Rattle.lus_meaning.specs.Occurrences.{Memory, memories, Start, starts}
use Rattle.lus_meaning.specs.Program.{in_order}
use Rattle.lus_meaning.specs.Run.{Equation, equations, inputs_of}
use Rattle.lus_meaning.specs.Slots.{Cell, beat_cell, name_cell, memory_cell, start_cell, Slot, slot, contract_cells, own_cells, held_each, held_cells, slots_in, call_slots, slots}
use Rattle.lus_meaning.specs.Trace.{BareLine, Subject, of_name, of_first, listed_at, or_default}
use Rattle.sys_meaning.specs.Slot.{named, Place, own}
use Rattle.sys_meaning.specs.System.{below_call, number_of, shape_of}
use Rattle.slot_values.specs.Evaluated.{SlotValues}
use Rattle.slot_values.specs.Resolved.{Numbering, right_resolutions}
use Rattle.slot_sources.specs.Source.{Source, always, runs, runs_while, same, given, argument, listed, remembered, starting, held, unread}
use Rattle.slot_sources.specs.Rows.{Choices, Follow, brought, value_now}
use Rattle.slot_sources.specs.Sources as sources
use Rattle.slot_sources.specs.Sources.{numbering_of, switch_of, NameSources, paired, equation_sources, name_source, name_sources, beat_source, argument_source, from_call, shared_sources, held_sources, memory_source, start_source, contract_sources, own_sources, sources_in, call_sources, sources_of}
use Rattle.row_laws.specs.Choices.{choices_of, first_in, listed_in, of_slot}
use Rattle.row_laws.proofs.Lists.{Both, both_append, both_over, both_at, found_has, mapped_at}
use Rattle.lus_meaning.proofs.Lists.{both_parts}
use Rattle.replay_laws.specs.Chosen.{Chooses, ShapesChoose, listed_by, listed_of, listed_there, place_in, shape_default, slot_shapes, subject_in}

-- ---- what gives names their values is no memory

abbrev IsNoMemory : Source → Type 0
IsNoMemory (remembered w e) = ⊥
IsNoMemory _ = Unit {0}

abbrev NoMemories : NameSources → Type 0
NoMemories es = AllByRecursion (λ q. IsNoMemory q.1) es

none_paired : (xs : List Name) (es : List Source) → AllByRecursion IsNoMemory es → NoMemories (paired xs es)
none_paired [] es a = tt
none_paired (x ∷ xs) [] a = tt
none_paired (x ∷ xs) (e ∷ es) a = (a.0, none_paired xs es a.1)

none_mapped : {A : Type 0} (f : A → Source) (xs : List A) → ((x : A) → IsNoMemory (f x)) → AllByRecursion IsNoMemory (map f xs)
none_mapped f [] h = tt
none_mapped f (x ∷ xs) h = (h x, none_mapped f xs h)

none_both : (es fs : NameSources) → NoMemories es → NoMemories fs → NoMemories (es ++ fs)
none_both es fs a b = both_parts (λ q. IsNoMemory q.1) es fs a b

none_equation : (g : Numbering) (es : List Equation) → NoMemories (equation_sources g es)
none_equation g [] = tt
none_equation g (e ∷ es) = none_both (paired e.names (map (given (switch_of g (clock_of_names (component_of g.place) e.names))) (right_resolutions g e.right)))
    (equation_sources g es)
    (none_paired e.names (map (given (switch_of g (clock_of_names (component_of g.place) e.names))) (right_resolutions g e.right))
    (none_mapped (given (switch_of g (clock_of_names (component_of g.place) e.names))) (right_resolutions g e.right) (λ r. tt)))
    (none_equation g es)

none_shared : (g : Numbering) (m : Manner) (k : Instance) → NoMemories (shared_sources g m k)
none_shared g plain k = tt
none_shared g (while_true a) k = tt
none_shared g (as_import xs) k =
    none_paired (outputs_of k) (map (λ x. same (g.number (own (named x)))) xs) (none_mapped (λ x. same (g.number (own (named x)))) xs (λ x. tt))

none_called : (g : Numbering) (c : Site) (k : Instance) → NoMemories (from_call g c k)
none_called g c k = none_both (paired (inputs_of k) (map (argument_source g c) c.arguments)) (shared_sources g c.manner k)
    (none_paired (inputs_of k) (map (argument_source g c) c.arguments) (none_mapped (argument_source g c) c.arguments (λ a. tt)))
    (none_shared g c.manner k)

-- ---- slots and their sources

-- only a memory is remembered, and only a name is listed, of its own type
abbrev Suits : Slot → Source → Type 0
Suits q (listed w) = (v : Variable) × (q.cell ≡ name_cell v) × (q.sort ≡ v.sort)
Suits q (remembered w e) = (m : Memory) × (q.cell ≡ memory_cell m)
Suits q _ = Unit {0}

module _ (i : Instance) (path : List ℕ) where
  abbrev SuitsCell : Cell → Source → Type 0
  SuitsCell c e = Suits (slot i path c) e

  name_suits : (v : Variable) (e : Source) → IsNoMemory e → SuitsCell (name_cell v) e
  name_suits v always h = tt
  name_suits v (runs w) h = tt
  name_suits v (runs_while w e) h = tt
  name_suits v (same k) h = tt
  name_suits v (given w e) h = tt
  name_suits v (argument b w e) h = tt
  name_suits v (listed w) h = (v, refl, refl)
  name_suits v (remembered w e) h = absurd h
  name_suits v (starting w) h = tt
  name_suits v (held b o d) h = tt
  name_suits v unread h = tt

  names_suit : (g : Numbering) (es : NameSources) → NoMemories es → (vs : List Variable) → Both SuitsCell (map name_cell vs) (map (name_source g es) vs)
  names_suit g es a [] = tt
  names_suit g es a (v ∷ vs) = (name_suits v (name_source g es v) (go (lookup (bytes_eq v.name.text) es) refl), names_suit g es a vs)
    where
      go : (o : Option Source) → lookup (bytes_eq v.name.text) es ≡ o → IsNoMemory (unwrap_or o (listed (switch_of g (clock_from v.clock))))
      go None e = tt
      go (Some x) e = found_has (λ y z. IsNoMemory z) v.name.text es a x e

  memories_suit : (g : Numbering) (ms : List Memory) → Both SuitsCell (map memory_cell ms) (map (memory_source g) ms)
  memories_suit g [] = tt
  memories_suit g (m ∷ ms) = ((m, refl), memories_suit g ms)

  starts_suit : (g : Numbering) (ss : List Start) → Both SuitsCell (map start_cell ss) (map (start_source g) ss)
  starts_suit g [] = tt
  starts_suit g (a ∷ ss) = (tt, starts_suit g ss)

  contract_suits : (m : Manner) (o : Option (List ContractStatement)) → Both SuitsCell (contract_cells m o) (contract_sources m o)
  contract_suits plain None = tt
  contract_suits (while_true a) None = tt
  contract_suits (as_import xs) None = tt
  contract_suits (as_import xs) (Some cs) = tt
  contract_suits plain (Some cs) = (tt, tt)
  contract_suits (while_true a) (Some cs) = (tt, tt)

  helds_suit : (g : Numbering) (c : Site) (vs : List Variable) (ds : List Expression) → Both SuitsCell (held_each c vs ds) (sources.held_each g c vs ds)
  helds_suit g c [] ds = tt
  helds_suit g c (v ∷ vs) [] = tt
  helds_suit g c (v ∷ vs) (d ∷ ds) = (tt, helds_suit g c vs ds)

  held_suits : (g : Numbering) (c : Site) (n : Component) (m : Manner) → Both SuitsCell (held_cells c n m) (held_sources g c n m)
  held_suits g c n plain = tt
  held_suits g c n (as_import xs) = tt
  held_suits g c n (while_true a) = helds_suit g c n.outputs c.defaults

  -- what gives the beat is no memory, and nothing that is listed
  abbrev IsBeat : Source → Type 0
  IsBeat (remembered w e) = ⊥
  IsBeat (listed w) = ⊥
  IsBeat _ = Unit {0}

  beat_suits : (e : Source) → IsBeat e → SuitsCell beat_cell e
  beat_suits always h = tt
  beat_suits (runs w) h = tt
  beat_suits (runs_while w e) h = tt
  beat_suits (same k) h = tt
  beat_suits (given w e) h = tt
  beat_suits (argument b w e) h = tt
  beat_suits (listed w) h = absurd h
  beat_suits (remembered w e) h = absurd h
  beat_suits (starting w) h = tt
  beat_suits (held b o d) h = tt
  beat_suits unread h = tt

  own_suits : (m : Manner) (g : Numbering) (e : Source) (fc : NameSources) → IsBeat e → NoMemories fc
      → Both SuitsCell (own_cells m (component_of g.place)) (own_sources m g e fc)
  own_suits m g e fc beats none = (
    beat_suits e beats,
    both_append SuitsCell (map name_cell (variables d)) _ (name_sources g fc) _
        (names_suit g (fc ++ equation_sources g (equations d)) (none_both fc (equation_sources g (equations d)) none (none_equation g (equations d)))
        (variables d))
        (both_append SuitsCell (map memory_cell (in_order (λ p. p.number) (memories d))) _
        (map (memory_source g) (in_order (λ p. p.number) (memories d))) _ (memories_suit g (in_order (λ p. p.number) (memories d)))
        (both_append SuitsCell (map start_cell (in_order (λ p. p.number) (starts d))) (contract_cells m d.contract)
        (map (start_source g) (in_order (λ p. p.number) (starts d))) (contract_sources m d.contract)
        (starts_suit g (in_order (λ p. p.number) (starts d))) (contract_suits m d.contract))),
  )
    where
      d : Component
      d = component_of g.place

beat_is : (g : Numbering) (c : Site) (m : Manner) (i : Instance) (path : List ℕ) → IsBeat i path (beat_source g c m)
beat_is g c plain i path = tt
beat_is g c (while_true a) i path = tt
beat_is g c (as_import xs) i path = tt

mutual
  all_suit : (m : Manner) (path : List ℕ) (i : Instance) (at : Place → ℕ) (e : Source) (fc : NameSources) → IsBeat i path e → NoMemories fc →
      Both Suits (slots_in m path i) (sources_in m i at e fc)
  all_suit m path (instance d cs is) at e fc beats none =
      let i : Instance = instance d cs is in
      let g : Numbering = numbering_of i at in
      both_append Suits (map (slot i path) (own_cells m d)) (call_slots i path is) (own_sources m g e fc) (call_sources g is)
      (both_over Suits (slot i path) (own_cells m d) (own_sources m g e fc) (own_suits i path m g e fc beats none)) (calls_suit path i g is)

  calls_suit : (path : List ℕ) (i : Instance) (g : Numbering) (is : Instances) → Both Suits (call_slots i path is) (call_sources g is)
  calls_suit path i g no_instances = tt
  calls_suit path i g (with_instance c k is) =
      both_append Suits (map (slot i path) (held_cells c (component_of k) c.manner)) _ (held_sources g c (component_of k) c.manner) _
      (both_over Suits (slot i path) (held_cells c (component_of k) c.manner) (held_sources g c (component_of k) c.manner)
      (held_suits i path g c (component_of k) c.manner))
      (both_append Suits (slots_in c.manner (path ++ c.number ∷ []) k) (call_slots i path is)
      (sources_in c.manner k (below_call c.number g.number) (beat_source g c c.manner) (from_call g c k)) (call_sources g is)
      (all_suit c.manner (path ++ c.number ∷ []) k (below_call c.number g.number) (beat_source g c c.manner) (from_call g c k)
      (beat_is g c c.manner k (path ++ c.number ∷ [])) (none_called g c k))
      (calls_suit path i g is))

-- ---- what is chosen

default_same : (z : Sort) (v : Value) → shape_default (shape_of z) v ≡ or_default z v
default_same Flags absent = refl
default_same Flags (flag b) = refl
default_same Flags (whole n) = refl
default_same Numbers absent = refl
default_same Numbers (flag b) = refl
default_same Numbers (whole n) = refl

mapped_some : {A B : Type 0} (w : A → B) (xs : List A) (k : ℕ) (x : A) → slice_get xs k ≡ Some x → slice_get (map w xs) k ≡ Some (w x)
mapped_some w [] k x e = cc
mapped_some w (y ∷ xs) zero x e = ap (λ o. option_map w o) e
mapped_some w (y ∷ xs) (suc k) x e = mapped_some w xs k x e

module _ (i : Instance) (ls : List BareLine) where
  abbrev shapes : List Shape
  shapes = slot_shapes i

  -- what is listed of a slot by its shape
  by_shape : (k t : ℕ) (q : Slot) (x : Subject) → slice_get (slots i) k ≡ Some q → subject_in q.cell ≡ Some x
      → listed_by (slice_get shapes k) (listed_of i ls k t) ≡ or_default q.sort (listed_at ls q.path x t)
  by_shape k t q x e s =
      ap (λ o. listed_by o (listed_of i ls k t)) (mapped_some (λ q. shape_of q.sort) (slots i) k q e)
      ∙ (default_same q.sort (listed_of i ls k t)
      ∙ ap (or_default q.sort) (ap (λ o. listed_there ls (option_map_or place_in o None) t) e ∙ ap (λ o. listed_there ls (option_map (λ x. (q.path, x)) o) t) s))

  one_at : (w : Slot → Value) (k : ℕ) (q : Slot) → slice_get (slots i) k ≡ Some q → of_slot w i k ≡ w q
  one_at w k q e = mapped_at w absent (slots i) k q e

  first_same : (k : ℕ) (q : Slot) (m : Memory) → slice_get (slots i) k ≡ Some q → q.cell ≡ memory_cell m
      → listed_by (slice_get shapes k) (listed_of i ls k 0) ≡ (choices_of ls i).first k
  first_same k q m e c =
      by_shape k 0 q (of_first m.number) e (ap subject_in c)
      ∙ sym (one_at (λ q. first_in ls q.path q.sort q.cell) k q e ∙ ap (first_in ls q.path q.sort) c)

  at_same : (k t : ℕ) (q : Slot) (v : Variable) → slice_get (slots i) k ≡ Some q → q.cell ≡ name_cell v → q.sort ≡ v.sort
      → listed_by (slice_get shapes k) (listed_of i ls k t) ≡ (choices_of ls i).at k t
  at_same k t q v e c z =
      by_shape k t q (of_name v.name.text) e (ap subject_in c)
      ∙ (ap (λ z. or_default z (listed_at ls q.path (of_name v.name.text) t)) z
      ∙ sym (one_at (λ q. listed_in ls q.path q.cell t) k q e ∙ ap (λ c. listed_in ls q.path c t) c))

  suit_at : (k : ℕ) (e : Source) → slice_get (sources_of i) k ≡ Some e → (x : Slot) × (slice_get (slots i) k ≡ Some x) × Suits x e
  suit_at k e q = both_at Suits (slots i) (sources_of i) (all_suit plain [] i (number_of i) always [] tt tt) k e q

pub shapes_choose : ShapesChoose
shapes_choose i ls told is_listed = record {
  first = λ k w e q. let h : (x : Slot) × (slice_get (slots i) k ≡ Some x) × Suits x (remembered w e) = suit_at i ls k (remembered w e) q in
      ap (listed_by (slice_get (slot_shapes i) k)) (is_listed k 0) ∙ first_same i ls k h.0 h.2.0 h.1 h.2.1;
  at = λ k w q t. let h : (x : Slot) × (slice_get (slots i) k ≡ Some x) × Suits x (listed w) = suit_at i ls k (listed w) q in
      ap (listed_by (slice_get (slot_shapes i) k)) (is_listed k t) ∙ at_same i ls k t h.0 h.2.0 h.1 h.2.1 h.2.2;
}

-- ---- rows that follow

module _ (i : Instance) (ls : List BareLine) (c : Choices) (chosen : Chooses ls i c) (rows : ℕ → SlotValues) where
  brought_same : (k t : ℕ) (e : Source) → slice_get (sources_of i) k ≡ Some e → brought (choices_of ls i) rows k t e ≡ brought c rows k t e
  brought_same k zero always q = refl
  brought_same k zero (runs w) q = refl
  brought_same k zero (runs_while w e) q = refl
  brought_same k zero (same j) q = refl
  brought_same k zero (given w e) q = refl
  brought_same k zero (argument b w e) q = refl
  brought_same k zero (listed w) q = sym (chosen.at k w q zero)
  brought_same k zero (remembered w e) q = sym (chosen.first k w e q)
  brought_same k zero (starting w) q = refl
  brought_same k zero (held b o d) q = refl
  brought_same k zero unread q = refl
  brought_same k (suc t) always q = refl
  brought_same k (suc t) (runs w) q = refl
  brought_same k (suc t) (runs_while w e) q = refl
  brought_same k (suc t) (same j) q = refl
  brought_same k (suc t) (given w e) q = refl
  brought_same k (suc t) (argument b w e) q = refl
  brought_same k (suc t) (listed w) q = sym (chosen.at k w q (suc t))
  brought_same k (suc t) (remembered w e) q = refl
  brought_same k (suc t) (starting w) q = refl
  brought_same k (suc t) (held b o d) q = refl
  brought_same k (suc t) unread q = refl

  pub follow_chosen : (n : ℕ) → Follow (sources_of i) (choices_of ls i) n rows → Follow (sources_of i) c n rows
  follow_chosen n follow k e q r t l = follow k e q r t l ∙ ap (λ v. value_now (rows t) v e) (brought_same k t e q)
