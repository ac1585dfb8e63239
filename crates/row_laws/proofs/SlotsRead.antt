-- The sources of a declaration read slots that are read alone.
use Rattle.std.proofs.Common.{◌≡◌, ℕ, true, List, [], ◌∷◌, ◌++◌, map, refl, Option, Some, None, unwrap_or}
use Rattle.std.specs.List.{AllByRecursion}
use Rattle.std.specs.Map.{lookup}
use Rattle.std.specs.Str.{bytes_eq}
use Rattle.lus_tree.specs.Tree.{Name, Variable, Expression, ContractStatement, Component}
use Rattle.lus_meaning.specs.Scene.{Manner, plain, while_true, as_import, Site, Instance, Instances, instance, no_instances, with_instance, component_of, variables, clock_from, clock_of_names, outputs_of}
use Rattle.lus_meaning.specs.Occurrences.{memories, starts}
use Rattle.lus_meaning.specs.Program.{in_order}
use Rattle.lus_meaning.specs.Run.{Equation, equations, inputs_of}
use Rattle.lus_meaning.specs.Slots.{Cell, name_cell, memory_cell, start_cell, Slot, slot, slots, slots_in, call_slots, contract_cells, own_cells, held_each, held_cells}
use Rattle.lus_meaning.proofs.Lists.{both_parts}
use Rattle.sys_meaning.specs.Slot.{Place, own, named, spot_of}
use Rattle.sys_meaning.specs.System.{below_call, number_of}
use Rattle.slot_values.specs.Resolved.{Numbering, right_resolutions}
use Rattle.slot_sources.specs.Source.{Source, always, given, same, listed}
use Rattle.slot_sources.specs.Rows.{is_read}
use Rattle.slot_sources.specs.Sources as sources
use Rattle.slot_sources.specs.Sources.{numbering_of, switch_of, NameSources, paired, equation_sources, name_source, name_sources, beat_source, argument_source, shared_sources, from_call, held_sources, memory_source, start_source, contract_sources, own_sources, sources_in, call_sources, sources_of}
use Rattle.row_laws.proofs.Ranking.{spot_read}
use Rattle.row_laws.proofs.Lists.{Both, both_append, both_over, found_has}

abbrev pub IsReadAs : Slot → Source → Type 0
IsReadAs x e = is_read e ≡ spot_read (spot_of x.cell)

abbrev CellReadAs : Cell → Source → Type 0
CellReadAs c e = is_read e ≡ spot_read (spot_of c)

abbrev AreRead : NameSources → Type 0
AreRead es = AllByRecursion (λ q. is_read q.1 ≡ true) es

pairs_read : {A : Type 0} (f : A → Source) → ((x : A) → is_read (f x) ≡ true) → (ys : List Name) (xs : List A) → AreRead (paired ys (map f xs))
pairs_read f h [] xs = tt
pairs_read f h (y ∷ ys) [] = tt
pairs_read f h (y ∷ ys) (x ∷ xs) = (h x, pairs_read f h ys xs)

equations_read : (g : Numbering) (es : List Equation) → AreRead (equation_sources g es)
equations_read g [] = tt
equations_read g (e ∷ es) =
    both_parts (λ q. is_read q.1 ≡ true)
    (paired e.names (map (given (switch_of g (clock_of_names (component_of g.place) e.names))) (right_resolutions g e.right))) (equation_sources g es)
    (pairs_read (given (switch_of g (clock_of_names (component_of g.place) e.names))) (λ x. refl) e.names (right_resolutions g e.right))
    (equations_read g es)

call_read : (g : Numbering) (c : Site) (k : Instance) → AreRead (from_call g c k)
call_read g c k =
    both_parts (λ q. is_read q.1 ≡ true) (paired (inputs_of k) (map (argument_source g c) c.arguments)) (shared_sources g c.manner k)
    (pairs_read (argument_source g c) (λ x. refl) (inputs_of k) c.arguments) (shared c.manner)
  where
    shared : (m : Manner) → AreRead (shared_sources g m k)
    shared plain = tt
    shared (while_true a) = tt
    shared (as_import xs) = pairs_read (λ x. same (g.number (own (named x)))) (λ x. refl) (outputs_of k) xs

beat_read : (g : Numbering) (c : Site) (m : Manner) → is_read (beat_source g c m) ≡ true
beat_read g c plain = refl
beat_read g c (while_true a) = refl
beat_read g c (as_import xs) = refl

name_read : (g : Numbering) (es : NameSources) → AreRead es → (x : Variable) → is_read (name_source g es x) ≡ true
name_read g es a x = go (lookup (bytes_eq x.name.text) es) refl
  where
    go : (o : Option Source) → lookup (bytes_eq x.name.text) es ≡ o → is_read (unwrap_or o (listed (switch_of g (clock_from x.clock)))) ≡ true
    go None h = refl
    go (Some e) h = found_has (λ y z. is_read z ≡ true) x.name.text es a e h

each_read : {A : Type 0} (f : A → Cell) (s : A → Source) → ((x : A) → CellReadAs (f x) (s x)) → (xs : List A) → Both CellReadAs (map f xs) (map s xs)
each_read f s h [] = tt
each_read f s h (x ∷ xs) = (h x, each_read f s h xs)

contract_read : (m : Manner) (o : Option (List ContractStatement)) → Both CellReadAs (contract_cells m o) (contract_sources m o)
contract_read plain None = tt
contract_read (while_true a) None = tt
contract_read (as_import xs) None = tt
contract_read (as_import xs) (Some cs) = tt
contract_read plain (Some cs) = (refl, tt)
contract_read (while_true a) (Some cs) = (refl, tt)

own_read : (m : Manner) (g : Numbering) (e : Source) → is_read e ≡ true → (fc : NameSources) → AreRead fc →
    Both CellReadAs (own_cells m (component_of g.place)) (own_sources m g e fc)
own_read m g e b fc a = (
  b,
  both_append CellReadAs (map name_cell (variables d)) _ (name_sources g fc) _ (each_read name_cell _ (name_read g es all) (variables d))
      (both_append CellReadAs (map memory_cell (in_order (λ p. p.number) (memories d))) _
      (map (memory_source g) (in_order (λ p. p.number) (memories d))) _
      (each_read memory_cell (memory_source g) (λ x. refl) (in_order (λ p. p.number) (memories d)))
      (both_append CellReadAs (map start_cell (in_order (λ p. p.number) (starts d))) (contract_cells m d.contract)
      (map (start_source g) (in_order (λ p. p.number) (starts d))) (contract_sources m d.contract)
      (each_read start_cell (start_source g) (λ x. refl) (in_order (λ p. p.number) (starts d))) (contract_read m d.contract))),
)
  where
    d : Component
    d = component_of g.place

    es : NameSources
    es = fc ++ equation_sources g (equations (component_of g.place))

    all : AreRead es
    all = both_parts (λ q. is_read q.1 ≡ true) fc (equation_sources g (equations (component_of g.place))) a
        (equations_read g (equations (component_of g.place)))

helds_read : (g : Numbering) (c : Site) (vs : List Variable) (ds : List Expression) → Both CellReadAs (held_each c vs ds) (sources.held_each g c vs ds)
helds_read g c [] ds = tt
helds_read g c (v ∷ vs) [] = tt
helds_read g c (v ∷ vs) (d ∷ ds) = (refl, helds_read g c vs ds)

held_read : (g : Numbering) (c : Site) (n : Component) (m : Manner) → Both CellReadAs (held_cells c n m) (held_sources g c n m)
held_read g c n plain = tt
held_read g c n (as_import xs) = tt
held_read g c n (while_true a) = helds_read g c n.outputs c.defaults

mutual
  all_read : (m : Manner) (path : List ℕ) (i : Instance) (at : Place → ℕ) (e : Source) → is_read e ≡ true → (fc : NameSources) → AreRead fc →
      Both IsReadAs (slots_in m path i) (sources_in m i at e fc)
  all_read m path (instance d cs is) at e b fc a =
      let i : Instance = instance d cs is in
      let g : Numbering = numbering_of i at in
      both_append IsReadAs (map (slot i path) (own_cells m d)) (call_slots i path is) (own_sources m g e fc) (call_sources g is)
      (both_over IsReadAs (slot i path) (own_cells m d) (own_sources m g e fc) (own_read m g e b fc a)) (calls_read path i g is)

  calls_read : (path : List ℕ) (i : Instance) (g : Numbering) (is : Instances) → Both IsReadAs (call_slots i path is) (call_sources g is)
  calls_read path i g no_instances = tt
  calls_read path i g (with_instance c k is) =
      both_append IsReadAs (map (slot i path) (held_cells c (component_of k) c.manner)) _ (held_sources g c (component_of k) c.manner) _
      (both_over IsReadAs (slot i path) (held_cells c (component_of k) c.manner) (held_sources g c (component_of k) c.manner)
      (held_read g c (component_of k) c.manner))
      (both_append IsReadAs (slots_in c.manner (path ++ c.number ∷ []) k) (call_slots i path is)
      (sources_in c.manner k (below_call c.number g.number) (beat_source g c c.manner) (from_call g c k)) (call_sources g is)
      (all_read c.manner (path ++ c.number ∷ []) k (below_call c.number g.number) (beat_source g c c.manner) (beat_read g c c.manner)
      (from_call g c k) (call_read g c k)) (calls_read path i g is))

-- a slot is read as what it stands for is
pub read_alike : (i : Instance) → Both IsReadAs (slots i) (sources_of i)
read_alike i = all_read plain [] i (number_of i) always refl [] tt
