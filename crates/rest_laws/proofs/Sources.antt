-- What is so of the source of each slot, if it is so of what gives each frame its slots.
use Rattle.std.proofs.Common.{◌≡◌, ℕ, suc, pred, ◌<◌, List, [], ◌∷◌, ◌++◌, map, refl, ap, ◌∙◌, sym, subst, Option, Some, None, slice_get, unwrap_or}
use Rattle.std.specs.List.{AllByRecursion}
use Rattle.std.specs.Map.{lookup}
use Rattle.std.specs.Str.{bytes_eq}
use Rattle.lus_tree.specs.Tree.{Name, Variable, Expression, ContractStatement}
use Rattle.lus_meaning.specs.Frame.{Frame}
use Rattle.lus_meaning.specs.Scene.{Manner, plain, while_true, as_import, Site, Instance, Instances, instance, no_instances, with_instance, no_instance, component_of, calls_of, call_instance, outputs_of, clock_from, clock_of_names, variables}
use Rattle.lus_meaning.specs.Occurrences.{memories, starts}
use Rattle.lus_meaning.specs.Program.{in_order}
use Rattle.lus_meaning.specs.Run.{Equation, equations, inputs_of}
use Rattle.lus_meaning.specs.Slots.{Cell, name_cell, memory_cell, start_cell, Slot, slot, slots, slots_in, call_slots, contract_cells, own_cells, held_each, held_cells}
use Rattle.lus_meaning.proofs.Lists.{all_from, both_parts}
use Rattle.sys_meaning.specs.Slot.{beat, named, memory, starting, so_far, held, Place, own, place_of}
use Rattle.sys_meaning.specs.Defaults.{site_at, site_of}
use Rattle.sys_meaning.specs.System.{number_of, below_call}
use Rattle.sys_meaning.specs.WellTyped.{IsKnown, count_of, CallFits, CallsFit, TreeFits}
use Rattle.sys_meaning.proofs.Forward.{drop_calls, first_site, first_instance, site_dropped, instance_dropped, calls_later, later_calls}
use Rattle.slot_values.specs.Resolution.{Resolution}
use Rattle.slot_values.specs.Resolved.{Numbering, right_resolutions}
use Rattle.evaluation_laws.specs.Rows.{numbers_there}
use Rattle.slot_sources.specs.declared.source.Switch.{Switch}
use Rattle.slot_sources.specs.Source.{Source, always, given, same, listed}
use Rattle.slot_sources.specs.Sources as sources
use Rattle.slot_sources.specs.Sources.{numbering_of, switch_of, NameSources, paired, equation_sources, name_source, name_sources, beat_source, argument_source, shared_sources, from_call, held_source, held_sources, memory_source, start_source, contract_sources, own_sources, sources_in, call_sources, sources_of}
use Rattle.row_laws.proofs.Lists.{Both, both_append, both_mapped, both_over, found_has}
use Rattle.order_laws.proofs.Frames.{StandsAt, stands_called, numbers_further}

module _ (P : Place → Type 0) (Good : Source → Type 0) where
  -- ---- what is asked of a frame at the end of a way of calls

  -- what its call with the number n gives: the beat, the inputs and an import's outputs of the frame that is called, and what is held
  pub record Gives (w : List ℕ) (j : Instance) (at : Place → ℕ) (n : ℕ) (c : Site) (z : Instance) : Type 0 where
    pub beats : P (w ++ n ∷ [], beat) → Good (beat_source (numbering_of j at) c c.manner)
    pub inputs : (k : ℕ) (x : Name) (a : Expression) → slice_get (inputs_of z) k ≡ Some x → slice_get c.arguments k ≡ Some a →
        P (w ++ n ∷ [], named x) → Good (argument_source (numbering_of j at) c a)
    pub outputs : (xs : List Name) → c.manner ≡ as_import xs → (k : ℕ) (y x : Name) → slice_get (outputs_of z) k ≡ Some y → slice_get xs k ≡ Some x →
        P (w ++ n ∷ [], named y) → Good (same (at (own (named x))))
    pub helds : (a : Expression) → c.manner ≡ while_true a →
        AllByRecursion (λ v. P (w, held n v.name.text) → Good (held_source (numbering_of j at) c v)) (component_of z).outputs

  pub record Obliged (w : List ℕ) (j : Instance) (at : Place → ℕ) : Type 0 where
    pub names : AllByRecursion (λ v. P (w, named v.name.text) → Good (listed (switch_of (numbering_of j at) (clock_from v.clock)))) (variables (component_of j))
    pub rights : AllByRecursion (λ e. AllByRecursion (λ x. P (w, named x) →
        AllByRecursion (λ r. Good (given (switch_of (numbering_of j at) (clock_of_names (component_of j) e.names)) r))
        (right_resolutions (numbering_of j at) e.right)) e.names) (equations (component_of j))
    pub remembered : AllByRecursion (λ m. P (w, memory m.number) → Good (memory_source (numbering_of j at) m))
        (in_order (λ p. p.number) (memories (component_of j)))
    pub started : AllByRecursion (λ a. P (w, starting a.number) → Good (start_source (numbering_of j at) a))
        (in_order (λ p. p.number) (starts (component_of j)))
    pub unread : P (w, so_far) → ⊥
    pub calls : (k : ℕ) → 0 < k → pred k < count_of (calls_of j) → Gives w j at k (site_of j k) (call_instance j k)

  -- ---- slots and sources side by side

  abbrev pub GoodAt : Slot → Source → Type 0
  GoodAt x e = P (place_of x) → Good e

  abbrev NamesGood : List ℕ → NameSources → Type 0
  NamesGood w es = AllByRecursion (λ q. P (w, named q.0) → Good q.1) es

  module _ (w : List ℕ) (j : Instance) (at : Place → ℕ) (o : Obliged w j at) where
    abbrev g : Numbering
    g = numbering_of j at

    abbrev CellGood : Cell → Source → Type 0
    CellGood c e = GoodAt (slot j w c) e

    pairs_good : (y : Switch) (xs : List Name) (rs : List Resolution) →
        AllByRecursion (λ x. P (w, named x) → AllByRecursion (λ r. Good (given y r)) rs) xs → NamesGood w (paired xs (map (given y) rs))
    pairs_good y [] rs a = tt
    pairs_good y (x ∷ xs) [] a = tt
    pairs_good y (x ∷ xs) (r ∷ rs) a = (
      (λ h. (a.0 h).0),
      pairs_good y xs rs
          (all_from (λ x. P (w, named x) → AllByRecursion (λ r. Good (given y r)) (r ∷ rs)) (λ x. P (w, named x) → AllByRecursion (λ r. Good (given y r)) rs)
          (λ x z h. (z h).1) xs a.1),
    )

    equations_good : (es : List Equation) →
        AllByRecursion (λ e. AllByRecursion (λ x. P (w, named x) →
        AllByRecursion (λ r. Good (given (switch_of g (clock_of_names (component_of j) e.names)) r)) (right_resolutions g e.right)) e.names) es →
        NamesGood w (equation_sources g es)
    equations_good [] a = tt
    equations_good (e ∷ es) a =
        let y : Switch = switch_of g (clock_of_names (component_of j) e.names) in
        both_parts (λ q. P (w, named q.0) → Good q.1) (paired e.names (map (given y) (right_resolutions g e.right))) (equation_sources g es)
        (pairs_good y e.names (right_resolutions g e.right) a.0) (equations_good es a.1)

    name_good : (es : NameSources) → NamesGood w es → (x : Variable) → (P (w, named x.name.text) → Good (listed (switch_of g (clock_from x.clock)))) →
        CellGood (name_cell x) (name_source g es x)
    name_good es a x h = go (lookup (bytes_eq x.name.text) es) refl
      where
        go : (d : Option Source) → lookup (bytes_eq x.name.text) es ≡ d → CellGood (name_cell x) (unwrap_or d (listed (switch_of g (clock_from x.clock))))
        go (Some e) k = found_has (λ y z. P (w, named y) → Good z) x.name.text es a e k
        go None k = h

    each_name : (es : NameSources) → NamesGood w es → (vs : List Variable) →
        AllByRecursion (λ v. P (w, named v.name.text) → Good (listed (switch_of g (clock_from v.clock)))) vs →
        Both CellGood (map name_cell vs) (map (name_source g es) vs)
    each_name es a [] h = tt
    each_name es a (v ∷ vs) h = (name_good es a v h.0, each_name es a vs h.1)

    contract_good : (m : Manner) (q : Option (List ContractStatement)) → Both CellGood (contract_cells m q) (contract_sources m q)
    contract_good plain None = tt
    contract_good (while_true a) None = tt
    contract_good (as_import xs) None = tt
    contract_good (as_import xs) (Some cs) = tt
    contract_good plain (Some cs) = ((λ h. absurd (o.unread h)), tt)
    contract_good (while_true a) (Some cs) = ((λ h. absurd (o.unread h)), tt)

    own_good : (m : Manner) (e : Source) → (P (w, beat) → Good e) → (fc : NameSources) → NamesGood w fc →
        Both CellGood (own_cells m (component_of j)) (own_sources m g e fc)
    own_good m e b fc a = (
      b,
      both_append CellGood (map name_cell (variables (component_of j))) _ (name_sources g fc) _
          (each_name (fc ++ equation_sources g (equations (component_of j)))
          (both_parts (λ q. P (w, named q.0) → Good q.1) fc (equation_sources g (equations (component_of j))) a
          (equations_good (equations (component_of j)) o.rights)) (variables (component_of j)) o.names)
          (both_append CellGood (map memory_cell (in_order (λ p. p.number) (memories (component_of j)))) _
          (map (memory_source g) (in_order (λ p. p.number) (memories (component_of j)))) _
          (both_mapped CellGood memory_cell (memory_source g) (in_order (λ p. p.number) (memories (component_of j))) o.remembered)
          (both_append CellGood (map start_cell (in_order (λ p. p.number) (starts (component_of j)))) (contract_cells m (component_of j).contract)
          (map (start_source g) (in_order (λ p. p.number) (starts (component_of j)))) (contract_sources m (component_of j).contract)
          (both_mapped CellGood start_cell (start_source g) (in_order (λ p. p.number) (starts (component_of j))) o.started)
          (contract_good m (component_of j).contract))),
    )

    -- ---- a call

    module _ (c : Site) (z : Instance) (h : Gives w j at c.number c z) where
      helds_good : (vs : List Variable) (ds : List Expression) →
          AllByRecursion (λ v. P (w, held c.number v.name.text) → Good (held_source g c v)) vs →
          Both CellGood (held_each c vs ds) (sources.held_each g c vs ds)
      helds_good [] ds a = tt
      helds_good (v ∷ vs) [] a = tt
      helds_good (v ∷ vs) (d ∷ ds) a = (a.0, helds_good vs ds a.1)

      held_good : (m : Manner) → c.manner ≡ m → Both CellGood (held_cells c (component_of z) m) (held_sources g c (component_of z) m)
      held_good plain e = tt
      held_good (as_import xs) e = tt
      held_good (while_true a) e = helds_good (component_of z).outputs c.defaults (h.helds a e)

      paired_good : {A : Type 0} (s : A → Source) (ys : List Name) (xs : List A) →
          ((k : ℕ) (y : Name) (x : A) → slice_get ys k ≡ Some y → slice_get xs k ≡ Some x → P (w ++ c.number ∷ [], named y) → Good (s x)) →
          NamesGood (w ++ c.number ∷ []) (paired ys (map s xs))
      paired_good s [] xs a = tt
      paired_good s (y ∷ ys) [] a = tt
      paired_good s (y ∷ ys) (x ∷ xs) a = (a 0 y x refl refl, paired_good s ys xs (λ k u v e d. a (suc k) u v e d))

      shared_good : (m : Manner) → c.manner ≡ m → NamesGood (w ++ c.number ∷ []) (shared_sources g m z)
      shared_good plain e = tt
      shared_good (while_true a) e = tt
      shared_good (as_import xs) e = paired_good (λ x. same (at (own (named x)))) (outputs_of z) xs (h.outputs xs e)

      call_good : NamesGood (w ++ c.number ∷ []) (from_call g c z)
      call_good =
          both_parts (λ q. P (w ++ c.number ∷ [], named q.0) → Good q.1) (paired (inputs_of z) (map (argument_source g c) c.arguments))
          (shared_sources g c.manner z) (paired_good (argument_source g c) (inputs_of z) c.arguments h.inputs) (shared_good c.manner refl)

  -- ---- all frames

  module _ (top : Instance) (f : Frame) (obliged : (w : List ℕ) (j : Instance) → StandsAt top f w j → Obliged w j (numbers_there top w)) where
    -- the call at a place of the list
    gives_here : (w : List ℕ) (j : Instance) (at : Place → ℕ) → Obliged w j at → (c : Site) (z : Instance) (is : Instances) (p : ℕ) →
        drop_calls p (calls_of j) ≡ with_instance c z is → CallFits IsKnown j c z p → Gives w j at c.number c z
    gives_here w j at o c z is p e fit =
        subst (λ n. Gives w j at n c z) (sym fit.number)
        (subst (λ y. Gives w j at (suc p) y z) site_here
        (subst (λ y. Gives w j at (suc p) (site_of j (suc p)) y) instance_here (o.calls (suc p) fit.call.counted fit.call.listed)))
      where
        site_here : site_of j (suc p) ≡ c
        site_here = site_dropped (calls_of j) p c ∙ ap (λ y. first_site y (site_at no_instances 0)) e

        instance_here : call_instance j (suc p) ≡ z
        instance_here = instance_dropped (calls_of j) p ∙ ap (λ y. first_instance y no_instance) e

    stands_here : (w : List ℕ) (j : Instance) → StandsAt top f w j → (c : Site) (z : Instance) (is : Instances) (p : ℕ) →
        drop_calls p (calls_of j) ≡ with_instance c z is → CallFits IsKnown j c z p → StandsAt top f (w ++ c.number ∷ []) z
    stands_here w j s c z is p e fit =
        subst (λ n. StandsAt top f (w ++ n ∷ []) z) (sym fit.number)
        (subst (λ y. StandsAt top f (w ++ suc p ∷ []) y) (instance_dropped (calls_of j) p ∙ ap (λ y. first_instance y no_instance) e)
        (stands_called top f w j s (suc p) fit.call.counted fit.call.listed))

    mutual
      sources_good : (m : Manner) (w : List ℕ) (j : Instance) → StandsAt top f w j → TreeFits IsKnown j → (at : Place → ℕ) → numbers_there top w ≡ at →
          (e : Source) → (P (w, beat) → Good e) → (fc : NameSources) → NamesGood w fc → Both GoodAt (slots_in m w j) (sources_in m j at e fc)
      sources_good m w (instance d cs is) s t at k e b fc a =
          let j : Instance = instance d cs is in
          let o : Obliged w j at = subst (Obliged w j) k (obliged w j s) in
          both_append GoodAt (map (slot j w) (own_cells m d)) (call_slots j w is) (own_sources m (numbering_of j at) e fc)
          (call_sources (numbering_of j at) is)
          (both_over GoodAt (slot j w) (own_cells m d) (own_sources m (numbering_of j at) e fc) (own_good w j at o m e b fc a))
          (calls_good w j s at k o is 0 refl t.1)

      calls_good : (w : List ℕ) (j : Instance) → StandsAt top f w j → (at : Place → ℕ) → numbers_there top w ≡ at → Obliged w j at → (is : Instances)
          (p : ℕ) → drop_calls p (calls_of j) ≡ is → CallsFit IsKnown j is p → Both GoodAt (call_slots j w is) (call_sources (numbering_of j at) is)
      calls_good w j s at k o no_instances p e t = tt
      calls_good w j s at k o (with_instance c z is) p e t =
          let g : Numbering = numbering_of j at in
          let h : Gives w j at c.number c z = gives_here w j at o c z is p e t.0 in
          both_append GoodAt (map (slot j w) (held_cells c (component_of z) c.manner)) _ (held_sources g c (component_of z) c.manner) _
          (both_over GoodAt (slot j w) (held_cells c (component_of z) c.manner) (held_sources g c (component_of z) c.manner)
          (held_good w j at o c z h c.manner refl))
          (both_append GoodAt (slots_in c.manner (w ++ c.number ∷ []) z) (call_slots j w is)
          (sources_in c.manner z (below_call c.number at) (beat_source g c c.manner) (from_call g c z)) (call_sources g is)
          (sources_good c.manner (w ++ c.number ∷ []) z (stands_here w j s c z is p e t.0) t.1 (below_call c.number at)
          (numbers_further w (number_of top) c.number ∙ ap (below_call c.number) k) (beat_source g c c.manner) h.beats (from_call g c z)
          (call_good w j at o c z h))
          (calls_good w j s at k o is (suc p) (calls_later p (calls_of j) ∙ ap later_calls e) t.2))

    -- of each slot that stands for such a place the source is good
    pub all_good : StandsAt top f [] top → TreeFits IsKnown top → (P ([], beat) → Good always) → Both GoodAt (slots top) (sources_of top)
    all_good s t b = sources_good plain [] top s t (number_of top) refl always b [] tt
