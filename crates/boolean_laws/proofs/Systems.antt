-- The conditions of a declaration without integers compare no numbers, and none of its variables is a number.
use Rattle.std.proofs.Common.{◌≡◌, ℕ, zero, suc, pred, Bool, true, false, cond, List, [], ◌∷◌, ◌++◌, map, flat_map, Option, Some, None, refl, ap}
use Rattle.std.specs.List.{AllByRecursion}
use Rattle.std.specs.Map.{lookup}
use Rattle.std.specs.Str.{bytes_eq}
use Rattle.lus_tree.specs.declared.place.Sort.TheVariants.{Bool as Flags}
use Rattle.lus_tree.specs.Tree.{Name, Variable, Expression, Statement, equation, assertion, property, main_mark, ContractStatement}
use Rattle.lus_meaning.specs.Scene.{Manner, plain, while_true, as_import, Site, Instance, Instances, instance, no_instances, with_instance, calls_of, component_of, constants_of, outputs_of, call_instance, variables}
use Rattle.lus_meaning.specs.Program.{in_order, constant_value}
use Rattle.lus_meaning.specs.Property.{assertions}
use Rattle.lus_meaning.specs.Run.{Equation, equations, inputs_of, sort_of, sort_of_name}
use Rattle.lus_meaning.specs.Depends.{named_in}
use Rattle.lus_meaning.specs.Occurrences.{Memory, memories, Start, starts}
use Rattle.lus_meaning.specs.Slots.{Cell, name_cell, memory_cell, start_cell, Slot, cell_sort, slot, contract_cells, own_cells, held_each, held_cells, slots_in, call_slots, slots}
use Rattle.lus_meaning.proofs.InOrder.{in_order_all}
use Rattle.lus_meaning.proofs.Lists.{all_from, both_parts}
use Rattle.rule_laws.proofs.Lists.{all_mapped}
use Rattle.kind_num.specs.declared.Shape.TheVariants as shapes
use Rattle.sys_terms.specs.View.{Formula}
use Rattle.sys_terms.specs.View as t
use Rattle.sys_terms.specs.Boolean.{is_boolean}
use Rattle.sys_meaning.specs.Slot.{beat, named, starting, so_far, held, Place, own, in_call}
use Rattle.sys_meaning.specs.Defaults.{default_among, default_of, site_at, site_of}
use Rattle.sys_meaning.specs.Items.{ModeItem}
use Rattle.sys_meaning.specs.Part.{Part, a_flag, fixed, variable, all_of, choose_part, equal_parts}
use Rattle.sys_meaning.specs.Translate.{flag_at, name_part, present, term_of, right_terms, formula}
use Rattle.sys_meaning.specs.System.{Written, contract_of, assumed, stage, below_call, Sources, is_free, paired, equation_sources, name_here, names_here, runs_where, shared_outputs, from_call, here_of, calls_here, has_so_far, starts_first, so_far_first, held_first, first_of, calls_first, becomes, memory_next, start_next, so_far_next, held_next, next_of, calls_next, asserts_of, asserts_in, calls_asserts, legal_of, body_properties, one_mode, owed_by_site, owed_by_calls, properties_of, shape_of, number_of, system_of}
use Rattle.sys_meaning.specs.WellTyped.{checked}
use Rattle.term_laws.specs.Laws.{terms_of}
use Rattle.boolean_laws.specs.Laws.{IsOfFlags}
use Rattle.boolean_laws.proofs.Parts.{Good, AllGood, GoodPart, GoodParts, good_boolean, good_variable, good_zero, good_choice, good_equal, good_fixed, good_some, good_all, Pure, IsNoNumber, none_of_value, GoodModes, AreFlags, presence_good, term_good, formula_good, right_good}
use Rattle.boolean_laws.proofs.Contracts.{OwnPure, PureManner, PureSite, PureTree, PureCalls, own_outputs, outputs_called, GoodMode, GoodItems, at_place, contract_good, stage_modes}

-- ---- sources of names

abbrev SourcesGood : Sources → Type 0
SourcesGood qs = AllByRecursion (λ q. GoodPart q.1) qs

paired_good : (xs : List Name) (ps : List Part) → GoodParts ps → SourcesGood (paired xs ps)
paired_good [] ps a = tt
paired_good (x ∷ xs) [] a = (tt, paired_good xs [] tt)
paired_good (x ∷ xs) (p ∷ ps) a = (a.0, paired_good xs ps a.1)

abbrev IfThere : Option Part → Type 0
IfThere None = Unit {0}
IfThere (Some p) = GoodPart p

looked_up : (x : Name) (qs : Sources) → SourcesGood qs → IfThere (lookup (bytes_eq x) qs)
looked_up x [] a = tt
looked_up x (q ∷ qs) a = go (bytes_eq x q.0) (looked_up x qs a.1)
  where
    go : (b : Bool) → IfThere (lookup (bytes_eq x) qs) → IfThere (cond b (Some q.1) (lookup (bytes_eq x) qs))
    go true r = a.0
    go false r = r

-- ---- one frame

module _ (i : Instance) (own_pure : OwnPure i) (calls : PureCalls i (calls_of i)) (at : Place → ℕ) (items : GoodItems at (contract_of i))
    (modes : GoodModes (stage i at).modes) where
  abbrev outs : (k : ℕ) → AreFlags (component_of (call_instance i k)).outputs
  outs = outputs_called i calls

  present_here : (c : _) → Good (present (stage i at) c)
  present_here c = presence_good (stage i at) own_pure.constants outs modes c

  term_here : (e : Expression) → Pure i e → GoodPart (term_of (stage i at) e)
  term_here e h = term_good (stage i at) own_pure.constants outs modes e h

  formula_here : (e : Expression) → Pure i e → Good (formula (stage i at) e)
  formula_here e h = formula_good (stage i at) own_pure.constants outs modes e h

  name_good : (v : Variable) → v.sort ≡ Flags → (o : Option Part) → IfThere o → AllGood (name_here (stage i at) v o)
  name_good v s (Some p) h =
      (good_equal _ _ (good_variable false v.sort _ s) (good_choice _ p _ (present_here _) h (good_zero v.sort s)), tt)
  name_good v s None h = go (named_in v.name.text (inputs_of i))
    where
      go : (b : Bool) → AllGood (cond b [] (is_free (stage i at) v ∷ []))
      go true = tt
      go false = ((present_here _, good_equal _ _ (good_variable false v.sort _ s) (good_zero v.sort s)), tt)

  equations_good : (es : List Equation) → AllByRecursion (λ e. Pure i e.right) es → SourcesGood (equation_sources (stage i at) es)
  equations_good [] l = tt
  equations_good (e ∷ es) l =
      both_parts (λ q. GoodPart q.1) (paired e.names (right_terms (stage i at) e.right)) _
      (paired_good e.names _ (right_good (stage i at) own_pure.constants outs modes e.right l.0)) (equations_good es l.1)

  names_good : (qs : Sources) → SourcesGood qs → (vs : List Variable) → AreFlags vs →
      AllGood (flat_map (λ v. name_here (stage i at) v (lookup (bytes_eq v.name.text) qs)) vs)
  names_good qs a [] s = tt
  names_good qs a (v ∷ vs) s =
      both_parts Good (name_here (stage i at) v (lookup (bytes_eq v.name.text) qs)) _
      (name_good v s.0 (lookup (bytes_eq v.name.text) qs) (looked_up v.name.text qs a)) (names_good qs a vs s.1)

  all_names_good : (given : Sources) → SourcesGood given → AllGood (names_here (stage i at) given)
  all_names_good given a =
      names_good (given ++ equation_sources (stage i at) (equations (component_of i)))
      (both_parts (λ q. GoodPart q.1) given _ a (equations_good (equations (component_of i)) own_pure.equations))
      (variables (component_of i)) own_pure.streams

  -- ---- first and next

  starts_good : (as_ : List Start) → AllGood (map (λ a. flag_at (stage i at) (own (starting a.number))) as_)
  starts_good [] = tt
  starts_good (a ∷ as_) = (tt, starts_good as_)

  so_far_good : (m : Manner) → AllGood (so_far_first (stage i at) m)
  so_far_good m = go (has_so_far m (component_of i))
    where
      go : (b : Bool) → AllGood (cond b (flag_at (stage i at) (own so_far) ∷ []) [])
      go true = (tt, tt)
      go false = tt

  memory_good : (x : Memory) → (sort_of i x.operand ≡ Flags) × Pure i x.operand → Good (memory_next (stage i at) x)
  memory_good x h =
      good_equal _ _ (good_variable true (sort_of i x.operand) _ h.0)
      (good_choice _ _ _ (present_here x.clock) (term_here x.operand h.1) (good_variable false (sort_of i x.operand) _ h.0))

  memories_good : AllGood (map (memory_next (stage i at)) (in_order (λ x. x.number) (memories (component_of i))))
  memories_good =
      all_mapped Good (memory_next (stage i at)) (in_order (λ x. x.number) (memories (component_of i)))
      (in_order_all (λ x. x.number) (λ x. Good (memory_next (stage i at) x)) (memories (component_of i))
      (all_from (λ (x : Memory). (sort_of i x.operand ≡ Flags) × Pure i x.operand) (λ x. Good (memory_next (stage i at) x)) memory_good
      (memories (component_of i)) own_pure.memories))

  starts_next_good : (as_ : List Start) → AllGood (map (start_next (stage i at)) as_)
  starts_next_good [] = tt
  starts_next_good (a ∷ as_) = ((tt, (tt, present_here a.clock)), starts_next_good as_)

  so_far_next_good : (m : Manner) → AllGood (so_far_next (stage i at) m)
  so_far_next_good m = go (has_so_far m (component_of i))
    where
      go : (b : Bool) → AllGood (cond b (becomes (stage i at) Flags so_far (a_flag (t.both (flag_at (stage i at) (own so_far)) (t.negation
          (t.both (flag_at (stage i at) (own beat)) (t.negation (all_of (assumed i at))))))) ∷ []) [])
      go true = ((tt, (tt, (tt, good_all (assumed i at) (at_place at (contract_of i).assumes items.assumes)))), tt)
      go false = tt

  -- ---- legal, and properties

  asserts_good : (es : List Expression) → AllByRecursion (Pure i) es →
      AllGood (map (λ e. t.negation (t.both (flag_at (stage i at) (own beat)) (t.negation (formula (stage i at) e)))) es)
  asserts_good [] l = tt
  asserts_good (e ∷ es) l = ((tt, formula_here e l.0), asserts_good es l.1)

  checks_good : (ss : List Statement) → AllByRecursion (Pure i) (checked ss) → AllGood (body_properties (stage i at) ss)
  checks_good [] l = tt
  checks_good (equation xs e ∷ ss) l = checks_good ss l
  checks_good (assertion e ∷ ss) l = checks_good ss l
  checks_good (property x ∷ ss) l = (formula_here x.value l.0, checks_good ss l.1)
  checks_good (main_mark w ∷ ss) l = checks_good ss l

  ensures_good : (ms : List (ModeItem Written)) → AllByRecursion (GoodMode at) ms → AllGood (flat_map (λ x. map (λ f. f at) x.ensures_each) ms)
  ensures_good [] a = tt
  ensures_good (x ∷ ms) a =
      both_parts Good (map (λ f. f at) x.ensures_each) _ (at_place at x.ensures_each a.0.ensures_each) (ensures_good ms a.1)

  one_mode_good : (ms : List (ModeItem Written)) → AllByRecursion (GoodMode at) ms → AllGood (one_mode ms at)
  one_mode_good [] a = tt
  one_mode_good (x ∷ ms) a = (good_some (map (λ y. y.asked at) (x ∷ ms)) (asked (x ∷ ms) a), tt)
    where
      asked : (ys : List (ModeItem Written)) → AllByRecursion (GoodMode at) ys → AllGood (map (λ y. y.asked at) ys)
      asked [] b = tt
      asked (y ∷ ys) b = (b.0.asked, asked ys b.1)

  -- ---- one call

  arguments_good : (es : List Expression) → AllByRecursion (Pure i) es → GoodParts (map (term_of (stage i at)) es)
  arguments_good [] l = tt
  arguments_good (e ∷ es) l = (term_here e l.0, arguments_good es l.1)

  shared_good : (xs : List Name) → AllByRecursion (λ x. sort_of_name i x ≡ Flags) xs → GoodParts (map (name_part (stage i at)) xs)
  shared_good [] a = tt
  shared_good (x ∷ xs) a = (good_variable false (sort_of_name i x) _ a.0, shared_good xs a.1)

  outputs_given_good : (w : Manner) (k : Instance) → PureManner i w → SourcesGood (shared_outputs (stage i at) w k)
  outputs_given_good plain k h = tt
  outputs_given_good (while_true a) k h = tt
  outputs_given_good (as_import xs) k h = paired_good (outputs_of k) _ (shared_good xs h)

  given_good : (c : Site) (k : Instance) → PureSite i c → SourcesGood (from_call (stage i at) c k)
  given_good c k s =
      both_parts (λ q. GoodPart q.1) (paired (inputs_of k) (map (term_of (stage i at)) c.arguments)) (shared_outputs (stage i at) c.manner k)
      (paired_good (inputs_of k) _ (arguments_good c.arguments s.arguments)) (outputs_given_good c.manner k s.manner)

  runs_good : (c : Site) (w : Manner) → PureManner i w → Good (runs_where (stage i at) c w)
  runs_good c plain h = present_here c.clock
  runs_good c (while_true a) h = (present_here c.clock, formula_here a h)
  runs_good c (as_import xs) h = tt

  -- ---- held outputs

  default_good : (ys : List Name) (ds : List Expression) → AllByRecursion (Pure i) ds → (x : Name) →
      IsNoNumber (default_among (constants_of i) ys ds x)
  default_good [] ds a x = tt
  default_good (y ∷ ys) [] a x = tt
  default_good (y ∷ ys) (d ∷ ds) a x = go (bytes_eq x y) (default_good ys ds a.1 x)
    where
      go : (b : Bool) → IsNoNumber (default_among (constants_of i) ys ds x) →
          IsNoNumber (cond b (constant_value (constants_of i) d) (default_among (constants_of i) ys ds x))
      go true r = none_of_value i own_pure.constants d a.0
      go false r = r

  defaults_at : (is : Instances) → PureCalls i is → (k : ℕ) → AllByRecursion (Pure i) (site_at is k).defaults
  defaults_at no_instances w k = tt
  defaults_at (with_instance c j is) w zero = w.0.defaults
  defaults_at (with_instance c j is) w (suc k) = defaults_at is w.2 k

  default_here : (k : ℕ) (x : Name) → IsNoNumber (default_of i k x)
  default_here k x = default_good (outputs_of (call_instance i k)) (site_of i k).defaults (defaults_at (calls_of i) calls (pred k)) x

  held_first_good : (c : Site) (w : Manner) (k : Instance) → PureTree k → AllGood (held_first (stage i at) c w k)
  held_first_good c plain k p = tt
  held_first_good c (as_import xs) k p = tt
  held_first_good c (while_true a) k p = each (component_of k).outputs (own_outputs k p)
    where
      each : (vs : List Variable) → AreFlags vs →
          AllGood (map (λ v. equal_parts (variable v.sort (at (own (held c.number v.name.text)))) (fixed (default_of i c.number v.name.text))) vs)
      each [] s = tt
      each (v ∷ vs) s =
          (good_equal _ _ (good_variable false v.sort _ s.0) (good_fixed _ (default_here c.number v.name.text)), each vs s.1)

  held_next_good : (c : Site) (w : Manner) (k : Instance) → PureTree k → AllGood (held_next (stage i at) c w k)
  held_next_good c plain k p = tt
  held_next_good c (as_import xs) k p = tt
  held_next_good c (while_true a) k p = each (component_of k).outputs (own_outputs k p)
    where
      each : (vs : List Variable) → AreFlags vs →
          AllGood (map (λ v. becomes (stage i at) v.sort (held c.number v.name.text) (choose_part (flag_at (stage i at) (in_call c.number (own beat)))
          (variable v.sort (at (in_call c.number (own (named v.name.text))))) (variable v.sort (at (own (held c.number v.name.text)))))) vs)
      each [] s = tt
      each (v ∷ vs) s = (
        good_equal _ _ (good_variable true v.sort _ s.0)
            (good_choice _ _ _ tt (good_variable false v.sort _ s.0) (good_variable false v.sort _ s.0)),
        each vs s.1,
      )

  -- ---- what is owed to it

  owed_good : (c : Site) (fs : List Formula) → AllGood fs →
      AllGood (map (λ f. t.negation (t.both (flag_at (stage i at) (in_call c.number (own beat))) (t.negation f))) fs)
  owed_good c [] a = tt
  owed_good c (f ∷ fs) a = ((tt, a.0), owed_good c fs a.1)

  owed_site_good : (c : Site) (w : Manner) (k : Instance) → PureTree k → AllGood (owed_by_site (stage i at) c w k)
  owed_site_good c plain k p =
      owed_good c _ (at_place (below_call c.number at) (contract_of k).assumes (contract_good k p (below_call c.number at)).assumes)
  owed_site_good c (while_true a) k p =
      owed_good c _ (at_place (below_call c.number at) (contract_of k).assumes (contract_good k p (below_call c.number at)).assumes)
  owed_site_good c (as_import xs) k p = tt

  owed_calls_good : (is : Instances) → PureCalls i is → AllGood (owed_by_calls (stage i at) is)
  owed_calls_good no_instances l = tt
  owed_calls_good (with_instance c k is) l =
      both_parts Good (owed_by_site (stage i at) c c.manner k) _ (owed_site_good c c.manner k l.1) (owed_calls_good is l.2)

-- ---- the tree

mutual
  here_good : (i : Instance) → PureTree i → (at : Place → ℕ) (active : Formula) → Good active → (given : Sources) → SourcesGood given →
      AllGood (here_of i at active given)
  here_good (instance d cs is) w at active h given a =
      let i : Instance = instance d cs is in (
        h,
        both_parts Good (names_here (stage i at) given) (calls_here is (stage i at))
            (all_names_good i w.0 w.1 at (contract_good i w at) (stage_modes i w at) given a) (calls_here_good is i w.0 w.1
            at (contract_good i w at) (stage_modes i w at) w.1),
      )

  calls_here_good : (is : Instances) (i : Instance) (own_pure : OwnPure i) → PureCalls i (calls_of i) → (at : Place → ℕ) →
      GoodItems at (contract_of i) → GoodModes (stage i at).modes → PureCalls i is → AllGood (calls_here is (stage i at))
  calls_here_good no_instances i o c at items modes l = tt
  calls_here_good (with_instance s k is) i o c at items modes l =
      both_parts Good (here_of k (below_call s.number at) _ (from_call (stage i at) s k)) (calls_here is (stage i at))
      (here_good k l.1 (below_call s.number at) _ (tt, runs_good i o c at items modes s s.manner l.0.manner) (from_call (stage i at) s k)
      (given_good i o c at items modes s k l.0))
      (calls_here_good is i o c at items modes l.2)

mutual
  first_good : (i : Instance) → PureTree i → (m : Manner) (at : Place → ℕ) → AllGood (first_of m i at)
  first_good (instance d cs is) w m at =
      let i : Instance = instance d cs is in
      let items = contract_good i w at in
      let modes = stage_modes i w at in
      both_parts Good (starts_first (stage i at) ++ so_far_first (stage i at) m) (calls_first is (stage i at))
      (both_parts Good (starts_first (stage i at)) (so_far_first (stage i at) m)
      (starts_good i w.0 w.1 at items modes _) (so_far_good i w.0 w.1 at items modes m))
      (calls_first_good is i w.0 w.1 at items modes w.1)

  calls_first_good : (is : Instances) (i : Instance) (own_pure : OwnPure i) → PureCalls i (calls_of i) → (at : Place → ℕ) →
      GoodItems at (contract_of i) → GoodModes (stage i at).modes → PureCalls i is → AllGood (calls_first is (stage i at))
  calls_first_good no_instances i o c at items modes l = tt
  calls_first_good (with_instance s k is) i o c at items modes l =
      both_parts Good (held_first (stage i at) s s.manner k ++ first_of s.manner k (below_call s.number at)) (calls_first is (stage i at))
      (both_parts Good (held_first (stage i at) s s.manner k) (first_of s.manner k (below_call s.number at))
      (held_first_good i o c at items modes s s.manner k l.1) (first_good k l.1 s.manner (below_call s.number at)))
      (calls_first_good is i o c at items modes l.2)

mutual
  next_good : (i : Instance) → PureTree i → (m : Manner) (at : Place → ℕ) → AllGood (next_of m i at)
  next_good (instance d cs is) w m at =
      let i : Instance = instance d cs is in
      let items = contract_good i w at in
      let modes = stage_modes i w at in
      both_parts Good (map (memory_next (stage i at)) (in_order (λ x. x.number) (memories d))
      ++ map (start_next (stage i at)) (in_order (λ x. x.number) (starts d)) ++ so_far_next (stage i at) m) (calls_next is (stage i at))
      (both_parts Good (map (memory_next (stage i at)) (in_order (λ x. x.number) (memories d))
      ++ map (start_next (stage i at)) (in_order (λ x. x.number) (starts d))) (so_far_next (stage i at) m)
      (both_parts Good (map (memory_next (stage i at)) (in_order (λ x. x.number) (memories d)))
      (map (start_next (stage i at)) (in_order (λ x. x.number) (starts d)))
      (memories_good i w.0 w.1 at items modes) (starts_next_good i w.0 w.1 at items modes _))
      (so_far_next_good i w.0 w.1 at items modes m))
      (calls_next_good is i w.0 w.1 at items modes w.1)

  calls_next_good : (is : Instances) (i : Instance) (own_pure : OwnPure i) → PureCalls i (calls_of i) → (at : Place → ℕ) →
      GoodItems at (contract_of i) → GoodModes (stage i at).modes → PureCalls i is → AllGood (calls_next is (stage i at))
  calls_next_good no_instances i o c at items modes l = tt
  calls_next_good (with_instance s k is) i o c at items modes l =
      both_parts Good (held_next (stage i at) s s.manner k ++ next_of s.manner k (below_call s.number at)) (calls_next is (stage i at))
      (both_parts Good (held_next (stage i at) s s.manner k) (next_of s.manner k (below_call s.number at))
      (held_next_good i o c at items modes s s.manner k l.1) (next_good k l.1 s.manner (below_call s.number at)))
      (calls_next_good is i o c at items modes l.2)

mutual
  asserts_in_good : (i : Instance) → PureTree i → (at : Place → ℕ) → AllGood (asserts_in i at)
  asserts_in_good (instance d cs is) w at =
      let i : Instance = instance d cs is in
      both_parts Good (asserts_of (stage i at)) (calls_asserts is (stage i at))
      (asserts_good i w.0 w.1 at (contract_good i w at) (stage_modes i w at) (assertions d.body) w.0.asserts) (calls_asserts_good is i w.1 at)

  calls_asserts_good : (is : Instances) (i : Instance) → PureCalls i is → (at : Place → ℕ) → AllGood (calls_asserts is (stage i at))
  calls_asserts_good no_instances i l at = tt
  calls_asserts_good (with_instance s k is) i l at =
      both_parts Good (asserts_in k (below_call s.number at)) (calls_asserts is (stage i at))
      (asserts_in_good k l.1 (below_call s.number at)) (calls_asserts_good is i l.2 at)

legal_good : (i : Instance) → PureTree i → (at : Place → ℕ) → AllGood (legal_of i at)
legal_good i w at =
    both_parts Good (assumed i at) (asserts_in i at) (at_place at (contract_of i).assumes (contract_good i w at).assumes) (asserts_in_good i w at)

properties_good : (i : Instance) → PureTree i → (at : Place → ℕ) → AllGood (properties_of i at)
properties_good (instance d cs is) w at =
    let i : Instance = instance d cs is in
    let items = contract_good i w at in
    let modes = stage_modes i w at in
    both_parts Good _ (owed_by_calls (stage i at) is)
    (both_parts Good _ (one_mode (contract_of i).modes at)
    (both_parts Good _ (flat_map (λ x. map (λ f. f at) x.ensures_each) (contract_of i).modes)
    (both_parts Good (body_properties (stage i at) d.body) (map (λ f. f at) (contract_of i).guarantees)
    (checks_good i w.0 w.1 at items modes d.body w.0.checks) (at_place at (contract_of i).guarantees items.guarantees))
    (ensures_good i w.0 w.1 at items modes (contract_of i).modes items.modes))
    (one_mode_good i w.0 w.1 at items modes (contract_of i).modes items.modes))
    (owed_calls_good i w.0 w.1 at items modes is w.1)

-- ---- variables

abbrev AreFlagSlots : List Slot → Type 0
AreFlagSlots qs = AllByRecursion (λ q. q.sort ≡ Flags) qs

abbrev AreFlagCells : Instance → List Cell → Type 0
AreFlagCells i cs = AllByRecursion (λ c. cell_sort i c ≡ Flags) cs

slots_here : (i : Instance) (path : List ℕ) (cs : List Cell) → AreFlagCells i cs → AreFlagSlots (map (slot i path) cs)
slots_here i path [] a = tt
slots_here i path (c ∷ cs) a = (a.0, slots_here i path cs a.1)

names_cells : (i : Instance) (vs : List Variable) → AreFlags vs → AreFlagCells i (map name_cell vs)
names_cells i [] a = tt
names_cells i (v ∷ vs) a = (a.0, names_cells i vs a.1)

starts_cells : (i : Instance) (as_ : List Start) → AreFlagCells i (map start_cell as_)
starts_cells i [] = tt
starts_cells i (a ∷ as_) = (refl, starts_cells i as_)

contract_flags : (i : Instance) (m : Manner) (o : Option (List ContractStatement)) → AreFlagCells i (contract_cells m o)
contract_flags i m None = tt
contract_flags i plain (Some cs) = (refl, tt)
contract_flags i (while_true a) (Some cs) = (refl, tt)
contract_flags i (as_import xs) (Some cs) = tt

held_flags : (i : Instance) (c : Site) (vs : List Variable) (ds : List Expression) → AreFlags vs → AreFlagCells i (held_each c vs ds)
held_flags i c [] ds a = tt
held_flags i c (v ∷ vs) [] a = tt
held_flags i c (v ∷ vs) (d ∷ ds) a = (a.0, held_flags i c vs ds a.1)

held_cells_flags : (i : Instance) (c : Site) (k : Instance) (m : Manner) → PureTree k → AreFlagCells i (held_cells c (component_of k) m)
held_cells_flags i c k plain w = tt
held_cells_flags i c k (as_import xs) w = tt
held_cells_flags i c k (while_true a) w = held_flags i c (component_of k).outputs c.defaults (own_outputs k w)

own_flags : (i : Instance) (m : Manner) → OwnPure i → AreFlagCells i (own_cells m (component_of i))
own_flags i m o =
    let P : Cell → Type 0 = λ c. cell_sort i c ≡ Flags in
    let n = component_of i in (
      refl,
      both_parts P (map name_cell (variables n)) _ (names_cells i (variables n) o.streams)
          (both_parts P (map memory_cell (in_order (λ x. x.number) (memories n))) _
          (all_mapped P memory_cell (in_order (λ x. x.number) (memories n))
          (in_order_all (λ x. x.number) (λ x. sort_of i x.operand ≡ Flags) (memories n)
          (all_from (λ (x : Memory). (sort_of i x.operand ≡ Flags) × Pure i x.operand) (λ x. sort_of i x.operand ≡ Flags) (λ x h. h.0)
          (memories n) o.memories)))
          (both_parts P (map start_cell (in_order (λ x. x.number) (starts n))) _ (starts_cells i _) (contract_flags i m n.contract))),
    )

mutual
  slots_flags : (i : Instance) → PureTree i → (m : Manner) (path : List ℕ) → AreFlagSlots (slots_in m path i)
  slots_flags (instance d cs is) w m path =
      let i : Instance = instance d cs is in
      both_parts (λ q. q.sort ≡ Flags) (map (slot i path) (own_cells m d)) (call_slots i path is)
      (slots_here i path (own_cells m d) (own_flags i m w.0)) (call_flags i is w.1 path)

  call_flags : (i : Instance) (is : Instances) → PureCalls i is → (path : List ℕ) → AreFlagSlots (call_slots i path is)
  call_flags i no_instances w path = tt
  call_flags i (with_instance c k is) w path =
      both_parts (λ q. q.sort ≡ Flags) (map (slot i path) (held_cells c (component_of k) c.manner)) _
      (slots_here i path (held_cells c (component_of k) c.manner) (held_cells_flags i c k c.manner w.1))
      (both_parts (λ q. q.sort ≡ Flags) (slots_in c.manner (path ++ c.number ∷ []) k) (call_slots i path is)
      (slots_flags k w.1 c.manner (path ++ c.number ∷ [])) (call_flags i is w.2 path))

-- ---- the system

pub of_flags : (i : Instance) → PureTree i → IsOfFlags (system_of i)
of_flags i w =
    let m = system_of i in
    let at : Place → ℕ = number_of i in
    let heres : AllGood m.here = here_good i w at _ tt [] tt in
    let firsts : AllGood m.first = first_good i w plain at in
    let nexts : AllGood m.next = next_good i w plain at in
    record {
      variables = all_mapped (λ s. s ≡ shapes.Flag) (λ q. shape_of q.sort) (slots i)
          (all_from (λ (q : Slot). q.sort ≡ Flags) (λ q. shape_of q.sort ≡ shapes.Flag) (λ q e. ap shape_of e) (slots i)
          (slots_flags i w plain []));
      terms = all_from Good (λ f. is_boolean f ≡ true) good_boolean (terms_of m)
          (both_parts Good m.first _ firsts (both_parts Good m.here _ heres (both_parts Good m.next _ nexts
          (both_parts Good m.legal _ (legal_good i w at) (properties_good i w at)))));
    }
