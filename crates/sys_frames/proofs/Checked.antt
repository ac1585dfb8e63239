-- The tables of a checked program's declarations have what the translation finds in the frames of their instances.
use Rattle.std.proofs.Common.{◌≡◌, ℕ, zero, suc, ◌+◌, ◌<◌, Bool, true, false, cond, List, [], ◌∷◌, map, length, Option, Some, None, option_map, refl, sym, ap, ◌∙◌, subst, arith, get_or}
use Rattle.std.specs.Prelude.{Contains, slice_get, is_none, is_some, not}
use Rattle.std.specs.List.{AllByRecursion}
use Rattle.std.proofs.lemmas.Option.{slice_get-map}
use Rattle.lus_tree.specs.Tree.{Name, Expression, Variable, ContractStatement, assume, guarantee, ghost_variable, constant, mode, «import», Component, Program}
use Rattle.lus_meaning.specs.ClockFaults.{components}
use Rattle.lus_meaning.specs.Occurrences.{Memory, memories, Start, starts}
use Rattle.lus_meaning.specs.Program.{all_sites, component_named, constants_in, in_order, instances_with, instance_of, instance_within}
use Rattle.lus_meaning.specs.Refusals.{IsChecked}
use Rattle.lus_meaning.specs.Run.{Equation, equations, sort_of, sort_of_name}
use Rattle.lus_meaning.specs.Scene.{Manner, plain, while_true, as_import, Site, Instance, Instances, instance, no_instances, with_instance, calls_of, component_of, constants_of, contract_statements, instance_at, no_component, variables}
use Rattle.lus_meaning.specs.Slots.{held_cells, held_each, slot}
use Rattle.lus_meaning.specs.Value.{Value}
use Rattle.lus_meaning.proofs.Exists.{length_mapped}
use Rattle.lus_meaning.proofs.InOrder.{in_order_length}
use Rattle.rule_laws.specs.Laws.{IsUnfolded, AreUnfolded}
use Rattle.rule_laws.proofs.Covered.{all_contained, found_declared}
use Rattle.rule_laws.proofs.Places.{numbered, memories_counted, starts_counted}
use Rattle.rule_laws.proofs.Unfolded.{each_unfolded}
use Rattle.lus_limits.specs.Calls.{way_of}
use Rattle.lus_limits.specs.Instances.{callee, instance_called_so}
use Rattle.lus_limits.specs.Summaries.{bound}
use Rattle.lus_limits.specs.Widths.{frame_width}
use Rattle.lus_limits.proofs.Instances.{component_called, made_of_callees}
use Rattle.lus_layouts.proofs.Fits.{callees_fit}
use Rattle.lus_layouts.specs.Layouts.{layout_of}
use Rattle.lus_layouts.specs.declared.placing.CallSlots.{CallSlots}
use Rattle.sys_meaning.specs.Defaults.{default_of}
use Rattle.sys_meaning.specs.Part.{equal_parts, fixed, variable}
use Rattle.sys_meaning.specs.Items.{Key}
use Rattle.sys_meaning.specs.Slot.{Place, own, beat, held, so_far, in_call}
use Rattle.sys_meaning.specs.System.{below_call, has_so_far, held_first, held_next, shape_of}
use Rattle.sys_meaning.specs.WellTyped.{IsKnown, StatementsFit, TreeFits, CallsFit, CallFits, MannerFits}
use Rattle.sys_meaning.proofs.Backward.{tree_own}
use Rattle.path_laws.proofs.Main.{each_is_well_typed}
use Rattle.sys_texts.specs.Sights.{Sight}
use Rattle.sys_texts.specs.Laws.{IsSteady}
use Rattle.sys_contracts.specs.Laws.{IsSteadyStatement, bare}
use Rattle.sys_conditions.specs.Conditioned.{held_at_first, held_condition}
use Rattle.sys_conditions.specs.Laws.{IsSteadyItem}
use Rattle.steady_laws.specs.Steady.{IsSteadySite}
use Rattle.steady_laws.specs.Laws.{ConstantsOfInstances, EquationsAreSteady, ItemsAreSteady, MemoriesInOrder, SitesAreSteady, StatementsAreSteady}
use Rattle.sys_places.specs.Places.{StandsAt, OfEachCall, CallStandsAt, own_end}
use Rattle.sys_places.specs.Own.{CallVariablesAt, OwnStandAt}
use Rattle.sys_places.proofs.Calls.{stands_at_calls}
use Rattle.sys_places.proofs.Held.{call_variables_stand}
use Rattle.sys_places.proofs.Own.{own_stands}
use Rattle.sys_tables.specs.Tabled.{Tabled, all_linked, constants_known, linked, named_stream, place_of, small_value, table_of}
use Rattle.sys_tables.specs.Numbers.{keeps_so_far, sight_at, so_far_number}
use Rattle.sight_laws.specs.Sights.{CalleesAreThere, CalleesStand, CallsAreCalls, DefaultsAreKnown, FramesHaveRoom, HasItsDefaults, SightsAreSights, call_of, output_of}
use Rattle.sys_frames.specs.Walked.{held_lists, so_far_of}
use Rattle.sys_frames.specs.Walked as w
use Rattle.sys_frames.proofs.Seen.{HasNames, IsImportAt, IsSteadyText, SeesOwn, SeesCall, Seen, CallsSeen}

-- the laws of texts and of sights that are called for
pub record Laws : Type 0 where
  pub sights : SightsAreSights
  pub defaults : DefaultsAreKnown
  pub constants : ConstantsOfInstances
  pub memories : MemoriesInOrder
  pub sites : SitesAreSteady
  pub equations : EquationsAreSteady
  pub items : ItemsAreSteady
  pub statements : StatementsAreSteady
  pub calls : CallsAreCalls
  pub stand : CalleesStand
  pub there : CalleesAreThere
  pub room : FramesHaveRoom

-- ---- lists

got_some : {A : Type 0} (xs : List A) (k : ℕ) (d : A) → k < length xs → slice_get xs k ≡ Some (get_or xs k d)
got_some [] k d l = absurd (omega (arith, l))
got_some (x ∷ xs) zero d l = refl
got_some (x ∷ xs) (suc k) d l = got_some xs k d (omega (arith, l))

twice : {A B C : Type 0} (f : B → C) (h : A → B) (xs : List A) → map f (map h xs) ≡ map (λ x. f (h x)) xs
twice f h [] = refl
twice f h (x ∷ xs) = ap (λ l. f (h x) ∷ l) (twice f h xs)

abbrev pub table_list : Program → List Tabled
table_list p = map (table_of p) (components p)

-- the table of a callee stands at its place
pub table_there : CalleesStand → (p : Program) (x : Name) → place_of p x < length (components p) → slice_get (table_list p) (place_of p x) ≡ Some (table_of p (callee p x))
table_there stand p x l =
    slice_get-map (table_of p) (components p) (place_of p x)
    ∙ ap (option_map (table_of p)) (got_some (components p) (place_of p x) no_component l ∙ ap Some (stand p x))

-- ---- a frame itself

imports_so : (i : Instance) (cs : List ContractStatement) (ks : List Key) → StatementsFit i ks cs → AllByRecursion (IsImportAt i) cs
imports_so i [] ks h = tt
imports_so i («import» k x as_ xs ∷ cs) ks h = ((h.0.outputs, h.0.manner), imports_so i cs _ h.1)
imports_so i (assume l ∷ cs) ks h = (tt, imports_so i cs _ h.1)
imports_so i (guarantee l ∷ cs) ks h = (tt, imports_so i cs _ h.1)
imports_so i (ghost_variable x e ∷ cs) ks h = (tt, imports_so i cs _ h.1)
imports_so i (constant d ∷ cs) ks h = (tt, imports_so i cs _ h.1)
imports_so i (mode m rs es ∷ cs) ks h = (tt, imports_so i cs _ h.1)

keeps_is : (p : Program) (n : Component) (m : Manner) → keeps_so_far (way_of m) (table_of p n) ≡ has_so_far m n
keeps_is p n plain = go n.contract
  where
    go : (o : Option (List ContractStatement)) → not (is_none o) ≡ is_some o
    go None = refl
    go (Some cs) = refl
keeps_is p n (while_true a) = go n.contract
  where
    go : (o : Option (List ContractStatement)) → not (is_none o) ≡ is_some o
    go None = refl
    go (Some cs) = refl
keeps_is p n (as_import xs) = refl

kept_as : (b : Bool) (a k j missing : ℕ) → a ≡ cond b j missing → k ≡ j → cond b (Some k) None ≡ cond b (Some a) None
kept_as true a k j missing e h = ap Some (h ∙ sym e)
kept_as false a k j missing e h = refl

module _ (laws : Laws) (p : Program) (c : IsChecked p) (n : Component) (j : Contains (components p) n) where
  abbrev i : Instance
  i = instance_of p n

  same_component : n ≡ component_of i
  same_component = sym (component_called p n)

  same_constants : constants_in p n ≡ constants_of i
  same_constants = sym (laws.constants p n)

  tree : TreeFits IsKnown i
  tree = (each_is_well_typed p c n j).0.tree

  steady : IsSteadyText i
  steady = record {
    memories = subst (λ z. AllByRecursion (λ (u : Memory). IsSteady (constants_of i) u.operand) (in_order (λ (u : Memory). u.number) (memories z))) same_component
        (subst (λ cs. AllByRecursion (λ (u : Memory). IsSteady cs u.operand) (in_order (λ (u : Memory). u.number) (memories n))) same_constants (laws.memories p c n j));
    equations = subst (λ z. AllByRecursion (λ (e : Equation). IsSteady (constants_of i) e.right) (equations z)) same_component
        (subst (λ cs. AllByRecursion (λ (e : Equation). IsSteady cs e.right) (equations n)) same_constants (laws.equations p c n j));
    items = subst (λ z. AllByRecursion (IsSteadyItem (constants_of i)) z.body) same_component
        (subst (λ cs. AllByRecursion (IsSteadyItem cs) n.body) same_constants (laws.items p c n j));
    statements = subst (λ z. AllByRecursion (IsSteadyStatement (constants_of i)) (contract_statements z)) same_component
        (subst (λ cs. AllByRecursion (IsSteadyStatement cs) (contract_statements n)) same_constants (laws.statements p c n j));
  }

  -- the memories and the starts are as many as there are
  many_memories : length (in_order (λ (u : Memory). u.number) (memories n)) ≡ length (memories n)
  many_memories = in_order_length (λ (u : Memory). u.number) (memories n) (memories_counted n (numbered p c.grammatical n j))

  many_starts : length (in_order (λ (a : Start). a.number) (starts n)) ≡ length (starts n)
  many_starts = in_order_length (λ (a : Start). a.number) (starts n) (starts_counted n (numbered p c.grammatical n j))

  so_far_there : (base : ℕ) → so_far_number (table_of p n) base ≡ ((suc base + length (variables n)) + length (memories n)) + length (starts n)
  so_far_there base =
      let a : length (map (named_stream n) (variables n)) ≡ length (variables n) = length_mapped (named_stream n) (variables n) in
      sums base _ _ _ _ _ _ a many_memories many_starts
    where
      sums : (base v m s v' m' s' : ℕ) → v ≡ v' → m ≡ m' → s ≡ s' → ((base + suc v) + m) + s ≡ ((suc base + v') + m') + s'
      sums base v m s v' m' s' a b d = omega arith

  kept_there : (m : Manner) (at : Place → ℕ) (missing base : ℕ) → OwnStandAt at missing base m n
      → so_far_of (table_of p n) (way_of m) base ≡ cond (has_so_far m (component_of i)) (Some (at (own so_far))) None
  kept_there m at missing base h =
      ap (λ b. cond b (Some (so_far_number (table_of p n) base)) None) (keeps_is p n m)
      ∙ (kept_as (has_so_far m n) (at (own so_far)) (so_far_number (table_of p n) base) _ missing h.assumed (so_far_there base)
      ∙ ap (λ z. cond (has_so_far m z) (Some (at (own so_far))) None) same_component)

  pub own_seen : (m : Manner) (at : Place → ℕ) (missing base : ℕ) → frame_width p m n < bound → StandsAt at missing base m i
      → SeesOwn missing (table_of p n) (way_of m) base m i at
  own_seen m at missing base l stands = record {
    text = same_component;
    streams = ap (λ z. map (named_stream z) (variables z)) same_component;
    memories = ap (λ z. in_order (λ (u : Memory). u.number) (memories z)) same_component;
    starts = ap (λ z. in_order (λ (a : Start). a.number) (starts z)) same_component;
    kept = kept_there m at missing base (own_stands p c n j m at missing base stands);
    sight = laws.sights p c n j m at missing base l stands [] [] (λ d x. refl);
    distinct = (tree_own IsKnown i tree).once;
    steady = steady;
    imports = imports_so i (contract_statements (component_of i)) [] (tree_own IsKnown i tree).contract;
  }

-- ---- its calls

abbrev rest_of : Instances → Instances
rest_of no_instances = no_instances
rest_of (with_instance s k is) = is

lengths : {A B C : Type 0} (f : A → C) (h : B → C) (xs : List A) (ys : List B) → map f xs ≡ map h ys → length xs ≡ length ys
lengths f h xs ys e = sym (length_mapped f xs) ∙ ap length e ∙ length_mapped h ys

names_so : (i : Instance) (d : _) (m : Manner) (k : Instance) → MannerFits IsKnown i d m k → HasNames m k
names_so i d plain k h = tt
names_so i d (while_true a) k h = tt
names_so i d (as_import xs) k h = lengths (sort_of_name i) (λ (v : Variable). v.sort) xs (component_of k).outputs h.2

-- what is held of outputs, each with its value
held_values : (at : Place → ℕ) (k : ℕ) (g : Variable → Value) (vs : List Variable)
    → held_at_first (map (output_of at k) vs) (map g vs)
    ≡ map (λ v. equal_parts (variable v.sort (at (own (held k v.name.text)))) (fixed (g v))) vs
held_values at k g [] = refl
held_values at k g (v ∷ vs) = ap (λ l. equal_parts (variable v.sort (at (own (held k v.name.text)))) (fixed (g v)) ∷ l) (held_values at k g vs)

held_cells_shaped : (i : Instance) (path : List ℕ) (at : Place → ℕ) (s : Site) (h : Expression → Value) (vs : List Variable) (ds : List Expression)
    → w.held_shapes (map (output_of at s.number) vs) (map h ds) ≡ map (λ p. shape_of p.sort) (map (slot i path) (held_each s vs ds))
held_cells_shaped i path at s h [] ds = refl
held_cells_shaped i path at s h (v ∷ vs) [] = refl
held_cells_shaped i path at s h (v ∷ vs) (d ∷ ds) = ap (λ l. shape_of v.sort ∷ l) (held_cells_shaped i path at s h vs ds)

module _ (laws : Laws) (p : Program) (c : IsChecked p) (n : Component) (j : Contains (components p) n) (m : Manner) (at : Place → ℕ) (missing base : ℕ) where
  abbrev f : Name → Instance
  f = instance_called_so p

  abbrev this : Instance
  this = instance_of p n

  abbrev unfolded : Instance
  unfolded = instance n (constants_in p n) (instances_with f (all_sites n))

  abbrev s : Sight
  s = sight_at (table_of p n) (way_of m) base missing

  abbrev from : ℕ
  from = own_end p m n base

  made : this ≡ unfolded
  made = made_of_callees p c n j

  -- what is held of a call
  module _ (t : Site) (l : CallSlots) (known : HasItsDefaults p n (linked p n t l) t.manner) where
    abbrev k : Instance
    k = f t.callee

    abbrev outs : List Variable
    outs = (callee p t.callee).outputs

    same_outputs : outs ≡ (component_of k).outputs
    same_outputs = ap (λ z. z.outputs) (sym (component_called p (callee p t.callee)))

    abbrev defaults : List Value
    defaults = map (small_value (constants_known p n)) t.defaults

    first_held : (m : Manner) → HasItsDefaults p n (linked p n t l) m → (held_lists defaults (call_of p at t) m).first ≡ held_first (bare unfolded at) t m k
    first_held plain h = refl
    first_held (as_import xs) h = refl
    first_held (while_true a) h =
        ap (held_at_first (map (output_of at t.number) outs)) h
        ∙ (held_values at t.number (λ v. default_of this t.number v.name.text) outs
        ∙ (ap (λ z. map (λ v. equal_parts (variable v.sort (at (own (held t.number v.name.text)))) (fixed (default_of z t.number v.name.text))) outs) made
        ∙ ap (map (λ v. equal_parts (variable v.sort (at (own (held t.number v.name.text)))) (fixed (default_of unfolded t.number v.name.text)))) same_outputs))

    later_held : (m : Manner) → (held_lists defaults (call_of p at t) m).next ≡ held_next (bare unfolded at) t m k
    later_held plain = refl
    later_held (as_import xs) = refl
    later_held (while_true a) =
        twice (held_condition (at (in_call t.number (own beat)))) (output_of at t.number) outs
        ∙ ap (map (λ v. held_condition (at (in_call t.number (own beat))) (output_of at t.number v))) same_outputs

    shaped_held : (path : List ℕ) (m : Manner) → (held_lists defaults (call_of p at t) m).shapes
        ≡ map (λ p. shape_of p.sort) (map (slot unfolded path) (held_cells t (component_of k) m))
    shaped_held path plain = refl
    shaped_held path (as_import xs) = refl
    shaped_held path (while_true a) =
        held_cells_shaped unfolded path at t (small_value (constants_known p n)) outs t.defaults
        ∙ ap (λ vs. map (λ p. shape_of p.sort) (map (slot unfolded path) (held_each t vs t.defaults))) same_outputs

  call_seen : (t : Site) (l : CallSlots) (q : ℕ) → CallFits IsKnown unfolded t (f t.callee) q → IsSteadySite (constants_in p n) t
      → CallVariablesAt at missing from p t l → HasItsDefaults p n (linked p n t l) t.manner → slice_get s.calls q ≡ Some (call_of p at t)
      → SeesCall missing unfolded at s from q (linked p n t l) t (f t.callee)
  call_seen t l q fits u v known there = record {
    site = refl;
    number = fits.number;
    call = call_of p at t;
    seen = there;
    beats = refl;
    frame = sym v.active;
    manner = u.manner;
    arguments = u.arguments;
    many = lengths (sort_of unfolded) (λ (x : Variable). x.sort) t.arguments (component_of (f t.callee)).inputs fits.sorts;
    names = names_so unfolded t.clock t.manner (f t.callee) fits.manner;
    held_at_first = first_held t l known t.manner known;
    held_later = later_held t l known t.manner;
    held_shapes = λ path. shaped_held t l known path t.manner;
  }

  abbrev Below : ℕ → Name → Instance
  Below d x = instance_within d p (callee p x)

  -- what is known of a callee's frame
  abbrev IsSeenBelow : ℕ → Type 0
  IsSeenBelow d = (x : Component) → Contains (components p) x → (m : Manner) (at : Place → ℕ) (base : ℕ) → frame_width p m x < bound
      → StandsAt at missing base m (instance_of p x) → instance_within d p x ≡ instance_of p x
      → Seen missing (table_list p) d (table_of p x) (way_of m) base m (instance_of p x) at

  declared : (x : Name) (k : Instance) → k ≡ f x → component_named p x ≡ Some (component_of k) → Contains (components p) (callee p x)
  declared x k same e =
      subst (Contains (components p)) (ap component_of same ∙ component_called p (callee p x)) (found_declared p x (component_of k) e)

  calls_seen : (d : ℕ) → IsSeenBelow d → (ss : List Site) (ls : List CallSlots) (q : ℕ) → AreUnfolded p ss (instances_with f ss)
      → CallsFit IsKnown unfolded (instances_with f ss) q → AllByRecursion (IsSteadySite (constants_in p n)) ss
      → OfEachCall (CallStandsAt at missing from p) ss ls → OfEachCall (CallVariablesAt at missing from p) ss ls
      → AllByRecursion (λ l. HasItsDefaults p n l l.site.manner) (all_linked p n ss ls)
      → AllByRecursion (λ t. frame_width p t.manner (callee p t.callee) < bound) ss → instances_with (Below d) ss ≡ instances_with f ss
      → AllByRecursion (λ t. place_of p t.callee < length (components p)) ss
      → ((k : ℕ) → slice_get s.calls (q + k) ≡ slice_get (map (call_of p at) ss) k)
      → CallsSeen missing (table_list p) (suc d) unfolded at s from q (all_linked p n ss ls) (instances_with f ss)
  calls_seen d below [] [] q u t y a v k w e z h = tt
  calls_seen d below [] (l ∷ ls) q u t y a v k w e z h = absurd a
  calls_seen d below (x ∷ ss) [] q u t y a v k w e z h = absurd a
  calls_seen d below (x ∷ ss) (l ∷ ls) q u t y a v k w e z h = (
    call_seen x l q t.0 y.0 v.0 k.0 (ap (slice_get s.calls) (more_none q) ∙ h 0),
    (
      table_of p (callee p x.callee),
      table_there laws.stand p x.callee z.0,
      below (callee p x.callee) (declared x.callee (f x.callee) refl u.1) x.manner (below_call x.number at) (from + l.frame) w.0 a.0
          (ap (λ (is : Instances). instance_at is 0) e),
    ),
    calls_seen d below ss ls (suc q) u.3 t.2 y.1 a.1 v.1 k.1 w.1 (ap rest_of e) z.1 (λ r. ap (slice_get s.calls) (one_more q r) ∙ h (suc r)),
  )
    where
      more_none : (q : ℕ) → q ≡ q + 0
      more_none q = omega arith

      one_more : (q r : ℕ) → suc q + r ≡ q + suc r
      one_more q r = omega arith

  none_seen : (ss : List Site) (ls : List CallSlots) → OfEachCall (CallStandsAt at missing from p) ss ls → no_instances ≡ instances_with f ss
      → CallsSeen missing (table_list p) 0 unfolded at s from 0 (all_linked p n ss ls) (instances_with f ss)
  none_seen [] [] a e = tt
  none_seen [] (l ∷ ls) a e = absurd a
  none_seen (x ∷ ss) [] a e = absurd a
  none_seen (x ∷ ss) (l ∷ ls) a e = cc

  abbrev Called : ℕ → Type 0
  Called d = CallsSeen missing (table_list p) d unfolded at s from 0 (all_linked p n (all_sites n) (layout_of p n).calls) (instances_with f (all_sites n))

  put_together : (d : ℕ) → SeesOwn missing (table_of p n) (way_of m) base m this at → Called d
      → Seen missing (table_list p) d (table_of p n) (way_of m) base m this at
  put_together d own calls =
      subst (λ (i : Instance). Seen missing (table_list p) d (table_of p n) (way_of m) base m i at) (sym made)
      (subst (λ (i : Instance). SeesOwn missing (table_of p n) (way_of m) base m i at) made own, calls)

  -- each callee's frame has fewer variables than the limit
  widths_fit : frame_width p m n < bound → AllByRecursion (λ t. frame_width p t.manner (callee p t.callee) < bound) (all_sites n)
  widths_fit l = all_contained (λ (t : Site). frame_width p t.manner (callee p t.callee) < bound) (all_sites n) (callees_fit p c n j m l)

  places_there : AllByRecursion (λ t. place_of p t.callee < length (components p)) (all_sites n)
  places_there = all_contained (λ (t : Site). place_of p t.callee < length (components p)) (all_sites n) (laws.there p c n j)

  pub calls_so : (d : ℕ) → IsSeenBelow d → frame_width p m n < bound → StandsAt at missing base m this
      → instance_within (suc d) p n ≡ this → Called (suc d)
  calls_so d below l stands e =
      calls_seen d below (all_sites n) (layout_of p n).calls 0
      (subst (IsUnfolded p) made (each_unfolded p c n j)).1
      (subst (TreeFits IsKnown) made (each_is_well_typed p c n j).0.tree).1
      (laws.sites p c n j)
      (stands_at_calls p c n j m at missing base l stands)
      (call_variables_stand p c n j m at missing base l stands)
      (laws.defaults p c n j) (widths_fit l) (ap calls_of (e ∙ made)) places_there
      (λ k. ap (slice_get s.calls) (none_more k) ∙ ap (λ z. slice_get z k) (laws.calls p c n j m at missing base l stands))
    where
      none_more : (k : ℕ) → 0 + k ≡ k
      none_more k = omega arith

  pub none_so : frame_width p m n < bound → StandsAt at missing base m this → instance_within 0 p n ≡ this → Called 0
  none_so l stands e = none_seen (all_sites n) (layout_of p n).calls (stands_at_calls p c n j m at missing base l stands) (ap calls_of (e ∙ made))

-- with calls nested no deeper than said, where the instance isn't nested deeper
pub seen_so : Laws → (p : Program) → IsChecked p → (missing d : ℕ) (n : Component) → Contains (components p) n
    → (m : Manner) (at : Place → ℕ) (base : ℕ) → frame_width p m n < bound → StandsAt at missing base m (instance_of p n)
    → instance_within d p n ≡ instance_of p n → Seen missing (table_list p) d (table_of p n) (way_of m) base m (instance_of p n) at
seen_so laws p c missing zero n j m at base l stands e =
    put_together laws p c n j m at missing base 0 (own_seen laws p c n j m at missing base l stands) (none_so laws p c n j m at missing base l stands e)
seen_so laws p c missing (suc d) n j m at base l stands e =
    put_together laws p c n j m at missing base (suc d) (own_seen laws p c n j m at missing base l stands)
    (calls_so laws p c n j m at missing base d (λ x k r a b w q z. seen_so laws p c missing d x k r a b w q z) l stands e)
