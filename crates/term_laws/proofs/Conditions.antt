-- The conditions of a light declaration's system are fine.
use Rattle.std.proofs.Common.{◌≡◌, ℕ, suc, ◌≤◌, Bool, true, false, cond, List, [], ◌∷◌, ◌++◌, map, flat_map, Option, Some, None, refl, sym, ◌∙◌, subst, arith}
use Rattle.std.specs.List.{AllByRecursion}
use Rattle.std.specs.Map.{lookup}
use Rattle.std.specs.Str.{bytes_eq}
use Rattle.lus_tree.specs.declared.place.Sort.{Sort}
use Rattle.lus_tree.specs.declared.place.Sort.TheVariants.{Bool as Flags}
use Rattle.lus_tree.specs.Tree.{Name, Variable, Expression, Expressions, no_more, more, Statement, equation, assertion, property, main_mark}
use Rattle.lus_meaning.specs.Value.{Value, absent, flag, whole, has_sort}
use Rattle.lus_meaning.specs.Scene.{Clock, base, Manner, plain, while_true, as_import, Site, Instance, Instances, instance, no_instances, with_instance, calls_of, call_instance, component_of, constants_of, outputs_of, variables}
use Rattle.lus_meaning.specs.Program.{in_order, constant_value}
use Rattle.lus_meaning.specs.Property.{assertions}
use Rattle.lus_meaning.specs.Run.{Equation, equations, inputs_of, sort_of, sort_of_name}
use Rattle.lus_meaning.specs.Depends.{named_in}
use Rattle.lus_meaning.specs.Occurrences.{Memory, memories, Start, starts}
use Rattle.lus_meaning.specs.Scope.{greatest_weight}
use Rattle.lus_meaning.proofs.InOrder.{in_order_all}
use Rattle.lus_meaning.proofs.Lists.{all_from, all_from_both, both_parts}
use Rattle.lus_meaning.proofs.Unique.{same_bytes}
use Rattle.rule_laws.proofs.Lists.{all_mapped}
use Rattle.sys_terms.specs.View.{Formula, negation, both, same}
use Rattle.sys_meaning.specs.Slot.{Spot, beat, named, memory, starting, so_far, held, Place, own, in_call}
use Rattle.sys_meaning.specs.Defaults.{default_among, default_of, site_of}
use Rattle.sys_meaning.specs.Items.{ModeItem}
use Rattle.sys_meaning.specs.Part.{Part, a_flag, fixed, variable, variable_in, zero_of, all_of, choose_part, equal_parts}
use Rattle.sys_meaning.specs.Translate.{Stage, flag_at, name_part, present, term_of, right_terms, formula}
use Rattle.sys_meaning.specs.System.{Written, contract_of, assumed, stage, below_call, Sources, paired, equation_sources, variable_of, clock_of_variable, is_free, name_here, names_here, runs_where, shared_outputs, from_call, here_of, calls_here, has_so_far, starts_first, so_far_first, held_first, first_of, calls_first, becomes, memory_next, start_next, so_far_next, held_next, next_of, calls_next, asserts_of, asserts_in, calls_asserts, legal_of, body_properties, one_mode, owed_by_site, owed_by_calls, properties_of}
use Rattle.sys_meaning.specs.WellTyped.{IsKnown, checked, IsNameOn, IsHeldCall, DefaultsFit, ClockFits, StreamFits, EquationFits, MemoryFits, StartFits, Stands, OwnFits, CallFits, TreeFits, CallsFit, MannerFits}
use Rattle.sys_meaning.proofs.Forward.{drop_calls}
use Rattle.term_laws.proofs.Fine.{Variables, Fine, FineParts, part_weight, fine_variable, fine_zero, fine_equal, fine_choice, fine_fixed, all_of_fine, some_of_fine}
use Rattle.term_laws.proofs.Weights.{value_size, value_here}
use Rattle.term_laws.proofs.Lights.{IsLight, LightManner, OwnLight, SiteLight, LightTree, LightCalls}
use Rattle.term_laws.proofs.Expressions.{FineModes, AreParts, name_fine, presence_fine, call_beat_fine, all_outputs, IsOutput, latest_fine, term_fine, right_fine, flag_formula}
use Rattle.term_laws.proofs.Contracts.{one_within, calls_behind, site_there, instance_there, Has, numbered_call, GoodMode, GoodItems, at_place, contract_fine, stage_modes}

module _ (V : Variables) where
  abbrev AllGood : List Formula → Type 0
  AllGood fs = AllByRecursion (Fine V greatest_weight) fs

  abbrev Parts : List Sort → List Part → Type 0
  Parts = AreParts V greatest_weight one_within

  -- ---- sources of names

  abbrev SourceFine : Instance → Name × Part → Type 0
  SourceFine i q = FineParts V greatest_weight (sort_of_name i q.0) q.1

  abbrev SourcesFine : Instance → Sources → Type 0
  SourcesFine i qs = AllByRecursion (SourceFine i) qs

  abbrev IfThere : Sort → Option Part → Type 0
  IfThere z None = Unit {0}
  IfThere z (Some p) = FineParts V greatest_weight z p

  paired_fine : (i : Instance) (xs : List Name) (ps : List Part) → Parts (map (sort_of_name i) xs) ps → SourcesFine i (paired xs ps)
  paired_fine i [] ps a = tt
  paired_fine i (x ∷ xs) [] a = absurd a
  paired_fine i (x ∷ xs) (p ∷ ps) a = (a.0, paired_fine i xs ps a.1)

  looked_up : (i : Instance) (x : Name) (qs : Sources) → SourcesFine i qs → IfThere (sort_of_name i x) (lookup (bytes_eq x) qs)
  looked_up i x [] a = tt
  looked_up i x (q ∷ qs) a = go (bytes_eq x q.0) refl (looked_up i x qs a.1)
    where
      go : (b : Bool) → bytes_eq x q.0 ≡ b → IfThere (sort_of_name i x) (lookup (bytes_eq x) qs) →
          IfThere (sort_of_name i x) (cond b (Some q.1) (lookup (bytes_eq x) qs))
      go true e r = subst (λ y. FineParts V greatest_weight (sort_of_name i y) q.1) (sym (same_bytes x q.0 e)) a.0
      go false e r = r

  -- ---- one frame

  module _ (m : Manner) (i : Instance) (at : Place → ℕ) (fits : OwnFits i (IsKnown i)) (light : OwnLight i) (num : Has V false m i at)
      (modes : FineModes V greatest_weight one_within (stage i at).modes) (items : GoodItems V at (contract_of i)) where
    abbrev g : Stage
    g = stage i at

    present_good : (c : Clock) → ClockFits i (IsKnown i) c → Fine V greatest_weight (present (stage i at) c)
    present_good c h = presence_fine V greatest_weight one_within g m num modes c h

    term_good : (e : Expression) (c : Clock) → Stands i (IsKnown i) c e → IsLight i e → FineParts V greatest_weight (sort_of i e) (term_of (stage i at) e)
    term_good e c h l = (term_fine V greatest_weight one_within g m num modes e c h l).fine

    flag_good : (e : Expression) (c : Clock) → Stands i (IsKnown i) c e → sort_of i e ≡ Flags → IsLight i e → Fine V greatest_weight (formula (stage i at) e)
    flag_good e c h s l = flag_formula V greatest_weight one_within g m num modes e c h s l

    variable_good : (v : Variable) → StreamFits i (IsKnown i) v → FineParts V greatest_weight v.sort (variable_of (stage i at) v)
    variable_good v s =
        fine_variable V greatest_weight one_within false v.sort (at (own (named v.name.text)))
        (num [] (named v.name.text) v.sort (s.name.declared, s.name.stream, s.sort))

    name_good : (v : Variable) → StreamFits i (IsKnown i) v → (o : Option Part) → IfThere (sort_of_name i v.name.text) o →
        AllByRecursion (Fine V greatest_weight) (name_here (stage i at) v o)
    name_good v s (Some p) h =
        let z : Sort = v.sort in
        let q : FineParts V greatest_weight z p = subst (λ k. FineParts V greatest_weight k p) s.sort h in (
          fine_equal V greatest_weight one_within z (variable_of g v) (choose_part (present g (clock_of_variable v)) p (zero_of z)) (variable_good v s)
              (fine_choice V greatest_weight one_within z (present g (clock_of_variable v)) p (zero_of z) (present_good (clock_of_variable v) s.clock) q
              (fine_zero V greatest_weight one_within z)),
          tt,
        )
    name_good v s None h = go (named_in v.name.text (inputs_of i))
      where
        go : (b : Bool) → AllByRecursion (Fine V greatest_weight) (cond b [] (is_free (stage i at) v ∷ []))
        go true = tt
        go false = (
          (
            present_good (clock_of_variable v) s.clock,
            fine_equal V greatest_weight one_within v.sort (variable_of g v) (zero_of v.sort) (variable_good v s)
                (fine_zero V greatest_weight one_within v.sort),
          ),
          tt,
        )

    equations_fine : (es : List Equation) → AllByRecursion (EquationFits i (IsKnown i)) es → AllByRecursion (λ e. IsLight i e.right) es →
        SourcesFine i (equation_sources (stage i at) es)
    equations_fine [] a l = tt
    equations_fine (e ∷ es) a l =
        both_parts (SourceFine i) (paired e.names (right_terms g e.right)) (equation_sources g es)
        (paired_fine i e.names (right_terms g e.right) (subst (λ zs. Parts zs (right_terms g e.right)) (sym a.0.sorts)
        (right_fine V greatest_weight one_within g m num modes e.right _ a.0.right l.0)))
        (equations_fine es a.1 l.1)

    names_good : (qs : Sources) → SourcesFine i qs → (vs : List Variable) → AllByRecursion (StreamFits i (IsKnown i)) vs →
        AllByRecursion (Fine V greatest_weight) (flat_map (λ v. name_here (stage i at) v (lookup (bytes_eq v.name.text) qs)) vs)
    names_good qs a [] s = tt
    names_good qs a (v ∷ vs) s =
        both_parts (Fine V greatest_weight) (name_here g v (lookup (bytes_eq v.name.text) qs)) _
        (name_good v s.0 (lookup (bytes_eq v.name.text) qs) (looked_up i v.name.text qs a)) (names_good qs a vs s.1)

    all_names_good : (given : Sources) → SourcesFine i given → AllGood (names_here (stage i at) given)
    all_names_good given a =
        names_good (given ++ equation_sources g (equations (component_of i)))
        (both_parts (SourceFine i) given (equation_sources g (equations (component_of i))) a
        (equations_fine (equations (component_of i)) fits.equations light.equations)) (variables (component_of i)) fits.streams

    -- ---- first

    start_good : (a : Start) → StartFits i (IsKnown i) a → Fine V greatest_weight (flag_at (stage i at) (own (starting a.number)))
    start_good a s = num [] (starting a.number) Flags (a.clock, s.found, refl)

    starts_good : AllGood (starts_first (stage i at))
    starts_good =
        all_mapped (Fine V greatest_weight) (λ (a : Start). flag_at g (own (starting a.number))) (in_order (λ (a : Start). a.number) (starts
        (component_of i)))
        (in_order_all (λ (a : Start). a.number) (λ a. Fine V greatest_weight (flag_at g (own (starting a.number)))) (starts (component_of i))
        (all_from (StartFits i (IsKnown i)) (λ a. Fine V greatest_weight (flag_at g (own (starting a.number)))) start_good (starts
        (component_of i)) fits.starts))

    so_far_good : AllGood (so_far_first (stage i at) m)
    so_far_good = go (has_so_far m (component_of i)) refl
      where
        go : (b : Bool) → has_so_far m (component_of i) ≡ b → AllByRecursion (Fine V greatest_weight) (cond b (flag_at (stage i at) (own so_far) ∷ []) [])
        go true e = (num [] so_far Flags (refl, e), tt)
        go false e = tt

    -- ---- next

    module _ (next : Has V true m i at) where
      becomes_good : (z : Sort) (s : Spot) (q : Part) → V z (at (own s)) true → FineParts V greatest_weight z q →
          Fine V greatest_weight (becomes (stage i at) z s q)
      becomes_good z s q v h =
          fine_equal V greatest_weight one_within z (variable_in true z (at (own s))) q (fine_variable V greatest_weight one_within true z (at (own s)) v) h

      memory_good : (x : Memory) → MemoryFits i (IsKnown i) x → IsLight i x.operand → Fine V greatest_weight (memory_next (stage i at) x)
      memory_good x f l =
          let z : Sort = sort_of i x.operand in
          becomes_good z (memory x.number) (choose_part (present g x.clock) (term_of g x.operand) (variable z (at (own (memory x.number)))))
          (next [] (memory x.number) z (x.clock, x.operand, f.found, refl))
          (fine_choice V greatest_weight one_within z (present g x.clock) (term_of g x.operand) (variable z (at (own (memory x.number))))
          (present_good x.clock f.clock) (term_good x.operand x.clock f.operand l)
          (fine_variable V greatest_weight one_within false z (at (own (memory x.number))) (num [] (memory x.number) z (x.clock, x.operand, f.found, refl))))

      memories_good : AllGood (map (memory_next (stage i at)) (in_order (λ x. x.number) (memories (component_of i))))
      memories_good =
          all_mapped (Fine V greatest_weight) (memory_next g) (in_order (λ x. x.number) (memories (component_of i)))
          (in_order_all (λ x. x.number) (λ x. Fine V greatest_weight (memory_next g x)) (memories (component_of i))
          (all_from_both (MemoryFits i (IsKnown i)) (λ (x : Memory). IsLight i x.operand) (λ x. Fine V greatest_weight (memory_next g x)) memory_good
          (memories (component_of i)) fits.memories light.memories))

      start_next_good : (a : Start) → StartFits i (IsKnown i) a → Fine V greatest_weight (start_next (stage i at) a)
      start_next_good a s =
          becomes_good Flags (starting a.number) (a_flag (both (flag_at g (own (starting a.number))) (negation (present g a.clock))))
          (next [] (starting a.number) Flags (a.clock, s.found, refl)) (start_good a s, present_good a.clock s.clock)

      starts_next_good : AllGood (map (start_next (stage i at)) (in_order (λ x. x.number) (starts (component_of i))))
      starts_next_good =
          all_mapped (Fine V greatest_weight) (start_next g) (in_order (λ x. x.number) (starts (component_of i)))
          (in_order_all (λ x. x.number) (λ x. Fine V greatest_weight (start_next g x)) (starts (component_of i))
          (all_from (StartFits i (IsKnown i)) (λ x. Fine V greatest_weight (start_next g x)) start_next_good (starts (component_of i)) fits.starts))

      so_far_next_good : AllGood (so_far_next (stage i at) m)
      so_far_next_good = go (has_so_far m (component_of i)) refl
        where
          go : (b : Bool) → has_so_far m (component_of i) ≡ b → AllByRecursion (Fine V greatest_weight) (cond b
              (becomes (stage i at) Flags so_far (a_flag (both (flag_at (stage i at) (own so_far)) (negation (both (flag_at (stage i at) (own beat)) (negation
              (all_of (assumed i at))))))) ∷ []) [])
          go true e = (
            becomes_good Flags so_far (a_flag (both (flag_at (stage i at) (own so_far)) (negation (both (flag_at (stage i at) (own beat))
                (negation (all_of (assumed i at))))))) (next [] so_far Flags (refl, e)) (
                  num [] so_far Flags (refl, e),
                  (num [] beat Flags refl, all_of_fine V greatest_weight one_within (assumed i at) (at_place V at (contract_of i).assumes items.assumes)),
                ),
            tt,
          )
          go false e = tt

    -- ---- legal, and properties

    asserts_good : AllGood (asserts_of (stage i at))
    asserts_good = each (assertions (component_of i).body) fits.asserts light.asserts
      where
        each : (es : List Expression) → AllByRecursion (λ e. Stands i (IsKnown i) base e × (sort_of i e ≡ Flags)) es → AllByRecursion (IsLight i) es →
            AllByRecursion (Fine V greatest_weight) (map (λ e. negation (both (flag_at (stage i at) (own beat)) (negation (formula (stage i at) e)))) es)
        each [] a l = tt
        each (e ∷ es) a l = ((num [] beat Flags refl, flag_good e base a.0.0 a.0.1 l.0), each es a.1 l.1)

    checks_good : (ss : List Statement) → AllByRecursion (λ e. Stands i (IsKnown i) base e × (sort_of i e ≡ Flags)) (checked ss) →
        AllByRecursion (IsLight i) (checked ss) → AllGood (body_properties (stage i at) ss)
    checks_good [] a l = tt
    checks_good (equation xs e ∷ ss) a l = checks_good ss a l
    checks_good (assertion e ∷ ss) a l = checks_good ss a l
    checks_good (property x ∷ ss) a l = (flag_good x.value base a.0.0 a.0.1 l.0, checks_good ss a.1 l.1)
    checks_good (main_mark w ∷ ss) a l = checks_good ss a l

    ensures_good : (ms : List (ModeItem Written)) → AllByRecursion (GoodMode V at) ms →
        AllGood (flat_map (λ x. map (λ f. f at) x.ensures_each) ms)
    ensures_good [] a = tt
    ensures_good (x ∷ ms) a =
        both_parts (Fine V greatest_weight) (map (λ f. f at) x.ensures_each) _ (at_place V at x.ensures_each a.0.ensures_each) (ensures_good ms a.1)

    one_mode_good : (ms : List (ModeItem Written)) → AllByRecursion (GoodMode V at) ms → AllGood (one_mode ms at)
    one_mode_good [] a = tt
    one_mode_good (x ∷ ms) a = (some_of_fine V greatest_weight one_within (map (λ y. y.asked at) (x ∷ ms)) (asked (x ∷ ms) a), tt)
      where
        asked : (ys : List (ModeItem Written)) → AllByRecursion (GoodMode V at) ys → AllByRecursion (Fine V greatest_weight) (map (λ y. y.asked at) ys)
        asked [] b = tt
        asked (y ∷ ys) b = (b.0.asked, asked ys b.1)

    -- ---- one call

    module _ (c : Site) (k : Instance) (is : Instances) (p : ℕ) (fit : CallFits IsKnown i c k p) (lit : SiteLight i c)
        (there : drop_calls p (calls_of i) ≡ with_instance c k is) where
      arguments_fine : (es : List Expression) → AllByRecursion (Stands i (IsKnown i) c.clock) es → AllByRecursion (IsLight i) es →
          Parts (map (sort_of i) es) (map (term_of (stage i at)) es)
      arguments_fine [] a l = tt
      arguments_fine (e ∷ es) a l = (term_good e c.clock a.0 l.0, arguments_fine es a.1 l.1)

      shared_fine : (xs : List Name) → AllByRecursion (IsNameOn i (IsKnown i) base) xs → Parts (map (sort_of_name i) xs) (map (name_part (stage i at)) xs)
      shared_fine [] a = tt
      shared_fine (x ∷ xs) a = (name_fine V greatest_weight one_within g m num modes x base a.0, shared_fine xs a.1)

      outputs_given_fine : (w : Manner) → MannerFits IsKnown i c.clock w k → SourcesFine k (shared_outputs (stage i at) w k)
      outputs_given_fine plain h = tt
      outputs_given_fine (while_true a) h = tt
      outputs_given_fine (as_import xs) h =
          paired_fine k (outputs_of k) (map (name_part g) xs)
          (subst (λ zs. Parts zs (map (name_part g) xs)) (h.2 ∙ sym fit.output_sorts) (shared_fine xs h.1))

      given_fine : SourcesFine k (from_call (stage i at) c k)
      given_fine =
          both_parts (SourceFine k) (paired (inputs_of k) (map (term_of g) c.arguments)) (shared_outputs g c.manner k)
          (paired_fine k (inputs_of k) (map (term_of g) c.arguments) (subst (λ zs. Parts zs (map (term_of g) c.arguments)) (fit.sorts ∙ sym fit.input_sorts)
          (arguments_fine c.arguments fit.arguments lit.arguments)))
          (outputs_given_fine c.manner fit.manner)

      runs_fine : (w : Manner) → MannerFits IsKnown i c.clock w k → LightManner i w → Fine V greatest_weight (runs_where (stage i at) c w)
      runs_fine plain h l = present_good c.clock fit.clock
      runs_fine (while_true a) h l = (present_good c.clock fit.clock, flag_good a c.clock h.0 h.1 l)
      runs_fine (as_import xs) h l = num [] beat Flags refl

      beat_there : Fine V greatest_weight (flag_at (stage i at) (in_call c.number (own beat)))
      beat_there = subst (λ j. Fine V greatest_weight (flag_at g (in_call j (own beat)))) (sym fit.number)
          (call_beat_fine V greatest_weight one_within g m num modes (suc p) fit.call)

      active_fine : Fine V greatest_weight (same (flag_at (stage i at) (in_call c.number (own beat))) (runs_where (stage i at) c c.manner))
      active_fine = (beat_there, runs_fine c.manner fit.manner lit.manner)

      -- ---- held outputs

      default_within : (ys : List Name) (ds : List Expression) → AllByRecursion (λ d. value_size (value_here i d) ≤ greatest_weight) ds → (x : Name) →
          value_size (default_among (constants_of i) ys ds x) ≤ greatest_weight
      default_within [] ds a x = omega arith
      default_within (y ∷ ys) [] a x = omega arith
      default_within (y ∷ ys) (d ∷ ds) a x = go (bytes_eq x y) (default_within ys ds a.1 x)
        where
          go : (b : Bool) → value_size (default_among (constants_of i) ys ds x) ≤ greatest_weight →
              value_size (cond b (constant_value (constants_of i) d) (default_among (constants_of i) ys ds x)) ≤ greatest_weight
          go true r = a.0
          go false r = r

      defaults_here : (x : Name) → value_size (default_of i (suc p) x) ≤ greatest_weight
      defaults_here x = default_within (outputs_of (call_instance i (suc p))) (site_of i (suc p)).defaults
          (subst (λ (s : Site). AllByRecursion (λ d. value_size (value_here i d) ≤ greatest_weight) s.defaults) (sym
          (site_there i p c k is there)) lit.defaults) x

      fixed_light : (v : Value) → value_size v ≤ greatest_weight → part_weight (fixed v) ≤ greatest_weight
      fixed_light absent l = omega arith
      fixed_light (flag b) l = omega arith
      fixed_light (whole n) l = l

      -- what a call of this number holds
      held_place : (a : Expression) (ds : Expressions) → IsHeldCall i (IsKnown i) (suc p) c.clock a ds → (b : Bool) → Has V b m i at → (v : Variable) →
          IsOutput V greatest_weight one_within (stage i at) m num modes (suc p) v → V v.sort (at (own (held (suc p) v.name.text))) b
      held_place a ds h b n v o = n [] (held (suc p) v.name.text) v.sort (c.clock, a, ds, h, o.1, o.0.1)

      held_starts : (a : Expression) (ds : Expressions) → IsHeldCall i (IsKnown i) (suc p) c.clock a ds → (vs : List Variable) (es : Expressions) →
          AllByRecursion (IsOutput V greatest_weight one_within (stage i at) m num modes (suc p)) vs → DefaultsFit i (IsKnown i) (suc p) vs es →
          AllGood (map (λ v. equal_parts (variable v.sort (at (own (held (suc p) v.name.text)))) (fixed (default_of i (suc p) v.name.text))) vs)
      held_starts a ds h [] es o f = tt
      held_starts a ds h (v ∷ vs) no_more o f = absurd f
      held_starts a ds h (v ∷ vs) (more e es) o f = (
        fine_equal V greatest_weight one_within v.sort (variable v.sort (at (own (held (suc p) v.name.text)))) (fixed (default_of i (suc p) v.name.text))
            (fine_variable V greatest_weight one_within false v.sort _ (held_place a ds h false num v o.0))
            (fine_fixed V greatest_weight one_within v.sort (default_of i (suc p) v.name.text)
            (subst (λ w. has_sort v.sort w ≡ true) (sym f.0) f.2) (fixed_light (default_of i (suc p) v.name.text) (defaults_here v.name.text))),
        held_starts a ds h vs es o.1 f.3,
      )

      held_first_good : (w : Manner) → c.manner ≡ w → AllGood (held_first (stage i at) c w k)
      held_first_good plain e = tt
      held_first_good (as_import xs) e = tt
      held_first_good (while_true a) e =
          let h = fit.held a e in
          subst (λ j. AllGood (map (λ v. equal_parts (variable v.sort (at (own (held j v.name.text)))) (fixed (default_of i j v.name.text)))
          (component_of k).outputs))
          (sym fit.number)
          (subst (λ z. AllGood (map (λ v. equal_parts (variable v.sort (at (own (held (suc p) v.name.text)))) (fixed (default_of i (suc p) v.name.text)))
          (component_of z).outputs)) (instance_there i p c k is there)
          (held_starts a h.0 h.1 (component_of (call_instance i (suc p))).outputs h.0
          (all_outputs V greatest_weight one_within g m num modes (suc p) fit.call) h.1.defaults))

      module _ (next : Has V true m i at) where
        held_nexts : (a : Expression) (ds : Expressions) → IsHeldCall i (IsKnown i) (suc p) c.clock a ds → (vs : List Variable) →
            AllByRecursion (IsOutput V greatest_weight one_within (stage i at) m num modes (suc p)) vs →
            AllGood (map (λ v. becomes (stage i at) v.sort (held (suc p) v.name.text) (choose_part (flag_at (stage i at) (in_call (suc p) (own beat)))
            (variable v.sort (at (in_call (suc p) (own (named v.name.text))))) (variable v.sort (at (own (held (suc p) v.name.text)))))) vs)
        held_nexts a ds h [] o = tt
        held_nexts a ds h (v ∷ vs) o = (
          becomes_good next v.sort (held (suc p) v.name.text) _ (held_place a ds h true next v o.0)
              (latest_fine V greatest_weight one_within g m num modes (suc p) c.clock a ds h v o.0.0 o.0.1),
          held_nexts a ds h vs o.1,
        )

        held_next_good : (w : Manner) → c.manner ≡ w → AllGood (held_next (stage i at) c w k)
        held_next_good plain e = tt
        held_next_good (as_import xs) e = tt
        held_next_good (while_true a) e =
            let h = fit.held a e in
            subst (λ j. AllGood (map (λ v. becomes g v.sort (held j v.name.text) (choose_part (flag_at g (in_call j (own beat)))
            (variable v.sort (at (in_call j (own (named v.name.text))))) (variable v.sort (at (own (held j v.name.text)))))) (component_of k).outputs))
            (sym fit.number)
            (subst (λ z. AllGood (map (λ v. becomes g v.sort (held (suc p) v.name.text) (choose_part (flag_at g (in_call (suc p) (own beat)))
            (variable v.sort (at (in_call (suc p) (own (named v.name.text))))) (variable v.sort (at (own (held (suc p) v.name.text))))))
            (component_of z).outputs))
            (instance_there i p c k is there)
            (held_nexts a h.0 h.1 (component_of (call_instance i (suc p))).outputs (all_outputs V greatest_weight one_within g m num modes (suc p) fit.call)))

      -- ---- what is owed to it

      owed_good : (fs : List Formula) → AllGood fs →
          AllGood (map (λ f. negation (both (flag_at (stage i at) (in_call c.number (own beat))) (negation f))) fs)
      owed_good [] a = tt
      owed_good (f ∷ fs) a = ((beat_there, a.0), owed_good fs a.1)

      owed_site_good : (w : Manner) → GoodItems V (below_call c.number at) (contract_of k) → AllGood (owed_by_site (stage i at) c w k)
      owed_site_good plain r = owed_good (assumed k (below_call c.number at)) (at_place V (below_call c.number at) (contract_of k).assumes r.assumes)
      owed_site_good (while_true a) r = owed_good (assumed k (below_call c.number at)) (at_place V (below_call c.number at) (contract_of k).assumes r.assumes)
      owed_site_good (as_import xs) r = tt

  -- ---- the tree

  mutual
    pub here_fine : (i : Instance) (m : Manner) (at : Place → ℕ) → TreeFits IsKnown i → LightTree i → Has V false m i at → (active : Formula) →
        Fine V greatest_weight active → (given : Sources) → SourcesFine i given → AllByRecursion (Fine V greatest_weight) (here_of i at active given)
    here_fine (instance d cs is) m at fits light num active h given a =
        let i : Instance = instance d cs is in
        let modes = stage_modes V i m at fits light num in
        let items = contract_fine V i m at fits light num in (
          h,
          both_parts (Fine V greatest_weight) (names_here (stage i at) given) (calls_here is (stage i at))
              (all_names_good m i at fits.0 light.0 num modes items given a)
              (calls_here_fine is i m at fits.0 light.0 num modes items 0 refl fits.1 light.1),
        )

    calls_here_fine : (is : Instances) (i : Instance) (m : Manner) (at : Place → ℕ) → OwnFits i (IsKnown i) → OwnLight i → Has V false m i at →
        FineModes V greatest_weight one_within (stage i at).modes → GoodItems V at (contract_of i) → (p : ℕ) → drop_calls p (calls_of i) ≡ is →
        CallsFit IsKnown i is p → LightCalls i is → AllByRecursion (Fine V greatest_weight) (calls_here is (stage i at))
    calls_here_fine no_instances i m at fits light num modes items p e f l = tt
    calls_here_fine (with_instance c k is) i m at fits light num modes items p e f l =
        both_parts (Fine V greatest_weight) (here_of k (below_call c.number at) _ (from_call (stage i at) c k)) (calls_here is (stage i at))
        (here_fine k c.manner (below_call c.number at) f.1 l.1 (numbered_call V false m i at num c k is p f.0 e) _
        (active_fine m i at fits light num modes items c k is p f.0 l.0 e) (from_call (stage i at) c k)
        (given_fine m i at fits light num modes items c k is p f.0 l.0 e))
        (calls_here_fine is i m at fits light num modes items (suc p) (calls_behind i p c k is e) f.2 l.2)

  mutual
    pub first_fine : (i : Instance) (m : Manner) (at : Place → ℕ) → TreeFits IsKnown i → LightTree i → Has V false m i at →
        AllByRecursion (Fine V greatest_weight) (first_of m i at)
    first_fine (instance d cs is) m at fits light num =
        let i : Instance = instance d cs is in
        let modes = stage_modes V i m at fits light num in
        let items = contract_fine V i m at fits light num in
        both_parts (Fine V greatest_weight) (starts_first (stage i at) ++ so_far_first (stage i at) m) (calls_first is (stage i at))
        (both_parts (Fine V greatest_weight) (starts_first (stage i at)) (so_far_first (stage i at) m)
        (starts_good m i at fits.0 light.0 num modes items) (so_far_good m i at fits.0 light.0 num modes items))
        (calls_first_fine is i m at fits.0 light.0 num modes items 0 refl fits.1 light.1)

    calls_first_fine : (is : Instances) (i : Instance) (m : Manner) (at : Place → ℕ) → OwnFits i (IsKnown i) → OwnLight i → Has V false m i at →
        FineModes V greatest_weight one_within (stage i at).modes → GoodItems V at (contract_of i) → (p : ℕ) → drop_calls p (calls_of i) ≡ is →
        CallsFit IsKnown i is p → LightCalls i is → AllByRecursion (Fine V greatest_weight) (calls_first is (stage i at))
    calls_first_fine no_instances i m at fits light num modes items p e f l = tt
    calls_first_fine (with_instance c k is) i m at fits light num modes items p e f l =
        both_parts (Fine V greatest_weight) (held_first (stage i at) c c.manner k ++ first_of c.manner k (below_call c.number at)) (calls_first is
        (stage i at))
        (both_parts (Fine V greatest_weight) (held_first (stage i at) c c.manner k) (first_of c.manner k (below_call c.number at))
        (held_first_good m i at fits light num modes items c k is p f.0 l.0 e c.manner refl)
        (first_fine k c.manner (below_call c.number at) f.1 l.1 (numbered_call V false m i at num c k is p f.0 e)))
        (calls_first_fine is i m at fits light num modes items (suc p) (calls_behind i p c k is e) f.2 l.2)

  mutual
    pub next_fine : (i : Instance) (m : Manner) (at : Place → ℕ) → TreeFits IsKnown i → LightTree i → Has V false m i at → Has V true m i at →
        AllByRecursion (Fine V greatest_weight) (next_of m i at)
    next_fine (instance d cs is) m at fits light num next =
        let i : Instance = instance d cs is in
        let modes = stage_modes V i m at fits light num in
        let items = contract_fine V i m at fits light num in
        both_parts (Fine V greatest_weight) (map (memory_next (stage i at)) (in_order (λ x. x.number) (memories d))
        ++ map (start_next (stage i at)) (in_order (λ x. x.number) (starts d)) ++ so_far_next (stage i at) m) (calls_next is (stage i at))
        (both_parts (Fine V greatest_weight) (map (memory_next (stage i at)) (in_order (λ x. x.number) (memories d))
        ++ map (start_next (stage i at)) (in_order (λ x. x.number) (starts d))) (so_far_next (stage i at) m)
        (both_parts (Fine V greatest_weight) (map (memory_next (stage i at)) (in_order (λ x. x.number) (memories d)))
        (map (start_next (stage i at)) (in_order (λ x. x.number) (starts d)))
        (memories_good m i at fits.0 light.0 num modes items next) (starts_next_good m i at fits.0 light.0 num modes items next))
        (so_far_next_good m i at fits.0 light.0 num modes items next))
        (calls_next_fine is i m at fits.0 light.0 num modes items next 0 refl fits.1 light.1)

    calls_next_fine : (is : Instances) (i : Instance) (m : Manner) (at : Place → ℕ) → OwnFits i (IsKnown i) → OwnLight i → Has V false m i at →
        FineModes V greatest_weight one_within (stage i at).modes → GoodItems V at (contract_of i) → Has V true m i at → (p : ℕ) →
        drop_calls p (calls_of i) ≡ is → CallsFit IsKnown i is p → LightCalls i is → AllByRecursion (Fine V greatest_weight) (calls_next is (stage i at))
    calls_next_fine no_instances i m at fits light num modes items next p e f l = tt
    calls_next_fine (with_instance c k is) i m at fits light num modes items next p e f l =
        both_parts (Fine V greatest_weight) (held_next (stage i at) c c.manner k ++ next_of c.manner k (below_call c.number at)) (calls_next is (stage i at))
        (both_parts (Fine V greatest_weight) (held_next (stage i at) c c.manner k) (next_of c.manner k (below_call c.number at))
        (held_next_good m i at fits light num modes items c k is p f.0 l.0 e next c.manner refl)
        (next_fine k c.manner (below_call c.number at) f.1 l.1 (numbered_call V false m i at num c k is p f.0 e)
        (numbered_call V true m i at next c k is p f.0 e)))
        (calls_next_fine is i m at fits light num modes items next (suc p) (calls_behind i p c k is e) f.2 l.2)

  mutual
    pub asserts_fine : (i : Instance) (m : Manner) (at : Place → ℕ) → TreeFits IsKnown i → LightTree i → Has V false m i at →
        AllByRecursion (Fine V greatest_weight) (asserts_in i at)
    asserts_fine (instance d cs is) m at fits light num =
        let i : Instance = instance d cs is in
        let modes = stage_modes V i m at fits light num in
        let items = contract_fine V i m at fits light num in
        both_parts (Fine V greatest_weight) (asserts_of (stage i at)) (calls_asserts is (stage i at))
        (asserts_good m i at fits.0 light.0 num modes items) (calls_asserts_fine is i m at num 0 refl fits.1 light.1)

    calls_asserts_fine : (is : Instances) (i : Instance) (m : Manner) (at : Place → ℕ) → Has V false m i at → (p : ℕ) → drop_calls p (calls_of i) ≡ is →
        CallsFit IsKnown i is p → LightCalls i is → AllByRecursion (Fine V greatest_weight) (calls_asserts is (stage i at))
    calls_asserts_fine no_instances i m at num p e f l = tt
    calls_asserts_fine (with_instance c k is) i m at num p e f l =
        both_parts (Fine V greatest_weight) (asserts_in k (below_call c.number at)) (calls_asserts is (stage i at))
        (asserts_fine k c.manner (below_call c.number at) f.1 l.1 (numbered_call V false m i at num c k is p f.0 e))
        (calls_asserts_fine is i m at num (suc p) (calls_behind i p c k is e) f.2 l.2)

  pub legal_fine : (i : Instance) (m : Manner) (at : Place → ℕ) → TreeFits IsKnown i → LightTree i → Has V false m i at →
      AllByRecursion (Fine V greatest_weight) (legal_of i at)
  legal_fine i m at fits light num =
      both_parts (Fine V greatest_weight) (assumed i at) (asserts_in i at)
      (at_place V at (contract_of i).assumes (contract_fine V i m at fits light num).assumes) (asserts_fine i m at fits light num)

  owed_calls_fine : (is : Instances) (i : Instance) (m : Manner) (at : Place → ℕ) → OwnFits i (IsKnown i) → OwnLight i → Has V false m i at →
      FineModes V greatest_weight one_within (stage i at).modes → GoodItems V at (contract_of i) → (p : ℕ) → drop_calls p (calls_of i) ≡ is →
      CallsFit IsKnown i is p → LightCalls i is → AllByRecursion (Fine V greatest_weight) (owed_by_calls (stage i at) is)
  owed_calls_fine no_instances i m at fits light num modes items p e f l = tt
  owed_calls_fine (with_instance c k is) i m at fits light num modes items p e f l =
      both_parts (Fine V greatest_weight) (owed_by_site (stage i at) c c.manner k) (owed_by_calls (stage i at) is)
      (owed_site_good m i at fits light num modes items c k is p f.0 l.0 e c.manner
      (contract_fine V k c.manner (below_call c.number at) f.1 l.1 (numbered_call V false m i at num c k is p f.0 e)))
      (owed_calls_fine is i m at fits light num modes items (suc p) (calls_behind i p c k is e) f.2 l.2)

  pub properties_fine : (i : Instance) (m : Manner) (at : Place → ℕ) → TreeFits IsKnown i → LightTree i → Has V false m i at →
      AllByRecursion (Fine V greatest_weight) (properties_of i at)
  properties_fine (instance d cs is) m at fits light num =
      let i : Instance = instance d cs is in
      let modes = stage_modes V i m at fits light num in
      let items = contract_fine V i m at fits light num in
      both_parts (Fine V greatest_weight) _ (owed_by_calls (stage i at) is)
      (both_parts (Fine V greatest_weight) _ (one_mode (contract_of i).modes at)
      (both_parts (Fine V greatest_weight) _ (flat_map (λ x. map (λ f. f at) x.ensures_each) (contract_of i).modes)
      (both_parts (Fine V greatest_weight) (body_properties (stage i at) d.body) (map (λ f. f at) (contract_of i).guarantees)
      (checks_good m i at fits.0 light.0 num modes items d.body fits.0.body_properties light.0.checks)
      (at_place V at (contract_of i).guarantees items.guarantees))
      (ensures_good m i at fits.0 light.0 num modes items (contract_of i).modes items.modes))
      (one_mode_good m i at fits.0 light.0 num modes items (contract_of i).modes items.modes))
      (owed_calls_fine is i m at fits.0 light.0 num modes items 0 refl fits.1 light.1)
