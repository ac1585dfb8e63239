-- The conditions of a frame and of all call frames in it have the levels and parts that are counted of them.
use Rattle.std.proofs.Common.{◌≡◌, ℕ, suc, pred, ◌<◌, ◌≤◌, Bool, true, false, cond, ◌||◌, List, [], ◌∷◌, ◌++◌, map, flat_map, length, Option, Some, None, is_some, refl, sym, ap, ◌∙◌, subst, arith}
use Rattle.std.specs.Prelude.{slice_index_or, unwrap_or}
use Rattle.std.specs.List.{AllByRecursion}
use Rattle.std.proofs.lemmas.Bool.{false≢true}
use Rattle.lus_tree.specs.declared.place.Sort.{Sort}
use Rattle.lus_tree.specs.declared.place.Sort.TheVariants.{Bool as Flags}
use Rattle.lus_tree.specs.Tree.{Name, Variable, Expression, Component, ContractStatement}
use Rattle.lus_meaning.specs.Value.{Value}
use Rattle.lus_meaning.specs.Scene.{Clock, base, Manner, plain, while_true, as_import, Site, Instance, Instances, instance, no_instances, with_instance, calls_of, component_of, outputs_of, clock_of, contract_statements, variables}
use Rattle.lus_meaning.specs.Program.{in_order}
use Rattle.lus_meaning.specs.Run.{Equation, equations, inputs_of, sort_of, sort_of_name}
use Rattle.lus_meaning.specs.Depends.{named_in, left_names, outputs_given, from_caller}
use Rattle.lus_meaning.specs.Occurrences.{memories, starts}
use Rattle.lus_meaning.specs.Sizes.{Size, leaf, one, two, three, ModeSizes, size_in, ContractSizes, no_sizes, contract_sizes, contract_sizes_each, presence, given_size, equation_sizes, free_sizes, memory_size, start_size, sofar_sizes, assert_sizes, site_sizes, own_sizes, frame_sizes, call_sizes}
use Rattle.lus_meaning.specs.Sizes as sizes
use Rattle.lus_meaning.proofs.Lists.{both_parts, map_append, named_append}
use Rattle.lus_meaning.proofs.Now.{left_part, right_part}
use Rattle.sys_terms.specs.View.{Formula, same}
use Rattle.sys_meaning.specs.Slot.{beat, named, starting, so_far, held, Place, own, in_call}
use Rattle.sys_meaning.specs.Part.{Part, a_flag, a_number, fixed, variable, variable_in, all_of, choose_part, equal_parts}
use Rattle.sys_meaning.specs.Defaults.{default_of}
use Rattle.sys_meaning.specs.Translate.{Stage, flag_at, name_part, present, term_of, right_terms, formula}
use Rattle.sys_meaning.specs.System.{contract_of, assumed, stage, below_call, Sources, tail_parts, paired, equation_sources, names_here, runs_where, shared_outputs, from_call, here_of, calls_here, has_so_far, starts_first, so_far_first, held_first, first_of, calls_first, becomes, memory_next, start_next, so_far_next, held_next, next_of, calls_next, asserts_of, asserts_in, calls_asserts}
use Rattle.sys_meaning.specs.Law.{TreeDistinct, CallsDistinct}
use Rattle.sys_meaning.specs.WellTyped.{IsKnown, IsNameOn, is_declared, Stands, OwnFits, CallFits, TreeFits, CallsFit, MannerFits}
use Rattle.sys_meaning.proofs.Balanced.{source_names, all_found}
use Rattle.sys_meaning.proofs.Forward.{drop_calls}
use Rattle.term_laws.proofs.Contracts.{calls_behind, instance_there}
use Rattle.term_laws.proofs.ContractSizes.{contract_sized}
use Rattle.term_laws.proofs.FrameSizes.{two_same, becomes_size, presence_base, sofar_size, Sizes, expression_size, expression_has, truth_size, clock_size, equations_typed, equations_have, equations_back, names_up, frees_back, sources_back, memories_up, memories_back, starts_up, starts_back, so_far_is, so_far_term, so_far_up, asserts_up, asserts_back, assumed_size}
use Rattle.term_laws.proofs.ImportSizes.{IsWithin, sofar_within, given_within, has_levels, has_parts, import_within, sizes_there}
use Rattle.term_laws.proofs.Lights.{Imports, IsListed, LightTree, LightCalls}
use Rattle.term_laws.proofs.Sized.{formula_size, part_size, Has, variable_size, variable_has, mode_sizes, fixed_size}

-- ---- names of sources

paired_names : (xs : List Name) (ps : List Part) → source_names (paired xs ps) ≡ xs
paired_names [] ps = refl
paired_names (x ∷ xs) ps = ap (λ l. x ∷ l) (paired_names xs (tail_parts ps))

pub equations_named : (g : Stage) (es : List Equation) → source_names (equation_sources g es) ≡ flat_map (λ e. e.names) es
equations_named g [] = refl
equations_named g (e ∷ es) =
    map_append (λ (q : Name × Part). q.0) (paired e.names (right_terms g e.right)) (equation_sources g es)
    ∙ rw (paired_names e.names (right_terms g e.right), equations_named g es) refl

shared_named : (g : Stage) (m : Manner) (k : Instance) → source_names (shared_outputs g m k) ≡ outputs_given m (outputs_of k)
shared_named g plain k = refl
shared_named g (while_true a) k = refl
shared_named g (as_import xs) k = paired_names (outputs_of k) (map (name_part g) xs)

call_named : (g : Stage) (c : Site) (k : Instance) → source_names (from_call g c k) ≡ from_caller c k
call_named g c k =
    map_append (λ (q : Name × Part). q.0) (paired (inputs_of k) (map (term_of g) c.arguments)) (shared_outputs g c.manner k)
    ∙ rw (paired_names (inputs_of k) (map (term_of g) c.arguments), shared_named g c.manner k) refl

-- a name is given, has an equation, or is an input
abbrev pub IsSplit : Instance → List Name → Sources → Type 0
IsSplit i names qs = (x : Name) → named_in x (names ++ left_names (component_of i)) ≡ (named_in x (source_names qs) || named_in x (inputs_of i))

or_again : (a b c : Bool) → (((a || b) || c) || a) ≡ ((a || b) || c)
or_again true b c = refl
or_again false true c = refl
or_again false false true = refl
or_again false false false = refl

pub call_split : (g h : Stage) (c : Site) (k : Instance) → IsSplit k (from_caller c k) (from_call g c k ++ equation_sources h (equations (component_of k)))
call_split g h c k x =
    let ins : List Name = inputs_of k in
    let outs : List Name = outputs_given c.manner (outputs_of k) in
    let left : List Name = left_names (component_of k) in
    let names : source_names (from_call g c k ++ equation_sources h (equations (component_of k))) ≡ from_caller c k ++ left =
    map_append (λ (q : Name × Part). q.0) (from_call g c k) (equation_sources h (equations (component_of k)))
    ∙ rw (call_named g c k, equations_named h (equations (component_of k))) refl in
    let all : named_in x (from_caller c k ++ left) ≡ ((named_in x ins || named_in x outs) || named_in x left) =
    named_append x (from_caller c k) left ∙ ap (λ b. b || named_in x left) (named_append x ins outs) in
    all ∙ sym (or_again (named_in x ins) (named_in x outs) (named_in x left)) ∙ sym (ap (λ b. b || named_in x ins) (ap (named_in x) names ∙ all))

-- ---- lists of types

abbrev first_or : Sort → List Sort → Sort
first_or z [] = z
first_or z (y ∷ ys) = y

abbrev rest_of : List Sort → List Sort
rest_of [] = []
rest_of (y ∷ ys) = ys

abbrev is_cons : List Sort → Bool
is_cons [] = false
is_cons (y ∷ ys) = true

equal_within : (p q : Part) → IsWithin (formula_size (equal_parts p q)) (two (part_size p) (part_size q))
equal_within (a_flag f) (a_flag g) = record { levels = omega arith; parts = omega arith }
equal_within (a_number a) (a_number b) = record { levels = omega arith; parts = omega arith }
equal_within (a_flag f) (a_number b) = record { levels = omega arith; parts = omega arith }
equal_within (a_number a) (a_flag g) = record { levels = omega arith; parts = omega arith }

module _ (P : Size → Type 0) (down : (a b : Size) → IsWithin a b → P b → P a) where
  abbrev Typed : Instance → Name × Part → Type 0
  Typed i q = Has (sort_of_name i q.0) q.1 × is_declared i (IsKnown i) q.0

  abbrev Given : Instance → Name × Part → Type 0
  Given i q = P (given_size (presence (component_of i) (clock_of (component_of i) q.0)) (part_size q.1))

  abbrev AllTyped : Instance → Sources → Type 0
  AllTyped i qs = AllByRecursion (Typed i) qs

  abbrev AllGiven : Instance → Sources → Type 0
  AllGiven i qs = AllByRecursion (Given i) qs

  -- what is known of a frame: what is counted of its contract is so
  record Frame (i : Instance) (at : Place → ℕ) : Type 0 where
    fits : OwnFits i (IsKnown i)
    modes : mode_sizes (stage i at).modes ≡ (contract_sizes i).modes
    assumes : map (λ f. formula_size (f at)) (contract_of i).assumes ≡ (contract_sizes i).assumes

  own_of : (i : Instance) → TreeFits IsKnown i → OwnFits i (IsKnown i)
  own_of (instance d cs is) f = f.0

  frame_of : (i : Instance) (at : Place → ℕ) → TreeFits IsKnown i → LightTree i → Frame i at
  frame_of i at f l =
      let z = contract_sized P i f l at in
      record { fits = own_of i f; modes = z.modes; assumes = z.assumes }

  abbrev ms : Instance → ModeSizes
  ms i = (contract_sizes i).modes

  -- ---- one call

  module _ (i : Instance) (at : Place → ℕ) (f : Frame i at) (c : Site) (k : Instance) (p : ℕ) (fit : CallFits IsKnown i c k p) where
    abbrev n : Component
    n = component_of i

    term_is : (e : Expression) (z : Clock) → Stands i (IsKnown i) z e →
        part_size (term_of (stage i at) e) ≡ size_in (component_of i) (contract_sizes i).modes e
    term_is e z h = expression_size P i at f.fits f.modes f.assumes e z h

    term_typed : (e : Expression) (z : Clock) → Stands i (IsKnown i) z e → Has (sort_of i e) (term_of (stage i at) e)
    term_typed e z h = expression_has P i at f.fits f.modes f.assumes e z h

    abbrev argument_size : Expression → Size
    argument_size a = given_size leaf (size_in (component_of i) (contract_sizes i).modes a)

    on_base : (x : Name) (p : Part) → IsNameOn k (IsKnown k) base x →
        given_size (presence (component_of k) (clock_of (component_of k) x)) (part_size p) ≡ given_size leaf (part_size p)
    on_base x p h = ap (λ s. given_size s (part_size p)) (ap (presence (component_of k)) h.clock ∙ presence_base (component_of k))

    arguments_typed : (xs : List Name) (es : List Expression) → AllByRecursion (IsNameOn k (IsKnown k) base) xs →
        map (sort_of_name k) xs ≡ map (sort_of i) es → AllByRecursion (Stands i (IsKnown i) c.clock) es →
        AllTyped k (paired xs (map (term_of (stage i at)) es))
    arguments_typed [] es o s a = tt
    arguments_typed (x ∷ xs) [] o s a = absurd (false≢true (sym (ap is_cons s)))
    arguments_typed (x ∷ xs) (e ∷ es) o s a = (
      (subst (λ z. Has z (term_of (stage i at) e)) (sym (ap (first_or Flags) s)) (term_typed e c.clock a.0), o.0.declared),
      arguments_typed xs es o.1 (ap rest_of s) a.1,
    )

    arguments_up : (xs : List Name) (es : List Expression) → AllByRecursion (IsNameOn k (IsKnown k) base) xs →
        map (sort_of_name k) xs ≡ map (sort_of i) es → AllByRecursion (Stands i (IsKnown i) c.clock) es → AllByRecursion P (map argument_size es) →
        AllGiven k (paired xs (map (term_of (stage i at)) es))
    arguments_up [] es o s a b = tt
    arguments_up (x ∷ xs) [] o s a b = absurd (false≢true (sym (ap is_cons s)))
    arguments_up (x ∷ xs) (e ∷ es) o s a b = (
      subst P (sym (on_base x (term_of (stage i at) e) o.0 ∙ ap (given_size leaf) (term_is e c.clock a.0))) b.0,
      arguments_up xs es o.1 (ap rest_of s) a.1 b.1,
    )

    arguments_back : (xs : List Name) (es : List Expression) → AllByRecursion (IsNameOn k (IsKnown k) base) xs →
        map (sort_of_name k) xs ≡ map (sort_of i) es → AllByRecursion (Stands i (IsKnown i) c.clock) es →
        AllGiven k (paired xs (map (term_of (stage i at)) es)) → AllByRecursion P (map argument_size es)
    arguments_back [] [] o s a b = tt
    arguments_back [] (e ∷ es) o s a b = absurd (false≢true (ap is_cons s))
    arguments_back (x ∷ xs) [] o s a b = absurd (false≢true (sym (ap is_cons s)))
    arguments_back (x ∷ xs) (e ∷ es) o s a b = (
      subst P (on_base x (term_of (stage i at) e) o.0 ∙ ap (given_size leaf) (term_is e c.clock a.0)) b.0,
      arguments_back xs es o.1 (ap rest_of s) a.1 b.1,
    )

    -- names that stand for outputs
    shared_typed : (ys xs : List Name) → AllByRecursion (IsNameOn k (IsKnown k) base) ys → map (sort_of_name k) ys ≡ map (sort_of_name i) xs →
        AllTyped k (paired ys (map (name_part (stage i at)) xs))
    shared_typed [] xs o s = tt
    shared_typed (y ∷ ys) [] o s = absurd (false≢true (sym (ap is_cons s)))
    shared_typed (y ∷ ys) (x ∷ xs) o s = (
      (
        subst (λ z. Has z (name_part (stage i at) x)) (sym (ap (first_or Flags) s)) (variable_has false (sort_of_name i x) (at (own
            (named x)))),
        o.0.declared,
      ),
      shared_typed ys xs o.1 (ap rest_of s),
    )

    shared_up : (ys xs : List Name) → AllByRecursion (IsNameOn k (IsKnown k) base) ys → map (sort_of_name k) ys ≡ map (sort_of_name i) xs →
        P (given_size leaf leaf) → AllGiven k (paired ys (map (name_part (stage i at)) xs))
    shared_up [] xs o s b = tt
    shared_up (y ∷ ys) [] o s b = absurd (false≢true (sym (ap is_cons s)))
    shared_up (y ∷ ys) (x ∷ xs) o s b = (
      subst P (sym (on_base y (name_part (stage i at) x) o.0 ∙ ap (given_size leaf) (variable_size false (sort_of_name i x) (at (own (named x)))))) b,
      shared_up ys xs o.1 (ap rest_of s) b,
    )

    outputs_typed : (w : Manner) → MannerFits IsKnown i c.clock w k → AllTyped k (shared_outputs (stage i at) w k)
    outputs_typed plain h = tt
    outputs_typed (while_true a) h = tt
    outputs_typed (as_import xs) h = shared_typed (outputs_of k) xs fit.outputs (fit.output_sorts ∙ sym h.2)

    given_typed : AllTyped k (from_call (stage i at) c k)
    given_typed =
        both_parts (Typed k) (paired (inputs_of k) (map (term_of (stage i at)) c.arguments)) (shared_outputs (stage i at) c.manner k)
        (arguments_typed (inputs_of k) c.arguments fit.inputs (fit.input_sorts ∙ sym fit.sorts) fit.arguments) (outputs_typed c.manner fit.manner)

    -- ---- up

    abbrev AtSite : Manner → Type 0
    AtSite w = AllByRecursion P (site_sizes (component_of i) (contract_sizes i).modes c (component_of k) w)

    arguments_of : (w : Manner) → AtSite w → AllByRecursion P (map argument_size c.arguments)
    arguments_of plain a = a.1
    arguments_of (while_true x) a = a.1.1.1
    arguments_of (as_import xs) a = a.1

    outputs_up : (w : Manner) → MannerFits IsKnown i c.clock w k → AtSite w → AllGiven k (shared_outputs (stage i at) w k)
    outputs_up plain h a = tt
    outputs_up (while_true x) h a = tt
    outputs_up (as_import xs) h a = shared_up (outputs_of k) xs fit.outputs (fit.output_sorts ∙ sym h.2) a.0

    given_up : AtSite c.manner → AllGiven k (from_call (stage i at) c k)
    given_up a =
        both_parts (Given k) (paired (inputs_of k) (map (term_of (stage i at)) c.arguments)) (shared_outputs (stage i at) c.manner k)
        (arguments_up (inputs_of k) c.arguments fit.inputs (fit.input_sorts ∙ sym fit.sorts) fit.arguments (arguments_of c.manner a))
        (outputs_up c.manner fit.manner a)

    present_is : formula_size (present (stage i at) c.clock) ≡ presence (component_of i) c.clock
    present_is = clock_size P i at f.fits f.modes f.assumes c.clock fit.clock

    condition_is : (a : Expression) → MannerFits IsKnown i c.clock (while_true a) k →
        formula_size (formula (stage i at) a) ≡ size_in (component_of i) (contract_sizes i).modes a
    condition_is a h = truth_size P i at f.fits f.modes f.assumes a c.clock h.0 h.1

    abbrev active : Manner → Formula
    active w = same (flag_at (stage i at) (in_call c.number (own beat))) (runs_where (stage i at) c w)

    active_up : (w : Manner) → MannerFits IsKnown i c.clock w k → AtSite w → P (formula_size (active w))
    active_up plain h a = subst (λ s. P (two leaf s)) (sym present_is) a.0
    active_up (while_true x) h a =
        subst P (sym (ap (two leaf) (two_same _ _ (presence n c.clock) (size_in n (ms i) x) present_is (condition_is x h)))) a.0
    active_up (as_import xs) h a = down (two leaf leaf) (given_size leaf leaf) (record { levels = omega arith; parts = omega arith }) a.0

    held_is : (v : Variable) → formula_size (becomes (stage i at) v.sort (held c.number v.name.text) (choose_part (flag_at (stage i at)
        (in_call c.number (own beat)))
        (variable v.sort (at (in_call c.number (own (named v.name.text))))) (variable v.sort (at (own (held c.number v.name.text))))))
        ≡ two leaf (three leaf leaf leaf)
    held_is v =
        becomes_size v.sort (variable_in true v.sort (at (own (held c.number v.name.text)))) (flag_at (stage i at) (in_call c.number (own beat)))
        (variable v.sort (at (in_call c.number (own (named v.name.text))))) (variable v.sort (at (own (held c.number v.name.text)))) leaf leaf leaf
        (variable_has true v.sort (at (own (held c.number v.name.text)))) (variable_size true v.sort (at (own (held c.number v.name.text))))
        (variable_has false v.sort (at (in_call c.number (own (named v.name.text))))) (variable_has false v.sort (at (own (held c.number v.name.text)))) refl
        (variable_size false v.sort (at (in_call c.number (own (named v.name.text))))) (variable_size false v.sort (at (own (held c.number v.name.text))))

    held_first_up : (w : Manner) → AtSite w → Sizes P (held_first (stage i at) c w k)
    held_first_up plain a = tt
    held_first_up (as_import xs) a = tt
    held_first_up (while_true x) a = each (component_of k).outputs
      where
        small : (v : Variable) → IsWithin (formula_size (equal_parts (variable v.sort (at (own (held c.number v.name.text)))) (fixed
            (default_of i c.number v.name.text))))
            (two leaf (three leaf leaf leaf))
        small v =
            let q = equal_within (variable v.sort (at (own (held c.number v.name.text)))) (fixed (default_of i c.number v.name.text)) in
            let e : two (part_size (variable v.sort (at (own (held c.number v.name.text))))) (part_size (fixed
            (default_of i c.number v.name.text))) ≡ two leaf leaf =
            two_same _ _ leaf leaf (variable_size false v.sort (at (own (held c.number v.name.text)))) (fixed_size (default_of i c.number v.name.text)) in
            wider (formula_size (equal_parts (variable v.sort (at (own (held c.number v.name.text)))) (fixed (default_of i c.number v.name.text))))
            (subst (IsWithin (formula_size (equal_parts (variable v.sort (at (own (held c.number v.name.text)))) (fixed
            (default_of i c.number v.name.text))))) e q)
          where
            wider : (s : Size) → IsWithin s (two leaf leaf) → IsWithin s (two leaf (three leaf leaf leaf))
            wider s h = let x : s.levels ≤ (two leaf leaf).levels = h.levels in let u : s.parts ≤ (two leaf leaf).parts = h.parts in
                record { levels = omega (arith, x); parts = omega (arith, u) }

        each : (vs : List Variable) →
            Sizes P (map (λ v. equal_parts (variable v.sort (at (own (held c.number v.name.text)))) (fixed (default_of i c.number v.name.text))) vs)
        each [] = tt
        each (v ∷ vs) = (down _ (two leaf (three leaf leaf leaf)) (small v) a.1.1.0, each vs)

    held_next_up : (w : Manner) → AtSite w → Sizes P (held_next (stage i at) c w k)
    held_next_up plain a = tt
    held_next_up (as_import xs) a = tt
    held_next_up (while_true x) a = each (component_of k).outputs
      where
        each : (vs : List Variable) → Sizes P (map (λ v. becomes (stage i at) v.sort (held c.number v.name.text)
            (choose_part (flag_at (stage i at) (in_call c.number (own beat))) (variable v.sort (at (in_call c.number (own (named v.name.text)))))
            (variable v.sort (at (own (held c.number v.name.text)))))) vs)
        each [] = tt
        each (v ∷ vs) = (subst P (sym (held_is v)) a.1.1.0, each vs)

    -- ---- back

    some_held : (vs : List Variable) → 0 < length vs → Sizes P (map (λ v. becomes (stage i at) v.sort (held c.number v.name.text)
        (choose_part (flag_at (stage i at) (in_call c.number (own beat))) (variable v.sort (at (in_call c.number (own (named v.name.text)))))
        (variable v.sort (at (own (held c.number v.name.text)))))) vs) → P (two leaf (three leaf leaf leaf))
    some_held [] l a = absurd (omega (arith, l))
    some_held (v ∷ vs) l a = subst P (held_is v) a.0

    abbrev WhereImport : Manner → Type 0
    WhereImport (as_import xs) = P (given_size leaf leaf)
    WhereImport plain = Unit {0}
    WhereImport (while_true x) = Unit {0}

    site_back : (w : Manner) → c.manner ≡ w → MannerFits IsKnown i c.clock w k → (is : Instances) → drop_calls p (calls_of i) ≡ with_instance c k is →
        P (formula_size (active w)) → AllGiven k (paired (inputs_of k) (map (term_of (stage i at)) c.arguments)) → Sizes P (held_next (stage i at) c w k) →
        WhereImport w → AtSite w
    site_back plain q h is e a b d j = (
      subst (λ s. P (two leaf s)) present_is a,
      arguments_back (inputs_of k) c.arguments fit.inputs (fit.input_sorts ∙ sym fit.sorts) fit.arguments b,
    )
    site_back (while_true x) q h is e a b d j =
        let some : 0 < length (component_of k).outputs =
        subst (λ z. 0 < length (component_of z).outputs) (instance_there i p c k is e) (fit.held x q).1.outputs in
        let next : P (two leaf (three leaf leaf leaf)) = some_held (component_of k).outputs some d in (
          subst P (ap (two leaf) (two_same _ _ (presence n c.clock) (size_in n (ms i) x) present_is (condition_is x h))) a,
          (
            down (three leaf leaf leaf) (two leaf (three leaf leaf leaf)) (record { levels = omega arith; parts = omega arith }) next,
            (next, arguments_back (inputs_of k) c.arguments fit.inputs (fit.input_sorts ∙ sym fit.sorts) fit.arguments b),
          ),
        )
    site_back (as_import xs) q h is e a b d j = (j, arguments_back (inputs_of k) c.arguments fit.inputs (fit.input_sorts ∙ sym fit.sorts) fit.arguments b)

  -- ---- up, the tree

  abbrev AllSizes : List Size → Type 0
  AllSizes ss = AllByRecursion P ss

  -- the parts of what is counted of a frame's own
  record OwnCounted (names : List Name) (i : Instance) : Type 0 where
    equations : AllSizes (equation_sizes (component_of i) (contract_sizes i).modes)
    free : AllSizes (free_sizes names (component_of i))
    memories : AllSizes (map (memory_size (component_of i) (contract_sizes i).modes) (memories (component_of i)))
    starts : AllSizes (map (start_size (component_of i)) (starts (component_of i)))
    so_far : AllSizes (sofar_sizes (component_of i).contract (contract_sizes i).assumes)
    asserts : AllSizes (assert_sizes (component_of i) (contract_sizes i).modes (component_of i).body)

  own_counted : (names : List Name) (i : Instance) → AllSizes (own_sizes names (component_of i) (contract_sizes i)) → OwnCounted names i
  own_counted names i a =
      let b = right_part P (equation_sizes (component_of i) (ms i)) _ a in
      let d = right_part P (free_sizes names (component_of i)) _ b in
      let e = right_part P (map (memory_size (component_of i) (ms i)) (memories (component_of i))) _ d in
      let f = right_part P (map (start_size (component_of i)) (starts (component_of i))) _ e in
      record {
        equations = left_part P (equation_sizes (component_of i) (ms i)) _ a;
        free = left_part P (free_sizes names (component_of i)) _ b;
        memories = left_part P (map (memory_size (component_of i) (ms i)) (memories (component_of i))) _ d;
        starts = left_part P (map (start_size (component_of i)) (starts (component_of i))) _ e;
        so_far = left_part P (sofar_sizes (component_of i).contract (contract_sizes i).assumes) _ f;
        asserts = right_part P (sofar_sizes (component_of i).contract (contract_sizes i).assumes) _ f;
      }

  of_counted : (names : List Name) (i : Instance) → OwnCounted names i → AllSizes (own_sizes names (component_of i) (contract_sizes i))
  of_counted names i o =
      both_parts P (equation_sizes (component_of i) (ms i)) _ o.equations
      (both_parts P (free_sizes names (component_of i)) _ o.free
      (both_parts P (map (memory_size (component_of i) (ms i)) (memories (component_of i))) _ o.memories
      (both_parts P (map (start_size (component_of i)) (starts (component_of i))) _ o.starts
      (both_parts P (sofar_sizes (component_of i).contract (contract_sizes i).assumes) _ o.so_far o.asserts))))

  abbrev all_sources : Instance → (Place → ℕ) → Sources → Sources
  all_sources i at given = given ++ equation_sources (stage i at) (equations (component_of i))

  all_typed : (i : Instance) (at : Place → ℕ) (f : Frame i at) (given : Sources) → AllTyped i given → AllTyped i (all_sources i at given)
  all_typed i at f given a =
      both_parts (Typed i) given (equation_sources (stage i at) (equations (component_of i))) a
      (equations_typed P i at f.fits f.modes f.assumes (equations (component_of i)) f.fits.equations)

  own_names_up : (i : Instance) (at : Place → ℕ) (f : Frame i at) (given : Sources) → AllTyped i given → AllGiven i given → (names : List Name) →
      IsSplit i names (all_sources i at given) → OwnCounted names i → Sizes P (names_here (stage i at) given)
  own_names_up i at f given y a names s o =
      names_up P i at f.fits f.modes f.assumes (all_sources i at given) names (all_typed i at f given y) s (variables (component_of i)) f.fits.streams
      (both_parts (Given i) given (equation_sources (stage i at) (equations (component_of i))) a
      (equations_have P i at f.fits f.modes f.assumes (equations (component_of i)) f.fits.equations o.equations)) o.free

  mutual
    pub here_up : (i : Instance) (at : Place → ℕ) → TreeFits IsKnown i → LightTree i → (active : Formula) → P (formula_size active) → (given : Sources) →
        AllByRecursion (λ q. Has (sort_of_name i q.0) q.1 × is_declared i (IsKnown i) q.0) given →
        AllByRecursion (λ q. P (given_size (presence (component_of i) (clock_of (component_of i) q.0)) (part_size q.1))) given → (names : List Name) →
        IsSplit i names (given ++ equation_sources (stage i at) (equations (component_of i))) → AllByRecursion P (frame_sizes names i) →
        Sizes P (here_of i at active given)
    here_up (instance d cs is) at fits light active h given y a names s b =
        let i : Instance = instance d cs is in
        let f = frame_of i at fits light in
        let own = own_counted names i (left_part P (own_sizes names d (contract_sizes i)) (call_sizes d (ms i) is) b) in (
          h,
          both_parts (λ f. P (formula_size f)) (names_here (stage i at) given) (calls_here is (stage i at)) (own_names_up i at f given y a names s own)
              (calls_here_up is i at f 0 refl fits.1 light.1 (right_part P (own_sizes names d (contract_sizes i)) (call_sizes d (ms i) is) b)),
        )

    calls_here_up : (is : Instances) (i : Instance) (at : Place → ℕ) → Frame i at → (p : ℕ) → drop_calls p (calls_of i) ≡ is → CallsFit IsKnown i is p →
        LightCalls i is → AllByRecursion P (call_sizes (component_of i) (contract_sizes i).modes is) → Sizes P (calls_here is (stage i at))
    calls_here_up no_instances i at f p e t l b = tt
    calls_here_up (with_instance c k is) i at f p e t l b =
        let site = left_part P (site_sizes (component_of i) (ms i) c (component_of k) c.manner) _ b in
        let rest = right_part P (site_sizes (component_of i) (ms i) c (component_of k) c.manner) _ b in
        both_parts (λ f. P (formula_size f)) (here_of k (below_call c.number at) _ (from_call (stage i at) c k)) (calls_here is (stage i at))
        (here_up k (below_call c.number at) t.1 l.1 _ (active_up i at f c k p t.0 c.manner t.0.manner site) (from_call (stage i at) c k)
        (given_typed i at f c k p t.0) (given_up i at f c k p t.0 site) (from_caller c k) (call_split (stage i at) (stage k (below_call c.number at)) c k)
        (left_part P (frame_sizes (from_caller c k) k) _ rest))
        (calls_here_up is i at f (suc p) (calls_behind i p c k is e) t.2 l.2 (right_part P (frame_sizes (from_caller c k) k) _ rest))

  leaves : (A : Type 0) → (h : A → Formula) → ((x : A) → formula_size (h x) ≡ leaf) → P leaf → (xs : List A) → Sizes P (map h xs)
  leaves A h e b [] = tt
  leaves A h e b (x ∷ xs) = (subst P (sym (e x)) b, leaves A h e b xs)

  so_far_first_up : (g : Stage) (m : Manner) → P leaf → Sizes P (so_far_first g m)
  so_far_first_up g m b = go (has_so_far m (component_of g.place))
    where
      go : (d : Bool) → Sizes P (cond d (flag_at g (own so_far) ∷ []) [])
      go true = (b, tt)
      go false = tt

  mutual
    pub first_up : (i : Instance) (m : Manner) (at : Place → ℕ) → TreeFits IsKnown i → LightTree i → P leaf → (names : List Name) →
        AllByRecursion P (frame_sizes names i) → Sizes P (first_of m i at)
    first_up (instance d cs is) m at fits light z names b =
        let i : Instance = instance d cs is in
        let f = frame_of i at fits light in
        both_parts (λ f. P (formula_size f)) (starts_first (stage i at) ++ so_far_first (stage i at) m) (calls_first is (stage i at))
        (both_parts (λ f. P (formula_size f)) (starts_first (stage i at)) (so_far_first (stage i at) m)
        (leaves _ (λ a. flag_at (stage i at) (own (starting a.number))) (λ a. refl) z (in_order (λ a. a.number) (starts d))) (so_far_first_up
        (stage i at) m z))
        (calls_first_up is i at f 0 refl fits.1 light.1 z (right_part P (own_sizes names d (contract_sizes i)) (call_sizes d (ms i) is) b))

    calls_first_up : (is : Instances) (i : Instance) (at : Place → ℕ) → Frame i at → (p : ℕ) → drop_calls p (calls_of i) ≡ is → CallsFit IsKnown i is p →
        LightCalls i is → P leaf → AllByRecursion P (call_sizes (component_of i) (contract_sizes i).modes is) → Sizes P (calls_first is (stage i at))
    calls_first_up no_instances i at f p e t l z b = tt
    calls_first_up (with_instance c k is) i at f p e t l z b =
        let site = left_part P (site_sizes (component_of i) (ms i) c (component_of k) c.manner) _ b in
        let rest = right_part P (site_sizes (component_of i) (ms i) c (component_of k) c.manner) _ b in
        both_parts (λ f. P (formula_size f)) (held_first (stage i at) c c.manner k ++ first_of c.manner k (below_call c.number at)) (calls_first is
        (stage i at))
        (both_parts (λ f. P (formula_size f)) (held_first (stage i at) c c.manner k) (first_of c.manner k (below_call c.number at))
        (held_first_up i at f c k p t.0 c.manner site)
        (first_up k c.manner (below_call c.number at) t.1 l.1 z (from_caller c k) (left_part P (frame_sizes (from_caller c k) k) _ rest)))
        (calls_first_up is i at f (suc p) (calls_behind i p c k is e) t.2 l.2 z (right_part P (frame_sizes (from_caller c k) k) _ rest))

  mutual
    pub next_up : (i : Instance) (m : Manner) (at : Place → ℕ) → TreeFits IsKnown i → LightTree i → (names : List Name) →
        AllByRecursion P (frame_sizes names i) → Sizes P (next_of m i at)
    next_up (instance d cs is) m at fits light names b =
        let i : Instance = instance d cs is in
        let f = frame_of i at fits light in
        let own = own_counted names i (left_part P (own_sizes names d (contract_sizes i)) (call_sizes d (ms i) is) b) in
        both_parts (λ f. P (formula_size f)) (map (memory_next (stage i at)) (in_order (λ x. x.number) (memories d))
        ++ map (start_next (stage i at)) (in_order (λ x. x.number) (starts d)) ++ so_far_next (stage i at) m) (calls_next is (stage i at))
        (both_parts (λ f. P (formula_size f)) (map (memory_next (stage i at)) (in_order (λ x. x.number) (memories d))
        ++ map (start_next (stage i at)) (in_order (λ x. x.number) (starts d))) (so_far_next (stage i at) m)
        (both_parts (λ f. P (formula_size f)) (map (memory_next (stage i at)) (in_order (λ x. x.number) (memories d)))
        (map (start_next (stage i at)) (in_order (λ x. x.number) (starts d)))
        (memories_up P i at f.fits f.modes f.assumes own.memories) (starts_up P i at f.fits f.modes f.assumes own.starts))
        (so_far_up P i at f.fits f.modes f.assumes m own.so_far))
        (calls_next_up is i at f 0 refl fits.1 light.1 (right_part P (own_sizes names d (contract_sizes i)) (call_sizes d (ms i) is) b))

    calls_next_up : (is : Instances) (i : Instance) (at : Place → ℕ) → Frame i at → (p : ℕ) → drop_calls p (calls_of i) ≡ is → CallsFit IsKnown i is p →
        LightCalls i is → AllByRecursion P (call_sizes (component_of i) (contract_sizes i).modes is) → Sizes P (calls_next is (stage i at))
    calls_next_up no_instances i at f p e t l b = tt
    calls_next_up (with_instance c k is) i at f p e t l b =
        let site = left_part P (site_sizes (component_of i) (ms i) c (component_of k) c.manner) _ b in
        let rest = right_part P (site_sizes (component_of i) (ms i) c (component_of k) c.manner) _ b in
        both_parts (λ f. P (formula_size f)) (held_next (stage i at) c c.manner k ++ next_of c.manner k (below_call c.number at)) (calls_next is (stage i at))
        (both_parts (λ f. P (formula_size f)) (held_next (stage i at) c c.manner k) (next_of c.manner k (below_call c.number at))
        (held_next_up i at f c k p t.0 c.manner site)
        (next_up k c.manner (below_call c.number at) t.1 l.1 (from_caller c k) (left_part P (frame_sizes (from_caller c k) k) _ rest)))
        (calls_next_up is i at f (suc p) (calls_behind i p c k is e) t.2 l.2 (right_part P (frame_sizes (from_caller c k) k) _ rest))

  mutual
    pub asserts_in_up : (i : Instance) (at : Place → ℕ) → TreeFits IsKnown i → LightTree i → (names : List Name) →
        AllByRecursion P (frame_sizes names i) → Sizes P (asserts_in i at)
    asserts_in_up (instance d cs is) at fits light names b =
        let i : Instance = instance d cs is in
        let f = frame_of i at fits light in
        let own = own_counted names i (left_part P (own_sizes names d (contract_sizes i)) (call_sizes d (ms i) is) b) in
        both_parts (λ f. P (formula_size f)) (asserts_of (stage i at)) (calls_asserts is (stage i at))
        (asserts_up P i at f.fits f.modes f.assumes d.body fits.0.asserts own.asserts)
        (calls_asserts_up is i at 0 refl fits.1 light.1 (right_part P (own_sizes names d (contract_sizes i)) (call_sizes d (ms i) is) b))

    calls_asserts_up : (is : Instances) (i : Instance) (at : Place → ℕ) → (p : ℕ) → drop_calls p (calls_of i) ≡ is → CallsFit IsKnown i is p →
        LightCalls i is → AllByRecursion P (call_sizes (component_of i) (contract_sizes i).modes is) → Sizes P (calls_asserts is (stage i at))
    calls_asserts_up no_instances i at p e t l b = tt
    calls_asserts_up (with_instance c k is) i at p e t l b =
        let rest = right_part P (site_sizes (component_of i) (ms i) c (component_of k) c.manner) _ b in
        both_parts (λ f. P (formula_size f)) (asserts_in k (below_call c.number at)) (calls_asserts is (stage i at))
        (asserts_in_up k (below_call c.number at) t.1 l.1 (from_caller c k) (left_part P (frame_sizes (from_caller c k) k) _ rest))
        (calls_asserts_up is i at (suc p) (calls_behind i p c k is e) t.2 l.2 (right_part P (frame_sizes (from_caller c k) k) _ rest))

  -- ---- back, the tree

  -- what is counted of whether the assumptions were true so far
  abbrev pub SoFar : Instance → Type 0
  SoFar i = P (sofar_size (contract_sizes i).assumes)

  abbrev pub SoFarWhereImport : Manner → Instance → Type 0
  SoFarWhereImport (as_import xs) i = SoFar i
  SoFarWhereImport plain i = Unit {0}
  SoFarWhereImport (while_true a) i = Unit {0}

  so_far_back : (i : Instance) (at : Place → ℕ) → Frame i at → (m : Manner) → SoFarWhereImport m i → Sizes P (so_far_next (stage i at) m) →
      AllSizes (sofar_sizes (component_of i).contract (contract_sizes i).assumes)
  so_far_back i at f m h a = go m (component_of i).contract refl h a
    where
      there : (o : Option (List ContractStatement)) → SoFar i → AllSizes (sofar_sizes o (contract_sizes i).assumes)
      there None b = tt
      there (Some cs) b = (b, tt)

      term : (o : Option (List ContractStatement)) → (component_of i).contract ≡ o → (w : Manner) →
          has_so_far w (component_of i) ≡ is_some (component_of i).contract →
          Sizes P (so_far_next (stage i at) w) → AllSizes (sofar_sizes o (contract_sizes i).assumes)
      term None e w q b = tt
      term (Some cs) e w q b = (
        subst P (so_far_is P i at f.fits f.modes f.assumes) (subst (λ d. Sizes P (cond d (so_far_term P i at f.fits f.modes f.assumes ∷ []) []))
            (q ∙ ap is_some e) b).0,
        tt,
      )

      go : (w : Manner) (o : Option (List ContractStatement)) → (component_of i).contract ≡ o → SoFarWhereImport w i → Sizes P (so_far_next (stage i at) w) →
          AllSizes (sofar_sizes o (contract_sizes i).assumes)
      go plain o e k b = term o e plain refl b
      go (while_true x) o e k b = term o e (while_true x) refl b
      go (as_import xs) o e k b = there o k

  -- the assumptions of an import are among those of the importing contract
  import_so_far : (d : Component) (cs : List (Name × Value)) (is : Instances) (at : Place → ℕ) → Frame (instance d cs is) at →
      (p : ℕ) (c : Site) (k : Instance)
      (js : Instances) → drop_calls p is ≡ with_instance c k js → c.number ≡ suc p → Imports (contract_statements d) c.number →
      SoFar (instance d cs is) → SoFar k
  import_so_far d cs is at f p c k js e q l a =
      let i : Instance = instance d cs is in
      let subs : ℕ → ContractSizes = λ j. slice_index_or (contract_sizes_each is) (pred j) no_sizes in
      let size : formula_size (all_of (assumed i at)) ≡ sizes.all_of (contract_sizes i).assumes = assumed_size P i at f.fits f.modes f.assumes in
      let w : IsWithin (sizes.all_of (subs (suc p)).assumes) (sizes.all_of (contract_sizes i).assumes) =
      import_within d subs (contract_statements d) (suc p) (subst (Imports (contract_statements d)) q l)
      (subst (λ s. 1 ≤ s.levels) size (has_levels (all_of (assumed i at)))) (subst (λ s. 1 ≤ s.parts) size (has_parts (all_of (assumed i at)))) in
      subst (λ (s : ContractSizes). P (sofar_size s.assumes)) (sizes_there is p c k js e)
      (down (sofar_size (subs (suc p)).assumes) (sofar_size (contract_sizes i).assumes) (sofar_within (subs (suc p)).assumes (contract_sizes i).assumes w) a)

  -- where a contract imports, it is there
  some_contract : (d : Component) (o : Option (List ContractStatement)) → d.contract ≡ o → (q : ℕ) → Imports (unwrap_or o []) q → (as_ : List Size) →
      AllSizes (sofar_sizes o as_) → P (sofar_size as_)
  some_contract d None e q l as_ a = absurd l
  some_contract d (Some cs) e q l as_ a = a.0

  import_there : (d : Component) (cs : List (Name × Value)) (is : Instances) (at : Place → ℕ) → Frame (instance d cs is) at →
      (p : ℕ) (c : Site) (k : Instance)
      (js : Instances) → drop_calls p is ≡ with_instance c k js → c.number ≡ suc p → (w : Manner) → IsListed (instance d cs is) w c.number →
      AllSizes (sofar_sizes d.contract (contract_sizes (instance d cs is)).assumes) → SoFarWhereImport w k
  import_there d cs is at f p c k js e q plain l a = tt
  import_there d cs is at f p c k js e q (while_true x) l a = tt
  import_there d cs is at f p c k js e q (as_import xs) l a =
      import_so_far d cs is at f p c k js e q l (some_contract d d.contract refl c.number l (contract_sizes (instance d cs is)).assumes a)

  given_where : (i : Instance) (at : Place → ℕ) (f : Frame i at) (c : Site) (k : Instance) (p : ℕ) (fit : CallFits IsKnown i c k p) (w : Manner) →
      SoFarWhereImport w k → WhereImport i at f c k p fit w
  given_where i at f c k p fit plain h = tt
  given_where i at f c k p fit (while_true x) h = tt
  given_where i at f c k p fit (as_import xs) h =
      down (given_size leaf leaf) (sofar_size (contract_sizes k).assumes) (given_within (contract_sizes k).assumes) h

  pub head_of : (i : Instance) (at : Place → ℕ) (active : Formula) (given : Sources) → Sizes P (here_of i at active given) → P (formula_size active)
  head_of (instance d cs is) at active given a = a.0

  mutual
    pub frame_back : (i : Instance) (m : Manner) (at : Place → ℕ) → TreeFits IsKnown i → LightTree i → (active : Formula) (given : Sources) →
        AllByRecursion (λ q. Has (sort_of_name i q.0) q.1 × is_declared i (IsKnown i) q.0) given → TreeDistinct i at given → (names : List Name) →
        IsSplit i names (given ++ equation_sources (stage i at) (equations (component_of i))) → SoFarWhereImport m i →
        Sizes P (here_of i at active given) → Sizes P (next_of m i at) → Sizes P (asserts_in i at) →
        AllByRecursion P (frame_sizes names i)
        × AllByRecursion (λ q. P (given_size (presence (component_of i) (clock_of (component_of i) q.0)) (part_size q.1))) given
    frame_back (instance d cs is) m at fits light active given y distinct names s sofar here next asserts =
        let i : Instance = instance d cs is in
        let f = frame_of i at fits light in
        let own_here = left_part (λ f. P (formula_size f)) (names_here (stage i at) given) (calls_here is (stage i at)) here.1 in
        let calls = right_part (λ f. P (formula_size f)) (names_here (stage i at) given) (calls_here is (stage i at)) here.1 in
        let memory_terms : List Formula = map (memory_next (stage i at)) (in_order (λ x. x.number) (memories d)) in
        let start_terms : List Formula = map (start_next (stage i at)) (in_order (λ x. x.number) (starts d)) in
        let own_next = left_part (λ f. P (formula_size f)) (memory_terms ++ start_terms ++ so_far_next (stage i at) m) (calls_next is (stage i at)) next in
        let calls_n = right_part (λ f. P (formula_size f)) (memory_terms ++ start_terms ++ so_far_next (stage i at) m) (calls_next is (stage i at)) next in
        let two_kinds = left_part (λ f. P (formula_size f)) (memory_terms ++ start_terms) (so_far_next (stage i at) m) own_next in
        let so_far_terms = right_part (λ f. P (formula_size f)) (memory_terms ++ start_terms) (so_far_next (stage i at) m) own_next in
        let sources = sources_back P i at f.fits f.modes f.assumes (all_sources i at given) names (all_typed i at f given y) s own_here
        (all_found (all_sources i at given) distinct.0) in
        let so_fars = so_far_back i at f m sofar so_far_terms in
        let own : OwnCounted names i = record {
          equations = equations_back P i at f.fits f.modes f.assumes (equations d) fits.0.equations
              (right_part (Given i) given (equation_sources (stage i at) (equations d)) sources);
          free = frees_back P i at f.fits f.modes f.assumes (all_sources i at given) names (all_typed i at f given y) s (variables d) fits.0.streams own_here;
          memories = memories_back P i at f.fits f.modes f.assumes (left_part (λ f. P (formula_size f)) memory_terms start_terms two_kinds);
          starts = starts_back P i at f.fits f.modes f.assumes (right_part (λ f. P (formula_size f)) memory_terms start_terms two_kinds);
          so_far = so_fars;
          asserts = asserts_back P i at f.fits f.modes f.assumes d.body fits.0.asserts
              (left_part (λ f. P (formula_size f)) (asserts_of (stage i at)) (calls_asserts is (stage i at)) asserts);
        } in (
          both_parts P (own_sizes names d (contract_sizes i)) (call_sizes d (ms i) is) (of_counted names i own)
              (calls_back is d cs is at f 0 refl fits.1 light.1 distinct.1 so_fars calls calls_n
              (right_part (λ f. P (formula_size f)) (asserts_of (stage i at)) (calls_asserts is (stage i at)) asserts)),
          left_part (Given i) given (equation_sources (stage i at) (equations d)) sources,
        )

    calls_back : (js : Instances) (d : Component) (cs : List (Name × Value)) (is : Instances) (at : Place → ℕ) → Frame (instance d cs is) at → (p : ℕ) →
        drop_calls p is ≡ js → CallsFit IsKnown (instance d cs is) js p → LightCalls (instance d cs is) js → CallsDistinct js (stage (instance d cs is) at) →
        AllByRecursion P (sofar_sizes d.contract (contract_sizes (instance d cs is)).assumes) → Sizes P (calls_here js (stage (instance d cs is) at)) →
        Sizes P (calls_next js (stage (instance d cs is) at)) → Sizes P (calls_asserts js (stage (instance d cs is) at)) →
        AllByRecursion P (call_sizes d (contract_sizes (instance d cs is)).modes js)
    calls_back no_instances d cs is at f p e t l u sofar here next asserts = tt
    calls_back (with_instance c k js) d cs is at f p e t l u sofar here next asserts =
        let i : Instance = instance d cs is in
        let below : Place → ℕ = below_call c.number at in
        let own_here = left_part (λ f. P (formula_size f)) (here_of k (below_call c.number at) _ (from_call (stage i at) c k)) (calls_here js
        (stage i at)) here in
        let own_next = left_part (λ f. P (formula_size f)) (held_next (stage i at) c c.manner k ++ next_of c.manner k (below_call c.number at))
        (calls_next js (stage i at)) next in
        let kept = import_there d cs is at f p c k js e t.0.number c.manner l.0.listed sofar in
        let there = frame_back k c.manner (below_call c.number at) t.1 l.1 _ (from_call (stage i at) c k) (given_typed i at f c k p t.0) u.0 (from_caller c k)
        (call_split (stage i at) (stage k (below_call c.number at)) c k) kept own_here
        (right_part (λ f. P (formula_size f)) (held_next (stage i at) c c.manner k) (next_of c.manner k (below_call c.number at)) own_next)
        (left_part (λ f. P (formula_size f)) (asserts_in k (below_call c.number at)) (calls_asserts js (stage i at)) asserts) in
        both_parts P (site_sizes d (ms i) c (component_of k) c.manner) (frame_sizes (from_caller c k) k ++ call_sizes d (ms i) js)
        (site_back i at f c k p t.0 c.manner refl t.0.manner js e (head_of k (below_call c.number at) _ (from_call (stage i at) c k) own_here)
        (left_part (Given k) (paired (inputs_of k) (map (term_of (stage i at)) c.arguments)) (shared_outputs (stage i at) c.manner k) there.1)
        (left_part (λ f. P (formula_size f)) (held_next (stage i at) c c.manner k) (next_of c.manner k (below_call c.number at)) own_next)
        (given_where i at f c k p t.0 c.manner kept))
        (both_parts P (frame_sizes (from_caller c k) k) (call_sizes d (ms i) js) there.0
        (calls_back js d cs is at f (suc p) (calls_behind i p c k js e) t.2 l.2 u.1 sofar
        (right_part (λ f. P (formula_size f)) (here_of k (below_call c.number at) _ (from_call (stage i at) c k)) (calls_here js (stage i at)) here)
        (right_part (λ f. P (formula_size f)) (held_next (stage i at) c c.manner k ++ next_of c.manner k (below_call c.number at)) (calls_next js
        (stage i at)) next)
        (right_part (λ f. P (formula_size f)) (asserts_in k (below_call c.number at)) (calls_asserts js (stage i at)) asserts)))
