-- The conditions of one frame have the levels and parts that are counted of it.
use Rattle.std.proofs.Common.{◌≡◌, ℕ, zero, suc, pred, ◌<◌, ◌≤◌, ◌+◌, Bool, true, false, cond, ◌||◌, List, [], ◌∷◌, ◌++◌, map, flat_map, length, Option, Some, None, is_some, refl, sym, ap, ◌∙◌, subst, arith}
use Rattle.std.specs.Prelude.{find, option_to_list, ◌==◌}
use Rattle.std.specs.List.{AllByRecursion}
use Rattle.std.specs.Map.{lookup}
use Rattle.std.proofs.Math.Logic.{◌⊎◌, inl, inr}
use Rattle.std.specs.Str.{bytes_eq}
use Rattle.std.proofs.lemmas.Bool.{false≢true}
use Rattle.std.proofs.lemmas.Option.{none-some}
use Rattle.lus_tree.specs.Numbers.{counting}
use Rattle.lus_tree.specs.declared.place.Sort.{Sort}
use Rattle.lus_tree.specs.declared.place.Sort.TheVariants.{Bool as Flags, Int as Numbers}
use Rattle.lus_tree.specs.Tree.{Name, Variable, Expression, truth, number, name, negation, minus, pre, arrow, binary, choice, sampled, merged, call, condact, mode_name, Component, Statement, equation, assertion, property, main_mark, ContractStatement}
use Rattle.lus_meaning.specs.Scene.{Clock, base, Manner, plain, while_true, as_import, Instance, call_instance, component_of, clock_from, clock_of, clock_of_names, variables}
use Rattle.lus_meaning.specs.Program.{in_order}
use Rattle.lus_meaning.specs.Property.{assertions}
use Rattle.lus_meaning.specs.Run.{Equation, inputs_of, sort_of, sort_of_name}
use Rattle.lus_meaning.specs.Depends.{named_in, left_names}
use Rattle.lus_meaning.specs.Occurrences.{Memory, memories, Start, starts}
use Rattle.lus_meaning.specs.Sizes.{Size, leaf, one, two, three, ModeSizes, size_in, ContractSizes, contract_sizes, presence_within, presence, side_size, given_size, free_size, equation_sizes, free_sizes, memory_size, start_size, sofar_sizes, assert_sizes}
use Rattle.lus_meaning.specs.Sizes as sizes
use Rattle.lus_meaning.proofs.InOrder.{in_order_all}
use Rattle.lus_meaning.proofs.Lists.{all_from, all_from_both, both_parts, mapped_all}
use Rattle.lus_meaning.proofs.Now.{left_part, right_part}
use Rattle.lus_meaning.proofs.Unique.{same_bytes}
use Rattle.rule_laws.proofs.Goods.{all_of_each}
use Rattle.rule_laws.proofs.Lists.{all_mapped}
use Rattle.rule_laws.proofs.Truths.{same_some}
use Rattle.sys_terms.specs.View.{Formula}
use Rattle.sys_terms.specs.View as t
use Rattle.sys_meaning.specs.Slot.{beat, named, memory, so_far, held, Place, own, in_call}
use Rattle.sys_meaning.specs.Part.{Part, a_flag, a_number, variable, variable_in, zero_of, all_of, choose_part, equal_parts}
use Rattle.sys_meaning.specs.Translate.{Stage, flag_at, present, output_part, latest_part, term_of, right_terms, formula}
use Rattle.sys_meaning.specs.System.{Written, contract_of, assumed, stage, Sources, paired, equation_sources, variable_of, equals_where_on, is_free, name_here, becomes, memory_next, start_next, so_far_next}
use Rattle.sys_meaning.specs.WellTyped.{IsKnown, IsNameOn, is_declared, ClockFits, StreamFits, EquationFits, MemoryFits, StartFits, Stands, OwnFits, right_sorts}
use Rattle.sys_meaning.proofs.Balanced.{source_names, IsFound, Picked, pick}
use Rattle.term_laws.proofs.Sized.{three_same, formula_size, part_size, Has, chosen_size, equal_size, variable_size, variable_has, zero_size, mode_sizes, term_has, present_size, latest_size, term_size, flag_size, all_of_size}

-- ---- types of parts

pub zero_has : (z : Sort) → Has z (zero_of z)
zero_has Flags = tt
zero_has Numbers = tt

pub chosen_has : (z : Sort) (c : Formula) (p q : Part) → Has z p → Has z q → Has z (choose_part c p q)
chosen_has Flags c (a_flag f) (a_flag g) h k = tt
chosen_has Numbers c (a_number a) (a_number b) h k = tt
chosen_has Flags c (a_flag f) (a_number b) h k = absurd k
chosen_has Flags c (a_number a) q h k = absurd h
chosen_has Numbers c (a_number a) (a_flag g) h k = absurd k
chosen_has Numbers c (a_flag f) q h k = absurd h

pub two_same : (a b x y : Size) → a ≡ x → b ≡ y → two a b ≡ two x y
two_same a b x y e f = ap (λ s. two s b) e ∙ ap (two x) f

-- the size of a variable that is equal to a choice of two parts
pub becomes_size : (z : Sort) (v : Part) (c : Formula) (p q : Part) (s u w : Size) → Has z v → part_size v ≡ leaf → Has z p → Has z q →
    formula_size c ≡ s → part_size p ≡ u → part_size q ≡ w → formula_size (equal_parts v (choose_part c p q)) ≡ two leaf (three s u w)
becomes_size z v c p q s u w h e k l d f j =
    equal_size z v (choose_part c p q) h (chosen_has z c p q k l)
    ∙ two_same (part_size v) (part_size (choose_part c p q)) leaf (three s u w) e
    (chosen_size z c p q k l ∙ three_same (formula_size c) (part_size p) (part_size q) s u w d f j)

-- ---- presence on the base clock

pub presence_base : (n : Component) → presence n base ≡ leaf
presence_base n = go (length (variables n))
  where
    go : (k : ℕ) → presence_within k n base ≡ leaf
    go zero = refl
    go (suc k) = refl

-- ---- numbered occurrences

at_or_behind : (j k : ℕ) → j ≤ k → (j ≡ k) ⊎ (suc j ≤ k)
at_or_behind zero zero l = inl refl
at_or_behind zero (suc k) l = inr (omega arith)
at_or_behind (suc j) zero l = absurd (omega (arith, l))
at_or_behind (suc j) (suc k) l = next (at_or_behind j k (omega (arith, l)))
  where
    next : (j ≡ k) ⊎ (suc j ≤ k) → (suc j ≡ suc k) ⊎ (suc (suc j) ≤ suc k)
    next (inl e) = inl (ap suc e)
    next (inr e) = inr (omega (arith, e))

-- what holds of those in order holds of each that is found by its number
found_in : {A : Type 0} (P : A → Type 0) (f : ℕ → List A) (j n k : ℕ) → AllByRecursion P (flat_map f (counting j n)) → j ≤ k → k < j + n →
    AllByRecursion P (f k)
found_in P f j zero k a l m = absurd (omega (arith, l, m))
found_in P f j (suc n) k a l m =
    go (at_or_behind j k l) (λ h. found_in P f (suc j) n k (right_part P (f j) (flat_map f (counting (suc j) n)) a) h (omega (arith, m)))
  where
    go : (j ≡ k) ⊎ (suc j ≤ k) → (suc j ≤ k → AllByRecursion P (f k)) → AllByRecursion P (f k)
    go (inl e) r = subst (λ q. AllByRecursion P (f q)) e (left_part P (f j) (flat_map f (counting (suc j) n)) a)
    go (inr h) r = r h

pub of_ordered : {A : Type 0} (P : A → Type 0) (at : A → ℕ) (xs : List A) → AllByRecursion P (in_order at xs) → (x : A) (k : ℕ) → 1 ≤ k → k ≤ length xs →
    find (λ y. at y == k) xs ≡ Some x → P x
of_ordered P at xs a x k l m e =
    (subst (λ o. AllByRecursion P (option_to_list o)) e
    (found_in P (λ k. option_to_list (find (λ y. at y == k) xs)) 1 (length xs) k a l (omega (arith, m)))).0

-- ---- lookups

no_name : (x : Name) (qs : Sources) → lookup (bytes_eq x) qs ≡ None → named_in x (source_names qs) ≡ false
no_name x [] e = refl
no_name x (q ∷ qs) e = go (bytes_eq x q.0) e (no_name x qs)
  where
    go : (b : Bool) → cond b (Some q.1) (lookup (bytes_eq x) qs) ≡ None → (lookup (bytes_eq x) qs ≡ None → named_in x (source_names qs) ≡ false) →
        (b || named_in x (source_names qs)) ≡ false
    go true h r = absurd (none-some q.1 (sym h))
    go false h r = r h

nothing_found : (x : Name) (qs : Sources) → named_in x (source_names qs) ≡ false → lookup (bytes_eq x) qs ≡ None
nothing_found x [] e = refl
nothing_found x (q ∷ qs) e = go (bytes_eq x q.0) e (nothing_found x qs)
  where
    go : (b : Bool) → (b || named_in x (source_names qs)) ≡ false → (named_in x (source_names qs) ≡ false → lookup (bytes_eq x) qs ≡ None) →
        cond b (Some q.1) (lookup (bytes_eq x) qs) ≡ None
    go true h r = absurd (false≢true (sym h))
    go false h r = r h

looked_up : (R : Name × Part → Type 0) (x : Name) (p : Part) (qs : Sources) → AllByRecursion R qs → lookup (bytes_eq x) qs ≡ Some p → R (x, p)
looked_up R x p [] a e = absurd (none-some p e)
looked_up R x p (q ∷ qs) a e = go (bytes_eq x q.0) refl e (looked_up R x p qs a.1)
  where
    go : (b : Bool) → bytes_eq x q.0 ≡ b → cond b (Some q.1) (lookup (bytes_eq x) qs) ≡ Some p → (lookup (bytes_eq x) qs ≡ Some p → R (x, p)) → R (x, p)
    go true k h r = subst (λ y. R (y, p)) (sym (same_bytes x q.0 k)) (subst (λ z. R (q.0, z)) (same_some h) a.0)
    go false k h r = r h

-- ---- the parts of a right side

-- parts of these types, each of that size
abbrev pub AreSized : List Sort → List Part → Size → Type 0
AreSized [] [] s = Unit {0}
AreSized (z ∷ zs) (p ∷ ps) s = Has z p × (part_size p ≡ s) × AreSized zs ps s
AreSized [] (p ∷ ps) s = ⊥
AreSized (z ∷ zs) [] s = ⊥

abbrev pub sofar_size : List Size → Size
sofar_size as_ = two leaf (two leaf (one (two leaf (one (sizes.all_of as_)))))

mapped_twice : (at : Place → ℕ) (fs : List Written) → map formula_size (map (λ f. f at) fs) ≡ map (λ f. formula_size (f at)) fs
mapped_twice at [] = refl
mapped_twice at (f ∷ fs) = ap (λ l. formula_size (f at) ∷ l) (mapped_twice at fs)

module _ (P : Size → Type 0) where
  abbrev pub Sizes : List Formula → Type 0
  Sizes fs = AllByRecursion (λ f. P (formula_size f)) fs

  -- of a frame: the sizes of what its contract says
  module _ (i : Instance) (at : Place → ℕ) (fits : OwnFits i (IsKnown i)) (same_modes : mode_sizes (stage i at).modes ≡ (contract_sizes i).modes)
      (same_assumes : map (λ f. formula_size (f at)) (contract_of i).assumes ≡ (contract_sizes i).assumes) where
    abbrev g : Stage
    g = stage i at

    abbrev n : Component
    n = component_of i

    abbrev r : ContractSizes
    r = contract_sizes i

    pub expression_size : (e : Expression) (c : Clock) → Stands i (IsKnown i) c e →
        part_size (term_of (stage i at) e) ≡ size_in (component_of i) (contract_sizes i).modes e
    expression_size e c h = term_size g fits.streams e c h ∙ ap (λ q. size_in n q e) same_modes

    pub expression_has : (e : Expression) (c : Clock) → Stands i (IsKnown i) c e → Has (sort_of i e) (term_of (stage i at) e)
    expression_has e c h = term_has g fits.streams e c h

    pub truth_size : (e : Expression) (c : Clock) → Stands i (IsKnown i) c e → sort_of i e ≡ Flags →
        formula_size (formula (stage i at) e) ≡ size_in (component_of i) (contract_sizes i).modes e
    truth_size e c h s = flag_size g fits.streams e c h s ∙ ap (λ q. size_in n q e) same_modes

    pub clock_size : (c : Clock) → ClockFits i (IsKnown i) c → formula_size (present (stage i at) c) ≡ presence (component_of i) c
    clock_size c h = present_size g fits.streams c h

    outputs_sized : (k : ℕ) (vs : List Variable) → AreSized (map (λ v. v.sort) vs) (map (output_part (stage i at) k) vs) leaf
    outputs_sized k [] = tt
    outputs_sized k (v ∷ vs) = (
      variable_has false v.sort (at (in_call k (own (named v.name.text)))),
      variable_size false v.sort (at (in_call k (own (named v.name.text)))),
      outputs_sized k vs,
    )

    latests_sized : (k : ℕ) (vs : List Variable) → AreSized (map (λ v. v.sort) vs) (map (latest_part (stage i at) k) vs) (three leaf leaf leaf)
    latests_sized k [] = tt
    latests_sized k (v ∷ vs) = (
      chosen_has v.sort (flag_at g (in_call k (own beat))) (variable v.sort (at (in_call k (own (named v.name.text)))))
          (variable v.sort (at (own (held k v.name.text)))) (variable_has false v.sort (at (in_call k (own (named v.name.text)))))
          (variable_has false v.sort (at (own (held k v.name.text)))),
      latest_size g fits.streams k v,
      latests_sized k vs,
    )

    right_sized : (e : Expression) (c : Clock) → Stands i (IsKnown i) c e →
        AreSized (right_sorts i (IsKnown i) e) (right_terms (stage i at) e) (size_in (component_of i) (contract_sizes i).modes e)
    right_sized (call p k f as_) c h = outputs_sized k (component_of (call_instance i k)).outputs
    right_sized (condact p k a f as_ ds) c h = latests_sized k (component_of (call_instance i k)).outputs
    right_sized (truth p b) c h = (expression_has (truth p b) c h, expression_size (truth p b) c h, tt)
    right_sized (number p b) c h = (expression_has (number p b) c h, expression_size (number p b) c h, tt)
    right_sized (name p b) c h = (expression_has (name p b) c h, expression_size (name p b) c h, tt)
    right_sized (negation p b) c h = (expression_has (negation p b) c h, expression_size (negation p b) c h, tt)
    right_sized (minus p b) c h = (expression_has (minus p b) c h, expression_size (minus p b) c h, tt)
    right_sized (pre p k b) c h = (expression_has (pre p k b) c h, expression_size (pre p k b) c h, tt)
    right_sized (arrow p k a b) c h = (expression_has (arrow p k a b) c h, expression_size (arrow p k a b) c h, tt)
    right_sized (binary p o a b) c h = (expression_has (binary p o a b) c h, expression_size (binary p o a b) c h, tt)
    right_sized (choice p a b d) c h = (expression_has (choice p a b d) c h, expression_size (choice p a b d) c h, tt)
    right_sized (sampled p a q x) c h = (expression_has (sampled p a q x) c h, expression_size (sampled p a q x) c h, tt)
    right_sized (merged p x a b) c h = (expression_has (merged p x a b) c h, expression_size (merged p x a b) c h, tt)
    right_sized (mode_name p d x) c h = (expression_has (mode_name p d x) c h, expression_size (mode_name p d x) c h, tt)

    some_sorts : (vs : List Variable) → 0 < length vs → map (λ v. v.sort) vs ≡ [] → ⊥
    some_sorts [] l e = omega (arith, l)
    some_sorts (v ∷ vs) l e = false≢true (sym (ap is_nil e))
      where
        is_nil : List Sort → Bool
        is_nil [] = false
        is_nil (z ∷ zs) = true

    abbrev is_cons : List Sort → Bool
    is_cons [] = false
    is_cons (z ∷ zs) = true

    -- a right side has a part at least
    some_right : (e : Expression) (c : Clock) → Stands i (IsKnown i) c e → right_sorts i (IsKnown i) e ≡ [] → ⊥
    some_right (call p k f as_) c h e = some_sorts (component_of (call_instance i k)).outputs h.0.outputs e
    some_right (condact p k a f as_ ds) c h e = some_sorts (component_of (call_instance i k)).outputs h.0.outputs e
    some_right (truth p b) c h e = false≢true (sym (ap is_cons e))
    some_right (number p b) c h e = false≢true (sym (ap is_cons e))
    some_right (name p b) c h e = false≢true (sym (ap is_cons e))
    some_right (negation p b) c h e = false≢true (sym (ap is_cons e))
    some_right (minus p b) c h e = false≢true (sym (ap is_cons e))
    some_right (pre p k b) c h e = false≢true (sym (ap is_cons e))
    some_right (arrow p k a b) c h e = false≢true (sym (ap is_cons e))
    some_right (binary p o a b) c h e = false≢true (sym (ap is_cons e))
    some_right (choice p a b d) c h e = false≢true (sym (ap is_cons e))
    some_right (sampled p a q x) c h e = false≢true (sym (ap is_cons e))
    some_right (merged p x a b) c h e = false≢true (sym (ap is_cons e))
    some_right (mode_name p d x) c h e = false≢true (sym (ap is_cons e))

    -- ---- sources

    -- a source of a declared name, of its type
    abbrev pub TypedSource : Name × Part → Type 0
    TypedSource q = Has (sort_of_name i q.0) q.1 × is_declared i (IsKnown i) q.0

    abbrev pub SourceHas : Name × Part → Type 0
    SourceHas q = P (given_size (presence (component_of i) (clock_of (component_of i) q.0)) (part_size q.1))

    pub paired_typed : (c : Clock) (xs : List Name) (ps : List Part) (s : Size) → AllByRecursion (λ x. IsNameOn i (IsKnown i) c x) xs →
        AreSized (map (sort_of_name i) xs) ps s → AllByRecursion TypedSource (paired xs ps)
    paired_typed c [] ps s a h = tt
    paired_typed c (x ∷ xs) [] s a h = absurd h
    paired_typed c (x ∷ xs) (p ∷ ps) s a h = ((h.0, a.0.declared), paired_typed c xs ps s a.1 h.2)

    pub paired_have : (c : Clock) (xs : List Name) (ps : List Part) (s : Size) → AllByRecursion (λ x. IsNameOn i (IsKnown i) c x) xs →
        AreSized (map (sort_of_name i) xs) ps s → P (given_size (presence (component_of i) c) s) → AllByRecursion SourceHas (paired xs ps)
    paired_have c [] ps s a h b = tt
    paired_have c (x ∷ xs) [] s a h b = absurd h
    paired_have c (x ∷ xs) (p ∷ ps) s a h b = (
      subst (λ z. P (given_size (presence n z) (part_size p))) (sym a.0.clock) (subst (λ z. P (given_size (presence n c) z))
          (sym h.1) b),
      paired_have c xs ps s a.1 h.2 b,
    )

    equation_sized : (e : Equation) → EquationFits i (IsKnown i) e →
        AreSized (map (sort_of_name i) e.names) (right_terms (stage i at) e.right) (side_size (component_of i) (contract_sizes i).modes e)
    equation_sized e f = subst (λ zs. AreSized zs (right_terms g e.right) (side_size n r.modes e)) (sym f.sorts) (right_sized e.right _ f.right)

    pub equations_typed : (es : List Equation) → AllByRecursion (EquationFits i (IsKnown i)) es →
        AllByRecursion TypedSource (equation_sources (stage i at) es)
    equations_typed [] a = tt
    equations_typed (e ∷ es) a =
        both_parts TypedSource (paired e.names (right_terms g e.right)) (equation_sources g es)
        (paired_typed _ e.names (right_terms g e.right) _ a.0.names (equation_sized e a.0)) (equations_typed es a.1)

    abbrev one_equation : Equation → Size
    one_equation e = given_size (presence (component_of i) (clock_of_names (component_of i) e.names)) (side_size (component_of i) (contract_sizes i).modes e)

    pub equations_have : (es : List Equation) → AllByRecursion (EquationFits i (IsKnown i)) es → AllByRecursion P (map one_equation es) →
        AllByRecursion SourceHas (equation_sources (stage i at) es)
    equations_have [] a b = tt
    equations_have (e ∷ es) a b =
        both_parts SourceHas (paired e.names (right_terms g e.right)) (equation_sources g es)
        (paired_have _ e.names (right_terms g e.right) _ a.0.names (equation_sized e a.0) b.0) (equations_have es a.1 b.1)

    one_back : (e : Equation) → EquationFits i (IsKnown i) e → (xs : List Name) → e.names ≡ xs →
        AllByRecursion SourceHas (paired xs (right_terms (stage i at) e.right)) → P (one_equation e)
    one_back e f [] q a = absurd (some_right e.right _ f.right (sym f.sorts ∙ ap (map (sort_of_name i)) q))
    one_back e f (x ∷ xs) q a =
        go (right_terms g e.right) (subst (λ ys. AreSized (map (sort_of_name i) ys) (right_terms g e.right) (side_size n r.modes e)) q (equation_sized e f)) a
      where
        go : (ps : List Part) → AreSized (map (sort_of_name i) (x ∷ xs)) ps (side_size (component_of i) (contract_sizes i).modes e) →
            AllByRecursion SourceHas (paired (x ∷ xs) ps) → P (one_equation e)
        go [] h b = absurd h
        go (p ∷ ps) h b = subst (λ ys. P (given_size (presence n (clock_of_names n ys)) (side_size n r.modes e))) (sym q)
            (subst (λ z. P (given_size (presence n (clock_of n x)) z)) h.1 b.0)

    pub equations_back : (es : List Equation) → AllByRecursion (EquationFits i (IsKnown i)) es → AllByRecursion SourceHas (equation_sources (stage i at) es) →
        AllByRecursion P (map one_equation es)
    equations_back [] a b = tt
    equations_back (e ∷ es) a b = (
      one_back e a.0 e.names refl (left_part SourceHas (paired e.names (right_terms g e.right)) (equation_sources g es) b),
      equations_back es a.1 (right_part SourceHas (paired e.names (right_terms g e.right)) (equation_sources g es) b),
    )

    -- ---- names

    equals_size : (v : Variable) → StreamFits i (IsKnown i) v → (p : Part) → Has v.sort p →
        formula_size (equals_where_on (stage i at) v p) ≡ given_size (presence (component_of i) (clock_from v.clock)) (part_size p)
    equals_size v s p h =
        becomes_size v.sort (variable_of g v) (present g (clock_from v.clock)) p (zero_of v.sort) (presence n (clock_from v.clock)) (part_size p) leaf
        (variable_has false v.sort (at (own (named v.name.text)))) (variable_size false v.sort (at (own (named v.name.text)))) h (zero_has v.sort)
        (clock_size (clock_from v.clock) s.clock) refl (zero_size v.sort)

    free_is : (v : Variable) → StreamFits i (IsKnown i) v →
        formula_size (is_free (stage i at) v) ≡ free_size (presence (component_of i) (clock_from v.clock))
    free_is v s =
        ap one (two_same (one (formula_size (present g (clock_from v.clock)))) (one (formula_size (equal_parts (variable_of g v) (zero_of v.sort))))
        (one (presence n (clock_from v.clock))) (one (two leaf leaf)) (ap one (clock_size (clock_from v.clock) s.clock))
        (ap one (equal_size v.sort (variable_of g v) (zero_of v.sort) (variable_has false v.sort (at (own (named v.name.text)))) (zero_has v.sort)
        ∙ two_same (part_size (variable_of g v)) (part_size (zero_of v.sort)) leaf leaf (variable_size false v.sort (at (own (named v.name.text))))
        (zero_size v.sort))))

    -- the sources of names, the names that the caller gives, and those that neither an equation nor the caller gives
    module _ (qs : Sources) (names : List Name) (typed : AllByRecursion TypedSource qs)
        (split : (x : Name) → named_in x (names ++ left_names (component_of i)) ≡ (named_in x (source_names qs) || named_in x (inputs_of i))) where
      abbrev here : Variable → List Formula
      here v = name_here (stage i at) v (lookup (bytes_eq v.name.text) qs)

      abbrev free_of : Variable → List Size
      free_of v = cond (named_in v.name.text (names ++ left_names (component_of i))) [] (free_size (presence (component_of i) (clock_from v.clock)) ∷ [])

      neither : (a b : Bool) → (a || b) ≡ false → (a ≡ false) × (b ≡ false)
      neither true b e = absurd (false≢true (sym e))
      neither false b e = (refl, e)

      source_of : (v : Variable) → StreamFits i (IsKnown i) v → (p : Part) → TypedSource (v.name.text, p) → Has v.sort p
      source_of v s p h = subst (λ z. Has z p) s.sort h.0

      name_up : (v : Variable) → StreamFits i (IsKnown i) v → AllByRecursion SourceHas qs → AllByRecursion P (free_of v) → Sizes (here v)
      name_up v s a b = go (lookup (bytes_eq v.name.text) qs) refl
        where
          free : (d : Bool) → named_in v.name.text (inputs_of i) ≡ d → named_in v.name.text (source_names qs) ≡ false →
              Sizes (cond d [] (is_free (stage i at) v ∷ []))
          free true e k = tt
          free false e k =
              let none : named_in v.name.text (names ++ left_names n) ≡ false = split v.name.text ∙ rw (k, e) refl in
              let w : AllByRecursion P (cond false [] (free_size (presence n (clock_from v.clock)) ∷ [])) =
              subst (λ z. AllByRecursion P (cond z [] (free_size (presence n (clock_from v.clock)) ∷ []))) none b in
              (subst P (sym (free_is v s)) w.0, tt)

          go : (o : Option Part) → lookup (bytes_eq v.name.text) qs ≡ o → Sizes (name_here (stage i at) v o)
          go None e = free (named_in v.name.text (inputs_of i)) refl (no_name v.name.text qs e)
          go (Some p) e = (
            subst P (sym (equals_size v s p (source_of v s p (looked_up TypedSource v.name.text p qs typed e))))
                (subst (λ c. P (given_size (presence n c) (part_size p))) s.name.clock (looked_up SourceHas v.name.text p qs a e)),
            tt,
          )

      pub names_up : (vs : List Variable) → AllByRecursion (StreamFits i (IsKnown i)) vs → AllByRecursion SourceHas qs →
          AllByRecursion P (flat_map free_of vs) → Sizes (flat_map here vs)
      names_up [] s a b = tt
      names_up (v ∷ vs) s a b =
          both_parts (λ f. P (formula_size f)) (here v) (flat_map here vs) (name_up v s.0 a (left_part P (free_of v) (flat_map free_of vs) b))
          (names_up vs s.1 a (right_part P (free_of v) (flat_map free_of vs) b))

      free_back : (v : Variable) → StreamFits i (IsKnown i) v → Sizes (here v) → AllByRecursion P (free_of v)
      free_back v s a = go (named_in v.name.text (names ++ left_names n)) refl
        where
          go : (d : Bool) → named_in v.name.text (names ++ left_names (component_of i)) ≡ d →
              AllByRecursion P (cond d [] (free_size (presence (component_of i) (clock_from v.clock)) ∷ []))
          go true e = tt
          go false e =
              let k = neither (named_in v.name.text (source_names qs)) (named_in v.name.text (inputs_of i)) (sym (split v.name.text) ∙ e) in
              let b : Sizes (cond (named_in v.name.text (inputs_of i)) [] (is_free g v ∷ [])) =
              subst (λ o. Sizes (name_here g v o)) (nothing_found v.name.text qs k.0) a in
              (subst P (free_is v s) (subst (λ z. Sizes (cond z [] (is_free g v ∷ []))) k.1 b).0, tt)

      pub frees_back : (vs : List Variable) → AllByRecursion (StreamFits i (IsKnown i)) vs → Sizes (flat_map here vs) → AllByRecursion P (flat_map free_of vs)
      frees_back [] s a = tt
      frees_back (v ∷ vs) s a =
          both_parts P (free_of v) (flat_map free_of vs) (free_back v s.0 (left_part (λ f. P (formula_size f)) (here v) (flat_map here vs) a))
          (frees_back vs s.1 (right_part (λ f. P (formula_size f)) (here v) (flat_map here vs) a))

      abbrev Seen : Variable → Type 0
      Seen v = StreamFits i (IsKnown i) v × Sizes (here v)

      source_back : AllByRecursion Seen (variables (component_of i)) → (q : Name × Part) → TypedSource q → IsFound qs q → SourceHas q
      source_back a q h e =
          let w : Picked q.0 Seen = pick q.0 Seen (variables n) a h.1 in
          let s : StreamFits i (IsKnown i) w.variable = w.holds.0 in
          let found : lookup (bytes_eq w.variable.name.text) qs ≡ Some q.1 = subst (λ x. lookup (bytes_eq x) qs ≡ Some q.1) (sym w.same) e in
          let z : Sizes (name_here g w.variable (Some q.1)) = subst (λ o. Sizes (name_here g w.variable o)) found w.holds.1 in
          let k : Has w.variable.sort q.1 = source_of w.variable s q.1 (subst (λ x. TypedSource (x, q.1)) (sym w.same) h) in
          subst (λ x. P (given_size (presence n (clock_of n x)) (part_size q.1))) w.same
          (subst (λ c. P (given_size (presence n c) (part_size q.1))) (sym s.name.clock) (subst P (equals_size w.variable s q.1 k) z.0))

      pub sources_back : Sizes (flat_map here (variables (component_of i))) → AllByRecursion (IsFound qs) qs → AllByRecursion SourceHas qs
      sources_back a f =
          let each : AllByRecursion Seen (variables n) = all_from_both (StreamFits i (IsKnown i)) (λ v. Sizes (here v)) Seen (λ v s b. (s, b))
          (variables n) fits.streams
          (all_of_each (λ f. P (formula_size f)) here (variables n) a) in
          all_from_both TypedSource (IsFound qs) SourceHas (λ q h e. source_back each q h e) qs typed f

    -- ---- next

    memory_is : (x : Memory) → MemoryFits i (IsKnown i) x →
        formula_size (memory_next (stage i at) x) ≡ memory_size (component_of i) (contract_sizes i).modes x
    memory_is x f =
        let z : Sort = sort_of i x.operand in
        becomes_size z (variable_in true z (at (own (memory x.number)))) (present g x.clock) (term_of g x.operand) (variable z (at (own (memory x.number))))
        (presence n x.clock) (size_in n r.modes x.operand) leaf
        (variable_has true z (at (own (memory x.number)))) (variable_size true z (at (own (memory x.number)))) (expression_has x.operand x.clock f.operand)
        (variable_has false z (at (own (memory x.number)))) (clock_size x.clock f.clock) (expression_size x.operand x.clock f.operand)
        (variable_size false z (at (own (memory x.number))))

    start_is : (a : Start) → StartFits i (IsKnown i) a → formula_size (start_next (stage i at) a) ≡ start_size (component_of i) a
    start_is a f = ap (λ s. two leaf (two leaf (one s))) (clock_size a.clock f.clock)

    pub memories_up : AllByRecursion P (map (memory_size (component_of i) (contract_sizes i).modes) (memories (component_of i))) →
        Sizes (map (memory_next (stage i at)) (in_order (λ x. x.number) (memories (component_of i))))
    memories_up a =
        all_mapped (λ f. P (formula_size f)) (memory_next g) (in_order (λ x. x.number) (memories n))
        (in_order_all (λ x. x.number) (λ x. P (formula_size (memory_next g x))) (memories n)
        (all_from_both (MemoryFits i (IsKnown i)) (λ x. P (memory_size n r.modes x)) (λ x. P (formula_size (memory_next g x)))
        (λ x f b. subst P (sym (memory_is x f)) b) (memories n) fits.memories (mapped_all P (memory_size n r.modes) (memories n) a)))

    pub memories_back : Sizes (map (memory_next (stage i at)) (in_order (λ x. x.number) (memories (component_of i)))) →
        AllByRecursion P (map (memory_size (component_of i) (contract_sizes i).modes) (memories (component_of i)))
    memories_back a =
        let each : AllByRecursion (λ x. P (formula_size (memory_next g x))) (in_order (λ x. x.number) (memories n)) =
        mapped_all (λ f. P (formula_size f)) (memory_next g) (in_order (λ x. x.number) (memories n)) a in
        all_mapped P (memory_size n r.modes) (memories n)
        (all_from (MemoryFits i (IsKnown i)) (λ x. P (memory_size n r.modes x))
        (λ x f. let c : x.number ≡ suc (pred x.number) = f.counted in let l : pred x.number < length (memories n) = f.listed in
        subst P (memory_is x f) (of_ordered (λ x. P (formula_size (memory_next g x))) (λ x. x.number) (memories n) each x x.number
        (omega (arith, c)) (omega (arith, c, l)) f.found)) (memories n) fits.memories)

    pub starts_up : AllByRecursion P (map (start_size (component_of i)) (starts (component_of i))) →
        Sizes (map (start_next (stage i at)) (in_order (λ x. x.number) (starts (component_of i))))
    starts_up a =
        all_mapped (λ f. P (formula_size f)) (start_next g) (in_order (λ x. x.number) (starts n))
        (in_order_all (λ x. x.number) (λ x. P (formula_size (start_next g x))) (starts n)
        (all_from_both (StartFits i (IsKnown i)) (λ x. P (start_size n x)) (λ x. P (formula_size (start_next g x)))
        (λ x f b. subst P (sym (start_is x f)) b) (starts n) fits.starts (mapped_all P (start_size n) (starts n) a)))

    pub starts_back : Sizes (map (start_next (stage i at)) (in_order (λ x. x.number) (starts (component_of i)))) →
        AllByRecursion P (map (start_size (component_of i)) (starts (component_of i)))
    starts_back a =
        let each : AllByRecursion (λ x. P (formula_size (start_next g x))) (in_order (λ x. x.number) (starts n)) =
        mapped_all (λ f. P (formula_size f)) (start_next g) (in_order (λ x. x.number) (starts n)) a in
        all_mapped P (start_size n) (starts n)
        (all_from (StartFits i (IsKnown i)) (λ x. P (start_size n x))
        (λ x f. let c : x.number ≡ suc (pred x.number) = f.counted in let l : pred x.number < length (starts n) = f.listed in
        subst P (start_is x f) (of_ordered (λ x. P (formula_size (start_next g x))) (λ x. x.number) (starts n) each x x.number
        (omega (arith, c)) (omega (arith, c, l)) f.found)) (starts n) fits.starts)

    pub assumed_size : formula_size (all_of (assumed i at)) ≡ sizes.all_of (contract_sizes i).assumes
    assumed_size = all_of_size (assumed i at) ∙ ap sizes.all_of (mapped_twice at (contract_of i).assumes ∙ same_assumes)

    abbrev pub so_far_term : Formula
    so_far_term = becomes (stage i at) Flags so_far (a_flag (t.both (flag_at (stage i at) (own so_far)) (t.negation (t.both (flag_at (stage i at) (own beat))
        (t.negation (all_of (assumed i at)))))))

    pub so_far_is : formula_size so_far_term ≡ sofar_size (contract_sizes i).assumes
    so_far_is = ap (λ s. two leaf (two leaf (one (two leaf (one s))))) assumed_size

    pub so_far_up : (m : Manner) → AllByRecursion P (sofar_sizes (component_of i).contract (contract_sizes i).assumes) → Sizes (so_far_next (stage i at) m)
    so_far_up m a = go m (component_of i).contract refl a
      where
        term : (o : Option (List ContractStatement)) → (component_of i).contract ≡ o → AllByRecursion P (sofar_sizes o (contract_sizes i).assumes) →
            Sizes (cond (is_some (component_of i).contract) (so_far_term ∷ []) [])
        term None e b = subst (λ q. Sizes (cond (is_some q) (so_far_term ∷ []) [])) (sym e) tt
        term (Some cs) e b = subst (λ q. Sizes (cond (is_some q) (so_far_term ∷ []) [])) (sym e) (subst P (sym so_far_is) b.0, tt)

        go : (w : Manner) (o : Option (List ContractStatement)) → (component_of i).contract ≡ o →
            AllByRecursion P (sofar_sizes o (contract_sizes i).assumes) →
            Sizes (so_far_next (stage i at) w)
        go plain o e b = term o e b
        go (while_true x) o e b = term o e b
        go (as_import xs) o e b = tt

    -- ---- asserts

    pub asserts_up : (ss : List Statement) → AllByRecursion (λ e. Stands i (IsKnown i) base e × (sort_of i e ≡ Flags)) (assertions ss) →
        AllByRecursion P (assert_sizes (component_of i) (contract_sizes i).modes ss) →
        Sizes (map (λ e. t.negation (t.both (flag_at (stage i at) (own beat)) (t.negation (formula (stage i at) e)))) (assertions ss))
    asserts_up [] a b = tt
    asserts_up (equation xs e ∷ ss) a b = asserts_up ss a b
    asserts_up (assertion e ∷ ss) a b = (subst (λ s. P (one (two leaf (one s)))) (sym (truth_size e base a.0.0 a.0.1)) b.0, asserts_up ss a.1 b.1)
    asserts_up (property l ∷ ss) a b = asserts_up ss a b
    asserts_up (main_mark w ∷ ss) a b = asserts_up ss a b

    pub asserts_back : (ss : List Statement) → AllByRecursion (λ e. Stands i (IsKnown i) base e × (sort_of i e ≡ Flags)) (assertions ss) →
        Sizes (map (λ e. t.negation (t.both (flag_at (stage i at) (own beat)) (t.negation (formula (stage i at) e)))) (assertions ss)) →
        AllByRecursion P (assert_sizes (component_of i) (contract_sizes i).modes ss)
    asserts_back [] a b = tt
    asserts_back (equation xs e ∷ ss) a b = asserts_back ss a b
    asserts_back (assertion e ∷ ss) a b = (subst (λ s. P (one (two leaf (one s)))) (truth_size e base a.0.0 a.0.1) b.0, asserts_back ss a.1 b.1)
    asserts_back (property l ∷ ss) a b = asserts_back ss a b
    asserts_back (main_mark w ∷ ss) a b = asserts_back ss a b
