-- What a checked declaration has at each place of its text: what is known of its expressions, and the clocks
-- of their places, which come to the base clock; so its memories, starts and calls fit.
use Rattle.std.proofs.Common.{◌≡◌, ℕ, zero, suc, pred, ◌≤◌, Bool, true, false, List, [], ◌∷◌, ◌++◌, map, flat_map, length, Some, refl, sym, ap, ◌∙◌, subst}
use Rattle.std.specs.Prelude.{Contains}
use Rattle.std.specs.List.{AllByRecursion}
use Rattle.std.proofs.lemmas.Bool.{false≢true}
use Rattle.std.proofs.lemmas.Option.{none-some}
use Rattle.lus_tree.specs.declared.place.Sort.TheVariants.{Bool as Flags}
use Rattle.lus_tree.specs.Tree.{Name, text_of, Labelled, Expression, Expressions, truth, number, name, negation, minus, pre, arrow, binary, choice, sampled, merged, call, condact, mode_name, no_more, more, Constant, Variable, Statement, equation, assertion, property, main_mark, ContractStatement, assume, guarantee, ghost_variable, constant, mode, «import», Component, Program}
use Rattle.lus_meaning.specs.Value.{has_sort}
use Rattle.lus_meaning.specs.Scene.{Clock, base, sampled_by, Manner, plain, while_true, as_import, Site, Instance, Instances, instance, no_instances, with_instance, component_of, constants_of, calls_of, instance_at, call_instance, clock_from, clock_of, clock_of_names, contract_statements, ghosts, variables}
use Rattle.lus_meaning.specs.Program.{listed, site_in, import_site, all_sites, constant_value, instance_of}
use Rattle.lus_meaning.specs.Run.{sort_of_name, ghost_equations, body_equations, sort_of}
use Rattle.lus_meaning.specs.Depends.{named_in}
use Rattle.lus_meaning.specs.WellMade.{AreDistinct}
use Rattle.lus_meaning.specs.Occurrences.{on_clock, Standing, on_base, within, before, moved, Occurrence, occurrences, Text, contract_statement_texts, statement_texts, constant_texts, texts, all_occurrences, gathered, Memory, Start, memory_in, start_in, memories, starts}
use Rattle.lus_meaning.specs.ClockFaults.{components, name_clock}
use Rattle.lus_meaning.specs.Refusals.{IsChecked}
use Rattle.lus_meaning.proofs.EachPart.{Each, EachAmong, each_part}
use Rattle.lus_meaning.proofs.Lists.{all_from, all_from_both, all_from_three, both_parts, map_append}
use Rattle.lus_meaning.proofs.InOrder.{in_order_all}
use Rattle.lus_meaning.proofs.NamesOnce.{distinct_left}
use Rattle.lus_meaning.proofs.Now.{left_part, right_part}
use Rattle.rule_laws.specs.Laws.{HasItsPlace, IsUnfolded, AreUnfolded, site_at}
use Rattle.rule_laws.specs.Fitting as fitting
use Rattle.rule_laws.specs.Fitting.{is_fixed, FitsThere, IsStreamOn, sorts_of}
use Rattle.rule_laws.specs.Declarations.{StreamFits, DeclarationFits}
use Rattle.rule_laws.specs.Declarations as declarations
use Rattle.rule_laws.proofs.Callees.{GoesDown, each_site}
use Rattle.rule_laws.proofs.ConstantsTyped.{constants_typed}
use Rattle.rule_laws.proofs.Goods.{expressions_fit, all_of_each}
use Rattle.rule_laws.proofs.Lists.{all_flat}
use Rattle.rule_laws.proofs.Places.{imports_in_place, memories_found, starts_found, by_number}
use Rattle.clock_laws.proofs.Clocks.{unfolded_same, declared_at}
use Rattle.clock_laws.proofs.Lefts.{distinct_behind}
use Rattle.clock_laws.proofs.OrderLaws.{names_distinct}
use Rattle.rule_laws.proofs.Covered.{Covers, covered, all_contained}
use Rattle.rule_laws.proofs.Parts.{Whole, nested, all_parts}
use Rattle.run_laws.proofs.Texts.{declaration, is_callee}
use Rattle.sys_meaning.specs.Slot.{memory_of, start_of}
use Rattle.sys_meaning.specs.WellTyped.{IsNameOn, IsKnown, ClockFits, IsMemory, IsStart, IsCall, IsHeldCall, MannerFits, Stands}
use Rattle.path_laws.proofs.Chains.{name_on, is_declared_name, base_fits, flag_fits, name_fits, Ranked, ranked_of}
use Rattle.path_laws.proofs.Chains as chains
use Rattle.path_laws.proofs.Standing.{call_at, Known, OutputsKnown, stands}
use Rattle.lus_meaning.specs.Scope.{contract_named}
use Rattle.lus_meaning.specs.Contract.{terms}
use Rattle.rule_laws.proofs.Unfolded.{typed_tree}

-- ---- names of parts

pub distinct_first : (vs ws : List Variable) → AreDistinct (map (λ v. v.name.text) (vs ++ ws)) → AreDistinct (map (λ v. v.name.text) vs)
distinct_first vs ws d =
    distinct_left (map (λ v. v.name.text) vs) (map (λ v. v.name.text) ws) (subst AreDistinct (map_append (λ (v : Variable). v.name.text) vs ws) d)

pub distinct_second : (vs ws : List Variable) → AreDistinct (map (λ v. v.name.text) (vs ++ ws)) → AreDistinct (map (λ v. v.name.text) ws)
distinct_second vs ws d =
    distinct_behind (map (λ v. v.name.text) vs) (map (λ v. v.name.text) ws) (subst AreDistinct (map_append (λ (v : Variable). v.name.text) vs ws) d)

pub outputs_distinct : (n : Component) → AreDistinct (map (λ v. v.name.text) (variables n)) → AreDistinct (map (λ v. v.name.text) n.outputs)
outputs_distinct n d =
    distinct_second n.inputs n.outputs (distinct_first (n.inputs ++ n.outputs) n.locals
    (distinct_first (n.inputs ++ n.outputs ++ n.locals) (ghosts (contract_statements n)) d))

-- ---- the callee at a place

abbrev pub IsThere : Program → Instance → Type 0
IsThere p k = IsUnfolded p k × Contains (components p) (component_of k)

-- what is known of a call occurrence or an import
abbrev pub HeldMany : Manner → List Expression → List Variable → Type 0
HeldMany (while_true a) ds vs = length ds ≡ length vs
HeldMany plain ds vs = Unit {0}
HeldMany (as_import xs) ds vs = Unit {0}

pub record SiteMade (i : Instance) (s : Site) : Type 0 where
  pub number : 1 ≤ s.number
  pub site : site_at (calls_of i) (pred s.number) ≡ Some s
  pub sorts : map (sort_of i) s.arguments ≡ sorts_of (component_of (call_instance i s.number)).inputs
  pub call : IsCall i (IsKnown i) s.number
  pub clock : ClockFits i (IsKnown i) s.clock
  pub arguments : AllByRecursion (Stands i (IsKnown i) s.clock) s.arguments
  pub manner : (k : Instance) → component_of k ≡ component_of (call_instance i s.number) → MannerFits IsKnown i s.clock s.manner k
  pub held : (a : Expression) → s.manner ≡ while_true a → (ds : Expressions) × IsHeldCall i (IsKnown i) s.number s.clock a ds
  pub many : HeldMany s.manner s.defaults (component_of (call_instance i s.number)).outputs

pub record MemoryMade (i : Instance) (m : Memory) : Type 0 where
  pub found : IsMemory i (IsKnown i) m.number m.clock m.operand
  pub operand : Stands i (IsKnown i) m.clock m.operand
  pub clock : ClockFits i (IsKnown i) m.clock

pub record StartMade (i : Instance) (a : Start) : Type 0 where
  pub found : IsStart i (IsKnown i) a.number a.clock
  pub clock : ClockFits i (IsKnown i) a.clock

many_mapped : {X Y : Type 0} (f : X → Y) (xs : List X) → length (map f xs) ≡ length xs
many_mapped f [] = refl
many_mapped f (x ∷ xs) = ap suc (many_mapped f xs)

abbrev is_plain : Manner → Bool
is_plain plain = true
is_plain (while_true a) = false
is_plain (as_import xs) = false

abbrev is_held : Manner → Bool
is_held (while_true a) = true
is_held plain = false
is_held (as_import xs) = false

abbrev condition_or : Expression → Manner → Expression
condition_or e (while_true a) = a
condition_or e plain = e
condition_or e (as_import xs) = e

module _ (p : Program) (c : IsChecked p) where
  callee_at : (n : Component) (ss : List Site) (is : Instances) → AreUnfolded p ss is → AllByRecursion (λ s. GoesDown p n s.callee) ss → (k : ℕ)
      (s : Site) → site_at is k ≡ Some s → IsThere p (instance_at is k)
  callee_at n ss no_instances u a k s e = absurd (none-some s e)
  callee_at n [] (with_instance d o is) u a k s e = absurd u
  callee_at n (r ∷ ss) (with_instance d o is) u a zero s e = (u.2, declared_at p c n r o a.0 u.1)
  callee_at n (r ∷ ss) (with_instance d o is) u a (suc k) s e = callee_at n ss is u.3 a.1 k s e

  callee_in : (i : Instance) → IsUnfolded p i → Contains (components p) (component_of i) → (k : ℕ) (s : Site) → site_at (calls_of i) k ≡ Some s →
      IsThere p (instance_at (calls_of i) k)
  callee_in (instance n cs is) u j k s e = callee_at n (all_sites n) is u.1 (each_site p c.rules.clocked.typed n j) k s e

  outputs_known : (k : Instance) → IsThere p k → OutputsKnown k
  outputs_known k t = record {
    distinct = outputs_distinct (component_of k) (names_distinct p c.rules.clocked.typed (component_of k) t.1);
    streams = (is_callee p c k t.0 t.1).outputs;
  }

  -- ---- a declaration

  module _ (i : Instance) (u : IsUnfolded p i) (j : Contains (components p) (component_of i)) where
    abbrev here : Component
    here = component_of i

    same : i ≡ instance_of p (component_of i)
    same = unfolded_same p c i u j

    pub callees : (s : Site) → 1 ≤ s.number → site_at (calls_of i) (pred s.number) ≡ Some s → OutputsKnown (call_instance i s.number)
    callees s l e =
        subst OutputsKnown (by_number i s.number l) (outputs_known (instance_at (calls_of i) (pred s.number)) (callee_in i u j (pred s.number) s e))

    memory_known : AllByRecursion (λ o. AllByRecursion (λ m. memory_of (component_of i) m.number ≡ Some m) (memory_in o.standing o.expression))
        (all_occurrences (component_of i))
    memory_known = all_of_each (λ m. memory_of (component_of i) m.number ≡ Some m) (λ o. memory_in o.standing o.expression) (all_occurrences (component_of i))
        (all_contained (λ m. memory_of (component_of i) m.number ≡ Some m) (memories (component_of i)) (memories_found p c (component_of i) j))

    start_known : AllByRecursion (λ o. AllByRecursion (λ a. start_of (component_of i) a.number ≡ Some a) (start_in o.standing o.expression))
        (all_occurrences (component_of i))
    start_known = all_of_each (λ a. start_of (component_of i) a.number ≡ Some a) (λ o. start_in o.standing o.expression) (all_occurrences (component_of i))
        (all_contained (λ a. start_of (component_of i) a.number ≡ Some a) (starts (component_of i)) (starts_found p c (component_of i) j))

    abbrev TypedThere : Instance → Occurrence → Type 0
    TypedThere k o = is_fixed (constants_of k) o.expression ≡ true →
        has_sort (sort_of k o.expression) (constant_value (constants_of k) o.expression) ≡ true

    record FitsTyped (o : Occurrence) : Type 0 where
      fits : FitsThere i o
      typed : TypedThere i o

    fits_typed : AllByRecursion FitsTyped (all_occurrences (component_of i))
    fits_typed = all_contained FitsTyped (all_occurrences (component_of i)) (λ o h. record {
      fits = subst (λ k. FitsThere k o) (sym same) (expressions_fit p c (component_of i) j o h);
      typed = subst (λ k. TypedThere k o) (sym same) (constants_typed p c (component_of i) j o h);
    })

    all_known : AllByRecursion (Known i) (all_occurrences (component_of i))
    all_known = all_from_three FitsTyped
        (λ o. AllByRecursion (λ m. memory_of (component_of i) m.number ≡ Some m) (memory_in o.standing o.expression))
        (λ o. AllByRecursion (λ a. start_of (component_of i) a.number ≡ Some a) (start_in o.standing o.expression)) (Known i)
        (λ o f m a. record { fits = f.fits; memory = m; start = a; typed = f.typed }) (all_occurrences (component_of i)) fits_typed memory_known start_known

    abbrev pub KnownText : Text → Type 0
    KnownText x = Each (Known i) (component_of i) x.0 x.1

    pub known_texts : AllByRecursion KnownText (texts (component_of i))
    known_texts = all_from (λ x. AllByRecursion (Known i) (occurrences here x.0 x.1)) KnownText (λ x a. each_part (Known i) here x.0 x.1 a) (texts here)
        (all_of_each (Known i) (λ x. occurrences here x.0 x.1) (texts here) all_known)

    -- ---- clocks

    streams : AllByRecursion (StreamFits i) (variables (component_of i))
    streams = (declaration p c i u j).streams

    ranked : Ranked i
    ranked = subst Ranked (sym same) (ranked_of p c (component_of i) j)

    abbrev Good : Clock → Type 0
    Good k = ClockFits i (IsKnown i) k

    pub good_base : ClockFits i (IsKnown i) base
    good_base = base_fits i (IsKnown i) streams ranked.rank ranked.below

    good_flag : (b : Bool) (x : Name) → IsStreamOn i (clock_of (component_of i) x) Flags x → Good (sampled_by b x)
    good_flag b x f = flag_fits i (IsKnown i) streams ranked.rank ranked.below b x f

    pub good_name : (x : Name) → named_in x (map (λ v. v.name.text) (variables (component_of i))) ≡ true →
        ClockFits i (IsKnown i) (clock_of (component_of i) x)
    good_name x e = name_fits i (IsKnown i) streams ranked.rank ranked.below x e

    pub good_stream : (v : Variable) → StreamFits i v → ClockFits i (IsKnown i) (clock_from v.clock)
    good_stream v s = chains.stream_fits i (IsKnown i) streams ranked.rank ranked.below v s

    pub good_names : (xs : List Name) (P : Name → Type 0) →
        ((x : Name) → P x → name_clock (component_of i) x ≡ Some (clock_of_names (component_of i) xs)) →
        AllByRecursion P xs → ClockFits i (IsKnown i) (clock_of_names (component_of i) xs)
    good_names [] P f a = good_base
    good_names (x ∷ xs) P f a = good_name x (is_declared_name (component_of i) x (clock_of (component_of i) x) (f x a.0))

    abbrev Clocked : Occurrence → Type 0
    Clocked o = Good o.standing.clock

    mutual
      clocked : (t : Standing) (e : Expression) → Each (Known i) (component_of i) t e → ClockFits i (IsKnown i) t.clock → Each Clocked (component_of i) t e
      clocked t (truth q b) a g = g
      clocked t (number q b) a g = g
      clocked t (name q x) a g = g
      clocked t (negation q e) a g = (g, clocked (within t) e a.1 g)
      clocked t (minus q e) a g = (g, clocked (within t) e a.1 g)
      clocked t (pre q k e) a g = (g, clocked (before t) e a.1 g)
      clocked t (arrow q k d e) a g = (g, clocked (within t) d a.1 g, clocked (within t) e a.2 g)
      clocked t (binary q o d e) a g = (g, clocked (within t) d a.1 g, clocked (within t) e a.2 g)
      clocked t (choice q b d e) a g = (g, clocked (within t) b a.1 g, clocked (within t) d a.2 g, clocked (within t) e a.3 g)
      clocked t (sampled q e b x) a g = (
        g,
        clocked (moved (clock_of here x.text) t) e a.1
            (good_name x.text (is_declared_name here x.text (clock_of here x.text) a.0.fits.1.clock)),
      )
      clocked t (merged q x d e) a g =
          let f : IsStreamOn i (clock_of here x.text) Flags x.text =
          subst (λ k. IsStreamOn i k Flags x.text) (chains.clock_is here x.text t.clock a.0.fits.0.clock) a.0.fits.0 in (
            g,
            clocked (moved (sampled_by true x.text) t) d a.1 (good_flag true x.text f),
            clocked (moved (sampled_by false x.text) t) e a.2 (good_flag false x.text f),
          )
      clocked t (call q k f as_) a g = (g, clocked_among (within t) as_ a.1 g)
      clocked t (condact q k b f as_ ds) a g =
          (g, clocked (within t) b a.1 g, clocked_among (within t) as_ a.2 g, clocked_among (within t) ds a.3 g)
      clocked t (mode_name q d m) a g = g

      clocked_among : (t : Standing) (as_ : Expressions) → EachAmong (Known i) (component_of i) t as_ → ClockFits i (IsKnown i) t.clock →
          EachAmong Clocked (component_of i) t as_
      clocked_among t no_more a g = tt
      clocked_among t (more e as_) a g = (clocked t e a.0 g, clocked_among t as_ a.1 g)

    abbrev GoodText : Text → Type 0
    GoodText x = Good x.0.clock

    labels_clocks : (ls : List Labelled) → AllByRecursion GoodText (on_base ls)
    labels_clocks [] = tt
    labels_clocks (l ∷ ls) = (good_base, labels_clocks ls)

    arguments_clocks : (as_ : List Expression) → AllByRecursion GoodText (map (λ a. (on_clock base, a)) as_)
    arguments_clocks [] = tt
    arguments_clocks (a ∷ as_) = (good_base, arguments_clocks as_)

    contract_clocks : (xs : List ContractStatement) → AllByRecursion GoodText (flat_map contract_statement_texts xs)
    contract_clocks [] = tt
    contract_clocks (assume l ∷ xs) = (good_base, contract_clocks xs)
    contract_clocks (guarantee l ∷ xs) = (good_base, contract_clocks xs)
    contract_clocks (ghost_variable x e ∷ xs) = (good_base, contract_clocks xs)
    contract_clocks (constant k ∷ xs) = (good_base, contract_clocks xs)
    contract_clocks (mode m rs es ∷ xs) =
        both_parts GoodText (on_base rs ++ on_base es) (flat_map contract_statement_texts xs)
        (both_parts GoodText (on_base rs) (on_base es) (labels_clocks rs) (labels_clocks es)) (contract_clocks xs)
    contract_clocks («import» k f as_ ys ∷ xs) =
        both_parts GoodText (map (λ a. (on_clock base, a)) as_) (flat_map contract_statement_texts xs) (arguments_clocks as_) (contract_clocks xs)

    constant_clocks : (ks : List Constant) → AllByRecursion GoodText (constant_texts ks)
    constant_clocks [] = tt
    constant_clocks (k ∷ ks) = (good_base, constant_clocks ks)

    body_clocks : (ss : List Statement) → AllByRecursion (declarations.EquationFits i) (body_equations ss) →
        AllByRecursion GoodText (flat_map (statement_texts (component_of i)) ss)
    body_clocks [] a = tt
    body_clocks (equation xs e ∷ ss) a = (
      good_names (map text_of xs) (λ x. IsStreamOn i (clock_of_names here (map text_of xs)) _ x) (λ x h. h.clock) a.0.names,
      body_clocks ss a.1,
    )
    body_clocks (assertion e ∷ ss) a = (good_base, body_clocks ss a)
    body_clocks (property l ∷ ss) a = (good_base, body_clocks ss a)
    body_clocks (main_mark w ∷ ss) a = body_clocks ss a

    text_clocks : AllByRecursion GoodText (texts (component_of i))
    text_clocks =
        both_parts GoodText (flat_map contract_statement_texts (contract_statements here))
        (constant_texts here.constants ++ flat_map (statement_texts here) here.body)
        (contract_clocks (contract_statements here))
        (both_parts GoodText (constant_texts here.constants) (flat_map (statement_texts here) here.body) (constant_clocks here.constants)
        (body_clocks here.body (right_part (declarations.EquationFits i) (ghost_equations (contract_statements here)) (body_equations here.body)
        (declaration p c i u j).equations)))

    all_clocked : AllByRecursion Clocked (all_occurrences (component_of i))
    all_clocked =
        all_flat Clocked (λ x. occurrences here x.0 x.1) (texts here)
        (all_from_both KnownText GoodText (λ x. AllByRecursion Clocked (occurrences here x.0 x.1))
        (λ x a g. all_parts Clocked here x.0 x.1 (clocked x.0 x.1 a g)) (texts here) known_texts text_clocks)

    all_whole : AllByRecursion (Whole (Known i) (component_of i)) (all_occurrences (component_of i))
    all_whole =
        all_flat (Whole (Known i) here) (λ x. occurrences here x.0 x.1) (texts here)
        (all_from KnownText (λ x. AllByRecursion (Whole (Known i) here) (occurrences here x.0 x.1))
        (λ x a. all_parts (Whole (Known i) here) here x.0 x.1 (nested (Known i) here x.0 x.1 a)) (texts here) known_texts)

    -- ---- memories and starts

    pub stand : (t : Standing) (e : Expression) → Each (Known i) (component_of i) t e → Stands i (IsKnown i) t.clock e
    stand t e a = stands i callees t e a

    memory_made : (t : Standing) (e : Expression) → Each (Known i) (component_of i) t e → Good t.clock → AllByRecursion (MemoryMade i) (memory_in t e)
    memory_made t (pre q k e) a g = (record { found = a.0.memory.0; operand = stand (before t) e a.1; clock = g }, tt)
    memory_made t (truth q b) a g = tt
    memory_made t (number q b) a g = tt
    memory_made t (name q b) a g = tt
    memory_made t (negation q b) a g = tt
    memory_made t (minus q b) a g = tt
    memory_made t (arrow q k b d) a g = tt
    memory_made t (binary q k b d) a g = tt
    memory_made t (choice q b d e) a g = tt
    memory_made t (sampled q b d e) a g = tt
    memory_made t (merged q b d e) a g = tt
    memory_made t (call q k b d) a g = tt
    memory_made t (condact q k b d e f) a g = tt
    memory_made t (mode_name q b d) a g = tt

    start_made : (t : Standing) (e : Expression) → Each (Known i) (component_of i) t e → Good t.clock → AllByRecursion (StartMade i) (start_in t e)
    start_made t (arrow q k d e) a g = (record { found = a.0.start.0; clock = g }, tt)
    start_made t (truth q b) a g = tt
    start_made t (number q b) a g = tt
    start_made t (name q b) a g = tt
    start_made t (negation q b) a g = tt
    start_made t (minus q b) a g = tt
    start_made t (pre q k b) a g = tt
    start_made t (binary q k b d) a g = tt
    start_made t (choice q b d e) a g = tt
    start_made t (sampled q b d e) a g = tt
    start_made t (merged q b d e) a g = tt
    start_made t (call q k b d) a g = tt
    start_made t (condact q k b d e f) a g = tt
    start_made t (mode_name q b d) a g = tt

    pub memories_made : AllByRecursion (MemoryMade i) (memories (component_of i))
    memories_made = all_flat (MemoryMade i) (λ o. memory_in o.standing o.expression) (all_occurrences here)
        (all_from_both (Whole (Known i) here) Clocked (λ o. AllByRecursion (MemoryMade i) (memory_in o.standing o.expression))
        (λ o a g. memory_made o.standing o.expression a g) (all_occurrences here) all_whole all_clocked)

    pub starts_made : AllByRecursion (StartMade i) (starts (component_of i))
    starts_made = all_flat (StartMade i) (λ o. start_in o.standing o.expression) (all_occurrences here)
        (all_from_both (Whole (Known i) here) Clocked (λ o. AllByRecursion (StartMade i) (start_in o.standing o.expression))
        (λ o a g. start_made o.standing o.expression a g) (all_occurrences here) all_whole all_clocked)

    -- ---- calls

    among_stand : (t : Standing) (as_ : Expressions) → EachAmong (Known i) (component_of i) t as_ → AllByRecursion (Stands i (IsKnown i) t.clock) (listed as_)
    among_stand t no_more a = tt
    among_stand t (more e as_) a = (stand t e a.0, among_stand t as_ a.1)

    call_made : (t : Standing) (e : Expression) → Each (Known i) (component_of i) t e → Good t.clock → AllByRecursion (SiteMade i) (site_in t e)
    call_made t (call q k f as_) a g = (
      record {
        number = a.0.fits.number;
        site = a.0.fits.site;
        sorts = a.0.fits.arguments;
        call = (stand t (call q k f as_) a).0.call;
        clock = g;
        arguments = among_stand (within t) as_ a.1;
        manner = λ o e. tt;
        held = λ b e. absurd (false≢true (sym (ap is_plain e)));
        many = tt;
      },
      tt,
    )
    call_made t (condact q k b f as_ ds) a g =
        let s : Stands i (IsKnown i) t.clock (condact q k b f as_ ds) = stand t (condact q k b f as_ ds) a in (
          record {
            number = a.0.fits.0.number;
            site = a.0.fits.0.site;
            sorts = a.0.fits.0.arguments;
            call = s.0.call;
            clock = g;
            arguments = among_stand (within t) as_ a.2;
            manner = λ o e. (s.2, s.1);
            held = λ d e. (ds, subst (λ x. IsHeldCall i (IsKnown i) k t.clock x ds) (ap (condition_or b) e) s.0);
            many = sym (many_mapped (sort_of i) (listed ds)) ∙ ap length a.0.fits.2
                ∙ many_mapped (λ (v : Variable). v.sort) (component_of (call_instance i k)).outputs;
          },
          tt,
        )
    call_made t (truth q b) a g = tt
    call_made t (number q b) a g = tt
    call_made t (name q b) a g = tt
    call_made t (negation q b) a g = tt
    call_made t (minus q b) a g = tt
    call_made t (pre q k b) a g = tt
    call_made t (arrow q k b d) a g = tt
    call_made t (binary q k b d) a g = tt
    call_made t (choice q b d e) a g = tt
    call_made t (sampled q b d e) a g = tt
    call_made t (merged q b d e) a g = tt
    call_made t (mode_name q b d) a g = tt

    -- ---- imports

    -- what is known of an import's contract
    abbrev pub ImportKnown : Site → Type 0
    ImportKnown s = (contract_named p s.callee ≡ Some (component_of (call_instance i s.number)))
        × Covers p (contract_statements (component_of (call_instance i s.number))) (terms (call_instance i s.number)).modes

    abbrev pub ImportThere : Site → Type 0
    ImportThere s = HasItsPlace i (contract_named p s.callee) s

    pub imports_there : AllByRecursion ImportThere (flat_map import_site (contract_statements (component_of i)))
    imports_there = all_contained ImportThere (flat_map import_site (contract_statements here))
        (λ s h. subst (λ k. HasItsPlace k (contract_named p s.callee) s) (sym same) (imports_in_place p c here j s h))

    there_at : (s : Site) → 1 ≤ s.number → site_at (calls_of i) (pred s.number) ≡ Some s → IsThere p (call_instance i s.number)
    there_at s l e = subst (IsThere p) (by_number i s.number l) (callee_in i u j (pred s.number) s e)

    pub imports_known : AllByRecursion ImportKnown (flat_map import_site (contract_statements (component_of i)))
    imports_known = all_from ImportThere ImportKnown (λ s h. (
      h.callee,
      covered p (typed_tree p c) (call_instance i s.number) (there_at s h.number h.site).0 (there_at s h.number h.site).1,
    )) (flat_map import_site (contract_statements here)) imports_there

    arguments_stand : (as_ : List Expression) → AllByRecursion KnownText (map (λ a. (on_clock base, a)) as_) →
        AllByRecursion (Stands i (IsKnown i) base) as_
    arguments_stand [] a = tt
    arguments_stand (x ∷ as_) a = (stand (on_clock base) x a.0, arguments_stand as_ a.1)

    import_made : (s : Site) (xs : List Name) → s.manner ≡ as_import xs → s.clock ≡ base → ImportThere s → declarations.ImportFits i s →
        AllByRecursion (Stands i (IsKnown i) s.clock) s.arguments → SiteMade i s
    import_made s xs e o h f a =
        let w : declarations.OutputsFit i (as_import xs) (component_of (call_instance i s.number)).outputs =
        subst (λ m. declarations.OutputsFit i m (component_of (call_instance i s.number)).outputs) e f.outputs in
        record {
          number = h.number;
          site = h.site;
          sorts = f.arguments;
          call = call_at i callees s h.number h.site
              (is_callee p c (call_instance i s.number) (there_at s h.number h.site).0 (there_at s h.number h.site).1).outputs_on_base;
          clock = subst Good (sym o) good_base;
          arguments = a;
          manner = λ k q. subst (λ m. MannerFits IsKnown i s.clock m k) (sym e) (
            o,
            all_from (λ x. IsStreamOn i base (sort_of_name i x) x) (IsNameOn i (IsKnown i) base) (λ x v. name_on i (IsKnown i) base x _ v) xs w.1,
            w.0 ∙ ap (λ (m : Component). sorts_of m.outputs) (sym q),
          );
          held = λ b q. absurd (false≢true (ap is_held (sym e ∙ q)));
          many = subst (λ m. HeldMany m s.defaults (component_of (call_instance i s.number)).outputs) (sym e) tt;
        }

    each_import_made : (xs : List ContractStatement) → AllByRecursion ImportThere (flat_map import_site xs) →
        AllByRecursion (declarations.ImportFits i) (flat_map import_site xs) → AllByRecursion KnownText (flat_map contract_statement_texts xs) →
        AllByRecursion (SiteMade i) (flat_map import_site xs)
    each_import_made [] h f a = tt
    each_import_made (assume l ∷ xs) h f a = each_import_made xs h f a.1
    each_import_made (guarantee l ∷ xs) h f a = each_import_made xs h f a.1
    each_import_made (ghost_variable x e ∷ xs) h f a = each_import_made xs h f a.1
    each_import_made (constant k ∷ xs) h f a = each_import_made xs h f a.1
    each_import_made (mode m rs es ∷ xs) h f a =
        each_import_made xs h f (right_part KnownText (on_base rs ++ on_base es) (flat_map contract_statement_texts xs) a)
    each_import_made («import» k x as_ ys ∷ xs) h f a = (
      import_made _ (map text_of ys) refl refl h.0 f.0
          (arguments_stand as_ (left_part KnownText (map (λ a. (on_clock base, a)) as_) (flat_map contract_statement_texts xs) a)),
      each_import_made xs h.1 f.1 (right_part KnownText (map (λ a. (on_clock base, a)) as_) (flat_map contract_statement_texts xs) a),
    )

    pub imports_made : AllByRecursion (SiteMade i) (flat_map import_site (contract_statements (component_of i)))
    imports_made = each_import_made (contract_statements here) imports_there (declaration p c i u j).imports
        (left_part KnownText (flat_map contract_statement_texts (contract_statements here)) _ known_texts)

    pub sites_made : AllByRecursion (SiteMade i) (all_sites (component_of i))
    sites_made =
        in_order_all (λ s. s.number) (SiteMade i) (gathered site_in here ++ flat_map import_site (contract_statements here))
        (both_parts (SiteMade i) (gathered site_in here) (flat_map import_site (contract_statements here))
        (all_flat (SiteMade i) (λ o. site_in o.standing o.expression) (all_occurrences here)
        (all_from_both (Whole (Known i) here) Clocked (λ o. AllByRecursion (SiteMade i) (site_in o.standing o.expression))
        (λ o a g. call_made o.standing o.expression a g) (all_occurrences here) all_whole all_clocked))
        imports_made)
