-- In a typed frame of a checked program what modes require is a truth value, and every expression's value is of its type.
use Rattle.std.proofs.Common.{◌≡◌, ℕ, zero, suc, pred, ◌<◌, ◌≤◌, Bool, true, false, cond, not, ◌||◌, List, [], ◌∷◌, ◌++◌, map, flat_map, length, Option, Some, None, option_map, option_to_list, refl, sym, ap, ◌∙◌, subst, arith, get_or, slice_index_or}
use Rattle.std.specs.Prelude.{Contains, filter}
use Rattle.std.specs.List.{AllByRecursion, list_any}
use Rattle.std.specs.Map.{lookup}
use Rattle.std.specs.Str.{bytes_eq}
use Rattle.std.proofs.lemmas.Bool.{false≢true}
use Rattle.lus_tree.specs.declared.expression.Operator.TheVariants.{And, Implies}
use Rattle.lus_tree.specs.declared.place.Sort.TheVariants.{Bool as Flags}
use Rattle.lus_tree.specs.Tree.{Name, text_of, Spelled, Expression, truth, number, name, negation, minus, pre, arrow, binary, choice, sampled, merged, call, condact, mode_name, Labelled, ContractStatement, assume, guarantee, ghost_variable, constant, mode, «import», Component, Program}
use Rattle.lus_tree.specs.Reason.{mode_unknown}
use Rattle.lus_meaning.specs.Value.{Value, Instants, Stream, has_sort}
use Rattle.lus_meaning.specs.Frame.{Frame, firsts_of, first_value, call_frame}
use Rattle.lus_meaning.specs.Scene.{as_import, base, Site, Instance, Instances, instance, no_instances, with_instance, component_of, instance_at, call_instance, contract_statements}
use Rattle.lus_meaning.specs.Meaning.{value, mode_key, mode_stream, head_stream}
use Rattle.lus_meaning.specs.Contract.{ensured, item, under, imported, Property, Test, ModeTerms, Terms, no_terms, mode_streams, scene_with, scene, all_true, says, mode_terms, imported_mode, terms_after, terms, terms_each}
use Rattle.lus_meaning.specs.Program.{site_in, import_site, all_sites, instance_of}
use Rattle.lus_meaning.specs.Run.{is_typed, sort_of, first_sorts, have_sorts, active}
use Rattle.lus_meaning.specs.Occurrences.{Standing, on_clock, occurs, occurrences, Text, on_base, contract_statement_texts, texts, all_occurrences, gathered, Memory, memory_in, memories}
use Rattle.lus_meaning.specs.Scope.{Scope, Home, import_names, contract_statement_scope, contract_named}
use Rattle.lus_meaning.specs.ExpressionFaults.{needs_sort, flag_faults, expression_faults, has_one, has_mode, mode_is_known, form_faults, weight_faults, part_faults}
use Rattle.lus_meaning.specs.NameFaults.{home, flags_of, contract_statement_faults, contract_faults}
use Rattle.lus_meaning.specs.ClockFaults.{clock_faults_of, components, all_on_base, contract_statement_clock_faults}
use Rattle.lus_meaning.specs.Refusals.{IsChecked}
use Rattle.lus_meaning.proofs.Causal.{IsCausal, CausalMode, CausalTerms, all_append, all_at, terms_each_causal}
use Rattle.lus_meaning.proofs.EachPart.{Each, each_part, each_of_both}
use Rattle.lus_meaning.proofs.Lists.{both_parts, all_from, all_from_three}
use Rattle.lus_meaning.proofs.NamesOnce.{no_parts, not_so, at_one}
use Rattle.lus_meaning.proofs.Now.{left_part, right_part}
use Rattle.lus_meaning.proofs.Typed.{on_has, only_typed, apply_has, typed_as}
use Rattle.rule_laws.specs.Laws.{IsUnfolded, AreUnfolded, HasItsPlace, placed}
use Rattle.rule_laws.specs.Fitting.{has_key, FitsThere}
use Rattle.rule_laws.specs.Types.{IsTruth, HasTruths, TypesOfContracts, IsTypedFrame, IsTypedThere, TypesOfValues, TypesInRuns, TypesOfModes}
use Rattle.rule_laws.proofs.Covered.{ImportsCovered, covered_each, all_contained, found_declared, one_instance, has_left, Covers, covers_none, covers_plain, covers_mode, covers_import, moved_on, ImportPlaced, imports_placed}
use Rattle.rule_laws.proofs.Fitted.{Shown, needed}
use Rattle.rule_laws.proofs.Goods.{PlaceOf, place_of, all_of_each, some_named, TextPlacedIn, component_there, covers_there, shown_there, texts_placed_there, no_faults, text_typed, text_fits, CleanDeclaration, clean_declaration, declaration_texts}
use Rattle.rule_laws.proofs.Lists.{all_flat}
use Rattle.rule_laws.proofs.Parts.{all_parts, nested}
use Rattle.rule_laws.proofs.Places.{firsts_in_place}
use Rattle.rule_laws.proofs.SameModes.{SameMode, IsSame, same_value}
use Rattle.rule_laws.proofs.Texts.{clean_flag, IsClean, clean_flags, ScopeOf, CleanText, contract_scope_of}
use Rattle.rule_laws.proofs.TypedFrames.{typed_run, own_firsts, called_frame, names_ready}
use Rattle.rule_laws.proofs.Unfolded.{component_within, typed_tree, each_unfolded}
use Rattle.rule_laws.proofs.ValuesTyped.{and_true, HasRest, Ready, all_typed}
use Rattle.rule_laws.proofs.Truths.{not_false, both_true}

-- ---- modes that are found

-- what a mode requires is a truth value exactly where the beat is on
abbrev pub TypedMode : ℕ → Instants → Frame → ModeTerms → Type 0
TypedMode n b f m = (t : ℕ) → t < n → is_typed Flags (b t) (m.requires_all b f t) ≡ true

abbrev at_key : List Name × Name → List ModeTerms → Instants → Frame → Option Stream
at_key key ms b f = lookup (mode_key key) (mode_streams ms b f)

found_typed : (key : List Name × Name) (n : ℕ) (b : Instants) (f : Frame) (ms : List ModeTerms) → AllByRecursion (TypedMode n b f) ms
    → has_key key ms → (t : ℕ) → t < n → is_typed Flags (b t) (head_stream (option_to_list (at_key key ms b f)) t) ≡ true
found_typed key n b f [] a h t l = absurd (false≢true h)
found_typed key n b f (m ∷ ms) a h t l = go (mode_key key m.key) h (found_typed key n b f ms a.1)
  where
    go : (c : Bool) → (c || list_any (λ m. mode_key key m.key) ms) ≡ true → (has_key key ms → (t : ℕ) → t < n
        → is_typed Flags (b t) (head_stream (option_to_list (at_key key ms b f)) t) ≡ true)
        → is_typed Flags (b t) (head_stream (option_to_list (cond c (Some (m.requires_all b f)) (at_key key ms b f))) t) ≡ true
    go true g r = a.0 t l
    go false g r = r g t l

found_first : (key : List Name × Name) (b : Instants) (f : Frame) (ms ns : List ModeTerms) → has_key key ms → at_key key (ms ++ ns) b f ≡ at_key key ms b f
found_first key b f [] ns h = absurd (false≢true h)
found_first key b f (m ∷ ms) ns h = go (mode_key key m.key) h (found_first key b f ms ns)
  where
    go : (c : Bool) → (c || list_any (λ m. mode_key key m.key) ms) ≡ true → (has_key key ms → at_key key (ms ++ ns) b f ≡ at_key key ms b f)
        → cond c (Some (m.requires_all b f)) (at_key key (ms ++ ns) b f) ≡ cond c (Some (m.requires_all b f)) (at_key key ms b f)
    go true g r = refl
    go false g r = r g

-- modes that stand behind it don't change what a key finds
found_before : (i : Instance) (sub : ℕ → Terms) (key : List Name × Name) (b : Instants) (f : Frame) (ms : List ModeTerms)
    (cs : List ContractStatement) → has_key key ms → at_key key (terms_after i sub ms cs).modes b f ≡ at_key key ms b f
found_before i sub key b f ms [] h = refl
found_before i sub key b f ms (assume l ∷ cs) h = found_before i sub key b f ms cs h
found_before i sub key b f ms (guarantee l ∷ cs) h = found_before i sub key b f ms cs h
found_before i sub key b f ms (ghost_variable x e ∷ cs) h = found_before i sub key b f ms cs h
found_before i sub key b f ms (constant c ∷ cs) h = found_before i sub key b f ms cs h
found_before i sub key b f ms (mode m rs es ∷ cs) h =
    found_before i sub key b f (ms ++ mode_terms i ms m.text rs es ∷ []) cs (has_left key ms (mode_terms i ms m.text rs es ∷ []) h)
    ∙ found_first key b f ms (mode_terms i ms m.text rs es ∷ []) h
found_before i sub key b f ms («import» k c as_ xs ∷ cs) h =
    found_before i sub key b f (ms ++ map (imported_mode k c.text) (sub k).modes) cs
    (has_left key ms (map (imported_mode k c.text) (sub k).modes) h)
    ∙ found_first key b f ms (map (imported_mode k c.text) (sub k).modes) h

-- ---- conjunctions

all_true_has : (xss : List Stream) (t : ℕ) → AllByRecursion (λ xs. has_sort Flags (xs t) ≡ true) xss → has_sort Flags (all_true xss t) ≡ true
all_true_has [] t a = refl
all_true_has (xs ∷ []) t a = a.0
all_true_has (xs ∷ ys ∷ yss) t a = apply_has And Flags (xs t) (all_true (ys ∷ yss) t) refl a.0 (all_true_has (ys ∷ yss) t a.1)

asked_typed : (i : Instance) (ms : List ModeTerms) (m : Name) (rs es : List Labelled) (b : Instants) (f : Frame) (t : ℕ)
    → AllByRecursion (λ r. is_typed Flags (b t) (says i ms r b f t) ≡ true) rs
    → is_typed Flags (b t) ((mode_terms i ms m rs es).requires_all b f t) ≡ true
asked_typed i ms m rs es b f t a =
    only_typed Flags (b t) (all_true (map (λ r. says i ms r b f) rs) t) (λ k. all_true_has (map (λ r. says i ms r b f) rs) t (each k rs a))
  where
    each : b t ≡ true → (ls : List Labelled) → AllByRecursion (λ r. is_typed Flags (b t) (says i ms r b f t) ≡ true) ls
        → AllByRecursion (λ xs. has_sort Flags (xs t) ≡ true) (map (λ r. says i ms r b f) ls)
    each k [] a = tt
    each k (l ∷ ls) a = (on_has Flags (b t) (says i ms l b f t) a.0 k, each k ls a.1)

-- an import's modes, in the importing frame
imported_typed : (k : ℕ) (c : Name) (n : ℕ) (b act : Instants) (f : Frame) → ((u : ℕ) → act u ≡ b u) → (ms : List ModeTerms)
    → AllByRecursion CausalMode ms → AllByRecursion (TypedMode n act (call_frame f k)) ms → AllByRecursion (TypedMode n b f) (map (imported_mode k c) ms)
imported_typed k c n b act f e [] q a = tt
imported_typed k c n b act f e (m ∷ ms) q a = (one, imported_typed k c n b act f e ms q.1 a.1)
  where
    same : (t : ℕ) → m.requires_all act (call_frame f k) t ≡ m.requires_all b (call_frame f k) t
    same t = q.0.asked t act b (call_frame f k) (call_frame f k) (λ u l. e u) record { names = λ ks x u l. refl; firsts = λ ks j. refl }

    one : (t : ℕ) → t < n → is_typed Flags (b t) (m.requires_all b (call_frame f k) t) ≡ true
    one t l = subst (λ o. is_typed Flags o (m.requires_all b (call_frame f k) t) ≡ true) (e t)
        (subst (λ v. is_typed Flags (act t) v ≡ true) (same t) (a.0 t l))

-- and what it says
imported_truths : (k n : ℕ) (b act : Instants) (f : Frame) → ((u : ℕ) → act u ≡ b u) → (qs : List Property) → AllByRecursion (λ q. IsCausal q.test) qs
    → AllByRecursion (IsTruth n act (call_frame f k)) qs → AllByRecursion (IsTruth n b f) (map (imported k) qs)
imported_truths k n b act f e [] c a = tt
imported_truths k n b act f e (q ∷ qs) c a = (one, imported_truths k n b act f e qs c.1 a.1)
  where
    one : (t : ℕ) → t < n → b t ≡ true → has_sort Flags (q.test b (call_frame f k) t) ≡ true
    one t l o = subst (λ v. has_sort Flags v ≡ true)
        (c.0 t act b (call_frame f k) (call_frame f k) (λ u g. e u) record { names = λ ks x u g. refl; firsts = λ ks j. refl }) (a.0 t l (e t ∙ o))

imported_ensures : (k : ℕ) (x : Name) (n : ℕ) (b act : Instants) (f : Frame) → ((u : ℕ) → act u ≡ b u) → (ms : List ModeTerms)
    → AllByRecursion CausalMode ms → AllByRecursion (λ m. AllByRecursion (IsTruth n act (call_frame f k)) m.ensures_each) ms
    → AllByRecursion (λ m. AllByRecursion (IsTruth n b f) m.ensures_each) (map (imported_mode k x) ms)
imported_ensures k x n b act f e [] c a = tt
imported_ensures k x n b act f e (m ∷ ms) c a =
    (imported_truths k n b act f e m.ensures_each c.0.given a.0, imported_ensures k x n b act f e ms c.1 a.1)

-- ---- texts

-- a declaration of a program, with its place
abbrev pub IsPlaced : Program → ℕ × Component → Type 0
IsPlaced p h = Contains (placed 0 p) h

abbrev pub IsListed : Program → ℕ × Component → Type 0
IsListed p h = Contains (components p) h.1

module _ (p : Program) (c : IsChecked p) (h : ℕ × Component) (place : IsPlaced p h) (d : IsListed p h) (i : Instance) (own : instance_of p h.1 ≡ i) where
  pub component : component_of i ≡ h.1
  component = component_there p (typed_tree p c) h place d i own

  covers : Covers p (contract_statements h.1) (terms i).modes
  covers = covers_there p (typed_tree p c) h place d i own

  pub shown : (s : Scope) → ScopeOf p h s → Shown s i
  shown s o = shown_there p (typed_tree p c) h place d i own s o

  abbrev pub TextPlaced : Text → Type 0
  TextPlaced x = TextPlacedIn p i x

  pub texts_placed : AllByRecursion TextPlaced (texts h.1)
  texts_placed = texts_placed_there p (typed_tree p c) h place d i own

  abbrev MemoryTyped : Frame → Memory → Type 0
  MemoryTyped f m = has_sort (sort_of i m.operand) (first_value f m.number) ≡ true

  abbrev TextFirsts : Frame → Text → Type 0
  TextFirsts f x = AllByRecursion (λ o. AllByRecursion (MemoryTyped f) (memory_in o.standing o.expression)) (occurrences (component_of i) x.0 x.1)

  texts_firsts : (f : Frame) → have_sorts (first_sorts i) (firsts_of f) ≡ true → AllByRecursion (TextFirsts f) (texts h.1)
  texts_firsts f k =
      let all : AllByRecursion (MemoryTyped f) (memories h.1) = all_contained (MemoryTyped f) (memories h.1)
      (λ m q. subst (λ j. has_sort (sort_of j m.operand) (first_value f m.number) ≡ true) own
      (firsts_in_place p c h.1 d f (subst (λ j. have_sorts (first_sorts j) (firsts_of f) ≡ true) (sym own) k) m q)) in
      let each = all_of_each (MemoryTyped f) (λ o. memory_in o.standing o.expression) (all_occurrences h.1) all in
      subst (λ m. AllByRecursion (λ x. AllByRecursion (λ o. AllByRecursion (MemoryTyped f) (memory_in o.standing o.expression))
      (occurrences m x.0 x.1)) (texts h.1)) (sym component)
      (all_of_each (λ o. AllByRecursion (MemoryTyped f) (memory_in o.standing o.expression)) (λ x. occurrences h.1 x.0 x.1) (texts h.1) each)

  -- the modes that a scope knows are truth values
  abbrev ModesTyped : Scope → ℕ → Instants → Frame → Type 0
  ModesTyped sc n b f = (x : Option Spelled) (m : Spelled) → mode_is_known sc x m ≡ true → (u : ℕ) → u < n
      → is_typed Flags (b u) (mode_stream (scene i b f) (option_map text_of x) m.text u) ≡ true

  known_mode : (sc : Scope) (t : Standing) (q : Expression) → part_faults sc (occurs t q) ≡ [] → form_faults sc t.whole_side q ≡ []
  known_mode sc t q e = (no_parts (form_faults sc t.whole_side q) (weight_faults sc q) e).0

  rest_of : (sc : Scope) (n : ℕ) (b : Instants) (f : Frame) → ModesTyped sc n b f → (t : Standing) (e : Expression)
      → part_faults sc (occurs t e) ≡ [] → AllByRecursion (MemoryTyped f) (memory_in t e) → HasRest (scene i b f) n e
  rest_of sc n b f g t (mode_name q x m) e a =
      g x m (not_false (mode_is_known sc x m) (not_so (not (mode_is_known sc x m)) mode_unknown m.at (known_mode sc t (mode_name q x m) e)))
  rest_of sc n b f g t (pre q k x) e a = a.0
  rest_of sc n b f g t (truth q x) e a = tt
  rest_of sc n b f g t (number q k) e a = tt
  rest_of sc n b f g t (name q x) e a = tt
  rest_of sc n b f g t (negation q x) e a = tt
  rest_of sc n b f g t (minus q x) e a = tt
  rest_of sc n b f g t (arrow q k x y) e a = tt
  rest_of sc n b f g t (binary q o x y) e a = tt
  rest_of sc n b f g t (choice q x y z) e a = tt
  rest_of sc n b f g t (sampled q x y z) e a = tt
  rest_of sc n b f g t (merged q x y z) e a = tt
  rest_of sc n b f g t (call q k x as_) e a = tt
  rest_of sc n b f g t (condact q k x y as_ ds) e a = tt

  text_ready : (sc : Scope) → ScopeOf p h sc → (x : Text) → IsClean sc x → TextPlaced x → (n : ℕ) (b : Instants) (f : Frame) → TextFirsts f x
      → ModesTyped sc n b f → Each (Ready (scene i b f) n) (component_of i) x.0 x.1
  text_ready sc o x k a n b f m g =
      let firsts : Each (λ o. AllByRecursion (MemoryTyped f) (memory_in o.standing o.expression)) (component_of i) x.0 x.1 =
      each_part (λ o. AllByRecursion (MemoryTyped f) (memory_in o.standing o.expression)) (component_of i) x.0 x.1 m in
      let rests : Each (λ o. HasRest (scene i b f) n o.expression) (component_of i) x.0 x.1 =
      each_of_both (λ o. part_faults sc o ≡ []) (λ o. AllByRecursion (MemoryTyped f) (memory_in o.standing o.expression))
      (λ o. HasRest (scene i b f) n o.expression) (λ o e q. rest_of sc n b f g o.standing o.expression e q) (component_of i) x.0 x.1
      (no_faults p i sc o.program (shown sc o) x k.typed) firsts in
      each_of_both (FitsThere i) (λ o. HasRest (scene i b f) n o.expression) (Ready (scene i b f) n)
      (λ o e q. record { fits = e; rest = q }) (component_of i) x.0 x.1 (text_fits p i sc o.program (shown sc o) x k a) rests

  -- ---- what modes require

  abbrev FlagSays : List ModeTerms → Instants → Frame → ℕ → Labelled → Type 0
  FlagSays ms b f t r = is_typed Flags (b t) (says i ms r b f t) ≡ true

  -- a flag of the contract, where these modes are known
  flag_says : (sc : Scope) → ScopeOf p h sc → (ms : List ModeTerms) (r : Labelled) → IsClean sc (on_clock base, r.value)
      → needs_sort sc Flags r.value ≡ [] → TextPlaced (on_clock base, r.value) → (n : ℕ) (b : Instants) (f : Frame) → IsTypedFrame i n b f
      → TextFirsts f (on_clock base, r.value) → ModesTyped sc n b f
      → ((x : Option Spelled) (m : Spelled) → mode_is_known sc x m ≡ true → (u : ℕ)
      → mode_stream (scene_with i ms b f) (option_map text_of x) m.text u ≡ mode_stream (scene i b f) (option_map text_of x) m.text u)
      → (t : ℕ) → t < n → FlagSays ms b f t r
  flag_says sc o ms r k e a n b f w m g s t l =
      let x : Text = (on_clock base, r.value) in
      let sort : sort_of i r.value ≡ Flags =
      needed sc i (shown sc o) r.value (on_clock base) Flags refl (text_typed p i sc o.program (shown sc o) x k.typed a) e in
      let full : is_typed (sort_of i r.value) (b t) (value (scene i b f) base r.value t) ≡ true =
      all_typed (scene i b f) n (names_ready i n b f w) t l r.value (on_clock base) (text_ready sc o x k a n b f m g) in
      let modes : Each (SameMode i f b (mode_streams ms b f) (mode_streams (terms i).modes b f)) (component_of i) (on_clock base) r.value =
      each_same (on_clock base) r.value (no_faults p i sc o.program (shown sc o) x k.typed) in
      subst (λ v. is_typed Flags (b t) v ≡ true)
      (sym (same_value i f b (mode_streams ms b f) (mode_streams (terms i).modes b f) r.value (on_clock base) modes t))
      (typed_as (sort_of i r.value) Flags (b t) (value (scene i b f) base r.value t) sort full)
    where
      one_same : (t : Standing) (q : Expression) → part_faults sc (occurs t q) ≡ [] → IsSame i f b (mode_streams ms b f) (mode_streams (terms i).modes b f) q
      one_same t (mode_name q x m) e = s x m (not_false (mode_is_known sc x m)
          (not_so (not (mode_is_known sc x m)) mode_unknown m.at (known_mode sc t (mode_name q x m) e)))
      one_same t (pre q k x) e = tt
      one_same t (truth q x) e = tt
      one_same t (number q k) e = tt
      one_same t (name q x) e = tt
      one_same t (negation q x) e = tt
      one_same t (minus q x) e = tt
      one_same t (arrow q k x y) e = tt
      one_same t (binary q o x y) e = tt
      one_same t (choice q x y z) e = tt
      one_same t (sampled q x y z) e = tt
      one_same t (merged q x y z) e = tt
      one_same t (call q k x as_) e = tt
      one_same t (condact q k x y as_ ds) e = tt

      each_same : (t : Standing) (q : Expression) → Each (λ o. part_faults sc o ≡ []) (component_of i) t q
          → Each (SameMode i f b (mode_streams ms b f) (mode_streams (terms i).modes b f)) (component_of i) t q
      each_same t q e = each_of_both (λ o. part_faults sc o ≡ []) (λ o. part_faults sc o ≡ [])
          (SameMode i f b (mode_streams ms b f) (mode_streams (terms i).modes b f)) (λ o e z. one_same o.standing o.expression e)
          (component_of i) t q e e

  flags_say : (sc : Scope) → ScopeOf p h sc → (ms : List ModeTerms) (rs : List Labelled) → flags_of sc rs ≡ [] → all_on_base sc.owner rs ≡ []
      → AllByRecursion TextPlaced (on_base rs) → (n : ℕ) (b : Instants) (f : Frame) → IsTypedFrame i n b f
      → AllByRecursion (TextFirsts f) (on_base rs) → ModesTyped sc n b f
      → ((x : Option Spelled) (m : Spelled) → mode_is_known sc x m ≡ true → (u : ℕ)
      → mode_stream (scene_with i ms b f) (option_map text_of x) m.text u ≡ mode_stream (scene i b f) (option_map text_of x) m.text u)
      → (t : ℕ) → t < n → AllByRecursion (FlagSays ms b f t) rs
  flags_say sc o ms [] e q a n b f w m g s t l = tt
  flags_say sc o ms (r ∷ rs) e q a n b f w m g s t l =
      let types = no_parts (flag_faults sc r.value) (flags_of sc rs) e in
      let clocks = no_parts _ (all_on_base sc.owner rs) q in
      let clean = clean_flags sc (r ∷ rs) e q in (
        flag_says sc o ms r clean.0 (no_parts (needs_sort sc Flags r.value) (expression_faults sc (on_clock base) r.value) types.0).0 a.0 n b f w m.0 g s t l,
        flags_say sc o ms rs types.1 clocks.1 a.1 n b f w m.1 g s t l,
      )

  -- ---- the contract

  abbrev place_of_contract : Home
  place_of_contract = home p h.0 h.1

  known_key : (before : List ContractStatement) (ms : List ModeTerms) → Covers p before ms → (x : Option Spelled) (m : Spelled)
      → mode_is_known (contract_statement_scope place_of_contract before) x m ≡ true → has_key (option_to_list (option_map text_of x), m.text) ms
  known_key before ms v None m e = v.own m.text e
  known_key before ms v (Some x) m e =
      let q = both_true (has_one (filter (bytes_eq x.text) (import_names before))) (has_mode m.text (contract_named p x.text)) e in
      v.imported x.text m.text (some_named x.text (import_names before) q.0) q.1

  -- what is known of imports: what their modes require is causal, they have the modes of their contracts, and these are typed
  record ImportsTyped (n : ℕ) (sub : ℕ → Terms) : Type 0 where
    causal : (k : ℕ) → CausalTerms (sub k)
    covered : ImportsCovered p i sub
    below : (k : ℕ) → 1 ≤ k → (a : Instants) (g : Frame) → IsTypedFrame (call_instance i k) n a g → AllByRecursion (TypedMode n a g) (sub k).modes

  module _ (n : ℕ) (b : Instants) (f : Frame) (typed : IsTypedFrame i n b f) (sub : ℕ → Terms) (below_it : ImportsTyped n sub) where
    -- a mode of this scope, among all modes of the contract
    same_mode : (before : List ContractStatement) (ms : List ModeTerms) (cs : List ContractStatement) → (terms i).modes ≡ (terms_after i sub ms cs).modes
        → Covers p before ms → (x : Option Spelled) (m : Spelled) → mode_is_known (contract_statement_scope place_of_contract before) x m ≡ true
        → (u : ℕ) → mode_stream (scene_with i ms b f) (option_map text_of x) m.text u ≡ mode_stream (scene i b f) (option_map text_of x) m.text u
    same_mode before ms cs e v x m k u =
        let key : List Name × Name = (option_to_list (option_map text_of x), m.text) in
        let same : at_key key (terms i).modes b f ≡ at_key key ms b f =
        subst (λ ns. at_key key ns b f ≡ at_key key ms b f) (sym e) (found_before i sub key b f ms cs (known_key before ms v x m k)) in
        ap (λ o. head_stream (option_to_list o) u) (sym same)

    typed_mode : (before : List ContractStatement) (ms : List ModeTerms) (cs : List ContractStatement) → (terms i).modes ≡ (terms_after i sub ms cs).modes
        → Covers p before ms → AllByRecursion (TypedMode n b f) ms → ModesTyped (contract_statement_scope place_of_contract before) n b f
    typed_mode before ms cs e v a x m k u l =
        subst (λ w. is_typed Flags (b u) w ≡ true) (same_mode before ms cs e v x m k u)
        (found_typed (option_to_list (option_map text_of x), m.text) n b f ms a (known_key before ms v x m k) u l)

    -- what stands behind these statements, and of each text what the instance and the frame give
    record Behind (before : List ContractStatement) (ms : List ModeTerms) (cs : List ContractStatement) : Type 0 where
      all : contract_statements h.1 ≡ before ++ cs
      modes : (terms i).modes ≡ (terms_after i sub ms cs).modes
      faults : contract_faults place_of_contract before cs ≡ []
      clocks : flat_map (contract_statement_clock_faults h.1) cs ≡ []
      texts : AllByRecursion TextPlaced (flat_map contract_statement_texts cs)
      firsts : AllByRecursion (TextFirsts f) (flat_map contract_statement_texts cs)
      imports : AllByRecursion (ImportPlaced p i) (flat_map import_site cs)
      covers : Covers p before ms
      known : AllByRecursion (TypedMode n b f) ms

    onward : (before : List ContractStatement) (ms ns : List ModeTerms) (x : ContractStatement) (cs : List ContractStatement) → Behind before ms (x ∷ cs)
        → (terms_after i sub ms (x ∷ cs)).modes ≡ (terms_after i sub ns cs).modes → Covers p (before ++ x ∷ []) ns
        → AllByRecursion (TypedMode n b f) ns → Behind (before ++ x ∷ []) ns cs
    onward before ms ns x cs q e v a = record {
      all = q.all ∙ moved_on before cs x;
      modes = q.modes ∙ e;
      faults = (no_parts (contract_statement_faults (contract_statement_scope place_of_contract before) x)
          (contract_faults place_of_contract (before ++ x ∷ []) cs) q.faults).1;
      clocks = (no_parts (contract_statement_clock_faults h.1 x) (flat_map (contract_statement_clock_faults h.1) cs) q.clocks).1;
      texts = right_part TextPlaced (contract_statement_texts x) (flat_map contract_statement_texts cs) q.texts;
      firsts = right_part (TextFirsts f) (contract_statement_texts x) (flat_map contract_statement_texts cs) q.firsts;
      imports = right_part (ImportPlaced p i) (import_site x) (flat_map import_site cs) q.imports;
      covers = v;
      known = a;
    }

    asked : (before : List ContractStatement) (ms : List ModeTerms) (m : Spelled) (rs es : List Labelled) (cs : List ContractStatement)
        → Behind before ms (mode m rs es ∷ cs) → TypedMode n b f (mode_terms i ms m.text rs es)
    asked before ms m rs es cs q t l =
        let sc : Scope = contract_statement_scope place_of_contract before in
        let faults = no_parts (flags_of sc rs) (flags_of sc es)
        (no_parts (contract_statement_faults sc (mode m rs es)) (contract_faults place_of_contract (before ++ mode m rs es ∷ []) cs) q.faults).0 in
        let clocks = no_parts (all_on_base h.1 rs) (all_on_base h.1 es)
        (no_parts (contract_statement_clock_faults h.1 (mode m rs es)) (flat_map (contract_statement_clock_faults h.1) cs) q.clocks).0 in
        let placed = left_part TextPlaced (on_base rs) (on_base es)
        (left_part TextPlaced (contract_statement_texts (mode m rs es)) (flat_map contract_statement_texts cs) q.texts) in
        let firsts = left_part (TextFirsts f) (on_base rs) (on_base es)
        (left_part (TextFirsts f) (contract_statement_texts (mode m rs es)) (flat_map contract_statement_texts cs) q.firsts) in
        asked_typed i ms m.text rs es b f t
        (flags_say sc (contract_scope_of p h before (mode m rs es ∷ cs) q.all) ms rs faults.0 clocks.0 placed n b f typed firsts
        (typed_mode before ms (mode m rs es ∷ cs) q.modes q.covers q.known) (same_mode before ms (mode m rs es ∷ cs) q.modes q.covers) t l)

    after_typed : (before : List ContractStatement) (ms : List ModeTerms) (cs : List ContractStatement) → Behind before ms cs
        → AllByRecursion (TypedMode n b f) (terms_after i sub ms cs).modes
    after_typed before ms [] q = q.known
    after_typed before ms (assume l ∷ cs) q =
        after_typed (before ++ assume l ∷ []) ms cs (onward before ms ms (assume l) cs q refl (covers_plain p before (assume l) ms tt q.covers) q.known)
    after_typed before ms (guarantee l ∷ cs) q =
        after_typed (before ++ guarantee l ∷ []) ms cs
        (onward before ms ms (guarantee l) cs q refl (covers_plain p before (guarantee l) ms tt q.covers) q.known)
    after_typed before ms (ghost_variable x e ∷ cs) q =
        after_typed (before ++ ghost_variable x e ∷ []) ms cs
        (onward before ms ms (ghost_variable x e) cs q refl (covers_plain p before (ghost_variable x e) ms tt q.covers) q.known)
    after_typed before ms (constant x ∷ cs) q =
        after_typed (before ++ constant x ∷ []) ms cs
        (onward before ms ms (constant x) cs q refl (covers_plain p before (constant x) ms tt q.covers) q.known)
    after_typed before ms (mode m rs es ∷ cs) q =
        let ns : List ModeTerms = mode_terms i ms m.text rs es ∷ [] in
        after_typed (before ++ mode m rs es ∷ []) (ms ++ ns) cs (onward before ms (ms ++ ns) (mode m rs es) cs q refl
        (covers_mode p i before ms m.text (mode m rs es) rs es refl refl q.covers)
        (all_append (TypedMode n b f) ms ns q.known (asked before ms m rs es cs q, tt)))
    after_typed before ms («import» k x as_ ws ∷ cs) q =
        let s : Site = record { number = k; callee = x.text; clock = base; arguments = as_; defaults = []; manner = as_import (map text_of ws) } in
        let at : HasItsPlace i (contract_named p x.text) s = q.imports.0 in
        let ns : List ModeTerms = map (imported_mode k x.text) (sub k).modes in
        let frame : IsTypedFrame (call_instance i k) n (active (scene i b f) s) (call_frame f k) = called_frame i n b f typed s at.number at.site in
        let more : AllByRecursion (TypedMode n b f) ns = imported_typed k x.text n b (active (scene i b f) s) f (λ u. and_true (b u)) (sub k).modes
        (below_it.causal k).modes (below_it.below k at.number (active (scene i b f) s) (call_frame f k) frame) in
        after_typed (before ++ «import» k x as_ ws ∷ []) (ms ++ ns) cs (onward before ms (ms ++ ns) («import» k x as_ ws) cs q refl
        (covers_import p before ms (sub k).modes k x.text («import» k x as_ ws) (component_of (call_instance i k)) refl refl at.callee
        (below_it.covered k at.number) q.covers) (all_append (TypedMode n b f) ms ns q.known more))

    -- the whole contract stands behind nothing
    behind_none : (terms i).modes ≡ (terms_after i sub [] (contract_statements h.1)).modes → AllByRecursion (ImportPlaced p i)
        (flat_map import_site (contract_statements h.1)) → Behind [] [] (contract_statements h.1)
    behind_none e imports =
        let q : CleanDeclaration p h = clean_declaration p c h place d in
        record {
          all = refl;
          modes = e;
          faults = q.typed.contract;
          clocks = q.contract_clocks;
          texts = left_part TextPlaced (flat_map contract_statement_texts (contract_statements h.1)) _ texts_placed;
          firsts = left_part (TextFirsts f) (flat_map contract_statement_texts (contract_statements h.1)) _
              (texts_firsts f (own_firsts i f typed.firsts));
          imports = imports;
          covers = covers_none p [];
          known = tt;
        }

    contract_typed : (terms i).modes ≡ (terms_after i sub [] (contract_statements h.1)).modes → AllByRecursion (ImportPlaced p i)
        (flat_map import_site (contract_statements h.1)) → AllByRecursion (TypedMode n b f) (terms_after i sub [] (contract_statements h.1)).modes
    contract_typed e imports = after_typed [] [] (contract_statements h.1) (behind_none e imports)

    -- ---- what the contract says

    abbrev Truth : Property → Type 0
    Truth q = IsTruth n b f q

    said : (before : List ContractStatement) (ms : List ModeTerms) (x : ContractStatement) (cs : List ContractStatement) → Behind before ms (x ∷ cs)
        → (l : Labelled) → flag_faults (contract_statement_scope place_of_contract before) l.value ≡ [] → clock_faults_of h.1 base l.value ≡ []
        → TextPlaced (on_clock base, l.value) → TextFirsts f (on_clock base, l.value) → (t : ℕ) → t < n → b t ≡ true
        → has_sort Flags (says i ms l b f t) ≡ true
    said before ms x cs q l e g a m t k o =
        let sc : Scope = contract_statement_scope place_of_contract before in
        on_has Flags (b t) (says i ms l b f t)
        (flag_says sc (contract_scope_of p h before (x ∷ cs) q.all) ms l (clean_flag sc l.value e g)
        (no_parts (needs_sort sc Flags l.value) (expression_faults sc (on_clock base) l.value) e).0 a n b f typed m
        (typed_mode before ms (x ∷ cs) q.modes q.covers q.known) (same_mode before ms (x ∷ cs) q.modes q.covers) t k) o

    ensured_each : (before : List ContractStatement) (ms : List ModeTerms) (x : ContractStatement) (cs : List ContractStatement)
        → Behind before ms (x ∷ cs) → (w : Test) → ((t : ℕ) → t < n → is_typed Flags (b t) (w b f t) ≡ true) → (m : Name) (es : List Labelled)
        → flags_of (contract_statement_scope place_of_contract before) es ≡ [] → all_on_base h.1 es ≡ [] → AllByRecursion TextPlaced (on_base es)
        → AllByRecursion (TextFirsts f) (on_base es) → AllByRecursion Truth (map (λ e. under w (item i ms (ensured m) e)) es)
    ensured_each before ms x cs q w v m [] e g a z = tt
    ensured_each before ms x cs q w v m (l ∷ es) e g a z =
        let sc : Scope = contract_statement_scope place_of_contract before in
        let types = no_parts (flag_faults sc l.value) (flags_of sc es) e in
        let clocks = no_parts (clock_faults_of h.1 base l.value) (all_on_base h.1 es) g in (
          λ t k o. apply_has Implies Flags (w b f t) (says i ms l b f t) refl (on_has Flags (b t) (w b f t) (v t k) o)
              (said before ms x cs q l types.0 clocks.0 a.0 z.0 t k o),
          ensured_each before ms x cs q w v m es types.1 clocks.1 a.1 z.1,
        )

    module _ (deep : (k : ℕ) → 1 ≤ k → (a : Instants) (g : Frame) → IsTypedFrame (call_instance i k) n a g → HasTruths n a g (sub k)) where
      after_truths : (before : List ContractStatement) (ms : List ModeTerms) (cs : List ContractStatement) → Behind before ms cs
          → AllByRecursion (λ m. AllByRecursion Truth m.ensures_each) ms → HasTruths n b f (terms_after i sub ms cs)
      after_truths before ms [] q v = record { assumes = tt; guarantees = tt; ensures = v }
      after_truths before ms (assume l ∷ cs) q v =
          let r : HasTruths n b f (terms_after i sub ms cs) = after_truths (before ++ assume l ∷ []) ms cs
          (onward before ms ms (assume l) cs q refl (covers_plain p before (assume l) ms tt q.covers) q.known) v in
          record {
            assumes = (said before ms (assume l) cs q l (no_parts _ _ q.faults).0 (no_parts _ _ q.clocks).0 q.texts.0 q.firsts.0, r.assumes);
            guarantees = r.guarantees;
            ensures = r.ensures;
          }
      after_truths before ms (guarantee l ∷ cs) q v =
          let r : HasTruths n b f (terms_after i sub ms cs) = after_truths (before ++ guarantee l ∷ []) ms cs
          (onward before ms ms (guarantee l) cs q refl (covers_plain p before (guarantee l) ms tt q.covers) q.known) v in
          record {
            assumes = r.assumes;
            guarantees = (said before ms (guarantee l) cs q l (no_parts _ _ q.faults).0 (no_parts _ _ q.clocks).0 q.texts.0 q.firsts.0, r.guarantees);
            ensures = r.ensures;
          }
      after_truths before ms (ghost_variable x e ∷ cs) q v =
          after_truths (before ++ ghost_variable x e ∷ []) ms cs
          (onward before ms ms (ghost_variable x e) cs q refl (covers_plain p before (ghost_variable x e) ms tt q.covers) q.known) v
      after_truths before ms (constant x ∷ cs) q v =
          after_truths (before ++ constant x ∷ []) ms cs
          (onward before ms ms (constant x) cs q refl (covers_plain p before (constant x) ms tt q.covers) q.known) v
      after_truths before ms (mode m rs es ∷ cs) q v =
          let sc : Scope = contract_statement_scope place_of_contract before in
          let ns : List ModeTerms = mode_terms i ms m.text rs es ∷ [] in
          let faults = no_parts (flags_of sc rs) (flags_of sc es) (no_parts (contract_statement_faults sc (mode m rs es))
          (contract_faults place_of_contract (before ++ mode m rs es ∷ []) cs) q.faults).0 in
          let clocks = no_parts (all_on_base h.1 rs) (all_on_base h.1 es) (no_parts (contract_statement_clock_faults h.1 (mode m rs es))
          (flat_map (contract_statement_clock_faults h.1) cs) q.clocks).0 in
          let placed : AllByRecursion TextPlaced (on_base es) = right_part TextPlaced (on_base rs) (on_base es)
          (left_part TextPlaced (contract_statement_texts (mode m rs es)) (flat_map contract_statement_texts cs) q.texts) in
          let firsts : AllByRecursion (TextFirsts f) (on_base es) = right_part (TextFirsts f) (on_base rs) (on_base es)
          (left_part (TextFirsts f) (contract_statement_texts (mode m rs es)) (flat_map contract_statement_texts cs) q.firsts) in
          let one : AllByRecursion Truth (mode_terms i ms m.text rs es).ensures_each =
          ensured_each before ms (mode m rs es) cs q (mode_terms i ms m.text rs es).requires_all (asked before ms m rs es cs q) m.text es faults.1 clocks.1
          placed firsts in
          after_truths (before ++ mode m rs es ∷ []) (ms ++ ns) cs (onward before ms (ms ++ ns) (mode m rs es) cs q refl
          (covers_mode p i before ms m.text (mode m rs es) rs es refl refl q.covers)
          (all_append (TypedMode n b f) ms ns q.known (asked before ms m rs es cs q, tt)))
          (all_append (λ w. AllByRecursion Truth w.ensures_each) ms ns v (one, tt))
      after_truths before ms («import» k x as_ ws ∷ cs) q v =
          let s : Site = record { number = k; callee = x.text; clock = base; arguments = as_; defaults = []; manner = as_import (map text_of ws) } in
          let at : HasItsPlace i (contract_named p x.text) s = q.imports.0 in
          let ns : List ModeTerms = map (imported_mode k x.text) (sub k).modes in
          let act : Instants = active (scene i b f) s in
          let frame : IsTypedFrame (call_instance i k) n act (call_frame f k) = called_frame i n b f typed s at.number at.site in
          let more : AllByRecursion (TypedMode n b f) ns = imported_typed k x.text n b act f (λ u. and_true (b u)) (sub k).modes
          (below_it.causal k).modes (below_it.below k at.number act (call_frame f k) frame) in
          let there : HasTruths n act (call_frame f k) (sub k) = deep k at.number act (call_frame f k) frame in
          let r : HasTruths n b f (terms_after i sub (ms ++ ns) cs) = after_truths (before ++ «import» k x as_ ws ∷ []) (ms ++ ns) cs
          (onward before ms (ms ++ ns) («import» k x as_ ws) cs q refl
          (covers_import p before ms (sub k).modes k x.text («import» k x as_ ws) (component_of (call_instance i k)) refl refl at.callee
          (below_it.covered k at.number) q.covers) (all_append (TypedMode n b f) ms ns q.known more))
          (all_append (λ w. AllByRecursion Truth w.ensures_each) ms ns v
          (imported_ensures k x.text n b act f (λ u. and_true (b u)) (sub k).modes (below_it.causal k).modes there.ensures)) in
          record {
            assumes = both_parts Truth (map (imported k) (sub k).assumes) (terms_after i sub (ms ++ ns) cs).assumes
                (imported_truths k n b act f (λ u. and_true (b u)) (sub k).assumes (below_it.causal k).assumes there.assumes) r.assumes;
            guarantees = both_parts Truth (map (imported k) (sub k).guarantees) (terms_after i sub (ms ++ ns) cs).guarantees
                (imported_truths k n b act f (λ u. and_true (b u)) (sub k).guarantees (below_it.causal k).guarantees there.guarantees) r.guarantees;
            ensures = r.ensures;
          }

      contract_truths : (terms i).modes ≡ (terms_after i sub [] (contract_statements h.1)).modes → AllByRecursion (ImportPlaced p i)
          (flat_map import_site (contract_statements h.1)) → HasTruths n b f (terms_after i sub [] (contract_statements h.1))
      contract_truths e imports = after_truths [] [] (contract_statements h.1) (behind_none e imports) tt

  -- ---- every expression

  -- where all modes are truth values
  values_typed : (n : ℕ) (b : Instants) (f : Frame) → IsTypedFrame i n b f → AllByRecursion (TypedMode n b f) (terms i).modes → (x : Text)
      → CleanText p h x → TextPlaced x → TextFirsts f x → AllByRecursion (IsTypedThere i n b f) (occurrences (component_of i) x.0 x.1)
  values_typed n b f w a x k q m =
      let g : ModesTyped k.scope n b f = λ o y e u l. found_typed (option_to_list (option_map text_of o), y.text) n b f (terms i).modes a
      ((shown k.scope k.of).modes o y e) u l in
      let ready : Each (Ready (scene i b f) n) (component_of i) x.0 x.1 = text_ready k.scope k.of x k.clean q n b f m g in
      all_from (λ o. Each (Ready (scene i b f) n) (component_of i) o.standing o.expression) (IsTypedThere i n b f)
      (λ o r t l. all_typed (scene i b f) n (names_ready i n b f w) t l o.expression o.standing r) (occurrences (component_of i) x.0 x.1)
      (all_parts (λ o. Each (Ready (scene i b f) n) (component_of i) o.standing o.expression) (component_of i) x.0 x.1
      (nested (Ready (scene i b f) n) (component_of i) x.0 x.1 ready))

  -- and of the texts themselves
  pub roots_typed : (n : ℕ) (b : Instants) (f : Frame) → IsTypedFrame i n b f → AllByRecursion (TypedMode n b f) (terms i).modes
      → AllByRecursion (λ x. IsTypedThere i n b f (occurs x.0 x.1)) (texts h.1)
  roots_typed n b f w a =
      all_from_three (CleanText p h) TextPlaced (TextFirsts f) (λ x. IsTypedThere i n b f (occurs x.0 x.1))
      (λ x k q m t l. all_typed (scene i b f) n (names_ready i n b f w) t l x.1 x.0 (text_ready k.scope k.of x k.clean q n b f m
      (λ o y e u z. found_typed (option_to_list (option_map text_of o), y.text) n b f (terms i).modes a ((shown k.scope k.of).modes o y e) u z)))
      (texts h.1) (declaration_texts p c h place d) texts_placed (texts_firsts f (own_firsts i f w.firsts))

  pub texts_typed : (n : ℕ) (b : Instants) (f : Frame) → IsTypedFrame i n b f → AllByRecursion (TypedMode n b f) (terms i).modes
      → AllByRecursion (IsTypedThere i n b f) (all_occurrences h.1)
  texts_typed n b f w a =
      let each : AllByRecursion (λ x. AllByRecursion (IsTypedThere i n b f) (occurrences (component_of i) x.0 x.1)) (texts h.1) =
      all_from_three (CleanText p h) TextPlaced (TextFirsts f) (λ x. AllByRecursion (IsTypedThere i n b f) (occurrences (component_of i) x.0 x.1))
      (values_typed n b f w a) (texts h.1) (declaration_texts p c h place d) texts_placed (texts_firsts f (own_firsts i f w.firsts)) in
      all_flat (IsTypedThere i n b f) (λ x. occurrences h.1 x.0 x.1) (texts h.1)
      (subst (λ m. AllByRecursion (λ x. AllByRecursion (IsTypedThere i n b f) (occurrences m x.0 x.1)) (texts h.1)) component each)

-- ---- declarations

-- what the imports of an instance have, where their modes are typed
imports_typed : (p : Program) (c : IsChecked p) (m : Component) (cs : List (Name × Value)) (is : Instances) (d : Contains (components p) m)
    (own : instance_of p m ≡ instance m cs is) (n : ℕ) → AreUnfolded p (all_sites m) is → ((j : ℕ) (a : Instants) (g : Frame)
    → IsTypedFrame (instance_at is j) n a g → AllByRecursion (TypedMode n a g) (get_or (terms_each is) j no_terms).modes)
    → ImportsTyped p c ((place_of 0 p m d).before, m) (place_of 0 p m d).is d (instance m cs is) own n
    (λ k. slice_index_or (terms_each is) (pred k) no_terms)
imports_typed p c m cs is d own n u below = record {
  causal = λ k. all_at CausalTerms (terms_each is) (pred k) no_terms (terms_each_causal is) record { assumes = tt; guarantees = tt; modes = tt };
  covered = by_number (covered_each p (typed_tree p c) (all_sites m) is u);
  below = typed_by_number below;
}
  where
    by_number : ((j : ℕ) → Covers p (contract_statements (component_of (instance_at is j))) (get_or (terms_each is) j no_terms).modes)
        → (k : ℕ) → 1 ≤ k → Covers p (contract_statements (component_of (call_instance (instance m cs is) k)))
        (slice_index_or (terms_each is) (pred k) no_terms).modes
    by_number g zero l = absurd (omega arith)
    by_number g (suc k) l = g k

    typed_by_number : ((j : ℕ) (a : Instants) (g : Frame) → IsTypedFrame (instance_at is j) n a g
        → AllByRecursion (TypedMode n a g) (get_or (terms_each is) j no_terms).modes)
        → (k : ℕ) → 1 ≤ k → (a : Instants) (g : Frame) → IsTypedFrame (call_instance (instance m cs is) k) n a g
        → AllByRecursion (TypedMode n a g) (slice_index_or (terms_each is) (pred k) no_terms).modes
    typed_by_number g zero l a e w = absurd (omega arith)
    typed_by_number g (suc k) l a e w = g k a e w

mutual
  pub modes_typed : (p : Program) → IsChecked p → (i : Instance) → IsUnfolded p i → Contains (components p) (component_of i) → (n : ℕ) (b : Instants)
      (f : Frame) → IsTypedFrame i n b f → AllByRecursion (TypedMode n b f) (terms i).modes
  modes_typed p c (instance m cs is) u d n b f w =
      let q : PlaceOf (placed 0 p) m = place_of 0 p m d in
      contract_typed p c (q.before, m) q.is d (instance m cs is) (one_instance p c (instance m cs is) u d) n b f w
      (λ k. slice_index_or (terms_each is) (pred k) no_terms)
      (imports_typed p c m cs is d (one_instance p c (instance m cs is) u d) n u.1 (modes_typed_each p c (all_sites m) is u.1 n)) refl
      (imports_placed p (typed_tree p c) (instance m cs is) u d)

  pub modes_typed_each : (p : Program) → IsChecked p → (ss : List Site) (is : Instances) → AreUnfolded p ss is → (n j : ℕ) (b : Instants) (f : Frame)
      → IsTypedFrame (instance_at is j) n b f → AllByRecursion (TypedMode n b f) (get_or (terms_each is) j no_terms).modes
  modes_typed_each p c ss no_instances u n j b f w = tt
  modes_typed_each p c [] (with_instance x i is) u n j b f w = absurd u
  modes_typed_each p c (s ∷ ss) (with_instance x i is) u n zero b f w =
      modes_typed p c i u.2 (found_declared p s.callee (component_of i) u.1) n b f w
  modes_typed_each p c (s ∷ ss) (with_instance x i is) u n (suc j) b f w = modes_typed_each p c ss is u.3 n j b f w

mutual
  pub truths : (p : Program) → IsChecked p → (i : Instance) → IsUnfolded p i → Contains (components p) (component_of i) → (n : ℕ) (b : Instants)
      (f : Frame) → IsTypedFrame i n b f → HasTruths n b f (terms i)
  truths p c (instance m cs is) u d n b f w =
      let q : PlaceOf (placed 0 p) m = place_of 0 p m d in
      contract_truths p c (q.before, m) q.is d (instance m cs is) (one_instance p c (instance m cs is) u d) n b f w
      (λ k. slice_index_or (terms_each is) (pred k) no_terms)
      (imports_typed p c m cs is d (one_instance p c (instance m cs is) u d) n u.1 (modes_typed_each p c (all_sites m) is u.1 n))
      (by_number (truths_each p c (all_sites m) is u.1 n)) refl (imports_placed p (typed_tree p c) (instance m cs is) u d)
    where
      by_number : ((j : ℕ) (a : Instants) (g : Frame) → IsTypedFrame (instance_at is j) n a g → HasTruths n a g (get_or (terms_each is) j no_terms))
          → (k : ℕ) → 1 ≤ k → (a : Instants) (g : Frame) → IsTypedFrame (call_instance (instance m cs is) k) n a g
          → HasTruths n a g (slice_index_or (terms_each is) (pred k) no_terms)
      by_number g zero l a e w = absurd (omega arith)
      by_number g (suc k) l a e w = g k a e w

  pub truths_each : (p : Program) → IsChecked p → (ss : List Site) (is : Instances) → AreUnfolded p ss is → (n j : ℕ) (b : Instants) (f : Frame)
      → IsTypedFrame (instance_at is j) n b f → HasTruths n b f (get_or (terms_each is) j no_terms)
  truths_each p c ss no_instances u n j b f w = record { assumes = tt; guarantees = tt; ensures = tt }
  truths_each p c [] (with_instance x i is) u n j b f w = absurd u
  truths_each p c (s ∷ ss) (with_instance x i is) u n zero b f w = truths p c i u.2 (found_declared p s.callee (component_of i) u.1) n b f w
  truths_each p c (s ∷ ss) (with_instance x i is) u n (suc j) b f w = truths_each p c ss is u.3 n j b f w

own_modes : (p : Program) → IsChecked p → (n : Component) → Contains (components p) n → (k : ℕ) (b : Instants) (f : Frame)
    → IsTypedFrame (instance_of p n) k b f → AllByRecursion (TypedMode k b f) (terms (instance_of p n)).modes
own_modes p c n d k b f w =
    modes_typed p c (instance_of p n) (each_unfolded p c n d)
    (subst (Contains (components p)) (sym (component_within (length p) p n)) d) k b f w

pub types_of_modes : TypesOfModes
types_of_modes p c n d k b f w m q = at_one (TypedMode k b f) (terms (instance_of p n)).modes m (own_modes p c n d k b f w) q

pub types_of_values : TypesOfValues
types_of_values p c n d k b f w o q =
    let h : PlaceOf (placed 0 p) n = place_of 0 p n d in
    at_one (IsTypedThere (instance_of p n) k b f) (all_occurrences n) o
    (texts_typed p c (h.before, n) h.is d (instance_of p n) refl k b f w (own_modes p c n d k b f w)) q

pub types_in_runs : TypesInRuns
types_in_runs p c n d k b f r = types_of_values p c n d k b f (typed_run (instance_of p n) k b f r)

pub types_of_contracts : TypesOfContracts
types_of_contracts p c n d k b f w =
    truths p c (instance_of p n) (each_unfolded p c n d) (subst (Contains (components p)) (sym (component_within (length p) p n)) d) k b f w
