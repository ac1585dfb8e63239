-- In a tree without faults of names and types each value that is there is of its expression's type, and so are modes.
use Rattle.std.proofs.Common.{◌≡◌, ℕ, zero, suc, pred, ◌<◌, ◌≤◌, Bool, true, false, cond, List, [], ◌∷◌, ◌++◌, map, flat_map, Option, Some, None, option_map, option_to_list, unwrap_or, refl, sym, subst, get_or, slice_index_or}
use Rattle.std.specs.Prelude.{Contains, is_some, find}
use Rattle.std.specs.List.{AllByRecursion}
use Rattle.std.specs.Map.{lookup}
use Rattle.std.specs.Str.{bytes_eq}
use Rattle.std.proofs.lemmas.Bool.{false≢true}
use Rattle.std.proofs.lemmas.Option.{none-some}
use Rattle.lus_tree.specs.declared.expression.Operator.TheVariants.{And}
use Rattle.lus_tree.specs.declared.place.Sort.{Sort}
use Rattle.lus_tree.specs.declared.place.Sort.TheVariants.{Bool as Flags}
use Rattle.lus_tree.specs.Tree.{Name, Expression, truth, number, name, negation, minus, pre, arrow, binary, choice, sampled, merged, call, condact, mode_name, Variable, Labelled, ContractStatement, assume, guarantee, ghost_variable, constant, mode, «import», Component, Program}
use Rattle.lus_meaning.specs.Value.{Instants, Stream}
use Rattle.lus_meaning.specs.Frame.{Frame, frame_at, calls_in, firsts_of, first_value, call_frame, entry}
use Rattle.lus_meaning.specs.Scene.{Scene, base, clock_from, Site, Instance, Instances, instance, no_instances, with_instance, component_of, calls_of, instance_at, call_instance, outputs_of, contract_statements, ghosts, variables}
use Rattle.lus_meaning.specs.Meaning.{value, mode_key, head_stream}
use Rattle.lus_meaning.specs.Contract.{ModeTerms, Terms, no_terms, mode_streams, scene_with, scene, all_true, says, mode_terms, imported_mode, terms_after, terms, terms_each}
use Rattle.lus_meaning.specs.Program.{all_sites, component_named, instance_of}
use Rattle.lus_meaning.specs.Run.{sort_of, first_sort, output_sort, first_sorts}
use Rattle.lus_meaning.specs.Occurrences.{Standing, on_clock, Occurrence, occurrences, Text, on_base, contract_statement_texts, texts, all_occurrences, Memory, memory_in, memories}
use Rattle.lus_meaning.specs.Scope.{Scope, contract_statement_scope}
use Rattle.lus_meaning.specs.ExpressionFaults.{needs_sort, flag_faults, expression_faults}
use Rattle.lus_meaning.specs.NameFaults.{home, flags_of, contract_statement_faults, contract_faults}
use Rattle.lus_meaning.specs.ClockFaults.{components}
use Rattle.lus_meaning.proofs.Causal.{all_append}
use Rattle.lus_meaning.proofs.EachPart.{Each, each_part, each_of_both}
use Rattle.lus_meaning.proofs.Lists.{all_from, all_from_both}
use Rattle.lus_meaning.proofs.NamesOnce.{no_parts, at_one}
use Rattle.lus_meaning.proofs.Now.{left_part, right_part}
use Rattle.lus_meaning.proofs.Unique.{same_bytes}
use Rattle.rule_laws.specs.Laws.{IsTypedTree, IsUnfolded, AreUnfolded, placed, site_at}
use Rattle.rule_laws.specs.Fitting.{NotEmpty}
use Rattle.rule_laws.specs.Types.{has_sort_if_there, FirstsHaveSorts, HasSortsIfThere, CallsHaveSortsIfThere, SortsOfValues, SortsOfModes}
use Rattle.rule_laws.proofs.Covered.{all_contained, found_declared, typed_instance, moved_on}
use Rattle.rule_laws.proofs.Fitted.{TypeFitsThere, needed}
use Rattle.rule_laws.proofs.Goods.{PlaceOf, place_of, all_of_each, TypedDeclaration, typed_declaration, TextPlacedIn, component_there, shown_there, texts_placed_there, text_typed, text_types_fit}
use Rattle.rule_laws.proofs.Lists.{all_flat}
use Rattle.rule_laws.proofs.Parts.{all_parts, nested}
use Rattle.rule_laws.proofs.Places.{by_number, firsts_there}
use Rattle.rule_laws.proofs.SortsOfValues.{there_as, only_there, apply_there, HasRest, Ready, NamesReady, all_there}
use Rattle.rule_laws.proofs.Texts.{ScopeOf, type_flag, TypeCleanText, texts_typed, contract_scope_of}
use Rattle.rule_laws.proofs.Unfolded.{component_within, unfolded_typed}
use Rattle.rule_laws.proofs.Truths.{same_some}

-- ---- names and calls of a frame

abbrev NameThere : ℕ → Frame → Variable → Type 0
NameThere n f v = (t : ℕ) → t < n → has_sort_if_there v.sort (entry f v.name.text t) ≡ true

own_names : (i : Instance) (n : ℕ) (f : Frame) → HasSortsIfThere i n f → AllByRecursion (NameThere n f) (variables (component_of i))
own_names (instance d cs is) n f h = h.0

own_firsts : (i : Instance) (n : ℕ) (f : Frame) → HasSortsIfThere i n f → FirstsHaveSorts (first_sorts i) (firsts_of f)
own_firsts (instance d cs is) n f h = h.1

own_calls : (i : Instance) (n : ℕ) (f : Frame) → HasSortsIfThere i n f → CallsHaveSortsIfThere (calls_of i) n (frame_at (calls_in f))
own_calls (instance d cs is) n f h = h.2

name_ready : (n : ℕ) (f : Frame) (vs : List Variable) → AllByRecursion (NameThere n f) vs → (x : Name) (q : Sort)
    → is_some (option_map (λ v. clock_from v.clock) (find (λ v. bytes_eq x v.name.text) vs)) ≡ true → (t : ℕ) → t < n
    → has_sort_if_there (unwrap_or (option_map (λ v. v.sort) (find (λ v. bytes_eq x v.name.text) vs)) q) (entry f x t) ≡ true
name_ready n f [] a x q e t l = absurd (false≢true e)
name_ready n f (v ∷ vs) a x q e t l = go (bytes_eq x v.name.text) refl e (name_ready n f vs a.1 x q)
  where
    go : (k : Bool) → bytes_eq x v.name.text ≡ k
        → is_some (option_map (λ (v : Variable). clock_from v.clock) (cond k (Some v) (find (λ v. bytes_eq x v.name.text) vs))) ≡ true
        → (is_some (option_map (λ v. clock_from v.clock) (find (λ v. bytes_eq x v.name.text) vs)) ≡ true → (t : ℕ) → t < n
        → has_sort_if_there (unwrap_or (option_map (λ v. v.sort) (find (λ v. bytes_eq x v.name.text) vs)) q) (entry f x t) ≡ true)
        → has_sort_if_there (unwrap_or (option_map (λ (v : Variable). v.sort) (cond k (Some v) (find (λ v. bytes_eq x v.name.text) vs))) q)
        (entry f x t) ≡ true
    go true m g r = subst (λ y. has_sort_if_there v.sort (entry f y t) ≡ true) (sym (same_bytes x v.name.text m)) (a.0 t l)
    go false m g r = r g t l

sorts_at : (is : Instances) (n : ℕ) (g : ℕ → Frame) → CallsHaveSortsIfThere is n g → (j : ℕ) (c : Site) → site_at is j ≡ Some c
    → HasSortsIfThere (instance_at is j) n (g j)
sorts_at no_instances n g h j c e = absurd (none-some c e)
sorts_at (with_instance x i is) n g h zero c e = h.0
sorts_at (with_instance x i is) n g h (suc j) c e = sorts_at is n (λ k. g (suc k)) h.1 j c e

first_output : (n : ℕ) (f : Frame) (vs : List Variable) → NotEmpty vs → AllByRecursion (NameThere n f) vs → (t : ℕ) → t < n
    → has_sort_if_there (first_sort vs) (head_stream (map (λ x. entry f x) (map (λ v. v.name.text) vs)) t) ≡ true
first_output n f [] e a t l = absurd e
first_output n f (v ∷ vs) e a t l = a.0 t l

outputs_there : (n : ℕ) (f : Frame) (d : Component) → AllByRecursion (NameThere n f) (variables d) → AllByRecursion (NameThere n f) d.outputs
outputs_there n f d a =
    right_part (NameThere n f) d.inputs d.outputs (left_part (NameThere n f) (d.inputs ++ d.outputs) d.locals
    (left_part (NameThere n f) (d.inputs ++ d.outputs ++ d.locals) (ghosts (contract_statements d)) a))

-- names and calls, whatever modes are known
names_there : (i : Instance) (n : ℕ) (b : Instants) (f : Frame) → HasSortsIfThere i n f → (ms : List ModeTerms) → NamesReady (scene_with i ms b f) n
names_there i n b f h ms = record {
  names = λ x e. name_ready n f (variables (component_of i)) (own_names i n f h) x _ e;
  calls = λ c k t l.
      let there : HasSortsIfThere (call_instance i c.number) n (call_frame f c.number) =
      subst (λ j. HasSortsIfThere j n (call_frame f c.number)) (by_number i c.number k.number)
      (sorts_at (calls_of i) n (frame_at (calls_in f)) (own_calls i n f h) (pred c.number) c k.site) in
      let j : Component = component_of (call_instance i c.number) in
      first_output n (call_frame f c.number) j.outputs k.outputs (outputs_there n (call_frame f c.number) j
      (own_names (call_instance i c.number) n (call_frame f c.number) there)) t l;
}

-- ---- modes that are found

abbrev ModeThere : ℕ → Instants → Frame → ModeTerms → Type 0
ModeThere n b f m = (t : ℕ) → t < n → has_sort_if_there Flags (m.requires_all b f t) ≡ true

abbrev at_key : List Name × Name → List ModeTerms → Instants → Frame → Option Stream
at_key key ms b f = lookup (mode_key key) (mode_streams ms b f)

found_there : (key : List Name × Name) (n : ℕ) (b : Instants) (f : Frame) (ms : List ModeTerms) → AllByRecursion (ModeThere n b f) ms
    → (t : ℕ) → t < n → has_sort_if_there Flags (head_stream (option_to_list (at_key key ms b f)) t) ≡ true
found_there key n b f [] a t l = refl
found_there key n b f (m ∷ ms) a t l = go (mode_key key m.key) (found_there key n b f ms a.1 t l)
  where
    go : (c : Bool) → has_sort_if_there Flags (head_stream (option_to_list (at_key key ms b f)) t) ≡ true
        → has_sort_if_there Flags (head_stream (option_to_list (cond c (Some (m.requires_all b f)) (at_key key ms b f))) t) ≡ true
    go true r = a.0 t l
    go false r = r

imported_there : (k : ℕ) (x : Name) (n : ℕ) (b : Instants) (f : Frame) (ms : List ModeTerms) → AllByRecursion (ModeThere n b (call_frame f k)) ms
    → AllByRecursion (ModeThere n b f) (map (imported_mode k x) ms)
imported_there k x n b f [] a = tt
imported_there k x n b f (m ∷ ms) a = (a.0, imported_there k x n b f ms a.1)

-- ---- a declaration

module _ (p : Program) (c : IsTypedTree p) (h : ℕ × Component) (place : Contains (placed 0 p) h) (d : Contains (components p) h.1) (i : Instance)
    (own : instance_of p h.1 ≡ i) where
  abbrev TypesThere : Text → Type 0
  TypesThere x = Each (TypeFitsThere i) (component_of i) x.0 x.1

  clean : TypedDeclaration p h
  clean = typed_declaration p c h place d

  types_there : AllByRecursion TypesThere (texts h.1)
  types_there =
      all_from_both (TypeCleanText p h) (TextPlacedIn p i) TypesThere
      (λ x k a. text_types_fit p i k.scope k.of.program (shown_there p c h place d i own k.scope k.of) x k.clean a)
      (texts h.1) (texts_typed p h clean.contract clean.constants clean.lefts clean.body) (texts_placed_there p c h place d i own)

  -- ---- first values

  abbrev FirstThere : Frame → Memory → Type 0
  FirstThere f m = has_sort_if_there (sort_of i m.operand) (first_value f m.number) ≡ true

  abbrev PartFirsts : Frame → Occurrence → Type 0
  PartFirsts f o = AllByRecursion (FirstThere f) (memory_in o.standing o.expression)

  abbrev TextFirsts : Frame → Text → Type 0
  TextFirsts f x = AllByRecursion (PartFirsts f) (occurrences (component_of i) x.0 x.1)

  texts_firsts : (f : Frame) → FirstsHaveSorts (first_sorts i) (firsts_of f) → AllByRecursion (TextFirsts f) (texts h.1)
  texts_firsts f k =
      let all : AllByRecursion (FirstThere f) (memories h.1) = all_contained (FirstThere f) (memories h.1)
      (λ m q. subst (λ j. has_sort_if_there (sort_of j m.operand) (first_value f m.number) ≡ true) own
      (firsts_there p c.grammatical h.1 d f (subst (λ j. FirstsHaveSorts (first_sorts j) (firsts_of f)) (sym own) k) m q)) in
      let each : AllByRecursion (PartFirsts f) (all_occurrences h.1) =
      all_of_each (FirstThere f) (λ o. memory_in o.standing o.expression) (all_occurrences h.1) all in
      subst (λ m. AllByRecursion (λ x. AllByRecursion (PartFirsts f) (occurrences m x.0 x.1)) (texts h.1)) (sym (component_there p c h place d i own))
      (all_of_each (PartFirsts f) (λ x. occurrences h.1 x.0 x.1) (texts h.1) each)

  module _ (n : ℕ) (b : Instants) (f : Frame) (frame_there : HasSortsIfThere i n f) where
    abbrev AllModes : List ModeTerms → Type 0
    AllModes ms = AllByRecursion (ModeThere n b f) ms

    rest_there : (ms : List ModeTerms) → AllModes ms → (t : Standing) (e : Expression) → AllByRecursion (FirstThere f) (memory_in t e)
        → HasRest (scene_with i ms b f) n e
    rest_there ms a t (pre q k x) m = m.0
    rest_there ms a t (mode_name q x y) m = λ u l. found_there _ n b f ms a u l
    rest_there ms a t (truth q x) m = tt
    rest_there ms a t (number q k) m = tt
    rest_there ms a t (name q x) m = tt
    rest_there ms a t (negation q x) m = tt
    rest_there ms a t (minus q x) m = tt
    rest_there ms a t (arrow q k x y) m = tt
    rest_there ms a t (binary q o x y) m = tt
    rest_there ms a t (choice q x y z) m = tt
    rest_there ms a t (sampled q x y z) m = tt
    rest_there ms a t (merged q x y z) m = tt
    rest_there ms a t (call q k x as_) m = tt
    rest_there ms a t (condact q k x y as_ ds) m = tt

    text_ready : (ms : List ModeTerms) → AllModes ms → (x : Text) → TypesThere x → TextFirsts f x
        → Each (Ready (scene_with i ms b f) n) (component_of i) x.0 x.1
    text_ready ms a x e m =
        each_of_both (TypeFitsThere i) (PartFirsts f) (Ready (scene_with i ms b f) n)
        (λ o r q. record { fits = r; rest = rest_there ms a o.standing o.expression q }) (component_of i) x.0 x.1 e
        (each_part (PartFirsts f) (component_of i) x.0 x.1 m)

    -- ---- what modes require

    abbrev SaysThere : List ModeTerms → ℕ → Labelled → Type 0
    SaysThere ms t r = has_sort_if_there Flags (says i ms r b f t) ≡ true

    abbrev AreFlags : List Labelled → Type 0
    AreFlags rs = AllByRecursion (λ r. sort_of i r.value ≡ Flags) rs

    all_say : (ms : List ModeTerms) → AllModes ms → (rs : List Labelled) → AreFlags rs
        → AllByRecursion TypesThere (on_base rs) → AllByRecursion (TextFirsts f) (on_base rs) → (t : ℕ) → t < n → AllByRecursion (SaysThere ms t) rs
    all_say ms a [] s e m t l = tt
    all_say ms a (r ∷ rs) s e m t l = (
      there_as (sort_of i r.value) Flags (says i ms r b f t) s.0
          (all_there (scene_with i ms b f) n (names_there i n b f frame_there ms) t l r.value (on_clock base)
          (text_ready ms a (on_clock base, r.value) e.0 m.0)),
      all_say ms a rs s.1 e.1 m.1 t l,
    )

    all_true_there : (ms : List ModeTerms) (rs : List Labelled) (t : ℕ) → AllByRecursion (SaysThere ms t) rs
        → has_sort_if_there Flags (all_true (map (λ r. says i ms r b f) rs) t) ≡ true
    all_true_there ms [] t a = refl
    all_true_there ms (r ∷ []) t a = a.0
    all_true_there ms (r ∷ q ∷ rs) t a = apply_there And (says i ms r b f t) (all_true (map (λ r. says i ms r b f) (q ∷ rs)) t)

    abbrev RequiresFlags : ContractStatement → Type 0
    RequiresFlags (mode m rs es) = AreFlags rs
    RequiresFlags _ = Unit {0}

    after_there : (sub : ℕ → Terms) → ((k : ℕ) → AllByRecursion (ModeThere n b (call_frame f k)) (sub k).modes) → (ms : List ModeTerms) → AllModes ms
        → (cs : List ContractStatement) → AllByRecursion RequiresFlags cs → AllByRecursion TypesThere (flat_map contract_statement_texts cs)
        → AllByRecursion (TextFirsts f) (flat_map contract_statement_texts cs) → AllModes (terms_after i sub ms cs).modes
    after_there sub w ms a [] s e m = a
    after_there sub w ms a (assume l ∷ cs) s e m = after_there sub w ms a cs s.1 e.1 m.1
    after_there sub w ms a (guarantee l ∷ cs) s e m = after_there sub w ms a cs s.1 e.1 m.1
    after_there sub w ms a (ghost_variable v x ∷ cs) s e m = after_there sub w ms a cs s.1 e.1 m.1
    after_there sub w ms a (constant x ∷ cs) s e m = after_there sub w ms a cs s.1 e.1 m.1
    after_there sub w ms a (mode x rs es ∷ cs) s e m =
        let behind : List Text = flat_map contract_statement_texts cs in
        let types : AllByRecursion TypesThere (on_base rs) = left_part TypesThere (on_base rs) (on_base es)
        (left_part TypesThere (on_base rs ++ on_base es) behind e) in
        let firsts : AllByRecursion (TextFirsts f) (on_base rs) = left_part (TextFirsts f) (on_base rs) (on_base es)
        (left_part (TextFirsts f) (on_base rs ++ on_base es) behind m) in
        let one : ModeThere n b f (mode_terms i ms x.text rs es) = λ t l. only_there Flags (b t) (all_true (map (λ r. says i ms r b f) rs) t)
        (all_true_there ms rs t (all_say ms a rs s.0 types firsts t l)) in
        after_there sub w (ms ++ mode_terms i ms x.text rs es ∷ []) (all_append (ModeThere n b f) ms (mode_terms i ms x.text rs es ∷ []) a (one, tt)) cs
        s.1 (right_part TypesThere (on_base rs ++ on_base es) behind e) (right_part (TextFirsts f) (on_base rs ++ on_base es) behind m)
    after_there sub w ms a («import» k x as_ xs ∷ cs) s e m =
        let behind : List Text = flat_map contract_statement_texts cs in
        let own_texts : List Text = map (λ y. (on_clock base, y)) as_ in
        let more : List ModeTerms = map (imported_mode k x.text) (sub k).modes in
        after_there sub w (ms ++ more) (all_append (ModeThere n b f) ms more a (imported_there k x.text n b f (sub k).modes (w k))) cs
        s.1 (right_part TypesThere own_texts behind e) (right_part (TextFirsts f) own_texts behind m)

    -- ---- requires are of truth values

    flags_right : (s : Scope) → ScopeOf p h s → (rs : List Labelled) → flags_of s rs ≡ [] → AllByRecursion (TextPlacedIn p i) (on_base rs)
        → AreFlags rs
    flags_right s o [] e q = tt
    flags_right s o (r ∷ rs) e q =
        let types = no_parts (flag_faults s r.value) (flags_of s rs) e in
        let one = no_parts (needs_sort s Flags r.value) (expression_faults s (on_clock base) r.value) types.0 in (
          needed s i (shown_there p c h place d i own s o) r.value (on_clock base) Flags refl
              (text_typed p i s o.program (shown_there p c h place d i own s o) (on_clock base, r.value) (type_flag s r.value types.0) q.0) one.0,
          flags_right s o rs types.1 q.1,
        )

    requires_right : (s : Scope) → ScopeOf p h s → (x : ContractStatement) → contract_statement_faults s x ≡ []
        → AllByRecursion (TextPlacedIn p i) (contract_statement_texts x) → RequiresFlags x
    requires_right s o (mode m rs es) e q =
        flags_right s o rs (no_parts (flags_of s rs) (flags_of s es) e).0 (left_part (TextPlacedIn p i) (on_base rs) (on_base es) q)
    requires_right s o (assume l) e q = tt
    requires_right s o (guarantee l) e q = tt
    requires_right s o (ghost_variable v x) e q = tt
    requires_right s o (constant x) e q = tt
    requires_right s o («import» k x as_ xs) e q = tt

    all_require : (before cs : List ContractStatement) → contract_statements h.1 ≡ before ++ cs → contract_faults (home p h.0 h.1) before cs ≡ []
        → AllByRecursion (TextPlacedIn p i) (flat_map contract_statement_texts cs) → AllByRecursion RequiresFlags cs
    all_require before [] e g q = tt
    all_require before (x ∷ cs) e g q =
        let s : Scope = contract_statement_scope (home p h.0 h.1) before in
        let faults = no_parts (contract_statement_faults s x) (contract_faults (home p h.0 h.1) (before ++ x ∷ []) cs) g in (
          requires_right s (contract_scope_of p h before (x ∷ cs) e) x faults.0
              (left_part (TextPlacedIn p i) (contract_statement_texts x) (flat_map contract_statement_texts cs) q),
          all_require (before ++ x ∷ []) cs (subst (λ ds. contract_statements h.1 ≡ ds) (moved_on before cs x) e) faults.1
              (right_part (TextPlacedIn p i) (contract_statement_texts x) (flat_map contract_statement_texts cs) q),
        )

    pub contract_there : (sub : ℕ → Terms) → ((k : ℕ) → AllByRecursion (ModeThere n b (call_frame f k)) (sub k).modes)
        → AllModes (terms_after i sub [] (contract_statements h.1)).modes
    contract_there sub w =
        let cs : List ContractStatement = contract_statements h.1 in
        after_there sub w [] tt cs (all_require [] cs refl clean.contract
        (left_part (TextPlacedIn p i) (flat_map contract_statement_texts cs) _ (texts_placed_there p c h place d i own)))
        (left_part TypesThere (flat_map contract_statement_texts cs) _ types_there)
        (left_part (TextFirsts f) (flat_map contract_statement_texts cs) _ (texts_firsts f (own_firsts i n f frame_there)))

    -- ---- every expression

    abbrev IsThere : Occurrence → Type 0
    IsThere o = (t : ℕ) → t < n → has_sort_if_there (sort_of i o.expression) (value (scene i b f) o.standing.clock o.expression t) ≡ true

    text_there : AllModes (terms i).modes → (x : Text) → TypesThere x → TextFirsts f x → AllByRecursion IsThere (occurrences (component_of i) x.0 x.1)
    text_there a x e m =
        let ready : Each (Ready (scene i b f) n) (component_of i) x.0 x.1 = text_ready (terms i).modes a x e m in
        all_from (λ o. Each (Ready (scene i b f) n) (component_of i) o.standing o.expression) IsThere
        (λ o r t l. all_there (scene i b f) n (names_there i n b f frame_there (terms i).modes) t l o.expression o.standing r)
        (occurrences (component_of i) x.0 x.1)
        (all_parts (λ o. Each (Ready (scene i b f) n) (component_of i) o.standing o.expression) (component_of i) x.0 x.1
        (nested (Ready (scene i b f) n) (component_of i) x.0 x.1 ready))

    pub texts_there : AllModes (terms i).modes → AllByRecursion IsThere (all_occurrences h.1)
    texts_there a =
        let each : AllByRecursion (λ x. AllByRecursion IsThere (occurrences (component_of i) x.0 x.1)) (texts h.1) =
        all_from_both TypesThere (TextFirsts f) (λ x. AllByRecursion IsThere (occurrences (component_of i) x.0 x.1)) (text_there a) (texts h.1)
        types_there (texts_firsts f (own_firsts i n f frame_there)) in
        all_flat IsThere (λ x. occurrences h.1 x.0 x.1) (texts h.1)
        (subst (λ m. AllByRecursion (λ x. AllByRecursion IsThere (occurrences m x.0 x.1)) (texts h.1)) (component_there p c h place d i own) each)

-- ---- declarations

mutual
  modes_there : (p : Program) → IsTypedTree p → (i : Instance) → IsUnfolded p i → Contains (components p) (component_of i) → (n : ℕ) (b : Instants)
      (f : Frame) → HasSortsIfThere i n f → AllByRecursion (ModeThere n b f) (terms i).modes
  modes_there p c (instance m cs is) u d n b f w =
      let q : PlaceOf (placed 0 p) m = place_of 0 p m d in
      contract_there p c (q.before, m) q.is d (instance m cs is) (typed_instance p c (instance m cs is) u d) n b f w
      (λ k. slice_index_or (terms_each is) (pred k) no_terms)
      (λ k. modes_there_each p c (all_sites m) is u.1 n b (frame_at (calls_in f)) w.2 (pred k))

  modes_there_each : (p : Program) → IsTypedTree p → (ss : List Site) (is : Instances) → AreUnfolded p ss is → (n : ℕ) (b : Instants) (g : ℕ → Frame)
      → CallsHaveSortsIfThere is n g → (j : ℕ) → AllByRecursion (ModeThere n b (g j)) (get_or (terms_each is) j no_terms).modes
  modes_there_each p c ss no_instances u n b g w j = tt
  modes_there_each p c [] (with_instance x i is) u n b g w j = absurd u
  modes_there_each p c (s ∷ ss) (with_instance x i is) u n b g w zero =
      modes_there p c i u.2 (found_declared p s.callee (component_of i) u.1) n b (g 0) w.0
  modes_there_each p c (s ∷ ss) (with_instance x i is) u n b g w (suc j) = modes_there_each p c ss is u.3 n b (λ k. g (suc k)) w.1 j

own_modes : (p : Program) → IsTypedTree p → (n : Component) → Contains (components p) n → (k : ℕ) (b : Instants) (f : Frame)
    → HasSortsIfThere (instance_of p n) k f → AllByRecursion (ModeThere k b f) (terms (instance_of p n)).modes
own_modes p c n d k b f w =
    modes_there p c (instance_of p n) (unfolded_typed p c n d)
    (subst (Contains (components p)) (sym (component_within _ p n)) d) k b f w

pub sorts_of_modes : SortsOfModes
sorts_of_modes p c n d k b f w m q = at_one (ModeThere k b f) (terms (instance_of p n)).modes m (own_modes p c n d k b f w) q

pub sorts_of_values : SortsOfValues
sorts_of_values p c n d k b f w o q =
    let h : PlaceOf (placed 0 p) n = place_of 0 p n d in
    at_one (IsThere p c (h.before, n) h.is d (instance_of p n) refl k b f w) (all_occurrences n) o
    (texts_there p c (h.before, n) h.is d (instance_of p n) refl k b f w (own_modes p c n d k b f w)) q
