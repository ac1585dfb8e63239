-- In a checked program each expression of a declaration fits where it stands.
use Rattle.std.proofs.Common.{◌≡◌, ℕ, zero, suc, ◌<◌, Bool, true, false, cond, ◌||◌, List, [], ◌∷◌, ◌++◌, map, flat_map, length, Option, Some, None, refl, sym, ap, ◌∙◌, subst, arith, option_map, option_to_list}
use Rattle.std.specs.Prelude.{is_some, Contains, filter, find, unwrap_or, is_none}
use Rattle.std.specs.List.{AllByRecursion, list_all}
use Rattle.std.specs.Map.{lookup}
use Rattle.std.specs.Str.{bytes_eq}
use Rattle.std.proofs.lemmas.Bool.{false≢true}
use Rattle.std.proofs.lemmas.Option.{none-some}
use Rattle.lus_tree.specs.Tree.{Name, text_of, Spelled, Expression, truth, number, name, negation, minus, pre, arrow, binary, choice, sampled, merged, call, condact, mode_name, Variable, Component, declared_constant, declared_node, declared_contract, Program}
use Rattle.lus_tree.specs.Reason.{name_twice}
use Rattle.lus_meaning.specs.Scene.{constants_of, Site, Instance, component_of, call_instance, contract_statements}
use Rattle.lus_meaning.specs.Contract.{terms}
use Rattle.lus_meaning.specs.Program.{listed, site_in, instance_of}
use Rattle.lus_meaning.specs.Occurrences.{Standing, on_clock, Occurrence, occurs, occurrences, Text, texts, all_occurrences, gathered}
use Rattle.lus_meaning.specs.Depends.{named_in}
use Rattle.lus_meaning.specs.Scope.{is_constant_name, Entry, is_constant_role, Scope, entry_of, node_named, contract_named, body_scope}
use Rattle.lus_meaning.specs.Faults.{words_twice}
use Rattle.lus_meaning.specs.ExpressionFaults.{used_as_clock, call_faults, has_one, has_mode, mode_is_known, form_faults, weight_faults, part_faults}
use Rattle.lus_meaning.specs.NameFaults.{is_declared, clock_words, declaration_word, home, constant_words, own_words, outer_twice, mode_words, labels_twice, contract_faults, body_faults, local_constant_faults, statement_faults, state_faults, recursion_faults, assumption_faults, declaration_faults, typing_faults}
use Rattle.lus_meaning.specs.ClockFaults.{components, component_clock_faults, clock_faults, contract_statement_clock_faults, statement_clock_faults, name_clock, clock_in, is_other, stands_on, clock_form_faults, clock_faults_of}
use Rattle.lus_meaning.specs.Grammatical.{has_left_name, IsGrammaticalComponent, ghost_names}
use Rattle.lus_meaning.specs.Refusals.{IsChecked}
use Rattle.lus_meaning.proofs.EachPart.{Each, each_part, each_of_both, each_elsewhere}
use Rattle.lus_meaning.proofs.Lists.{all_from, all_from_both}
use Rattle.lus_meaning.proofs.NamesOnce.{no_parts, at_one, empty_of}
use Rattle.lus_meaning.proofs.Now.{left_part, right_part}
use Rattle.lus_meaning.proofs.RulesFit.{none_mapped}
use Rattle.rule_laws.specs.Laws.{IsTypedTree, placed, table, Agrees, HasItsPlace}
use Rattle.rule_laws.specs.Fitting.{NotEmpty, OnBase, has_key, FitsThere, ExpressionsFit}
use Rattle.rule_laws.proofs.Cleaned.{CleanHome, homes_clean}
use Rattle.rule_laws.proofs.Constants.{is_word}
use Rattle.rule_laws.proofs.Covered.{found_declared, all_contained, Covers, covered}
use Rattle.rule_laws.proofs.Fitted.{TypedPart, TypeFitsThere, type_parts, stands_there, still, some_output, call_right, SiteFits, Shown, GoodPart, held_right, fit_parts}
use Rattle.rule_laws.proofs.Lists.{all_flat}
use Rattle.rule_laws.proofs.Known.{SameFound, agrees}
use Rattle.rule_laws.proofs.Parts.{all_parts, from_root}
use Rattle.rule_laws.proofs.Places.{all_grammatical, each_call_placed}
use Rattle.rule_laws.proofs.Tables.{typed_tables}
use Rattle.rule_laws.proofs.Texts.{HasOutputs, IsClean, HoldsApart, ScopeOf, IsTypeClean, CleanText, texts_clean}
use Rattle.rule_laws.proofs.Unfolded.{component_within, typed_tree, unfolded_typed}
use Rattle.rule_laws.proofs.Callees.{where_is_named}
use Rattle.rule_laws.proofs.Truths.{not_false, both_true, same_some}

-- ---- lists

-- what holds of all items of lists holds of those of each
pub all_of_each : {A B : Type 0} (P : B → Type 0) (f : A → List B) (xs : List A) → AllByRecursion P (flat_map f xs)
    → AllByRecursion (λ x. AllByRecursion P (f x)) xs
all_of_each P f [] a = tt
all_of_each P f (x ∷ xs) a = (left_part P (f x) (flat_map f xs) a, all_of_each P f xs (right_part P (f x) (flat_map f xs) a))

pub some_named : (x : Name) (xs : List Name) → has_one (filter (bytes_eq x) xs) ≡ true → named_in x xs ≡ true
some_named x [] e = absurd (false≢true e)
some_named x (y ∷ ys) e = go (bytes_eq x y) (some_named x ys) e
  where
    go : (c : Bool) → (has_one (filter (bytes_eq x) ys) ≡ true → named_in x ys ≡ true)
        → has_one (cond c (y ∷ filter (bytes_eq x) ys) (filter (bytes_eq x) ys)) ≡ true → (c || named_in x ys) ≡ true
    go true r h = refl
    go false r h = r h

-- ---- the place of a declaration

pub record PlaceOf (hs : List (ℕ × Component)) (n : Component) : Type 0 where
  pub before : ℕ
  pub is : Contains hs (before, n)

one_place : (k : ℕ) (m : Component) (hs : List (ℕ × Component)) (ns : List Component) (n : Component) → Contains (m ∷ ns) n
    → (Contains ns n → PlaceOf hs n) → PlaceOf ((k, m) ∷ hs) n
one_place k m hs ns n (zero, l, e) r = record { before = k; is = (0, omega arith, ap (λ y. (k, y)) e) }
one_place k m hs ns n (suc j, l, e) r = next (r (j, omega arith, e))
  where
    later : (b : ℕ) → Contains hs (b, n) → Contains ((k, m) ∷ hs) (b, n)
    later b (q, l, e) = (suc q, omega arith, e)

    next : PlaceOf hs n → PlaceOf ((k, m) ∷ hs) n
    next q = record { before = q.before; is = later q.before q.is }

pub place_of : (k : ℕ) (ds : Program) (n : Component) → Contains (components ds) n → PlaceOf (placed k ds) n
place_of k [] n (j, l, e) = absurd (none j l)
  where
    none : (k : ℕ) → k < 0 → ⊥
    none k l = omega arith
place_of k (declared_constant c ∷ ds) n i = place_of (suc k) ds n i
place_of k (declared_node m ∷ ds) n i = one_place k m (placed k ds) (components ds) n i (place_of k ds n)
place_of k (declared_contract m ∷ ds) n i = one_place k m (placed k ds) (components ds) n i (place_of k ds n)

-- ---- names and modes of a scope

fixed_entry : (a b : Option Entry) → SameFound a b → unwrap_or (option_map (λ e. is_constant_role e.role) a) false ≡ true
    → (e : Entry) × (b ≡ Some e) × (is_constant_role e.role ≡ true)
fixed_entry None b s h = absurd (false≢true h)
fixed_entry (Some d) None s h = absurd (none-some d.role (sym s.role))
fixed_entry (Some d) (Some e) s h = (e, refl, ap is_constant_role (sym (same_some s.role)) ∙ h)

module _ (p : Program) (c : IsTypedTree p) (h : ℕ × Component) (place : Contains (placed 0 p) h) where
  abbrev there : Instance
  there = instance_of p h.1

  abbrev own_component : component_of there ≡ h.1
  own_component = component_within (length p) p h.1

  pub holds_apart : (s : Scope) → ScopeOf p h s → HoldsApart s
  holds_apart s o x e =
      let q : (d : Entry) × (find (is_word x) (table p h) ≡ Some d) × (is_constant_role d.role ≡ true) =
      fixed_entry (entry_of s x) (find (is_word x) (table p h)) (o.shows x) e in
      let a : Agrees there x q.0 = typed_tables p c.typed h place x q.0 q.1 in
      subst (λ n. name_clock n x ≡ None) (own_component ∙ sym o.owner)
      (a.stream ∙ ap (λ b. cond b None (Some q.0.clock)) q.2)

  is_fixed_there : (s : Scope) → ScopeOf p h s → (x : Name) → is_constant_name s x ≡ true → is_some (lookup (bytes_eq x) (constants_of there)) ≡ true
  is_fixed_there s o x e =
      let q : (d : Entry) × (find (is_word x) (table p h) ≡ Some d) × (is_constant_role d.role ≡ true) =
      fixed_entry (entry_of s x) (find (is_word x) (table p h)) (o.shows x) e in
      let a : Agrees there x q.0 = typed_tables p c.typed h place x q.0 q.1 in
      ap is_some (a.constant ∙ ap (λ b. cond b (Some q.0.value) None) q.2)

  modes_known : (s : Scope) → ScopeOf p h s → Covers p (contract_statements h.1) (terms there).modes → (d : Option Spelled) (m : Spelled)
      → mode_is_known s d m ≡ true → has_key (option_to_list (option_map text_of d), m.text) (terms there).modes
  modes_known s o v None m e = v.own m.text (o.modes m.text e)
  modes_known s o v (Some d) m e =
      let q = both_true (has_one (filter (bytes_eq d.text) s.imports)) (has_mode m.text (contract_named s.program d.text)) e in
      v.imported d.text m.text (o.imports d.text (some_named d.text s.imports q.0))
      (subst (λ r. has_mode m.text (contract_named r d.text) ≡ true) o.program q.1)

  pub shown_of : (s : Scope) → ScopeOf p h s → Covers p (contract_statements h.1) (terms there).modes → Shown s there
  shown_of s o v = record {
    owner = o.owner ∙ sym own_component;
    names = agrees p c.typed h place s o.shows (still there) refl;
    apart = λ x e. subst (λ n. name_clock n x ≡ None) (o.owner ∙ sym own_component) (holds_apart s o x e);
    fixed = is_fixed_there s o;
    modes = modes_known s o v;
  }

-- ---- calls

abbrev pub PlacedCall : Program → Instance → Site → Type 0
PlacedCall p i s = HasItsPlace i (node_named p s.callee) s × OnBase (component_of (call_instance i s.number)).outputs

named_declared : (ds : Program) (x : Name) (m : Component) → node_named ds x ≡ Some m → Contains (components ds) m
named_declared ds x m e = found_declared ds x m (sym (where_is_named true ds x (ap is_declared e)) ∙ e)

pub each_passes : {A : Type 0} (test : A → Bool) (xs : List A) → list_all test xs ≡ true → AllByRecursion (λ x. test x ≡ true) xs
each_passes test [] e = tt
each_passes test (x ∷ xs) e = let q = both_true (test x) (list_all test xs) e in (q.0, each_passes test xs q.1)

pub without_clocks : (vs : List Variable) → AllByRecursion (λ v. is_none v.clock ≡ true) vs → OnBase vs
without_clocks [] a = tt
without_clocks (v ∷ vs) a = (is_base v.clock a.0, without_clocks vs a.1)
  where
    is_base : (o : Option (Bool × Spelled)) → is_none o ≡ true → o ≡ None
    is_base None e = refl
    is_base (Some x) e = absurd (false≢true e)

outputs_on_base : (n : Component) → IsGrammaticalComponent n → OnBase n.outputs
outputs_on_base n g =
    let all : AllByRecursion (λ v. is_none v.clock ≡ true) (n.inputs ++ (n.outputs ++ flat_map ghost_names (contract_statements n))) =
    each_passes (λ v. is_none v.clock) (n.inputs ++ (n.outputs ++ flat_map ghost_names (contract_statements n))) g.clocks in
    without_clocks n.outputs (left_part (λ v. is_none v.clock ≡ true) n.outputs (flat_map ghost_names (contract_statements n))
    (right_part (λ v. is_none v.clock ≡ true) n.inputs (n.outputs ++ flat_map ghost_names (contract_statements n)) all))

pub calls_placed : (p : Program) → IsTypedTree p → (n : Component) → Contains (components p) n
    → AllByRecursion (PlacedCall p (instance_of p n)) (gathered site_in n)
calls_placed p c n i = all_contained (PlacedCall p (instance_of p n)) (gathered site_in n) one
  where
    one : (s : Site) → Contains (gathered site_in n) s → PlacedCall p (instance_of p n) s
    one s h =
        let q : HasItsPlace (instance_of p n) (node_named p s.callee) s = each_call_placed p c n i s h in
        let m : Component = component_of (call_instance (instance_of p n) s.number) in
        (q, outputs_on_base m (at_one IsGrammaticalComponent (components p) m (all_grammatical p c.grammatical) (named_declared p s.callee m q.callee)))

-- ---- one text

module _ (p : Program) (i : Instance) (sc : Scope) (program : sc.program ≡ p) (shown : Shown sc i) where
  abbrev pub CallsPlaced : Occurrence → Type 0
  CallsPlaced o = AllByRecursion (PlacedCall p i) (site_in o.standing o.expression)

  abbrev pub NoFault : Occurrence → Type 0
  NoFault o = part_faults sc o ≡ []

  abbrev NoClockFault : Expression → Type 0
  NoClockFault e = clock_form_faults (component_of i) e ≡ []

  abbrev OutputsThere : Occurrence → Type 0
  OutputsThere o = NoFault o → HasOutputs sc o.expression

  form_right : (t : Standing) (e : Expression) → t.whole_side ≡ false → NoFault (occurs t e) → form_faults sc false e ≡ []
  form_right t e w h = subst (λ b. form_faults sc b e ≡ []) w (no_parts (form_faults sc t.whole_side e) (weight_faults sc e) h).0

  one_needed : (f : Spelled) (as_ : List Expression) (o : Option Component) → call_faults sc false f as_ o ≡ [] → (m : Component) → o ≡ Some m
      → NotEmpty m.outputs
  one_needed f as_ o h m e =
      some_output m.outputs (not_false (has_one m.outputs) (call_right sc false f as_ m (subst (λ q. call_faults sc false f as_ q ≡ []) e h)).outputs)

  inner_outputs : (t : Standing) (e : Expression) → t.whole_side ≡ false → OutputsThere (occurs t e)
  inner_outputs t (call p k f as_) w h = one_needed f (listed as_) (node_named sc.program f.text) (form_right t (call p k f as_) w h)
  inner_outputs t (condact p k a f as_ ds) w h = one_needed f (listed as_) (node_named sc.program f.text)
      (held_right sc i shown (on_clock t.clock) a f as_ ds true (form_right t (condact p k a f as_ ds) w h)).call
  inner_outputs t (truth p b) w h = tt
  inner_outputs t (number p k) w h = tt
  inner_outputs t (name p x) w h = tt
  inner_outputs t (negation p a) w h = tt
  inner_outputs t (minus p a) w h = tt
  inner_outputs t (pre p k a) w h = tt
  inner_outputs t (arrow p k a b) w h = tt
  inner_outputs t (binary p o a b) w h = tt
  inner_outputs t (choice p a b c) w h = tt
  inner_outputs t (sampled p a b x) w h = tt
  inner_outputs t (merged p x a b) w h = tt
  inner_outputs t (mode_name p c m) w h = tt

  root_outputs : (t : Standing) (e : Expression) (b : Bool) → t.whole_side ≡ b → (t.whole_side ≡ true → HasOutputs sc e) → OutputsThere (occurs t e)
  root_outputs t e true w r h = r w
  root_outputs t e false w r h = inner_outputs t e w h

  site_fits : (s : Site) → PlacedCall p i s → ((m : Component) → node_named sc.program s.callee ≡ Some m → NotEmpty m.outputs)
      → SiteFits (node_named sc.program) i s
  site_fits s a o =
      let q : HasItsPlace i (node_named sc.program s.callee) s = subst (λ r. HasItsPlace i (node_named r s.callee) s) (sym program) a.0 in
      record { place = q; outputs = o (component_of (call_instance i s.number)) q.callee; on_base = a.1 }

  sites_fit : (t : Standing) (e : Expression) → CallsPlaced (occurs t e) → HasOutputs sc e → AllByRecursion (SiteFits (node_named sc.program) i) (site_in t e)
  sites_fit t (call p k f as_) a o = (site_fits _ a.0 o, tt)
  sites_fit t (condact p k b f as_ ds) a o = (site_fits _ a.0 o, tt)
  sites_fit t (truth p b) a o = tt
  sites_fit t (number p k) a o = tt
  sites_fit t (name p x) a o = tt
  sites_fit t (negation p b) a o = tt
  sites_fit t (minus p b) a o = tt
  sites_fit t (pre p k b) a o = tt
  sites_fit t (arrow p k b d) a o = tt
  sites_fit t (binary p x b d) a o = tt
  sites_fit t (choice p b d e) a o = tt
  sites_fit t (sampled p b d x) a o = tt
  sites_fit t (merged p x b d) a o = tt
  sites_fit t (mode_name p c m) a o = tt

  -- whether its clock is that of its place
  pub text_stands : (x : Text) → IsClean sc x → is_other x.0.clock (clock_in (component_of i) x.1) ≡ false
  text_stands x k =
      let own : clock_faults_of (component_of i) x.0.clock x.1 ≡ [] = subst (λ m. clock_faults_of m x.0.clock x.1 ≡ []) shown.owner k.clocks in
      stands_there (component_of i) x.0.clock x.1 (no_parts (stands_on (component_of i) x.0.clock x.1) _ own).0

  pub no_faults : (x : Text) → IsTypeClean sc x → Each NoFault (component_of i) x.0 x.1
  no_faults x k = each_part NoFault (component_of i) x.0 x.1 (none_mapped (part_faults sc) (occurrences (component_of i) x.0 x.1)
      (subst (λ m. flat_map (part_faults sc) (occurrences m x.0 x.1) ≡ []) shown.owner k.types))

  pub text_typed : (x : Text) → IsTypeClean sc x → AllByRecursion CallsPlaced (occurrences (component_of i) x.0 x.1)
      → Each (TypedPart sc i) (component_of i) x.0 x.1
  text_typed x k calls =
      let n : Component = component_of i in
      let t : Standing = x.0 in
      let e : Expression = x.1 in
      let outputs : Each OutputsThere n t e = from_root OutputsThere n (λ o w. inner_outputs o.standing o.expression w) t e
      (root_outputs t e t.whole_side refl k.root) in
      let some : Each (λ o. NoFault o × HasOutputs sc o.expression) n t e = each_of_both NoFault OutputsThere (λ o. NoFault o × HasOutputs sc o.expression)
      (λ o a b. (a, b a)) n t e (no_faults x k) outputs in
      each_of_both (λ o. NoFault o × HasOutputs sc o.expression) CallsPlaced (TypedPart sc i)
      (λ o a b. record { types = a.0; sites = sites_fit o.standing o.expression b a.1 }) n t e some (each_part CallsPlaced n t e calls)

  -- so it fits, by its types
  pub text_types_fit : (x : Text) → IsTypeClean sc x → AllByRecursion CallsPlaced (occurrences (component_of i) x.0 x.1)
      → Each (TypeFitsThere i) (component_of i) x.0 x.1
  text_types_fit x k calls = type_parts sc i shown x.0 x.1 (text_typed x k calls)

  pub text_good : (x : Text) → IsClean sc x → AllByRecursion CallsPlaced (occurrences (component_of i) x.0 x.1)
      → Each (GoodPart sc i) (component_of i) x.0 x.1
  text_good x k calls =
      let n : Component = component_of i in
      let t : Standing = x.0 in
      let e : Expression = x.1 in
      let own : clock_faults_of n t.clock e ≡ [] = subst (λ m. clock_faults_of m t.clock e ≡ []) shown.owner k.clocks in
      let parts = no_parts (stands_on n t.clock e) (flat_map (λ o. clock_form_faults n o.expression) (occurrences n (on_clock t.clock) e)) own in
      let clocks : Each (λ o. NoClockFault o.expression) n t e = each_elsewhere NoClockFault n (on_clock t.clock) t e
      (each_part (λ o. NoClockFault o.expression) n (on_clock t.clock) e
      (none_mapped (λ o. clock_form_faults n o.expression) (occurrences n (on_clock t.clock) e) parts.1)) in
      each_of_both (TypedPart sc i) (λ o. NoClockFault o.expression) (GoodPart sc i) (λ o a b. record { typed = a; clocks = b }) n t e
      (text_typed x k.typed calls) clocks

  pub text_fits : (x : Text) → IsClean sc x → AllByRecursion CallsPlaced (occurrences (component_of i) x.0 x.1) → Each (FitsThere i) (component_of i) x.0 x.1
  text_fits x k calls = fit_parts sc i shown x.0 x.1 (text_good x k calls) (text_stands x k)

-- ---- a declaration

abbrev pub TextFits : Instance → Text → Type 0
TextFits i x = Each (FitsThere i) (component_of i) x.0 x.1

-- a declaration without faults of names and types
pub record TypedDeclaration (p : Program) (h : ℕ × Component) : Type 0 where
  pub contract : contract_faults (home p h.0 h.1) [] (contract_statements h.1) ≡ []
  pub clocks : flat_map (used_as_clock (body_scope (home p h.0 h.1))) (flat_map clock_words h.1.locals) ≡ []
  pub constants : local_constant_faults (home p h.0 h.1) 0 h.1.constants ≡ []
  pub lefts : list_all has_left_name h.1.body ≡ true
  pub body : flat_map (statement_faults (body_scope (home p h.0 h.1))) h.1.body ≡ []

pub typed_declaration : (p : Program) → IsTypedTree p → (h : ℕ × Component) → Contains (placed 0 p) h → Contains (components p) h.1
    → TypedDeclaration p h
typed_declaration p c h place i =
    let n : Component = h.1 in
    let faults = no_parts (words_twice name_twice (map declaration_word p)) (declaration_faults p 0 p)
    (no_parts _ (words_twice name_twice (map declaration_word p) ++ declaration_faults p 0 p) (empty_of (typing_faults p) c.typed)).1 in
    let clean : CleanHome p h = at_one (CleanHome p) (placed 0 p) h (homes_clean p 0 p faults.1) place in
    let rest = no_parts (contract_faults (home p h.0 n) [] (contract_statements n)) (body_faults (home p h.0 n) ++
    (state_faults p n ++ (recursion_faults p n ++ assumption_faults (body_scope (home p h.0 n)))))
    (no_parts (labels_twice n) _ (no_parts (words_twice name_twice (mode_words (contract_statements n))) _
    (no_parts (outer_twice (constant_words p) (own_words n)) _ (no_parts (words_twice name_twice (own_words n)) _ clean).1).1).1).1 in
    let bodies : body_faults (home p h.0 n) ≡ [] = (no_parts (body_faults (home p h.0 n)) _ rest.1).0 in
    let behind = no_parts (flat_map (used_as_clock (body_scope (home p h.0 n))) (flat_map clock_words n.locals))
    (local_constant_faults (home p h.0 n) 0 n.constants ++ flat_map (statement_faults (body_scope (home p h.0 n))) n.body) bodies in
    let body = no_parts (local_constant_faults (home p h.0 n) 0 n.constants) (flat_map (statement_faults (body_scope (home p h.0 n))) n.body) behind.1 in
    record {
      contract = rest.0;
      clocks = behind.0;
      constants = body.0;
      lefts = (at_one IsGrammaticalComponent (components p) n (all_grammatical p c.grammatical) i).lefts;
      body = body.1;
    }

-- and without faults of clocks
pub record CleanDeclaration (p : Program) (h : ℕ × Component) : Type 0 where
  pub typed : TypedDeclaration p h
  pub contract_clocks : flat_map (contract_statement_clock_faults h.1) (contract_statements h.1) ≡ []
  pub body_clocks : flat_map (statement_clock_faults h.1) h.1.body ≡ []

pub clean_declaration : (p : Program) → IsChecked p → (h : ℕ × Component) → Contains (placed 0 p) h → Contains (components p) h.1 → CleanDeclaration p h
clean_declaration p c h place i =
    let n : Component = h.1 in
    let clocks = no_parts (flat_map (contract_statement_clock_faults n) (contract_statements n)) (flat_map (statement_clock_faults n) n.body)
    (at_one (λ m. component_clock_faults m ≡ []) (components p) n
    (none_mapped component_clock_faults (components p) (empty_of (clock_faults p) c.rules.clocked.clocks)) i) in
    record { typed = typed_declaration p (typed_tree p c) h place i; contract_clocks = clocks.0; body_clocks = clocks.1 }

pub declaration_texts : (p : Program) (c : IsChecked p) (h : ℕ × Component) → Contains (placed 0 p) h → Contains (components p) h.1
    → AllByRecursion (CleanText p h) (texts h.1)
declaration_texts p c h place i =
    let q : CleanDeclaration p h = clean_declaration p c h place i in
    texts_clean p h (holds_apart p (typed_tree p c) h place) q.typed.contract q.contract_clocks q.typed.constants q.typed.lefts q.typed.body q.body_clocks

-- the modes of the instance of a declaration
pub own_covered : (p : Program) → IsTypedTree p → (n : Component) → Contains (components p) n
    → Covers p (contract_statements n) (terms (instance_of p n)).modes
own_covered p c n d =
    let own : component_of (instance_of p n) ≡ n = component_within (length p) p n in
    subst (λ m. Covers p (contract_statements m) (terms (instance_of p n)).modes) own
    (covered p c (instance_of p n) (unfolded_typed p c n d) (subst (Contains (components p)) (sym own) d))

-- each call in a text has its place
abbrev pub TextPlacedIn : Program → Instance → Text → Type 0
TextPlacedIn p i x = AllByRecursion (λ o. AllByRecursion (PlacedCall p i) (site_in o.standing o.expression)) (occurrences (component_of i) x.0 x.1)

module _ (p : Program) (c : IsTypedTree p) (h : ℕ × Component) (place : Contains (placed 0 p) h) (d : Contains (components p) h.1) (i : Instance)
    (own : instance_of p h.1 ≡ i) where
  pub component_there : component_of i ≡ h.1
  component_there = ap component_of (sym own) ∙ component_within (length p) p h.1

  pub covers_there : Covers p (contract_statements h.1) (terms i).modes
  covers_there = subst (λ j. Covers p (contract_statements h.1) (terms j).modes) own (own_covered p c h.1 d)

  pub shown_there : (s : Scope) → ScopeOf p h s → Shown s i
  shown_there s o = subst (Shown s) own (shown_of p c h place s o (own_covered p c h.1 d))

  pub texts_placed_there : AllByRecursion (TextPlacedIn p i) (texts h.1)
  texts_placed_there =
      let calls : AllByRecursion (PlacedCall p i) (gathered site_in h.1) =
      subst (λ j. AllByRecursion (PlacedCall p j) (gathered site_in h.1)) own (calls_placed p c h.1 d) in
      let each = all_of_each (PlacedCall p i) (λ o. site_in o.standing o.expression) (all_occurrences h.1) calls in
      subst (λ m. AllByRecursion (λ x. AllByRecursion (λ o. AllByRecursion (PlacedCall p i) (site_in o.standing o.expression))
      (occurrences m x.0 x.1)) (texts h.1)) (sym component_there)
      (all_of_each (λ o. AllByRecursion (PlacedCall p i) (site_in o.standing o.expression)) (λ x. occurrences h.1 x.0 x.1) (texts h.1) each)

pub texts_fit : (p : Program) → IsChecked p → (n : Component) → Contains (components p) n → AllByRecursion (TextFits (instance_of p n)) (texts n)
texts_fit p c n d =
    let q : PlaceOf (placed 0 p) n = place_of 0 p n d in
    let h : ℕ × Component = (q.before, n) in
    let i : Instance = instance_of p n in
    let own : component_of i ≡ n = component_within (length p) p n in
    let covers : Covers p (contract_statements n) (terms i).modes = own_covered p (typed_tree p c) n d in
    let calls : AllByRecursion (λ o. AllByRecursion (PlacedCall p i) (site_in o.standing o.expression)) (all_occurrences n) =
    all_of_each (PlacedCall p i) (λ o. site_in o.standing o.expression) (all_occurrences n) (calls_placed p (typed_tree p c) n d) in
    let Calls : Text → Type 0 = λ x. AllByRecursion (λ o. AllByRecursion (PlacedCall p i) (site_in o.standing o.expression)) (occurrences n x.0 x.1) in
    all_from_both (CleanText p h) Calls (TextFits i)
    (λ x a b. text_fits p i a.scope a.of.program (shown_of p (typed_tree p c) h q.is a.scope a.of covers) x a.clean
    (subst (λ m. AllByRecursion (λ o. AllByRecursion (PlacedCall p i) (site_in o.standing o.expression)) (occurrences m x.0 x.1)) (sym own) b))
    (texts n) (declaration_texts p c h q.is d)
    (all_of_each (λ o. AllByRecursion (PlacedCall p i) (site_in o.standing o.expression)) (λ x. occurrences n x.0 x.1) (texts n) calls)

pub expressions_fit : ExpressionsFit
expressions_fit p c n d =
    let i : Instance = instance_of p n in
    let each : AllByRecursion (λ x. AllByRecursion (FitsThere i) (occurrences n x.0 x.1)) (texts n) =
    all_from (TextFits i) (λ x. AllByRecursion (FitsThere i) (occurrences n x.0 x.1))
    (λ x a. subst (λ m. AllByRecursion (FitsThere i) (occurrences m x.0 x.1)) (component_within (length p) p n)
    (all_parts (FitsThere i) (component_of i) x.0 x.1 a)) (texts n) (texts_fit p c n d) in
    λ o k. at_one (FitsThere i) (all_occurrences n) o (all_flat (FitsThere i) (λ x. occurrences n x.0 x.1) (texts n) each) k
