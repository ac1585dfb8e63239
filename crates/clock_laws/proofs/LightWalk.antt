-- In a checked program each mode needs only calls that weigh no more than it, and what a call's arguments need of other
-- calls is of calls of less weight.
use Rattle.std.proofs.Common.{option_map, ◌≡◌, ℕ, suc, pred, ◌+◌, ◌≤◌, Bool, true, false, cond, not, ◌||◌, List, [], ◌∷◌, ◌++◌, map, flat_map, refl, sym, ap, ◌∙◌, subst, arith, append_assoc, Option, Some, None}
use Rattle.std.specs.Prelude.{option_to_list}
use Rattle.std.specs.List.{AllByRecursion, list_any}
use Rattle.std.specs.Str.{bytes_eq}
use Rattle.std.proofs.lemmas.Bool.{false≢true}
use Rattle.lus_tree.specs.declared.place.Sort.TheVariants.{Bool as Flags}
use Rattle.lus_tree.specs.Tree.{Name, Spelled, Place, text_of, Expression, Expressions, truth, number, name, negation, minus, pre, arrow, binary, choice, sampled, merged, call, condact, mode_name, no_more, more, Labelled, ContractStatement, assume, guarantee, ghost_variable, constant, mode, «import», Component, Program}
use Rattle.lus_tree.specs.Reason.{mode_unknown}
use Rattle.lus_meaning.specs.Scene.{Clock, base, Manner, plain, while_true, as_import, Site, Instance, component_of, outputs_of, contract_statements}
use Rattle.lus_meaning.specs.Meaning.{mode_key}
use Rattle.lus_meaning.specs.Contract.{ModeTerms, Terms, mode_terms, imported_mode}
use Rattle.lus_meaning.specs.Program.{listed, site_in, import_site, all_sites}
use Rattle.lus_meaning.specs.Run.{inputs_of}
use Rattle.lus_meaning.specs.Occurrences.{Standing, on_clock, within, Occurrence, occurs, occurrences, on_base, Text, contract_statement_texts, texts, all_occurrences, gathered}
use Rattle.lus_meaning.specs.Depends.{a_name, ModeNeeds, known_needs, needs, asked_needs, imported_needs, modes_after, modes_need, site_needs}
use Rattle.lus_meaning.specs.Cycle.{matching, shared_needs, caller_needs}
use Rattle.lus_meaning.specs.Scope.{Scope, node_named, contract_named, mode_names, import_names, contract_statement_scope}
use Rattle.lus_meaning.specs.ExpressionFaults.{expression_faults, part_faults, form_faults, weight_faults, flag_faults, needs_sort, has_mode, mode_is_known}
use Rattle.lus_meaning.specs.NameFaults.{home, flags_of, contract_statement_faults, contract_faults}
use Rattle.lus_meaning.proofs.EachPart.{Each, EachAmong, each_part, each_of_both}
use Rattle.lus_meaning.proofs.InOrder.{in_order_all}
use Rattle.lus_meaning.proofs.Lists.{both_parts, append_none, map_append, all_from}
use Rattle.lus_meaning.proofs.NamesOnce.{no_parts, not_so}
use Rattle.lus_meaning.proofs.Now.{left_part, right_part}
use Rattle.lus_meaning.proofs.RulesFit.{none_mapped}
use Rattle.rule_laws.specs.Laws.{HasItsPlace}
use Rattle.rule_laws.proofs.Lists.{all_flat}
use Rattle.clock_laws.proofs.Contracts.{CoversAll, known_key, covers_more, covers_plain, covers_mode, covers_import, covers_names, covers_imports}
use Rattle.clock_laws.proofs.Modes.{Key, has_key, mode_named, imported_named}
use Rattle.rule_laws.proofs.Parts.{Whole, nested, all_parts}
use Rattle.clock_laws.proofs.Parts.{each_from}
use Rattle.clock_laws.proofs.Weights.{Weights, weight_at, heft, heft_all, with_condition, site_heft, AllLight, Light, lighter, clock_light, two_light, LightIn, LightPart, light_needs, behind_clock, PairsLight, pair_light, pairs_joined, imported_weight, imported_light, SameWeight, SameWeightIn, same_heft, weight_listed, weight_before}

abbrev pub label_heft : Weights → List Labelled → ℕ
label_heft ws [] = 0
label_heft ws (l ∷ ls) = heft ws l.value + label_heft ws ls

-- the weights of the modes of a contract, those of its imports among them
abbrev pub weights_after : (ℕ → ModeNeeds) → Weights → List ContractStatement → Weights
weights_after sub ws [] = ws
weights_after sub ws (mode m rs es ∷ cs) = weights_after sub (ws ++ (([], m.text), label_heft ws rs) ∷ []) cs
weights_after sub ws («import» k c as_ xs ∷ cs) = weights_after sub (ws ++ map (imported_weight c.text (suc (heft_all ws as_))) (sub k)) cs
weights_after sub ws (assume l ∷ cs) = weights_after sub ws cs
weights_after sub ws (guarantee l ∷ cs) = weights_after sub ws cs
weights_after sub ws (ghost_variable x e ∷ cs) = weights_after sub ws cs
weights_after sub ws (constant c ∷ cs) = weights_after sub ws cs

record Longer (all ws : Weights) : Type 0 where
  rest : Weights
  is : all ≡ ws ++ rest

longer : (sub : ℕ → ModeNeeds) (ws : Weights) (cs : List ContractStatement) → Longer (weights_after sub ws cs) ws
longer sub ws [] = record { rest = []; is = sym (append_none ws) }
longer sub ws (assume l ∷ cs) = longer sub ws cs
longer sub ws (guarantee l ∷ cs) = longer sub ws cs
longer sub ws (ghost_variable x e ∷ cs) = longer sub ws cs
longer sub ws (constant c ∷ cs) = longer sub ws cs
longer sub ws (mode m rs es ∷ cs) =
    let y : Key × ℕ = (([], m.text), label_heft ws rs) in
    let r : Longer (weights_after sub (ws ++ y ∷ []) cs) (ws ++ y ∷ []) = longer sub (ws ++ y ∷ []) cs in
    record { rest = y ∷ r.rest; is = r.is ∙ append_assoc ws (y ∷ []) r.rest }
longer sub ws («import» k c as_ xs ∷ cs) =
    let ys : Weights = map (imported_weight c.text (suc (heft_all ws as_))) (sub k) in
    let r : Longer (weights_after sub (ws ++ ys) cs) (ws ++ ys) = longer sub (ws ++ ys) cs in
    record { rest = ys ++ r.rest; is = r.is ∙ append_assoc ws ys r.rest }

-- ---- keys

abbrev pub keys_of : List ModeTerms → List Key
keys_of ms = map (λ m. m.key) ms

abbrev pub weight_keys : Weights → List Key
weight_keys ws = map (λ w. w.0) ws

listed_key : (key : Key) (ms : List ModeTerms) (ws : Weights) → keys_of ms ≡ weight_keys ws → has_key key ms ≡ true → weight_listed key ws ≡ true
listed_key key ms ws e h = sym (by_weights ws) ∙ ap (list_any (mode_key key)) (sym e) ∙ by_terms ms ∙ h
  where
    by_terms : (xs : List ModeTerms) → list_any (mode_key key) (keys_of xs) ≡ has_key key xs
    by_terms [] = refl
    by_terms (x ∷ xs) = ap (λ c. mode_key key x.key || c) (by_terms xs)

    by_weights : (xs : Weights) → list_any (mode_key key) (weight_keys xs) ≡ weight_listed key xs
    by_weights [] = refl
    by_weights (x ∷ xs) = ap (λ c. mode_key key x.0 || c) (by_weights xs)

abbrev behind_name : Name → Key → Key
behind_name c q = (c ∷ q.0, q.1)

imported_keys : (k : ℕ) (c : Name) (b : ℕ) (ms : List ModeTerms) (ns : ModeNeeds) → keys_of ms ≡ map (λ e. e.0) ns → keys_of (map (imported_mode k c) ms)
    ≡ weight_keys (map (imported_weight c b) ns)
imported_keys k c b ms ns e = by_terms ms ∙ ap (map (behind_name c)) e ∙ sym (by_needs ns)
  where
    by_terms : (xs : List ModeTerms) → keys_of (map (imported_mode k c) xs) ≡ map (behind_name c) (keys_of xs)
    by_terms [] = refl
    by_terms (x ∷ xs) = ap (λ (ys : List Key). (c ∷ x.key.0, x.key.1) ∷ ys) (by_terms xs)

    by_needs : (xs : ModeNeeds) → weight_keys (map (imported_weight c b) xs) ≡ map (behind_name c) (map (λ e. e.0) xs)
    by_needs [] = refl
    by_needs (x ∷ xs) = ap (λ (ys : List Key). (c ∷ x.0.0, x.0.1) ∷ ys) (by_needs xs)

-- ---- the walk

module _ (p : Program) (k : ℕ) (i : Instance) (sub_terms : ℕ → Terms) (sub_needs : ℕ → ModeNeeds)
    (sub_keys : (j : ℕ) → keys_of (sub_terms j).modes ≡ map (λ e. e.0) (sub_needs j))
    (sub_named : (d : Site) (named : Option Component) → HasItsPlace i named d → (x : Name) → has_mode x named ≡ true → has_key ([], x)
    (sub_terms d.number).modes ≡ true)
    (all : Weights) (weigh : ℕ → ℕ)
    (weighed : (d : Site) (named : Option Component) → HasItsPlace i named d → weigh (pred d.number) ≡ site_heft all d) where
  abbrev here : Component
  here = component_of i

  abbrev pub CallsPlaced : Occurrence → Type 0
  CallsPlaced o = AllByRecursion (λ d. HasItsPlace i (node_named p d.callee) d) (site_in o.standing o.expression)

  abbrev pub EachPlaced : Text → Type 0
  EachPlaced x = Each CallsPlaced (component_of i) x.0 x.1

  abbrev scope_at : List ContractStatement → Scope
  scope_at before = contract_statement_scope (home p k (component_of i)) before

  -- the modes behind which a statement stands
  record Weighed (before : List ContractStatement) (ms : List ModeTerms) (ns : ModeNeeds) (ws : Weights) : Type 0 where
    extended : Longer all ws
    keys : keys_of ms ≡ weight_keys ws
    covers : CoversAll p before ms
    pairs : PairsLight weigh ns ws

  module _ (before : List ContractStatement) (ms : List ModeTerms) (ns : ModeNeeds) (ws : Weights) (w : Weighed before ms ns ws) where
    same_at : (d : Option Spelled) (x : Spelled) → mode_is_known (scope_at before) d x ≡ true → weight_at ws (option_to_list (option_map text_of d), x.text)
        ≡ weight_at all (option_to_list (option_map text_of d), x.text)
    same_at d x e =
        let key : Key = (option_to_list (option_map text_of d), x.text) in
        let there : has_key key ms ≡ true = known_key p (mode_names before) (import_names before) ms w.covers (scope_at before) refl refl refl d x e in
        weight_before key ws w.extended.rest (listed_key key ms ws w.keys there) ∙ ap (λ q. weight_at q key) (sym w.extended.is)

    known_at : (t : Standing) (q : Place) (d : Option Spelled) (x : Spelled) → part_faults (scope_at before) (occurs t (mode_name q d x)) ≡ [] → mode_is_known
        (scope_at before) d x ≡ true
    known_at t q d x h = not_false (mode_is_known (scope_at before) d x) (not_so (not (mode_is_known (scope_at before) d x)) mode_unknown x.at
        (no_parts (form_faults (scope_at before) t.whole_side (mode_name q d x)) (weight_faults (scope_at before) (mode_name q d x)) h).0)
      where
        not_false : (a : Bool) → not a ≡ false → a ≡ true
        not_false true e = refl
        not_false false e = absurd (false≢true (sym e))

    same_part : (t : Standing) (e : Expression) → part_faults (scope_at before) (occurs t e) ≡ [] → SameWeightIn ws all here e
    same_part t (mode_name q d x) h = same_at d x (known_at t q d x h)
    same_part t _ h = tt

    light_part : (t : Standing) (e : Expression) → part_faults (scope_at before) (occurs t e) ≡ [] → CallsPlaced (occurs t e) → LightIn weigh ns all e
    light_part t (call q j g as_) h a = weighed _ (node_named p g.text) a.0
    light_part t (condact q j c g as_ ds) h a = weighed _ (node_named p g.text) a.0
    light_part t (mode_name q d x) h a = subst (λ b. AllLight weigh b (known_needs ns (option_to_list (option_map text_of d), x.text)))
        (same_at d x (known_at t q d x h)) (pair_light weigh ns ws w.pairs (option_to_list (option_map text_of d), x.text))
    light_part t _ h a = tt

    parts_of : (t : Standing) (e : Expression) → expression_faults (scope_at before) t e ≡ [] → Each (λ o. part_faults (scope_at before) o ≡ []) here t e
    parts_of t e h = each_part (λ o. part_faults (scope_at before) o ≡ []) here t e (none_mapped (part_faults (scope_at before)) (occurrences here t e) h)

    same_text : (t : Standing) (e : Expression) → expression_faults (scope_at before) t e ≡ [] → heft ws e ≡ heft all e
    same_text t e h = same_heft ws all here e t (each_from (λ o. part_faults (scope_at before) o ≡ []) (SameWeight ws all here)
        (λ o q. same_part o.standing o.expression q) here t e (parts_of t e h))

    light_text : (t : Standing) (e : Expression) (c : Clock) → expression_faults (scope_at before) t e ≡ [] → EachPlaced (t, e) → AllLight weigh
        (heft ws e) (needs i ns c e)
    light_text t e c h a = subst (λ b. AllLight weigh b (needs i ns c e)) (sym (same_text t e h)) (light_needs weigh ns all i e t c
        (each_of_both (λ o. part_faults (scope_at before) o ≡ []) CallsPlaced (LightPart weigh ns all)
        (λ o q r. light_part o.standing o.expression q r) here t e (parts_of t e h) a))

    labels_light : (ls : List Labelled) → flags_of (scope_at before) ls ≡ [] → AllByRecursion EachPlaced (on_base ls) → AllLight weigh (label_heft ws ls)
        (flat_map (λ r. needs i ns base r.value) ls)
    labels_light [] h a = tt
    labels_light (l ∷ ls) h a =
        let q = no_parts (flag_faults (scope_at before) l.value) (flags_of (scope_at before) ls) h in
        two_light weigh (heft ws l.value) (label_heft ws ls) (needs i ns base l.value) (flat_map (λ r. needs i ns base r.value) ls)
        (light_text (on_clock base) l.value base (no_parts (needs_sort (scope_at before) Flags l.value) _ q.0).1 a.0) (labels_light ls q.1 a.1)

    same_all : (as_ : List Expression) → flat_map (expression_faults (scope_at before) (on_clock base)) as_ ≡ [] → heft_all ws as_ ≡ heft_all all as_
    same_all [] h = refl
    same_all (a ∷ as_) h = rw (
      same_text (on_clock base) a (no_parts (expression_faults (scope_at before) (on_clock base) a) _ h).0,
      same_all as_ (no_parts (expression_faults (scope_at before) (on_clock base) a) _ h).1,
    ) refl

  weighed_plain : (before : List ContractStatement) (c : ContractStatement) (ms : List ModeTerms) (ns : ModeNeeds) (ws : Weights) → Weighed before ms ns ws
      → mode_names (c ∷ []) ≡ [] → import_names (c ∷ []) ≡ [] → Weighed (before ++ c ∷ []) ms ns ws
  weighed_plain before c ms ns ws w e g = record {
    extended = w.extended;
    keys = w.keys;
    covers = covers_plain p before c ms e g w.covers;
    pairs = w.pairs;
  }

  pub walk_light : (before cs : List ContractStatement) (ms : List ModeTerms) (ns : ModeNeeds) (ws : Weights)
      → contract_faults (home p k (component_of i)) before cs ≡ [] → AllByRecursion EachPlaced (flat_map contract_statement_texts cs)
      → AllByRecursion (λ d. HasItsPlace i (contract_named p d.callee) d) (flat_map import_site cs) → all ≡ weights_after sub_needs ws cs
      → keys_of ms ≡ weight_keys ws → CoversAll p before ms → PairsLight weigh ns ws → PairsLight weigh (modes_after i sub_needs ns cs)
      (weights_after sub_needs ws cs)
  walk_light before [] ms ns ws h a q e keys v pairs = pairs
  walk_light before (assume l ∷ cs) ms ns ws h a q e keys v pairs = walk_light (before ++ assume l ∷ []) cs ms ns ws
      (no_parts (contract_statement_faults (scope_at before) (assume l)) _ h).1 a.1 q e keys (covers_plain p before (assume l) ms refl refl v) pairs
  walk_light before (guarantee l ∷ cs) ms ns ws h a q e keys v pairs = walk_light (before ++ guarantee l ∷ []) cs ms ns ws
      (no_parts (contract_statement_faults (scope_at before) (guarantee l)) _ h).1 a.1 q e keys (covers_plain p before (guarantee l) ms refl refl v) pairs
  walk_light before (ghost_variable x d ∷ cs) ms ns ws h a q e keys v pairs = walk_light (before ++ ghost_variable x d ∷ []) cs ms ns ws
      (no_parts (contract_statement_faults (scope_at before) (ghost_variable x d)) _ h).1 a.1 q e keys
      (covers_plain p before (ghost_variable x d) ms refl refl v) pairs
  walk_light before (constant x ∷ cs) ms ns ws h a q e keys v pairs = walk_light (before ++ constant x ∷ []) cs ms ns ws
      (no_parts (contract_statement_faults (scope_at before) (constant x)) _ h).1 a.1 q e keys (covers_plain p before (constant x) ms refl refl v) pairs
  walk_light before (mode x rs es ∷ cs) ms ns ws h a q e keys v pairs =
      let z = no_parts (contract_statement_faults (scope_at before) (mode x rs es)) _ h in
      let w : Weighed before ms ns ws = record {
        extended = subst (λ r. Longer r ws) (sym e) (longer sub_needs ws (mode x rs es ∷ cs));
        keys = keys;
        covers = v;
        pairs = pairs;
      } in
      let here_placed : AllByRecursion EachPlaced (on_base rs ++ on_base es) = left_part EachPlaced (on_base rs ++ on_base es)
      (flat_map contract_statement_texts cs) a in
      let light : AllLight weigh (label_heft ws rs) (asked_needs i ns rs) = (
        tt,
        labels_light before ms ns ws w rs
            (no_parts (flags_of (scope_at before) rs) (flags_of (scope_at before) es) z.0).0 (left_part EachPlaced (on_base rs) (on_base es) here_placed),
      ) in
      let t : ModeTerms = mode_terms i ms x.text rs es in
      let y : Key × ℕ = (([], x.text), label_heft ws rs) in
      walk_light (before ++ mode x rs es ∷ []) cs (ms ++ t ∷ []) (ns ++ (([], x.text), asked_needs i ns rs) ∷ []) (ws ++ y ∷ []) z.1
      (right_part EachPlaced (on_base rs ++ on_base es) (flat_map contract_statement_texts cs) a) q e
      (map_append (λ m. m.key) ms (t ∷ []) ∙ ap (λ r. r ++ ([], x.text) ∷ []) keys ∙ sym (map_append (λ r. r.0) ws (y ∷ [])))
      (covers_more p before (mode x rs es) (ms ++ t ∷ []) (covers_imports p (mode_names before ++ x.text ∷ []) (import_names before) (ms ++ t ∷ [])
      (covers_mode p (mode_names before) (import_names before) ms x.text t v (mode_named i ms x.text rs es))))
      (pairs_joined weigh ns ((([], x.text), asked_needs i ns rs) ∷ []) ws (y ∷ []) pairs (refl, light, tt))
  walk_light before («import» j x as_ xs ∷ cs) ms ns ws h a q e keys v pairs =
      let z = no_parts (contract_statement_faults (scope_at before) («import» j x as_ xs)) _ h in
      let w : Weighed before ms ns ws = record {
        extended = subst (λ r. Longer r ws) (sym e) (longer sub_needs ws («import» j x as_ xs ∷ cs));
        keys = keys;
        covers = v;
        pairs = pairs;
      } in
      let b : ℕ = suc (heft_all ws as_) in
      let heavy : weigh (pred j) ≡ suc (heft_all all as_) = weighed _ (contract_named p x.text) q.0 in
      let same : heft_all ws as_ ≡ heft_all all as_ = same_all before ms ns ws w as_
      (no_parts (flat_map (expression_faults (scope_at before) (on_clock base)) as_) _ z.0).0 in
      let light : weigh (pred j) ≤ b = omega arith in
      let more_terms : List ModeTerms = map (imported_mode j x.text) (sub_terms j).modes in
      let more_weights : Weights = map (imported_weight x.text b) (sub_needs j) in
      let texts_here : List Text = map (λ r. (on_clock base, r)) as_ in
      walk_light (before ++ «import» j x as_ xs ∷ []) cs (ms ++ more_terms) (ns ++ map (imported_needs (pred j) x.text) (sub_needs j)) (ws ++
      more_weights) z.1
      (right_part EachPlaced texts_here (flat_map contract_statement_texts cs) a) q.1 e
      (map_append (λ m. m.key) ms more_terms ∙ rw (keys, imported_keys j x.text b (sub_terms j).modes (sub_needs j) (sub_keys j)) refl
      ∙ sym (map_append (λ r. r.0) ws more_weights))
      (covers_more p before («import» j x as_ xs) (ms ++ more_terms) (covers_names p (mode_names before) (import_names before ++ x.text ∷ []) (ms ++
      more_terms)
      (covers_import p (mode_names before) (import_names before) ms more_terms x.text v
      (λ u o. imported_named j x.text u (sub_terms j).modes (sub_named _ (contract_named p x.text) q.0 u o)))))
      (pairs_joined weigh ns (map (imported_needs (pred j) x.text) (sub_needs j)) ws more_weights pairs (imported_light weigh b (pred j) x.text light
      (sub_needs j)))

  -- ---- what a call needs of its caller

  -- with the modes of the whole contract
  module _ (ns : ModeNeeds) (pairs : PairsLight weigh ns all) where
    light_at : (t : Standing) (e : Expression) → CallsPlaced (occurs t e) → LightIn weigh ns all e
    light_at t (call q j g as_) a = weighed _ (node_named p g.text) a.0
    light_at t (condact q j c g as_ ds) a = weighed _ (node_named p g.text) a.0
    light_at t (mode_name q d x) a = pair_light weigh ns all pairs (option_to_list (option_map text_of d), x.text)
    light_at t _ a = tt

    abbrev HasLightNeeds : Expression → Type 0
    HasLightNeeds e = (c : Clock) → AllLight weigh (heft all e) (needs i ns c e)

    has_light : (t : Standing) (e : Expression) → EachPlaced (t, e) → HasLightNeeds e
    has_light t e a c = light_needs weigh ns all i e t c (each_from CallsPlaced (LightPart weigh ns all) (λ o q. light_at o.standing o.expression q)
        here t e a)

    each_light : (t : Standing) (as_ : Expressions) → EachAmong CallsPlaced here t as_ → AllByRecursion HasLightNeeds (listed as_)
    each_light t no_more a = tt
    each_light t (more e as_) a = (has_light t e a.0, each_light t as_ a.1)

    abbrev ConditionLight : Manner → Type 0
    ConditionLight (while_true a) = HasLightNeeds a
    ConditionLight plain = Unit {0}
    ConditionLight (as_import xs) = Unit {0}

    pub record SiteLight (d : Site) : Type 0 where
      arguments : AllByRecursion HasLightNeeds d.arguments
      condition : ConditionLight d.manner

    site_light : (t : Standing) (e : Expression) → EachPlaced (t, e) → AllByRecursion SiteLight (site_in t e)
    site_light t (call q j g as_) a = (record { arguments = each_light (within t) as_ a.1; condition = tt }, tt)
    site_light t (condact q j c g as_ ds) a = (record { arguments = each_light (within t) as_ a.2; condition = has_light (within t) c a.1 }, tt)
    site_light t (truth q b) a = tt
    site_light t (number q b) a = tt
    site_light t (name q b) a = tt
    site_light t (negation q b) a = tt
    site_light t (minus q b) a = tt
    site_light t (pre q j b) a = tt
    site_light t (arrow q j b c) a = tt
    site_light t (binary q j b c) a = tt
    site_light t (choice q b c d) a = tt
    site_light t (sampled q b c d) a = tt
    site_light t (merged q b c d) a = tt
    site_light t (mode_name q b c) a = tt

    listed_light : (as_ : List Expression) → AllByRecursion EachPlaced (map (λ e. (on_clock base, e)) as_) → AllByRecursion HasLightNeeds as_
    listed_light [] a = tt
    listed_light (e ∷ as_) a = (has_light (on_clock base) e a.0, listed_light as_ a.1)

    imports_light : (cs : List ContractStatement) → AllByRecursion EachPlaced (flat_map contract_statement_texts cs) → AllByRecursion SiteLight
        (flat_map import_site cs)
    imports_light [] a = tt
    imports_light (assume l ∷ cs) a = imports_light cs a.1
    imports_light (guarantee l ∷ cs) a = imports_light cs a.1
    imports_light (ghost_variable x e ∷ cs) a = imports_light cs a.1
    imports_light (constant x ∷ cs) a = imports_light cs a.1
    imports_light (mode x rs es ∷ cs) a = imports_light cs (right_part EachPlaced (on_base rs ++ on_base es) (flat_map contract_statement_texts cs) a)
    imports_light («import» j x as_ xs ∷ cs) a =
        let texts_here : List Text = map (λ e. (on_clock base, e)) as_ in (
          record { arguments = listed_light as_ (left_part EachPlaced texts_here (flat_map contract_statement_texts cs) a); condition = tt },
          imports_light cs (right_part EachPlaced texts_here (flat_map contract_statement_texts cs) a),
        )

    pub sites_light : AllByRecursion EachPlaced (texts (component_of i)) → AllByRecursion SiteLight (all_sites (component_of i))
    sites_light a =
        let wholes : AllByRecursion (Whole CallsPlaced here) (all_occurrences here) = all_flat (Whole CallsPlaced here) (λ x. occurrences here x.0 x.1)
        (texts here) (all_from EachPlaced (λ x. AllByRecursion (Whole CallsPlaced here) (occurrences here x.0 x.1))
        (λ x q. all_parts (Whole CallsPlaced here) here x.0 x.1 (nested CallsPlaced here x.0 x.1 q)) (texts here) a) in
        let calls : AllByRecursion SiteLight (gathered site_in here) = all_flat SiteLight (λ o. site_in o.standing o.expression) (all_occurrences here)
        (all_from (Whole CallsPlaced here) (λ o. AllByRecursion SiteLight (site_in o.standing o.expression))
        (λ o q. site_light o.standing o.expression q) (all_occurrences here) wholes) in
        in_order_all (λ d. d.number) SiteLight (gathered site_in here ++ flat_map import_site (contract_statements here))
        (both_parts SiteLight (gathered site_in here) (flat_map import_site (contract_statements here)) calls
        (imports_light (contract_statements here) (left_part EachPlaced (flat_map contract_statement_texts (contract_statements here)) _ a)))

    -- ---- of a caller

    shared_light : (b : ℕ) (x : Name) (ys xs : List Name) → AllLight weigh b (matching (λ y. a_name [] y ∷ []) x ys xs)
    shared_light b x [] xs = tt
    shared_light b x (y ∷ ys) [] = tt
    shared_light b x (y ∷ ys) (z ∷ xs) = both_parts (Light weigh b) (cond (bytes_eq x y) (a_name [] z ∷ []) []) (matching (λ y. a_name [] y ∷ []) x ys xs)
        (one (bytes_eq x y)) (shared_light b x ys xs)
      where
        one : (c : Bool) → AllLight weigh b (cond c (a_name [] z ∷ []) [])
        one true = (tt, tt)
        one false = tt

    by_manner : (b : ℕ) (m : Manner) (x : Name) (ys : List Name) → AllLight weigh b (shared_needs m x ys)
    by_manner b (as_import xs) x ys = shared_light b x ys xs
    by_manner b plain x ys = tt
    by_manner b (while_true a) x ys = tt

    condition_light : (d : Site) (m : Manner) (b : ℕ) → ConditionLight m → AllLight weigh (with_condition all m b) (site_needs i ns d m)
    condition_light d plain b h = clock_light weigh b d.clock
    condition_light d (as_import xs) b h = clock_light weigh b d.clock
    condition_light d (while_true a) b h = lighter weigh (heft all a) (heft all a + b) (omega arith) (site_needs i ns d (while_true a))
        (behind_clock weigh (heft all a) d.clock (needs i ns d.clock a) (h d.clock))

    under_condition : (m : Manner) (b : ℕ) → b ≤ with_condition all m b
    under_condition plain b = omega arith
    under_condition (while_true a) b = omega arith
    under_condition (as_import xs) b = omega arith

    matching_light : (d : Site) (b : ℕ) (x : Name) (ys : List Name) (as_ : List Expression) → AllByRecursion HasLightNeeds as_ → heft_all all as_ ≤ b
        → AllLight weigh b (site_needs i ns d d.manner) → AllLight weigh b (matching (λ a. site_needs i ns d d.manner ++ needs i ns d.clock a) x ys as_)
    matching_light d b x [] as_ h l s = tt
    matching_light d b x (y ∷ ys) [] h l s = tt
    matching_light d b x (y ∷ ys) (a ∷ as_) h l s =
        both_parts (Light weigh b) (cond (bytes_eq x y) (site_needs i ns d d.manner ++ needs i ns d.clock a) [])
        (matching (λ a. site_needs i ns d d.manner ++ needs i ns d.clock a) x ys as_) (one (bytes_eq x y))
        (matching_light d b x ys as_ h.1 (omega arith) s)
      where
        one : (c : Bool) → AllLight weigh b (cond c (site_needs i ns d d.manner ++ needs i ns d.clock a) [])
        one true = both_parts (Light weigh b) (site_needs i ns d d.manner) (needs i ns d.clock a) s
            (lighter weigh (heft all a) b (omega arith) (needs i ns d.clock a) (h.0 d.clock))
        one false = tt

    -- what a call's frame needs of other calls is of calls of less weight
    pub caller_light : (d : Site) → SiteLight d → (m : Instance) → ns ≡ modes_need i → (x : Option Name) → AllLight weigh
        (with_condition all d.manner (heft_all all d.arguments)) (caller_needs i d m x)
    caller_light d h m e None = subst (λ q. AllLight weigh (with_condition all d.manner (heft_all all d.arguments)) (site_needs i q d d.manner)) e
        (condition_light d d.manner (heft_all all d.arguments) h.condition)
    caller_light d h m e (Some x) =
        let b : ℕ = with_condition all d.manner (heft_all all d.arguments) in
        both_parts (Light weigh b) (matching (λ a. site_needs i (modes_need i) d d.manner ++ needs i (modes_need i) d.clock a) x (inputs_of m) d.arguments)
        (shared_needs d.manner x (outputs_of m))
        (subst (λ q. AllLight weigh b (matching (λ a. site_needs i q d d.manner ++ needs i q d.clock a) x (inputs_of m) d.arguments)) e
        (matching_light d b x (inputs_of m) d.arguments h.arguments (under_condition d.manner (heft_all all d.arguments))
        (condition_light d d.manner (heft_all all d.arguments) h.condition)))
        (by_manner b d.manner x (outputs_of m))
