-- The items of a contract in turn, in a frame whose names are on their clocks: their expressions have their values
-- exactly on their clocks, and what each says has a truth value exactly where the frame is active.
use Rattle.std.proofs.Common.{option_map, ◌≡◌, ℕ, ◌<◌, Bool, true, false, not, ◌&&◌, ◌||◌, List, [], ◌∷◌, ◌++◌, map, flat_map, refl, sym, ap, ◌∙◌, subst, append_assoc, Option, Some}
use Rattle.std.specs.Prelude.{Contains, option_to_list}
use Rattle.std.specs.List.{AllByRecursion}
use Rattle.std.specs.Map.{lookup}
use Rattle.std.proofs.Math.Path.{fun_ext}
use Rattle.std.proofs.lemmas.Bool.{false≢true}
use Rattle.lus_tree.specs.declared.expression.Operator.TheVariants.{Implies}
use Rattle.lus_tree.specs.declared.place.Sort.TheVariants.{Bool as Flags}
use Rattle.lus_tree.specs.Tree.{Name, Spelled, text_of, Expression, truth, number, name, negation, minus, pre, arrow, binary, choice, sampled, merged, call, condact, mode_name, Labelled, ContractStatement, assume, guarantee, ghost_variable, constant, mode, «import», Component, Program}
use Rattle.lus_tree.specs.Reason.{type_clash, mode_unknown}
use Rattle.lus_meaning.specs.Value.{Value, absent, flag, whole, Instants, apply}
use Rattle.lus_meaning.specs.Frame.{Frame, call_frame}
use Rattle.lus_meaning.specs.Scene.{base, Site, Instance, Scene, component_of, call_instance}
use Rattle.lus_meaning.specs.Meaning.{mode_key, head_stream, value}
use Rattle.lus_meaning.specs.Contract.{ensured, Property, ModeTerms, Terms, terms, terms_after, mode_streams, mode_terms, imported, imported_mode, says, item, under, scene, scene_with}
use Rattle.lus_meaning.specs.Program.{import_site, instance_of}
use Rattle.lus_meaning.specs.Run.{is_typed, sort_of, active}
use Rattle.lus_meaning.specs.Occurrences.{Standing, on_clock, as_side, Occurrence, occurs, occurrences, on_base, Text, contract_statement_texts, begin}
use Rattle.lus_meaning.specs.Scope.{Scope, type_of, contract_named, mode_names, import_names, contract_statement_scope}
use Rattle.lus_meaning.specs.Faults.{differ}
use Rattle.lus_meaning.specs.ExpressionFaults.{expression_faults, part_faults, form_faults, weight_faults, flag_faults, needs_sort, not_allowed, sides_fit, has_mode, mode_is_known}
use Rattle.lus_meaning.specs.NameFaults.{home, flags_of, contract_statement_faults, contract_faults}
use Rattle.lus_meaning.specs.ClockFaults.{clock_faults_of, all_on_base, contract_statement_clock_faults}
use Rattle.lus_meaning.proofs.EachPart.{Each, each_part}
use Rattle.lus_meaning.proofs.Lists.{both_parts, append_none}
use Rattle.lus_meaning.proofs.NamesOnce.{no_parts, not_so}
use Rattle.lus_meaning.proofs.Now.{left_part, right_part}
use Rattle.lus_meaning.proofs.RulesFit.{none_mapped}
use Rattle.lus_meaning.proofs.Typed.{flags_has}
use Rattle.rule_laws.specs.Laws.{placed, HasItsPlace}
use Rattle.rule_laws.proofs.Known.{contract_statement_shows}
use Rattle.rule_laws.proofs.Worths.{same_sorts}
use Rattle.clock_laws.specs.Laws.{IsClockedTree, IsOnClocks, HasItsValue, IsContractSaid}
use Rattle.clock_laws.proofs.Contracts.{side_top, CoversAll, known_key, covers_more, covers_plain, covers_mode, covers_import, covers_names, covers_imports, Extends, extends}
use Rattle.clock_laws.proofs.Fixed.{constant_clocks}
use Rattle.clock_laws.proofs.Modes.{has_key, ModesHave, found_mode, found_before, SaysHave, mode_has, mode_named, imported_have, imported_named}
use Rattle.clock_laws.proofs.Parts.{each_from}
use Rattle.clock_laws.proofs.SameModes.{SameMode, SameModeIn, value_same}
use Rattle.clock_laws.proofs.Texts.{TopFits, IsCleanIn, IsNumberedIn, ModesOn, constant_apart, text_sort, text_on, call_on}

-- what holds of all parts holds of the whole
pub at_whole : (P : Occurrence → Type 0) (n : Component) (s : Standing) (e : Expression) → Each P n s e → P (occurs s e)
at_whole P n s (truth p b) a = a
at_whole P n s (number p b) a = a
at_whole P n s (name p b) a = a
at_whole P n s (negation p b) a = a.0
at_whole P n s (minus p b) a = a.0
at_whole P n s (pre p k b) a = a.0
at_whole P n s (arrow p k b c) a = a.0
at_whole P n s (binary p k b c) a = a.0
at_whole P n s (choice p b c d) a = a.0
at_whole P n s (sampled p b c d) a = a.0
at_whole P n s (merged p b c d) a = a.0
at_whole P n s (call p k f as_) a = a.0
at_whole P n s (condact p k b f as_ ds) a = a.0
at_whole P n s (mode_name p b c) a = a

-- what the item says has a truth value exactly where the frame is active
abbrev pub PropertyHas : ℕ → Instants → Frame → Property → Type 0
PropertyHas m b f q = (t : ℕ) → t < m → is_typed Flags (b t) (q.test b f t) ≡ true

abbrev pub EnsuresHave : ℕ → Instants → Frame → List ModeTerms → Type 0
EnsuresHave m b f ms = AllByRecursion (λ x. AllByRecursion (PropertyHas m b f) x.ensures_each) ms

implied_has : (on : Bool) (v w : Value) → is_typed Flags on v ≡ true → is_typed Flags on w ≡ true → is_typed Flags on (apply Implies v w) ≡ true
implied_has true v w h g = flags_has (λ a c. not a || c) v w h g
implied_has false absent w h g = refl
implied_has false (flag a) w h g = absurd (false≢true h)
implied_has false (whole a) w h g = absurd (false≢true h)

ensures_has : (i : Instance) (ms : List ModeTerms) (m : ℕ) (b : Instants) (f : Frame) (x : Name) (rs es : List Labelled) → ModesHave m b f
    (mode_terms i ms x rs es ∷ []) → (ls : List Labelled) → AllByRecursion (SaysHave i ms m b f) ls → AllByRecursion (PropertyHas m b f)
    (map (λ l. under (mode_terms i ms x rs es).requires_all (item i ms (ensured x) l)) ls)
ensures_has i ms m b f x rs es h [] a = tt
ensures_has i ms m b f x rs es h (l ∷ ls) a = (
  (λ t q. implied_has (b t) ((mode_terms i ms x rs es).requires_all b f t) (says i ms l b f t) (h.0 t q) (a.0 t q)),
  ensures_has i ms m b f x rs es
      h ls a.1,
)

imported_properties : (m : ℕ) (b : Instants) (f : Frame) (k : ℕ) (qs : List Property) → AllByRecursion (PropertyHas m b (call_frame f k)) qs
    → AllByRecursion (PropertyHas m b f) (map (imported k) qs)
imported_properties m b f k [] a = tt
imported_properties m b f k (q ∷ qs) a = (a.0, imported_properties m b f k qs a.1)

imported_ensures : (m : ℕ) (b : Instants) (f : Frame) (k : ℕ) (c : Name) (ms : List ModeTerms) → EnsuresHave m b (call_frame f k) ms → EnsuresHave m b f
    (map (imported_mode k c) ms)
imported_ensures m b f k c [] a = tt
imported_ensures m b f k c (x ∷ ms) a = (imported_properties m b f k x.ensures_each a.0, imported_ensures m b f k c ms a.1)

pub and_true : (q : Bool) → (q && true) ≡ q
and_true true = refl
and_true false = refl

module _ (p : Program) (c : IsClockedTree p) (k : ℕ) (i : Instance) (placed_here : Contains (placed 0 p) (k, component_of i)) (same : i ≡ instance_of p
    (component_of i))
    (m : ℕ) (b : Instants) (f : Frame) (on : IsOnClocks i m b f) where
  abbrev here : Component
  here = component_of i

  abbrev full : Scene
  full = scene i b f

  abbrev scene_over : List ModeTerms → Scene
  scene_over ms = scene_with i ms b f

  abbrev all : List ModeTerms
  all = (terms i).modes

  abbrev pub EachHas : Text → Type 0
  EachHas x = Each (λ o. (u : ℕ) → u < m → HasItsValue i b f u o) (component_of i) x.0 x.1

  abbrev pub EachNumbered : Text → Type 0
  EachNumbered x = Each (IsNumberedIn p i f) (component_of i) x.0 x.1

  -- the modes behind which a statement stands
  pub record Known (before : List ContractStatement) (ms : List ModeTerms) : Type 0 where
    pub extended : Extends (terms i).modes ms
    pub have : ModesHave m b f ms
    pub ensures_each : EnsuresHave m b f ms
    pub covers : CoversAll p before ms

  module _ (before : List ContractStatement) (ms : List ModeTerms) (known : Known before ms) (sc : Scope) (program : sc.program ≡ p)
      (modes : sc.modes ≡ mode_names before) (imports : sc.imports ≡ import_names before) where
    same_found : (d : Option Spelled) (x : Spelled) → mode_is_known sc d x ≡ true → lookup (mode_key (option_to_list (option_map text_of d), x.text))
        (mode_streams ms b f) ≡ lookup (mode_key (option_to_list (option_map text_of d), x.text)) (mode_streams all b f)
    same_found d x e =
        let key : List Name × Name = (option_to_list (option_map text_of d), x.text) in
        let there : has_key key ms ≡ true = known_key p (mode_names before) (import_names before) ms known.covers sc program modes imports d x e in
        sym (ap (λ q. lookup (mode_key key) (mode_streams q b f)) known.extended.is ∙ found_before b f key ms known.extended.rest there)

    pub modes_on : ModesOn (scene i b f) m sc
    modes_on d x e t l =
        let key : List Name × Name = (option_to_list (option_map text_of d), x.text) in
        let there : has_key key ms ≡ true = known_key p (mode_names before) (import_names before) ms known.covers sc program modes imports d x e in
        subst (λ o. is_typed Flags (b t) (head_stream (option_to_list o) t) ≡ true) (same_found d x e) (found_mode m b f key ms there known.have t l)

    same_mode : (t : Standing) (e : Expression) → part_faults sc (occurs t e) ≡ [] → SameModeIn i f b (mode_streams ms b f) (mode_streams all b f) e
    same_mode t (mode_name q d x) h = λ u. ap (λ o. head_stream (option_to_list o) u) (same_found d x (not_false (mode_is_known sc d x)
        (not_so (not (mode_is_known sc d x)) mode_unknown x.at
        (no_parts (form_faults sc t.whole_side (mode_name q d x)) (weight_faults sc (mode_name q d x)) h).0)))
      where
        not_false : (a : Bool) → not a ≡ false → a ≡ true
        not_false true e = refl
        not_false false e = absurd (false≢true (sym e))
    same_mode t _ h = tt

    -- ---- an expression of a statement

    abbrev Clean : Standing → Expression → Type 0
    Clean t e = IsCleanIn p (k, component_of i) sc t e

    abbrev Numbered : Standing → Expression → Type 0
    Numbered t e = EachNumbered (t, e)

    pub clean_has : (t : Standing) (e : Expression) → IsCleanIn p (k, component_of i) sc t e → EachNumbered (t, e) → EachHas (t, e)
    clean_has t e h num = text_on p c k i placed_here same m b f on sc t e h modes_on num

    same_value : (e : Expression) → Clean (on_clock base) e → (t : ℕ) → value (scene_over ms) base e t ≡ value (scene i b f) base e t
    same_value e h t = value_same i f b (mode_streams ms b f) (mode_streams all b f) e (on_clock base) modes_same t
      where
        modes_same : Each (SameMode i f b (mode_streams ms b f) (mode_streams all b f)) (component_of i) (on_clock base) e
        modes_same = each_from (λ o. part_faults sc o ≡ []) (SameMode i f b (mode_streams ms b f) (mode_streams all b f))
            (λ o q. same_mode o.standing o.expression q) (component_of i) (on_clock base) e
            (each_part (λ o. part_faults sc o ≡ []) (component_of i) (on_clock base) e (none_mapped (part_faults sc)
            (occurrences (component_of i) (on_clock base) e) (subst (λ n. flat_map (part_faults sc) (occurrences n (on_clock base) e) ≡ []) h.owner h.types)))

    -- a truth value, of which the modes before it are known
    pub flag_has : (l : Labelled) → needs_sort sc Flags l.value ≡ [] → IsCleanIn p (k, component_of i) sc (on_clock base) l.value
        → EachNumbered (on_clock base, l.value) → SaysHave i ms m b f l
    flag_has l q h num t u =
        let sort : Flags ≡ sort_of i l.value = same_sorts Flags (sort_of i l.value) (subst (λ r. differ (Some Flags) r ≡ false)
        (text_sort p c k i placed_here same m b f on sc (on_clock base) l.value h modes_on num refl)
        (not_so (differ (Some Flags) (type_of sc l.value)) type_clash (begin l.value) q)) in
        let there : is_typed (sort_of i l.value) (b t) (value (scene i b f) base l.value t) ≡ true = at_whole
        (λ o. (u : ℕ) → u < m → HasItsValue i b f u o) (component_of i) (on_clock base) l.value (clean_has (on_clock base) l.value h num) t u in
        subst (λ v. is_typed Flags (b t) v ≡ true) (sym (same_value l.value h t))
        (subst (λ r. is_typed r (b t) (value (scene i b f) base l.value t) ≡ true) (sym sort) there)

  -- ---- statements

  module _ (sub : ℕ → Terms)
      (sub_have : (d : Site) (named : Option Component) → HasItsPlace i named d → IsOnClocks (call_instance i d.number) m b (call_frame f d.number)
      → IsContractSaid m b (call_frame f d.number) (sub d.number))
      (sub_named : (d : Site) (named : Option Component) → HasItsPlace i named d → (x : Name) → has_mode x named ≡ true → has_key ([], x)
      (sub d.number).modes ≡ true) where
    abbrev scope_at : List ContractStatement → Scope
    scope_at before = contract_statement_scope (home p k (component_of i)) before

    clean_at : (before : List ContractStatement) (t : Standing) (e : Expression) → expression_faults (scope_at before) t e ≡ [] → clock_faults_of
        (component_of i) t.clock e ≡ [] → (t.whole_side ≡ true → TopFits p e) → IsCleanIn p (k, component_of i) (scope_at before) t e
    clean_at before t e h g w = record {
      program = refl;
      owner = refl;
      shows = contract_statement_shows p (k, component_of i) before;
      types = h;
      clocks = g;
      top = w;
    }

    clean_base : (before : List ContractStatement) (e : Expression) → expression_faults (scope_at before) (on_clock base) e ≡ [] → clock_faults_of
        (component_of i) base e ≡ [] → IsCleanIn p (k, component_of i) (scope_at before) (on_clock base) e
    clean_base before e h g = clean_at before (on_clock base) e h g (λ w. absurd (false≢true w))

    -- one label's expression
    record LabelRight (ms : List ModeTerms) (l : Labelled) : Type 0 where
      has : EachHas (on_clock base, l.value)
      says_has : SaysHave i ms m b f l

    label_right : (before : List ContractStatement) (ms : List ModeTerms) → Known before ms → (l : Labelled) → flag_faults (scope_at before) l.value ≡ []
        → clock_faults_of (component_of i) base l.value ≡ [] → EachNumbered (on_clock base, l.value) → LabelRight ms l
    label_right before ms w l h g num =
        let q : (needs_sort (scope_at before) Flags l.value ≡ []) × (expression_faults (scope_at before) (on_clock base) l.value ≡ []) =
        no_parts (needs_sort (scope_at before) Flags l.value) (expression_faults (scope_at before) (on_clock base) l.value) h in
        let clean : IsCleanIn p (k, component_of i) (scope_at before) (on_clock base) l.value = clean_base before l.value q.1 g in
        record {
          has = clean_has before ms w (scope_at before) refl refl refl (on_clock base) l.value clean num;
          says_has = flag_has before ms w (scope_at before) refl refl refl l q.0 clean num;
        }

    labels_right : (before : List ContractStatement) (ms : List ModeTerms) → Known before ms → (ls : List Labelled) → flags_of (scope_at before) ls ≡ []
        → all_on_base (component_of i) ls ≡ [] → AllByRecursion EachNumbered (on_base ls) → AllByRecursion (LabelRight ms) ls
    labels_right before ms w [] h g num = tt
    labels_right before ms w (l ∷ ls) h g num = (
      label_right before ms w l (no_parts (flag_faults (scope_at before) l.value) (flags_of (scope_at before) ls) h).0
          (no_parts (clock_faults_of (component_of i) base l.value) (all_on_base (component_of i) ls) g).0 num.0,
      labels_right before ms w ls (no_parts (flag_faults (scope_at before) l.value) (flags_of (scope_at before) ls) h).1
          (no_parts (clock_faults_of (component_of i) base l.value) (all_on_base (component_of i) ls) g).1 num.1,
    )

    labels_have : (ms : List ModeTerms) (ls : List Labelled) → AllByRecursion (LabelRight ms) ls → AllByRecursion EachHas (on_base ls)
    labels_have ms [] a = tt
    labels_have ms (l ∷ ls) a = (a.0.has, labels_have ms ls a.1)

    labels_say : (ms : List ModeTerms) (ls : List Labelled) → AllByRecursion (LabelRight ms) ls → AllByRecursion (SaysHave i ms m b f) ls
    labels_say ms [] a = tt
    labels_say ms (l ∷ ls) a = (a.0.says_has, labels_say ms ls a.1)

    arguments_have : (before : List ContractStatement) (ms : List ModeTerms) → Known before ms → (as_ : List Expression) → flat_map
        (expression_faults (scope_at before) (on_clock base)) as_ ≡ [] → flat_map (clock_faults_of (component_of i) base) as_ ≡ [] → AllByRecursion
        EachNumbered (map (λ a. (on_clock base, a)) as_) → AllByRecursion EachHas (map (λ a. (on_clock base, a)) as_)
    arguments_have before ms w [] h g num = tt
    arguments_have before ms w (a ∷ as_) h g num = (
      clean_has before ms w (scope_at before) refl refl refl (on_clock base) a
          (clean_base before a (no_parts (expression_faults (scope_at before) (on_clock base) a) _ h).0
          (no_parts (clock_faults_of (component_of i) base a) _ g).0) num.0,
      arguments_have before ms w as_ (no_parts (expression_faults (scope_at before) (on_clock base) a) _ h).1
          (no_parts (clock_faults_of (component_of i) base a) _ g).1 num.1,
    )

    -- an import is active where the frame is
    import_on : (d : Site) (named : Option Component) → ((t : ℕ) → active (scene i b f) d t ≡ b t) → HasItsPlace i named d
        → IsOnClocks (call_instance i d.number) m b (call_frame f d.number)
    import_on d named e h = subst (λ q. IsOnClocks (call_instance i d.number) m q (call_frame f d.number)) (fun_ext e) (call_on i m b f on named d h)

    -- ---- all statements

    pub record Walked (before cs : List ContractStatement) (ms : List ModeTerms) : Type 0 where
      pub known : Known (before ++ cs) (terms i).modes
      pub texts : AllByRecursion EachHas (flat_map contract_statement_texts cs)
      pub assumes : AllByRecursion (PropertyHas m b f) (terms_after i sub ms cs).assumes
      pub guarantees : AllByRecursion (PropertyHas m b f) (terms_after i sub ms cs).guarantees

    abbrev ImportPlaced : Site → Type 0
    ImportPlaced d = HasItsPlace i (contract_named p d.callee) d

    -- the statement's texts, and all behind it
    next : (before cs : List ContractStatement) (c : ContractStatement) (ms more : List ModeTerms) → AllByRecursion EachHas (contract_statement_texts c)
        → Walked (before ++ c ∷ []) cs more → Known (before ++ c ∷ cs) (terms i).modes × AllByRecursion EachHas (flat_map contract_statement_texts (c ∷ cs))
    next before cs c ms more a r = (
      subst (λ xs. Known xs (terms i).modes) (append_assoc before (c ∷ []) cs) r.known,
      both_parts EachHas (contract_statement_texts c) (flat_map contract_statement_texts cs) a r.texts,
    )

    known_more : (before cs : List ContractStatement) (c : ContractStatement) (ms more : List ModeTerms) → Known before ms → (terms i).modes ≡
        (terms_after i sub (ms ++ more) cs).modes → ModesHave m b f more → EnsuresHave m b f more → CoversAll p (before ++ c ∷ []) (ms ++ more) → Known
        (before ++ c ∷ []) (ms ++ more)
    known_more before cs c ms more w e h n v = record {
      extended = subst (λ xs. Extends xs (ms ++ more)) (sym e) (extends i sub (ms ++ more) cs);
      have = both_parts _ ms more w.have h;
      ensures_each = both_parts _ ms more w.ensures_each n;
      covers = v;
    }

    known_plain : (before : List ContractStatement) (c : ContractStatement) (ms : List ModeTerms) → Known before ms → mode_names (c ∷ []) ≡ []
        → import_names (c ∷ []) ≡ [] → Known (before ++ c ∷ []) ms
    known_plain before c ms w e g = record {
      extended = w.extended;
      have = w.have;
      ensures_each = w.ensures_each;
      covers = covers_plain p before c ms e g w.covers;
    }

    abbrev Faultless : List ContractStatement → List ContractStatement → Type 0
    Faultless before cs = contract_faults (home p k (component_of i)) before cs ≡ []

    abbrev Clocked : List ContractStatement → Type 0
    Clocked cs = flat_map (contract_statement_clock_faults (component_of i)) cs ≡ []

    pub walk : (before cs : List ContractStatement) (ms : List ModeTerms) → contract_faults (home p k (component_of i)) before cs ≡ []
        → flat_map (contract_statement_clock_faults (component_of i)) cs ≡ [] → AllByRecursion EachNumbered (flat_map contract_statement_texts cs)
        → AllByRecursion (λ d. HasItsPlace i (contract_named p d.callee) d) (flat_map import_site cs) → (terms i).modes ≡ (terms_after i sub ms cs).modes
        → Known before ms → Walked before cs ms
    walk before [] ms h g num q e w = record {
      known = subst (λ xs. Known xs (terms i).modes) (sym (append_none before)) (subst (λ ys. Known before ys) (sym e) w);
      texts = tt;
      assumes = tt;
      guarantees = tt;
    }
    walk before (assume l ∷ cs) ms h g num q e w =
        let s : LabelRight ms l = label_right before ms w l (no_parts (contract_statement_faults (scope_at before) (assume l)) _ h).0
        (no_parts (contract_statement_clock_faults (component_of i) (assume l)) _ g).0 num.0 in
        let r : Walked (before ++ assume l ∷ []) cs ms = walk (before ++ assume l ∷ []) cs ms
        (no_parts (contract_statement_faults (scope_at before) (assume l)) _ h).1 (no_parts (contract_statement_clock_faults (component_of i) (assume
        l)) _ g).1
        num.1 q e (known_plain before (assume l) ms w refl refl) in
        let n = next before cs (assume l) ms ms (s.has, tt) r in
        record { known = n.0; texts = n.1; assumes = (s.says_has, r.assumes); guarantees = r.guarantees }
    walk before (guarantee l ∷ cs) ms h g num q e w =
        let s : LabelRight ms l = label_right before ms w l (no_parts (contract_statement_faults (scope_at before) (guarantee l)) _ h).0
        (no_parts (contract_statement_clock_faults (component_of i) (guarantee l)) _ g).0 num.0 in
        let r : Walked (before ++ guarantee l ∷ []) cs ms = walk (before ++ guarantee l ∷ []) cs ms
        (no_parts (contract_statement_faults (scope_at before) (guarantee l)) _ h).1
        (no_parts (contract_statement_clock_faults (component_of i) (guarantee l)) _ g).1
        num.1 q e (known_plain before (guarantee l) ms w refl refl) in
        let n = next before cs (guarantee l) ms ms (s.has, tt) r in
        record { known = n.0; texts = n.1; assumes = r.assumes; guarantees = (s.says_has, r.guarantees) }
    walk before (ghost_variable v x ∷ cs) ms h g num q e w =
        let z = no_parts (contract_statement_faults (scope_at before) (ghost_variable v x)) _ h in
        let y = no_parts (contract_statement_clock_faults (component_of i) (ghost_variable v x)) _ g in
        let two = no_parts _ (expression_faults (scope_at before) (as_side base) x) z.0 in
        let a : EachHas (as_side base, x) = clean_has before ms w (scope_at before) refl refl refl (as_side base) x
        (clean_at before (as_side base) x two.1 y.0 (λ _. side_top (scope_at before) v.name [] x (no_parts _ (sides_fit (scope_at before) (v.name ∷ [])
        x) two.0).1))
        num.0 in
        let r : Walked (before ++ ghost_variable v x ∷ []) cs ms = walk (before ++ ghost_variable v x ∷ []) cs ms z.1 y.1 num.1 q e
        (known_plain before (ghost_variable v x) ms w refl refl) in
        let n = next before cs (ghost_variable v x) ms ms (a, tt) r in
        record { known = n.0; texts = n.1; assumes = r.assumes; guarantees = r.guarantees }
    walk before (constant x ∷ cs) ms h g num q e w =
        let z = no_parts (contract_statement_faults (scope_at before) (constant x)) _ h in
        let y = no_parts (contract_statement_clock_faults (component_of i) (constant x)) _ g in
        let two : (not_allowed (scope_at before) x.value ≡ []) × (expression_faults (scope_at before) (on_clock base) x.value ≡ []) = no_parts
        (not_allowed (scope_at before) x.value) (expression_faults (scope_at before) (on_clock base) x.value) (no_parts _ _ z.0).0 in
        let clocks : clock_faults_of (component_of i) base x.value ≡ [] = constant_clocks (scope_at before) (component_of i)
        (constant_apart p c k i placed_here same (scope_at before) (contract_statement_shows p (k, component_of i) before)) refl x.value two.0 in
        let a : EachHas (on_clock base, x.value) = clean_has before ms w (scope_at before) refl refl refl (on_clock base) x.value
        (clean_base before x.value two.1 clocks) num.0 in
        let r : Walked (before ++ constant x ∷ []) cs ms = walk (before ++ constant x ∷ []) cs ms z.1 y.1 num.1 q e
        (known_plain before (constant x) ms w refl refl) in
        let n = next before cs (constant x) ms ms (a, tt) r in
        record { known = n.0; texts = n.1; assumes = r.assumes; guarantees = r.guarantees }
    walk before (mode x rs es ∷ cs) ms h g num q e w =
        let z = no_parts (contract_statement_faults (scope_at before) (mode x rs es)) _ h in
        let y = no_parts (contract_statement_clock_faults (component_of i) (mode x rs es)) _ g in
        let here_num : AllByRecursion EachNumbered (on_base rs ++ on_base es) = left_part EachNumbered (on_base rs ++ on_base es)
        (flat_map contract_statement_texts cs) num in
        let a : AllByRecursion (LabelRight ms) rs = labels_right before ms w rs (no_parts (flags_of (scope_at before) rs) (flags_of (scope_at before)
        es) z.0).0
        (no_parts (all_on_base (component_of i) rs) (all_on_base (component_of i) es) y.0).0 (left_part EachNumbered (on_base rs) (on_base es) here_num) in
        let d : AllByRecursion (LabelRight ms) es = labels_right before ms w es (no_parts (flags_of (scope_at before) rs) (flags_of (scope_at before)
        es) z.0).1
        (no_parts (all_on_base (component_of i) rs) (all_on_base (component_of i) es) y.0).1 (right_part EachNumbered (on_base rs) (on_base es) here_num) in
        let t : ModeTerms = mode_terms i ms x.text rs es in
        let have : ModesHave m b f (t ∷ []) = (mode_has i ms m b f x.text rs es (labels_say ms rs a), tt) in
        let kept : Known (before ++ mode x rs es ∷ []) (ms ++ t ∷ []) = known_more before cs (mode x rs es) ms (t ∷ []) w e have
        (ensures_has i ms m b f x.text rs es have es (labels_say ms es d), tt)
        (covers_more p before (mode x rs es) (ms ++ t ∷ []) (covers_imports p (mode_names before ++ x.text ∷ []) (import_names before) (ms ++ t ∷ [])
        (covers_mode p (mode_names before) (import_names before) ms x.text t w.covers (mode_named i ms x.text rs es)))) in
        let r : Walked (before ++ mode x rs es ∷ []) cs (ms ++ t ∷ []) = walk (before ++ mode x rs es ∷ []) cs (ms ++ t ∷ []) z.1 y.1
        (right_part EachNumbered (on_base rs ++ on_base es) (flat_map contract_statement_texts cs) num) q e kept in
        let n = next before cs (mode x rs es) ms (ms ++ t ∷ [])
        (both_parts EachHas (on_base rs) (on_base es) (labels_have ms rs a) (labels_have ms es d)) r in
        record { known = n.0; texts = n.1; assumes = r.assumes; guarantees = r.guarantees }
    walk before («import» j x as_ xs ∷ cs) ms h g num q e w =
        let z = no_parts (contract_statement_faults (scope_at before) («import» j x as_ xs)) _ h in
        let y = no_parts (contract_statement_clock_faults (component_of i) («import» j x as_ xs)) _ g in
        let texts_here : List Text = map (λ a. (on_clock base, a)) as_ in
        let a : AllByRecursion EachHas texts_here = arguments_have before ms w as_ (no_parts (flat_map (expression_faults (scope_at before) (on_clock
        base)) as_) _ z.0).0
        y.0 (left_part EachNumbered texts_here (flat_map contract_statement_texts cs) num) in
        let its : IsContractSaid m b (call_frame f j) (sub j) = sub_have _ (contract_named p x.text) q.0
        (import_on _ (contract_named p x.text) (λ t. and_true (b t)) q.0) in
        let more : List ModeTerms = map (imported_mode j x.text) (sub j).modes in
        let kept : Known (before ++ «import» j x as_ xs ∷ []) (ms ++ more) = known_more before cs («import» j x as_ xs) ms more w e
        (imported_have m b f j x.text (sub j).modes its.modes) (imported_ensures m b f j x.text (sub j).modes its.ensures_each)
        (covers_more p before («import» j x as_ xs) (ms ++ more) (covers_names p (mode_names before) (import_names before ++ x.text ∷ []) (ms ++ more)
        (covers_import p (mode_names before) (import_names before) ms more x.text w.covers
        (λ u o. imported_named j x.text u (sub j).modes (sub_named _ (contract_named p x.text) q.0 u o))))) in
        let r : Walked (before ++ «import» j x as_ xs ∷ []) cs (ms ++ more) = walk (before ++ «import» j x as_ xs ∷ []) cs (ms ++ more) z.1 y.1
        (right_part EachNumbered texts_here (flat_map contract_statement_texts cs) num) q.1 e kept in
        let n = next before cs («import» j x as_ xs) ms (ms ++ more) a r in
        record {
          known = n.0;
          texts = n.1;
          assumes = both_parts (PropertyHas m b f) (map (imported j) (sub j).assumes) _ (imported_properties m b f j (sub j).assumes its.assumes) r.assumes;
          guarantees = both_parts (PropertyHas m b f) (map (imported j) (sub j).guarantees) _
              (imported_properties m b f j (sub j).guarantees its.guarantees) r.guarantees;
        }
