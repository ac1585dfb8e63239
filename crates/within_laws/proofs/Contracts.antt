-- Where the items of a contract have no operation outside 128 bits, no part of its conditions has one.
use Rattle.std.proofs.Common.{◌≡◌, ℕ, pred, ◌<◌, Bool, true, false, cond, List, [], ◌∷◌, ◌++◌, map, flat_map, refl, ap, ◌∙◌, sym, subst, Option, Some, unwrap_or}
use Rattle.std.specs.Prelude.{Contains, option_map, option_to_list}
use Rattle.std.specs.List.{AllByRecursion}
use Rattle.std.specs.Map.{lookup}
use Rattle.lus_tree.specs.Tree.{Place as SourcePlace, Spelled, Name, text_of, Expression, mode_name, Labelled, ContractStatement, assume, guarantee, ghost_variable, constant, mode, «import», Program}
use Rattle.lus_meaning.specs.Value.{flag}
use Rattle.lus_meaning.specs.Frame.{Frame}
use Rattle.lus_meaning.specs.Scene.{base, Instance, component_of, calls_of, call_instance}
use Rattle.lus_meaning.specs.Contract.{ModeTerms, terms}
use Rattle.lus_meaning.specs.Cycle.{Place as NeededPlace}
use Rattle.lus_meaning.specs.ClockFaults.{components}
use Rattle.lus_meaning.specs.Meaning.{mode_key}
use Rattle.lus_meaning.specs.Occurrences.{Standing, on_clock}
use Rattle.lus_meaning.specs.Refusals.{IsChecked}
use Rattle.lus_meaning.proofs.EachPart.{Each}
use Rattle.lus_meaning.proofs.Lists.{append_none, both_parts, map_append}
use Rattle.lus_meaning.proofs.Now.{left_part, right_part}
use Rattle.rule_laws.specs.Laws.{IsUnfolded}
use Rattle.sys_meaning.specs.Slot.{Place}
use Rattle.sys_meaning.specs.Items.{Key, Known, known, ModeItem, mode_item, imported_item, Items, items_after}
use Rattle.sys_meaning.specs.System.{below_call}
use Rattle.sys_meaning.specs.WellTyped.{IsAmong, IsImport, FlagFits, StatementsFit, own_keys, count_of}
use Rattle.path_laws.proofs.Standing as standing
use Rattle.lus_evaluation.specs.Part.{Part, Setting, needs_of, parts, whole_parts, wholes}
use Rattle.lus_evaluation.specs.Frame.{ModeText, ContractText, Calls, setting, conditions_of, mode_text, imported_mode, contract_after}
use Rattle.slot_values.specs.Resolution.{Resolution}
use Rattle.slot_values.specs.Resolution as r
use Rattle.slot_values.specs.Evaluated.{SlotValues, told, outside}
use Rattle.evaluation_laws.specs.Resolvings.{Resolving, at_numbers, nowhere, all_resolved, resolvings}
use Rattle.evaluation_laws.specs.Rows.{row_at, scene_there, numbers_there, modes_there, RowShows}
use Rattle.condition_laws.specs.Conditions as conditions
use Rattle.condition_laws.specs.Conditions.{resolved}
use Rattle.condition_laws.proofs.Known.{items_ask_resolvings}
use Rattle.order_laws.specs.Rows.{place_there}
use Rattle.order_laws.proofs.Lists.{grouped}
use Rattle.order_laws.proofs.Items.{LabelFits, ItemsFit}
use Rattle.order_laws.proofs.ModeKeys.{found_first, resolving_keys}
use Rattle.order_laws.proofs.Same.{same_resolution}
use Rattle.within_laws.specs.Laws.{AreQuiet}
use Rattle.within_laws.specs.Texts.{IsQuiet, EachQuiet}
use Rattle.within_laws.specs.Sources.{IsFrameQuiet}
use Rattle.within_laws.specs.Frames.{OthersQuiet}
use Rattle.within_laws.proofs.Frames.{text_quiet}
use Rattle.within_laws.proofs.Texts.{none_in}

module _ (i : Instance) (f : Frame) (t : ℕ) where
  abbrev Quiet : List Part → Type 0
  Quiet qs = AreQuiet i f t qs

  abbrev row : SlotValues
  row = row_at i f t

  -- ---- what is known of a contract by its items

  module _ (at : Place → ℕ) (on : Bool) where
    abbrev pub HasNone : Resolving → Type 0
    HasNone w = outside row on (w at) ≡ []

    -- what a mode asks, as a part of another text and by itself, and its ensures
    pub record QuietMode (m : ModeText) (q : ModeItem Resolving) : Type 0 where
      pub key : m.key ≡ q.key
      pub asked : HasNone q.asked → (ns : List NeededPlace) → Quiet (m.asked ns)
      pub required : HasNone q.asked → Quiet m.required
      pub ensured : AllByRecursion HasNone q.ensures_each → Quiet m.ensured

    abbrev pub QuietModes : List ModeText → List (ModeItem Resolving) → Type 0
    QuietModes [] [] = Unit {0}
    QuietModes (m ∷ ms) (q ∷ qs) = QuietMode m q × QuietModes ms qs
    QuietModes [] (q ∷ qs) = ⊥
    QuietModes (m ∷ ms) [] = ⊥

    pub record QuietItems (k : ContractText) (q : Items Resolving) : Type 0 where
      pub assumes : AllByRecursion HasNone q.assumes → Quiet k.assumed
      pub guarantees : AllByRecursion HasNone q.guarantees → Quiet k.guaranteed
      pub modes : QuietModes k.modes q.modes

    pub quiet_more : (ms ns : List ModeText) (qs os : List (ModeItem Resolving)) → QuietModes ms qs → QuietModes ns os → QuietModes (ms ++ ns) (qs ++ os)
    quiet_more [] ns [] os a e = e
    quiet_more [] ns (q ∷ qs) os a e = absurd a
    quiet_more (m ∷ ms) ns [] os a e = absurd a
    quiet_more (m ∷ ms) ns (q ∷ qs) os a e = (a.0, quiet_more ms ns qs os a.1 e)

    -- what a mode asks that is found among the first of all
    pub asked_found : (key : Key) (ns : List NeededPlace) (ms : List ModeText) (qs more : List (ModeItem Resolving)) → QuietModes ms qs →
        outside row on (unwrap_or (lookup (mode_key key) (at_numbers at (known (qs ++ more)))) (r.known (flag false))) ≡ [] →
        Quiet ((unwrap_or (lookup (mode_key key) (map (λ m. (m.key, m.asked)) ms)) (λ ns. [])) ns)
    asked_found key ns [] qs more a h = tt
    asked_found key ns (m ∷ ms) [] more a h = absurd a
    asked_found key ns (m ∷ ms) (q ∷ qs) more a h =
        go (mode_key key m.key)
        (subst (λ z. outside row on (unwrap_or (cond (mode_key key z) (Some (q.asked at)) rest) (r.known (flag false))) ≡ []) (sym a.0.key) h)
        (asked_found key ns ms qs more a.1)
      where
        rest : Option Resolution
        rest = lookup (mode_key key) (at_numbers at (known (qs ++ more)))

        others : Option (List NeededPlace → List Part)
        others = lookup (mode_key key) (map (λ m. (m.key, m.asked)) ms)

        go : (c : Bool) → outside row on (unwrap_or (cond c (Some (q.asked at)) rest) (r.known (flag false))) ≡ [] →
            (outside row on (unwrap_or rest (r.known (flag false))) ≡ [] → Quiet ((unwrap_or others (λ ns. [])) ns)) →
            Quiet ((unwrap_or (cond c (Some m.asked) others) (λ ns. [])) ns)
        go true h k = a.0.asked h ns
        go false h k = k h

    -- the parts of a conjunction
    each_none : (rs : List Resolution) → outside row on (all_resolved rs) ≡ [] → AllByRecursion (λ z. outside row on z ≡ []) rs
    each_none [] h = tt
    each_none (z ∷ []) h = (h, tt)
    each_none (z ∷ y ∷ rs) h =
        let all = none_in (outside row on z ++ outside row on (all_resolved (y ∷ rs))) (told nowhere _) h in
        let two = none_in (outside row on z) (outside row on (all_resolved (y ∷ rs))) all.0 in
        (two.0, each_none (y ∷ rs) two.1)

  -- ---- a frame

  module _ (p : Program) (c : IsChecked p) (w : List ℕ) (sh : RowShows i f t w) (u : IsUnfolded p (place_there i f w))
      (d : Contains (components p) (component_of (place_there i f w))) (sub : Calls) (mine : IsFrameQuiet i f t w)
      (bodies : (k : ℕ) → 0 < k → pred k < count_of (calls_of (place_there i f w)) → Quiet (sub k).body) where
    abbrev j : Instance
    j = place_there i f w

    abbrev at : Place → ℕ
    at = numbers_there i w

    abbrev on : Bool
    on = (scene_there i f w).beat t

    abbrev Modes : List ModeText → List (ModeItem Resolving) → Type 0
    Modes = QuietModes at on

    abbrev None : List Resolving → Type 0
    None ws = AllByRecursion (HasNone at on) ws

    -- texts, where these modes stand before them
    module _ (ts : List ModeText) (qs more : List (ModeItem Resolving)) (quiet : Modes ts qs) (all : (conditions.conditions_of j).modes ≡ qs ++ more) where
      abbrev g : Setting
      g = setting j w sub ts

      abbrev first : Known Resolving
      first = known qs

      all_known : resolvings j ≡ first ++ known more
      all_known =
          sym (items_ask_resolvings j) ∙ ap (λ l. known l) all ∙ map_append (λ (m : ModeItem Resolving). (m.key, m.asked)) qs more

      modes_quiet : (q : SourcePlace) (x : Option Spelled) (m : Spelled) → IsQuiet i f t w base (mode_name q x m) → (ns : List NeededPlace) →
          Quiet ((unwrap_or (lookup (mode_key (option_to_list (option_map text_of x), m.text)) (map (λ m. (m.key, m.asked)) ts)) (λ ns. [])) ns)
      modes_quiet q x m h ns =
          asked_found at on (option_to_list (option_map text_of x), m.text) ns ts qs more quiet
          (subst (λ (l : Known Resolving). outside row on
          (unwrap_or (lookup (mode_key (option_to_list (option_map text_of x), m.text)) (at_numbers at l)) (r.known (flag false))) ≡ [])
          (sym (items_ask_resolvings j) ∙ ap (λ l. known l) all) h)

      pub others : OthersQuiet i f t w (λ k. (sub k).body) (map (λ m. (m.key, m.asked)) ts)
      others = record { bodies = bodies; modes = λ q x m k h ns. modes_quiet q x m h ns }

      -- a text that is known
      pub known_quiet : (z : Standing) (e : Expression) → Each (standing.Known j) (component_of j) z e → IsQuiet i f t w z.clock e → (ns : List NeededPlace)
          (xs : List Name) → Quiet (parts g ns xs z.clock e)
      known_quiet z e a h ns xs =
          text_quiet p c i f t w sh u d (λ k. (sub k).body) (map (λ m. (m.key, m.asked)) ts) mine others z e a h ns xs

      pub wholes_quiet : (z : Standing) (es : List Expression) → AllByRecursion (λ e. Each (standing.Known j) (component_of j) z e) es →
          EachQuiet i f t w z.clock es → Quiet (wholes g z.clock es)
      wholes_quiet z [] a h = tt
      wholes_quiet z (e ∷ es) a h =
          both_parts _ (whole_parts g [] z.clock e) (wholes g z.clock es) (known_quiet z e a.0 h.0 (needs_of g z.clock e) []) (wholes_quiet z es a.1 h.1)

      -- ---- an item

      module _ (ks : List Key) (named : map (λ q. q.0) (known qs) ≡ ks) where
        same_found : (key : Key) → IsAmong ks key → lookup (mode_key key) (at_numbers at first) ≡ lookup (mode_key key) (modes_there i f w)
        same_found key h =
            sym (found_first (λ (y : Resolving). y at) key first (known more) (subst (λ l. IsAmong l key) (sym named) h))
            ∙ ap (λ (l : Known Resolving). lookup (mode_key key) (at_numbers at l)) (sym all_known)

        abbrev Says : Labelled → Type 0
        Says l = HasNone at on (resolved.says j first l.value)

        label_quiet : (l : Labelled) → FlagFits j ks l → Says l → IsQuiet i f t w base l.value
        label_quiet l a h =
            subst (λ y. outside row on y ≡ [])
            (same_resolution j at (IsAmong ks) (at_numbers at first) (modes_there i f w) same_found base l.value a.0) h

        abbrev Fits : Labelled → Type 0
        Fits l = FlagFits j ks l × LabelFits j ks l.value

        label_parts : (l : Labelled) → Fits l → Says l → (ns : List NeededPlace) → Quiet (parts g ns [] base l.value)
        label_parts l a h ns = known_quiet (on_clock base) l.value a.1.0 (label_quiet l a.0 h) ns []

        pub labels_quiet : (ls : List Labelled) → AllByRecursion Fits ls → AllByRecursion Says ls → Quiet (conditions_of g ls)
        labels_quiet [] a h = tt
        labels_quiet (l ∷ ls) a h =
            both_parts _ (whole_parts g [] base l.value) (conditions_of g ls) (label_parts l a.0 h.0 (needs_of g base l.value)) (labels_quiet ls a.1 h.1)

        asked_parts : (rs : List Labelled) → AllByRecursion Fits rs → AllByRecursion Says rs → (ns : List NeededPlace) →
            Quiet (flat_map (λ r. parts g ns [] base r.value) rs)
        asked_parts [] a h ns = tt
        asked_parts (l ∷ rs) a h ns =
            both_parts _ (parts g ns [] base l.value) (flat_map (λ r. parts g ns [] base r.value) rs) (label_parts l a.0 h.0 ns) (asked_parts rs a.1 h.1 ns)

        abbrev says_all : List Labelled → List Resolution
        says_all rs = map (λ (y : Resolving). y at) (map (λ (r : Labelled). resolved.says j first r.value) rs)

        unsaid : (rs : List Labelled) → AllByRecursion (λ z. outside row on z ≡ []) (says_all rs) → AllByRecursion Says rs
        unsaid [] a = tt
        unsaid (l ∷ rs) a = (a.0, unsaid rs a.1)

        all_said : (rs : List Labelled) → outside row on (all_resolved (says_all rs)) ≡ [] → AllByRecursion Says rs
        all_said rs h = unsaid rs (each_none at on (says_all rs) h)

        ensured_parts : (m : Name) (rs es fs : List Labelled) → AllByRecursion Fits rs → AllByRecursion Fits es →
            None (map (λ e. resolved.under (mode_item resolved j first m rs fs).asked (resolved.says j first e.value)) es) →
            Quiet (flat_map (λ e. conditions_of g rs ++ conditions_of g (e ∷ [])) es)
        ensured_parts m rs [] fs a b h = tt
        ensured_parts m rs (e ∷ es) fs a b h =
            let asked : Resolution = (mode_item resolved j first m rs fs).asked at in
            let said : Resolution = resolved.says j first e.value at in
            let q = none_in (outside row on asked ++ outside row on said) (told nowhere _) h.0 in
            let o = none_in (outside row on asked) (outside row on said) q.0 in
            both_parts _ (conditions_of g rs ++ conditions_of g (e ∷ [])) (flat_map (λ e. conditions_of g rs ++ conditions_of g (e ∷ [])) es)
            (both_parts _ (conditions_of g rs) (conditions_of g (e ∷ [])) (labels_quiet rs a (all_said rs o.0)) (labels_quiet (e ∷ []) (b.0, tt) (o.1, tt)))
            (ensured_parts m rs es fs a b.1 h.1)

        pub mode_quiet : (m : Name) (rs es : List Labelled) → AllByRecursion Fits rs → AllByRecursion Fits es →
            QuietMode at on (mode_text g m rs es) (mode_item resolved j first m rs es)
        mode_quiet m rs es a b = record {
          key = refl;
          asked = λ h ns. asked_parts rs a (all_said rs h) ns;
          required = λ h. labels_quiet rs a (all_said rs h);
          ensured = λ h. ensured_parts m rs es es a b h;
        }

    -- ---- imports

    through_all : (k : ℕ) (ws : List Resolving) → None (map (resolved.through k) ws) → AllByRecursion (HasNone (below_call k at) on) ws
    through_all k [] a = tt
    through_all k (y ∷ ws) a = (a.0, through_all k ws a.1)

    through : (k : ℕ) (x : Name) (ts : List ModeText) (qs : List (ModeItem Resolving)) → QuietModes (below_call k at) on ts qs →
        Modes (map (imported_mode x) ts) (map (imported_item resolved k x) qs)
    through k x [] [] a = tt
    through k x [] (q ∷ qs) a = absurd a
    through k x (m ∷ ts) [] a = absurd a
    through k x (m ∷ ts) (q ∷ qs) a = (
      record {
        key = ap (λ (z : Key). (x ∷ z.0, z.1)) a.0.key;
        asked = a.0.asked;
        required = a.0.required;
        ensured = λ y. a.0.ensured (through_all k q.ensures_each y);
      },
      through k x ts qs a.1,
    )

    abbrev keys : List (ModeItem Resolving) → List Key
    keys qs = map (λ q. q.0) (known qs)

    keys_both : (qs os : List (ModeItem Resolving)) → keys (qs ++ os) ≡ keys qs ++ keys os
    keys_both [] os = refl
    keys_both (q ∷ qs) os = ap (λ l. q.key ∷ l) (keys_both qs os)

    abbrev under : Name → Key → Key
    under x z = (x ∷ z.0, z.1)

    imported_keys : (k : ℕ) (x : Name) (qs : List (ModeItem Resolving)) →
        keys (map (imported_item resolved k x) qs) ≡ map (under x) (keys qs)
    imported_keys k x [] = refl
    imported_keys k x (q ∷ qs) = ap (λ l. under x q.key ∷ l) (imported_keys k x qs)

    under_name : (x : Name) (ms : List ModeTerms) → map (under x) (map (λ m. m.key) ms) ≡ map (λ m. under x m.key) ms
    under_name x [] = refl
    under_name x (m ∷ ms) = ap (λ l. under x m.key ∷ l) (under_name x ms)

    -- ---- the rest of a contract

    module _ (subr : ℕ → Items Resolving) (same : (k : ℕ) → IsImport j k → subr k ≡ conditions.conditions_of (call_instance j k))
        (below : (k : ℕ) → IsImport j k → QuietItems (below_call k at) on (sub k).contract (subr k)) where
      import_named : (k : ℕ) (x : Name) → IsImport j k →
          keys (map (imported_item resolved k x) (subr k).modes) ≡ map (λ m. under x m.key) (terms (call_instance j k)).modes
      import_named k x h =
          imported_keys k x (subr k).modes
          ∙ ap (λ l. map (under x) l)
          (ap (λ (z : Items Resolving). keys z.modes) (same k h) ∙ ap (λ (l : Known Resolving). map (λ q. q.0) l) (items_ask_resolvings (call_instance j k))
          ∙ resolving_keys (call_instance j k))
          ∙ under_name x (terms (call_instance j k)).modes

      items_more : (qs : List (ModeItem Resolving)) (cs : List ContractStatement) →
          (more : List (ModeItem Resolving)) × ((items_after resolved j subr qs cs).modes ≡ qs ++ more)
      items_more qs [] = ([], sym (append_none qs))
      items_more qs (assume l ∷ cs) = items_more qs cs
      items_more qs (guarantee l ∷ cs) = items_more qs cs
      items_more qs (ghost_variable x e ∷ cs) = items_more qs cs
      items_more qs (constant x ∷ cs) = items_more qs cs
      items_more qs (mode m rs es ∷ cs) =
          let one : List (ModeItem Resolving) = mode_item resolved j (known qs) m.text rs es ∷ [] in
          let o = items_more (qs ++ one) cs in
          (one ++ o.0, o.1 ∙ grouped qs one o.0)
      items_more qs («import» k x as_ xs ∷ cs) =
          let some : List (ModeItem Resolving) = map (imported_item resolved k x.text) (subr k).modes in
          let o = items_more (qs ++ some) cs in
          (some ++ o.0, o.1 ∙ grouped qs some o.0)

      abbrev Items_quiet : ContractText → Items Resolving → Type 0
      Items_quiet = QuietItems at on

      labels_fit : (ks : List Key) (ls : List Labelled) → AllByRecursion (FlagFits j ks) ls → AllByRecursion (λ l. LabelFits j ks l.value) ls →
          AllByRecursion (λ l. FlagFits j ks l × LabelFits j ks l.value) ls
      labels_fit ks [] a b = tt
      labels_fit ks (l ∷ ls) a b = ((a.0, b.0), labels_fit ks ls a.1 b.1)

      pub after : (ks : List Key) (ts : List ModeText) (qs : List (ModeItem Resolving)) (cs : List ContractStatement) → StatementsFit j ks cs →
          ItemsFit j ks cs → keys qs ≡ ks → Modes ts qs → (conditions.conditions_of j).modes ≡ (items_after resolved j subr qs cs).modes →
          Items_quiet (contract_after j w sub ts cs) (items_after resolved j subr qs cs)
      after ks ts qs [] v a k y e = record { assumes = λ z. tt; guarantees = λ z. tt; modes = y }
      after ks ts qs (assume l ∷ cs) v a k y e =
          let o : Items_quiet (contract_after j w sub ts cs) (items_after resolved j subr qs cs) =
          after (ks ++ []) ts qs cs v.1 a.1 (k ∙ sym (append_none ks)) y e in
          let later = items_more qs cs in
          record {
            assumes = λ z. both_parts _ (conditions_of (setting j w sub ts) (l ∷ [])) (contract_after j w sub ts cs).assumed
                (labels_quiet ts qs later.0 y (e ∙ later.1) ks k (l ∷ []) ((v.0, a.0), tt) (z.0, tt)) (o.assumes z.1);
            guarantees = o.guarantees;
            modes = o.modes;
          }
      after ks ts qs (guarantee l ∷ cs) v a k y e =
          let o : Items_quiet (contract_after j w sub ts cs) (items_after resolved j subr qs cs) =
          after (ks ++ []) ts qs cs v.1 a.1 (k ∙ sym (append_none ks)) y e in
          let later = items_more qs cs in
          record {
            assumes = o.assumes;
            guarantees = λ z. both_parts _ (conditions_of (setting j w sub ts) (l ∷ [])) (contract_after j w sub ts cs).guaranteed
                (labels_quiet ts qs later.0 y (e ∙ later.1) ks k (l ∷ []) ((v.0, a.0), tt) (z.0, tt)) (o.guarantees z.1);
            modes = o.modes;
          }
      after ks ts qs (ghost_variable x b ∷ cs) v a k y e = after (ks ++ []) ts qs cs v.1 a.1 (k ∙ sym (append_none ks)) y e
      after ks ts qs (constant x ∷ cs) v a k y e = after (ks ++ []) ts qs cs v.1 a.1 (k ∙ sym (append_none ks)) y e
      after ks ts qs (mode m rs es ∷ cs) v a k y e =
          let later = items_more qs (mode m rs es ∷ cs) in
          let item : List (ModeItem Resolving) = mode_item resolved j (known qs) m.text rs es ∷ [] in
          let text : List ModeText = mode_text (setting j w sub ts) m.text rs es ∷ [] in
          after (ks ++ ([], m.text) ∷ []) (ts ++ text) (qs ++ item) cs v.1 a.1 (keys_both qs item ∙ ap (λ l. l ++ ([], m.text) ∷ []) k)
          (quiet_more at on ts text qs item y
          (mode_quiet ts qs later.0 y (e ∙ later.1) ks k m.text rs es (labels_fit ks rs v.0.0 a.0.0) (labels_fit ks es v.0.1 a.0.1), tt)) e
      after ks ts qs («import» m x as_ xs ∷ cs) v a k y e =
          let there : QuietItems (below_call m at) on (sub m).contract (subr m) = below m v.0 in
          let some : List (ModeItem Resolving) = map (imported_item resolved m x.text) (subr m).modes in
          let text : List ModeText = map (imported_mode x.text) (sub m).contract.modes in
          let o : Items_quiet (contract_after j w sub (ts ++ text) cs) (items_after resolved j subr (qs ++ some) cs) =
          after (ks ++ own_keys j («import» m x as_ xs)) (ts ++ text) (qs ++ some) cs v.1 a.1
          (keys_both qs some ∙ ap (λ l. l ++ keys some) k ∙ ap (λ l. ks ++ l) (import_named m x.text v.0))
          (quiet_more at on ts text qs some y (through m x.text (sub m).contract.modes (subr m).modes there.modes)) e in
          record {
            assumes = λ z. both_parts _ (sub m).contract.assumed (contract_after j w sub (ts ++ text) cs).assumed
                (there.assumes (through_all m (subr m).assumes
                (left_part (HasNone at on) (map (resolved.through m) (subr m).assumes) (items_after resolved j subr (qs ++ some) cs).assumes z)))
                (o.assumes (right_part (HasNone at on) (map (resolved.through m) (subr m).assumes) (items_after resolved j subr (qs ++ some) cs).assumes z));
            guarantees = λ z. both_parts _ (sub m).contract.guaranteed (contract_after j w sub (ts ++ text) cs).guaranteed
                (there.guarantees (through_all m (subr m).guarantees
                (left_part (HasNone at on) (map (resolved.through m) (subr m).guarantees) (items_after resolved j subr (qs ++ some) cs).guarantees z)))
                (o.guarantees (right_part (HasNone at on) (map (resolved.through m) (subr m).guarantees) (items_after resolved j subr (qs ++ some) cs).guarantees z));
            modes = o.modes;
          }
