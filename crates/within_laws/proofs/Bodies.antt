-- Where the sources of a frame have no operation outside 128 bits, no part of what is evaluated in the frame has one; nor has a part of an assertion, where
-- none of these has.
use Rattle.std.proofs.Common.{◌≡◌, ℕ, suc, pred, ◌+◌, ◌<◌, Bool, true, false, cond, List, [], ◌∷◌, ◌++◌, map, flat_map, slice_index_or, refl, ap, ◌∙◌, sym, subst, arith}
use Rattle.std.specs.Prelude.{Contains}
use Rattle.std.specs.List.{AllByRecursion}
use Rattle.std.proofs.Math.Logic.{inl, inr}
use Rattle.std.proofs.lemmas.Bool.{false≢true}
use Rattle.lus_tree.specs.Tree.{Expression, ContractStatement, assume, guarantee, ghost_variable, constant, mode, «import», Component, Program}
use Rattle.lus_meaning.specs.Value.{is}
use Rattle.lus_meaning.specs.Frame.{Frame}
use Rattle.lus_meaning.specs.Scene.{base, Site, Instance, Instances, instance, no_instances, with_instance, component_of, calls_of, call_instance, instance_at, contract_statements}
use Rattle.lus_meaning.specs.ClockFaults.{components}
use Rattle.lus_meaning.specs.Occurrences.{Standing, on_clock}
use Rattle.lus_meaning.specs.Program.{import_site, all_sites}
use Rattle.lus_meaning.specs.Property.{assertions}
use Rattle.lus_meaning.specs.Refusals.{IsChecked}
use Rattle.lus_meaning.specs.Run.{equations}
use Rattle.lus_meaning.specs.Scope.{contract_named}
use Rattle.lus_meaning.specs.Verdict.{throughout}
use Rattle.lus_meaning.proofs.EachPart.{Each}
use Rattle.lus_meaning.proofs.Lists.{append_none, all_from, both_parts}
use Rattle.lus_meaning.proofs.Now.{left_part, right_part}
use Rattle.rule_laws.specs.Laws.{HasItsPlace, IsUnfolded, AreUnfolded}
use Rattle.rule_laws.proofs.Lists.{all_flat}
use Rattle.sys_meaning.specs.Slot.{Place, beat, own}
use Rattle.sys_meaning.specs.Items.{Key, Items, no_items, items_after, items_each}
use Rattle.sys_meaning.specs.Defaults.{site_at, site_of}
use Rattle.sys_meaning.specs.System.{number_of, below_call}
use Rattle.sys_meaning.specs.WellTyped.{IsKnown, IsImport, CallsFit, own_keys, count_of}
use Rattle.sys_meaning.proofs.Whole.{import_beat}
use Rattle.path_laws.proofs.Places.{imports_there}
use Rattle.path_laws.proofs.Standing as standing
use Rattle.path_laws.proofs.Tree.{own_fits}
use Rattle.lus_evaluation.specs.Part.{Part, Setting, wholes}
use Rattle.lus_evaluation.specs.Frame.{ContractText, FrameText, Calls, setting, contract_after, import_parts, equation_parts, picked, is_evaluated, call_condition, call_parts, asserted_below, asserted_in_calls, text_over}
use Rattle.slot_values.specs.Resolution.{Resolution}
use Rattle.slot_values.specs.Evaluated.{SlotValues, outside}
use Rattle.slot_values.specs.Resolved.{resolution}
use Rattle.evaluation_laws.specs.Resolvings.{Resolving}
use Rattle.evaluation_laws.specs.Rows.{row_at, scene_there, numbers_there, RowShows}
use Rattle.slot_sources.specs.Sources.{numbering_of}
use Rattle.condition_laws.specs.Conditions.{resolved, where_active, asserts_of, asserts_in, calls_asserts}
use Rattle.condition_laws.specs.Conditions as conditions
use Rattle.condition_laws.specs.Within.{NoneOutside}
use Rattle.condition_laws.proofs.ContractItems.{items_called}
use Rattle.order_laws.specs.Rows.{place_there}
use Rattle.order_laws.proofs.Frames.{scene_further, numbers_further, base_there}
use Rattle.order_laws.proofs.Items.{LabelFits, ItemsFit, items_fit, TextFits, assertions_fit}
use Rattle.order_laws.proofs.Sites.{CallKnown, SiteKnown}
use Rattle.within_laws.specs.Laws.{AreQuiet}
use Rattle.within_laws.specs.Texts.{IsQuiet, EachQuiet}
use Rattle.within_laws.specs.Sources.{IsFrameQuiet}
use Rattle.within_laws.proofs.Contracts.{QuietItems, wholes_quiet, others, after}
use Rattle.within_laws.proofs.Frames.{sides_quiet}
use Rattle.within_laws.proofs.Lists.{each_picked}
use Rattle.within_laws.proofs.Texts.{none_in}

-- the items of a contract from its beginning
pub items_are : (z : Instance) → conditions.conditions_of z
    ≡ items_after resolved z (λ k. slice_index_or (items_each resolved (calls_of z)) (pred k) no_items) [] (contract_statements (component_of z))
items_are (instance d cs is) = refl

asserts_are : (z : Instance) (at : Place → ℕ) →
    asserts_in z at ≡ asserts_of (numbering_of z at) ++ calls_asserts (numbering_of z at) (calls_of z)
asserts_are (instance d cs is) at = refl

-- a condition where its frame is active
pub active_none : (row : SlotValues) (b : ℕ) (e : Resolution) → outside row true (where_active b e) ≡ [] → outside row (is true (row b)) e ≡ []
active_none row b e h = (none_in (outside row (is true (row b)) e) [] h).0

module _ (i : Instance) (f : Frame) (t : ℕ) where
  abbrev row : SlotValues
  row = row_at i f t

  -- what is evaluated in a frame, its contract, and its assertions with those of its calls
  pub record FrameQuiet (w : List ℕ) (z : Instance) (x : FrameText) : Type 0 where
    pub body : AreQuiet i f t x.body
    pub contract : QuietItems i f t (numbers_there i w) ((scene_there i f w).beat t) x.contract (conditions.conditions_of z)
    pub asserted : NoneOutside row (asserts_in z (numbers_there i w)) → AreQuiet i f t x.asserted

  module _ (p : Program) (c : IsChecked p) (w : List ℕ) (sh : RowShows i f t w) (u : IsUnfolded p (place_there i f w))
      (d : Contains (components p) (component_of (place_there i f w))) (mine : IsFrameQuiet i f t w) (sub : Calls)
      (child : (k : ℕ) → 0 < k → pred k < count_of (calls_of (place_there i f w)) →
      FrameQuiet (w ++ k ∷ []) (call_instance (place_there i f w) k) (sub k)) where
    abbrev j : Instance
    j = place_there i f w

    abbrev n : Component
    n = component_of j

    abbrev at : Place → ℕ
    at = numbers_there i w

    abbrev on : Bool
    on = (scene_there i f w).beat t

    abbrev Quiet : List Part → Type 0
    Quiet qs = AreQuiet i f t qs

    bodies : (k : ℕ) → 0 < k → pred k < count_of (calls_of j) → Quiet (sub k).body
    bodies k x l = (child k x l).body

    -- ---- the contract

    abbrev subr : ℕ → Items Resolving
    subr k = slice_index_or (items_each resolved (calls_of j)) (pred k) no_items

    same : (k : ℕ) → IsImport j k → subr k ≡ conditions.conditions_of (call_instance j k)
    same k h = items_called j k h.call.counted h.call.listed

    -- an import is active where its parent is
    import_on : (k : ℕ) → IsImport j k → (scene_there i f (w ++ k ∷ [])).beat t ≡ on
    import_on k h =
        ap (λ s. s.beat t) (scene_further w i throughout f k)
        ∙ ap (λ z. z t) (import_beat (scene_there i f w) (site_of j k) h.outputs h.clock h.manner)

    below : (k : ℕ) → IsImport j k → QuietItems i f t (below_call k at) on (sub k).contract (subr k)
    below k h =
        subst (λ q. QuietItems i f t (below_call k at) on (sub k).contract q) (sym (same k h))
        (subst (λ o. QuietItems i f t (below_call k at) o (sub k).contract (conditions.conditions_of (call_instance j k))) (import_on k h)
        (subst (λ (z : Place → ℕ). QuietItems i f t z ((scene_there i f (w ++ k ∷ [])).beat t) (sub k).contract (conditions.conditions_of (call_instance j k)))
        (numbers_further w (number_of i) k) (child k h.call.counted h.call.listed).contract))

    abbrev text : ContractText
    text = contract_after j w sub [] (contract_statements n)

    contract : QuietItems i f t at on text (conditions.conditions_of j)
    contract =
        subst (λ q. QuietItems i f t at on text q) (sym (items_are j))
        (after i f t p c w sh u d sub mine bodies subr same below [] [] [] (contract_statements n) (own_fits p c j u d).contract
        (items_fit p c j u d) refl tt (ap (λ q. q.modes) (items_are j)))

    -- ---- texts, with all modes

    abbrev g : Setting
    g = setting j w sub text.modes

    abbrev KnownAt : Standing → Expression → Type 0
    KnownAt z e = Each (standing.Known j) n z e

    all_modes : (conditions.conditions_of j).modes ≡ (conditions.conditions_of j).modes ++ []
    all_modes = sym (append_none (conditions.conditions_of j).modes)

    pub here_quiet : (z : Standing) (es : List Expression) → AllByRecursion (KnownAt z) es → EachQuiet i f t w z.clock es → Quiet (wholes g z.clock es)
    here_quiet z es a h =
        wholes_quiet i f t p c w sh u d sub mine bodies text.modes (conditions.conditions_of j).modes [] contract.modes all_modes z es a h

    pub fit_quiet : (es : List Expression) → AllByRecursion (TextFits j (on_clock base)) es → EachQuiet i f t w base es → Quiet (wholes g base es)
    fit_quiet es a h = here_quiet (on_clock base) es (all_from (TextFits j (on_clock base)) (KnownAt (on_clock base)) (λ e y. y.0) es a) h

    -- ---- imports and equations

    abbrev ImportThere : Site → Type 0
    ImportThere s = HasItsPlace j (contract_named p s.callee) s

    import_quiet : (s : Site) → ImportThere s → EachQuiet i f t w s.clock (call_condition s s.manner ++ s.arguments)
    import_quiet s h =
        let q = standing.site_there (calls_of j) (pred s.number) s h.site in
        subst (λ y. EachQuiet i f t w y.clock (call_condition y y.manner ++ y.arguments)) q.0 (mine.calls s.number h.number q.1)

    imports_quiet : (ks : List Key) (xs : List ContractStatement) → ItemsFit j ks xs → AllByRecursion ImportThere (flat_map import_site xs) →
        Quiet (flat_map (import_parts g) xs)
    imports_quiet ks [] a h = tt
    imports_quiet ks (assume l ∷ xs) a h = imports_quiet (ks ++ own_keys j (assume l)) xs a.1 h
    imports_quiet ks (guarantee l ∷ xs) a h = imports_quiet (ks ++ own_keys j (guarantee l)) xs a.1 h
    imports_quiet ks (ghost_variable x e ∷ xs) a h = imports_quiet (ks ++ own_keys j (ghost_variable x e)) xs a.1 h
    imports_quiet ks (constant x ∷ xs) a h = imports_quiet (ks ++ own_keys j (constant x)) xs a.1 h
    imports_quiet ks (mode m rs es ∷ xs) a h = imports_quiet (ks ++ own_keys j (mode m rs es)) xs a.1 h
    imports_quiet ks («import» k x as_ ys ∷ xs) a h =
        both_parts _ (wholes g base as_ ++ g.body k) (flat_map (import_parts g) xs)
        (both_parts _ (wholes g base as_) (g.body k)
        (here_quiet (on_clock base) as_ (all_from (LabelFits j ks) (KnownAt (on_clock base)) (λ e y. y.0) as_ a.0.1) (import_quiet _ h.0))
        (bodies k a.0.0.call.counted a.0.0.call.listed)) (imports_quiet (ks ++ own_keys j («import» k x as_ ys)) xs a.1 h.1)

    body_quiet : (order : List ℕ) → Quiet (text_over sub order w j).body
    body_quiet order =
        both_parts _ (flat_map (import_parts g) (contract_statements n)) (flat_map (equation_parts g) (picked order (equations n)))
        (imports_quiet [] (contract_statements n) (items_fit p c j u d) (imports_there p c j u d))
        (all_flat _ (equation_parts g) (picked order (equations n))
        (each_picked (λ e. Quiet (equation_parts g e)) order (equations n)
        (sides_quiet p c i f t w sh u d (λ k. (sub k).body) (map (λ m. (m.key, m.asked)) text.modes) mine
        (others i f t p c w sh u d sub mine bodies text.modes (conditions.conditions_of j).modes [] contract.modes all_modes))))

    -- ---- assertions

    pub on_here : (e : Expression) → outside row true (where_active (at (own beat)) (resolution (numbering_of j at) e)) ≡ [] → IsQuiet i f t w base e
    on_here e h =
        subst (λ o. outside row o (resolution (numbering_of j at) e) ≡ []) (base_there i f t w sh)
        (active_none row (at (own beat)) (resolution (numbering_of j at) e) h)

    asserted_here : (es : List Expression) → NoneOutside row (map (λ e. where_active (at (own beat)) (resolution (numbering_of j at) e)) es) →
        EachQuiet i f t w base es
    asserted_here [] h = tt
    asserted_here (e ∷ es) h = (on_here e h.0, asserted_here es h.1)

    call_quiet : (z : Site) → CallKnown j z → EachQuiet i f t w z.clock (call_condition z z.manner ++ z.arguments) →
        Quiet (wholes g z.clock (call_condition z z.manner ++ z.arguments))
    call_quiet z a h =
        subst (λ q. Quiet (wholes g q (call_condition z z.manner ++ z.arguments))) a.clock
        (here_quiet a.standing (call_condition z z.manner ++ z.arguments)
        (all_from (TextFits j a.standing) (KnownAt a.standing) (λ e y. y.0) (call_condition z z.manner ++ z.arguments) a.given)
        (subst (λ q. EachQuiet i f t w q (call_condition z z.manner ++ z.arguments)) (sym a.clock) h))

    by_itself : (z : Site) → SiteKnown j z → is_evaluated n z z.manner ≡ false → CallKnown j z
    by_itself z (inl a) e = a
    by_itself z (inr a) e = absurd (false≢true (sym e ∙ ap (is_evaluated n z) a.1))

    below_quiet : (z : Site) → SiteKnown j z → EachQuiet i f t w z.clock (call_condition z z.manner ++ z.arguments) → (x : FrameText) → Quiet x.body →
        Quiet x.asserted → Quiet (asserted_below g z x)
    below_quiet z s h x b a = go x.body x.contract x.asserted b a
      where
        go : (bd : List Part) (ct : ContractText) (qs : List Part) → Quiet bd → Quiet qs →
            Quiet (asserted_below g z record { body = bd; contract = ct; asserted = qs })
        go bd ct [] b a = tt
        go bd ct (q ∷ qs) b a =
            both_parts _ (cond (is_evaluated n z z.manner) [] (call_parts g z record { body = bd; contract = ct; asserted = q ∷ qs })) (q ∷ qs)
            (maybe (is_evaluated n z z.manner) refl) a
          where
            maybe : (y : Bool) → is_evaluated n z z.manner ≡ y →
                Quiet (cond y [] (wholes g z.clock (call_condition z z.manner ++ z.arguments) ++ bd))
            maybe true e = tt
            maybe false e = both_parts _ (wholes g z.clock (call_condition z z.manner ++ z.arguments)) bd (call_quiet z (by_itself z s e) h) b

    -- these calls are those of the frame, from this number on
    abbrev pub Same : Instances → ℕ → Type 0
    Same is q = (m k : ℕ) → k ≡ suc (q + m) → m < count_of is → (site_of j k ≡ site_at is m) × (call_instance j k ≡ instance_at is m)

    pub same_all : Same (calls_of j) 0
    same_all m k e l =
        let v : k ≡ suc m = omega arith in
        subst (λ y. (site_of j y ≡ site_at (calls_of j) m) × (call_instance j y ≡ instance_at (calls_of j) m)) (sym v) (refl, refl)

    pub same_next : (z : Site) (x : Instance) (is : Instances) (q : ℕ) → Same (with_instance z x is) q → Same is (suc q)
    same_next z x is q h m k e l = h (suc m) k (omega (arith, e)) (omega (arith, l))

    each_asserted : (is : Instances) (ss : List Site) (q : ℕ) → Same is q → CallsFit IsKnown j is q → AreUnfolded p ss is → AllByRecursion (SiteKnown j) ss →
        q + count_of is ≡ count_of (calls_of j) → NoneOutside row (calls_asserts (numbering_of j at) is) → Quiet (asserted_in_calls g sub is)
    each_asserted no_instances ss q s h v a e y = tt
    each_asserted (with_instance z x is) [] q s h v a e y = absurd v
    each_asserted (with_instance z x is) (o ∷ ss) q s h v a e y =
        let counted : suc q ≡ z.number = sym h.0.number in
        let here = s 0 (suc q) (omega arith) (omega arith) in
        let there : FrameQuiet (w ++ z.number ∷ []) x (sub z.number) =
        subst (λ m. FrameQuiet (w ++ m ∷ []) x (sub m)) counted
        (subst (λ k. FrameQuiet (w ++ suc q ∷ []) k (sub (suc q))) here.1 (child (suc q) (omega arith) (omega (arith, e)))) in
        let given : EachQuiet i f t w z.clock (call_condition z z.manner ++ z.arguments) =
        subst (λ m. EachQuiet i f t w m.clock (call_condition m m.manner ++ m.arguments)) here.0 (mine.calls (suc q) (omega arith) (omega (arith, e))) in
        let none = left_part _ (asserts_in x (below_call z.number at)) (calls_asserts (numbering_of j at) is) y in
        both_parts _ (asserted_below g z (sub z.number)) (asserted_in_calls g sub is)
        (below_quiet z (subst (SiteKnown j) (sym v.0) a.0) given (sub z.number) there.body
        (there.asserted (subst (λ (k : Place → ℕ). NoneOutside row (asserts_in x k)) (sym (numbers_further w (number_of i) z.number)) none)))
        (each_asserted is ss (suc q) (same_next z x is q s) h.2 v.3 a.1 (omega (arith, e))
        (right_part _ (asserts_in x (below_call z.number at)) (calls_asserts (numbering_of j at) is) y))

    module _ (fits : CallsFit IsKnown j (calls_of j) 0) (unfolded : AreUnfolded p (all_sites n) (calls_of j)) (sites : AllByRecursion (SiteKnown j) (all_sites n)) where
      asserted_quiet : NoneOutside row (asserts_in j at) → Quiet (wholes g base (assertions n.body) ++ asserted_in_calls g sub (calls_of j))
      asserted_quiet h =
          let all : NoneOutside row (asserts_of (numbering_of j at) ++ calls_asserts (numbering_of j at) (calls_of j)) =
          subst (λ l. NoneOutside row l) (asserts_are j at) h in
          both_parts _ (wholes g base (assertions n.body)) (asserted_in_calls g sub (calls_of j))
          (fit_quiet (assertions n.body) (assertions_fit p c j u d)
          (asserted_here (assertions n.body) (left_part _ (asserts_of (numbering_of j at)) (calls_asserts (numbering_of j at) (calls_of j)) all)))
          (each_asserted (calls_of j) (all_sites n) 0 same_all fits unfolded sites (omega arith)
          (right_part _ (asserts_of (numbering_of j at)) (calls_asserts (numbering_of j at) (calls_of j)) all))

      pub frame_here : (order : List ℕ) → FrameQuiet w j (text_over sub order w j)
      frame_here order = record { body = body_quiet order; contract = contract; asserted = asserted_quiet }
