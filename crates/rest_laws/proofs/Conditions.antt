-- What the conditions of a declaration read, where all that is evaluated for them reads such slots.
use Rattle.std.proofs.Common.{◌≡◌, ℕ, zero, suc, pred, ◌+◌, ◌<◌, Bool, true, false, cond, List, [], ◌∷◌, ◌++◌, map, flat_map, slice_index_or, refl, ap, ◌∙◌, sym, subst, arith, Some, option_map, option_to_list, unwrap_or}
use Rattle.std.specs.List.{AllByRecursion}
use Rattle.std.specs.Map.{lookup}
use Rattle.lus_tree.specs.Tree.{Name, text_of, Expression, truth, number, name, negation, minus, pre, arrow, binary, choice, sampled, merged, call, condact, mode_name, Labelled, Statement, equation, assertion, property, main_mark, ContractStatement, assume, guarantee, ghost_variable, constant, mode, «import»}
use Rattle.lus_meaning.specs.Value.{flag}
use Rattle.lus_meaning.specs.Frame.{Frame}
use Rattle.lus_meaning.specs.Scene.{base, Manner, plain, while_true, as_import, Site, Instance, Instances, instance, no_instances, with_instance, no_instance, component_of, calls_of, call_instance, instance_at, contract_statements}
use Rattle.lus_meaning.specs.Meaning.{mode_key}
use Rattle.lus_meaning.specs.Cycle.{Place as NeededPlace}
use Rattle.lus_meaning.specs.Property.{assertions}
use Rattle.lus_meaning.specs.Verdict.{throughout}
use Rattle.lus_meaning.proofs.Lists.{append_none, both_parts, map_append}
use Rattle.lus_meaning.proofs.Now.{left_part, right_part}
use Rattle.sys_meaning.specs.Slot.{beat, Place, own}
use Rattle.sys_meaning.specs.Items.{Key, Known, known, ModeItem, mode_item, imported_item, Items, no_items, items_after, items_each}
use Rattle.sys_meaning.specs.Defaults.{site_at, site_of}
use Rattle.sys_meaning.specs.System.{number_of, below_call}
use Rattle.sys_meaning.specs.WellTyped.{IsKnown, IsImport, StatementsFit, own_keys, count_of, CallFits, CallsFit, TreeFits}
use Rattle.sys_meaning.proofs.Forward.{own_fits, calls_fit, drop_calls, first_site, first_instance, site_dropped, instance_dropped, calls_later, later_calls}
use Rattle.lus_evaluation.specs.Part.{Part, Setting, part, parts, needs_of, whole_parts, wholes}
use Rattle.lus_evaluation.specs.Frame.{ModeText, ContractText, FrameText, no_text, Calls, setting, mode_text, imported_mode, contract_after, is_evaluated, call_parts, asserted_below, asserted_in_calls, Orders, text_over, text_at, frame_text, call_texts}
use Rattle.lus_evaluation.specs.Frame as frames
use Rattle.lus_evaluation.specs.Turn as turn
use Rattle.lus_evaluation.specs.Turn.{property_texts, owed_in_calls, condition_parts, in_turn}
use Rattle.slot_values.specs.Resolution.{Resolution}
use Rattle.slot_values.specs.Resolution as r
use Rattle.slot_values.specs.Resolved.{Numbering, resolution, latest_resolution, outputs_at, first_resolution}
use Rattle.evaluation_laws.specs.Resolvings.{Resolving, at_numbers, all_resolved, resolvings}
use Rattle.evaluation_laws.specs.Rows.{numbers_there}
use Rattle.slot_sources.specs.Rows.{slots_read}
use Rattle.slot_sources.specs.Sources.{numbering_of}
use Rattle.condition_laws.specs.Conditions.{resolved, conditions_of, assumed, some_resolved, where_active, asserts_of, asserts_in, calls_asserts, legal_in, body_properties, one_mode, owed_by_site, owed_by_calls, properties_in}
use Rattle.condition_laws.proofs.ItemsWithin.{text_called}
use Rattle.condition_laws.proofs.Known.{items_ask_resolvings}
use Rattle.order_laws.proofs.Bodies.{in_all}
use Rattle.order_laws.proofs.Frames.{StandsAt, stands_called, same_place, numbers_further}
use Rattle.order_laws.proofs.Laying.{root_in}
use Rattle.rest_laws.specs.Rests.{part_reads}

module _ (R : ℕ → Type 0) where
  abbrev Reads : Resolution → Type 0
  Reads e = AllByRecursion R (slots_read e)

  abbrev pub AllRead : List Resolution → Type 0
  AllRead es = AllByRecursion Reads es

  -- ---- with fewer modes that are known an expression reads no more

  module _ (j : Instance) (at : Place → ℕ) (ms more : Known Resolution) where
    abbrev g : Numbering
    g = record { place = j; number = at; modes = ms ++ more }

    abbrev h : Numbering
    h = record { place = j; number = at; modes = ms }

    fewer_modes : (key : Key) (ms : Known Resolution) → Reads (unwrap_or (lookup (mode_key key) (ms ++ more)) (r.known (flag false))) →
        Reads (unwrap_or (lookup (mode_key key) ms) (r.known (flag false)))
    fewer_modes key [] a = tt
    fewer_modes key (m ∷ ms) a = go (mode_key key m.0) a (fewer_modes key ms)
      where
        go : (c : Bool) → Reads (unwrap_or (cond c (Some m.1) (lookup (mode_key key) (ms ++ more))) (r.known (flag false))) →
            (Reads (unwrap_or (lookup (mode_key key) (ms ++ more)) (r.known (flag false))) → Reads (unwrap_or (lookup (mode_key key) ms) (r.known (flag false)))) →
            Reads (unwrap_or (cond c (Some m.1) (lookup (mode_key key) ms)) (r.known (flag false)))
        go true a n = a
        go false a n = n a

    latest_fewer : (k : ℕ) (a b : Resolution) → (Reads a → Reads b) → (ys : List Name) → Reads (first_resolution (map (latest_resolution g k a) ys)) →
        Reads (first_resolution (map (latest_resolution h k b) ys))
    latest_fewer k a b f [] z = tt
    latest_fewer k a b f (y ∷ ys) z = both_parts R (slots_read b) _ (f (left_part R (slots_read a) _ z)) (right_part R (slots_read a) _ z)

    two : (a b c d : Resolution) → (Reads a → Reads c) → (Reads b → Reads d) → AllByRecursion R (slots_read a ++ slots_read b) →
        AllByRecursion R (slots_read c ++ slots_read d)
    two a b c d f q z = both_parts R (slots_read c) (slots_read d) (f (left_part R (slots_read a) (slots_read b) z)) (q (right_part R (slots_read a) (slots_read b) z))

    fewer : (e : Expression) → Reads (resolution g e) → Reads (resolution h e)
    fewer (truth p x) a = tt
    fewer (number p x) a = tt
    fewer (name p x) a = a
    fewer (negation p x) a = fewer x a
    fewer (minus p x) a = fewer x a
    fewer (pre p k x) a = a
    fewer (arrow p k x y) a = (a.0, two (resolution g x) (resolution g y) (resolution h x) (resolution h y) (fewer x) (fewer y) a.1)
    fewer (binary p o x y) a = two (resolution g x) (resolution g y) (resolution h x) (resolution h y) (fewer x) (fewer y) a
    fewer (choice p x y d) a =
        let u : AllByRecursion R (slots_read (resolution g x) ++ slots_read (resolution g y)) =
        left_part R (slots_read (resolution g x) ++ slots_read (resolution g y)) (slots_read (resolution g d)) a in
        both_parts R (slots_read (resolution h x) ++ slots_read (resolution h y)) (slots_read (resolution h d))
        (two (resolution g x) (resolution g y) (resolution h x) (resolution h y) (fewer x) (fewer y) u)
        (fewer d (right_part R (slots_read (resolution g x) ++ slots_read (resolution g y)) (slots_read (resolution g d)) a))
    fewer (sampled p x q y) a = (a.0, fewer x a.1)
    fewer (merged p y x d) a = (a.0, two (resolution g x) (resolution g d) (resolution h x) (resolution h d) (fewer x) (fewer d) a.1)
    fewer (call p k f as_) a = a
    fewer (condact p k x f as_ ds) a = latest_fewer k (resolution g x) (resolution h x) (fewer x) (outputs_at g k) a
    fewer (mode_name p d m) a = fewer_modes (option_to_list (option_map text_of d), m.text) ms a

  module _ (i : Instance) (f : Frame)
      (up : (w : List ℕ) (j : Instance) → StandsAt i f w j → (k : ℕ) → 0 < k → pred k < count_of (calls_of j) →
      R (numbers_there i (w ++ k ∷ []) (own beat)) → R (numbers_there i w (own beat))) where
    -- a part reads such slots
    abbrev pub IsRead : Part → Type 0
    IsRead q = AllByRecursion R (part_reads i q)

    abbrev pub Read : List Part → Type 0
    Read qs = AllByRecursion IsRead qs

    -- ---- an expression on the base clock, in the frame at the end of a way

    module _ (w : List ℕ) (j : Instance) (s : StandsAt i f w j) where
      abbrev at : Place → ℕ
      at = numbers_there i w

      -- with all modes, and the beat of the frame
      root_read : (sub : Calls) (ts : List ModeText) (ns : List NeededPlace) (e : Expression) → Read (parts (setting j w sub ts) ns [] base e) →
          Reads (resolution (numbering_of j at) e) × R (at (own beat))
      root_read sub ts ns e a =
          let q : IsRead (part (setting j w sub ts) ns [] base e) =
          in_all IsRead (parts (setting j w sub ts) ns [] base e) (part (setting j w sub ts) ns [] base e) a (root_in (setting j w sub ts) ns [] base e) in
          (subst (λ z. Reads (resolution (numbering_of z at) e)) (sym (same_place w i throughout f) ∙ s.place) q.1, q.0)

      -- with the modes that stand before it
      item_read : (qs : List (ModeItem Resolving)) (more : Known Resolving) → resolvings j ≡ known qs ++ more → (sub : Calls) (ts : List ModeText)
          (ns : List NeededPlace) (e : Expression) → Read (parts (setting j w sub ts) ns [] base e) →
          Reads (resolved.says j (known qs) e at) × R (at (own beat))
      item_read qs more all sub ts ns e a =
          let z = root_read sub ts ns e a in (
            fewer j at (at_numbers at (known qs)) (at_numbers at more) e
                (subst (λ ms. Reads (resolution (record { place = j; number = at; modes = ms }) e)) (map_append (λ m. (m.0, m.1 at)) (known qs) more)
                (subst (λ ms. Reads (resolution (record { place = j; number = at; modes = at_numbers at ms }) e)) all z.0)),
            z.1,
          )

    -- ---- the items of a contract

    abbrev Fine : (Place → ℕ) → Resolving → Type 0
    Fine at w = Reads (w at) × R (at (own beat))

    record ModeFine (at : Place → ℕ) (m : ModeText) (q : ModeItem Resolving) : Type 0 where
      pub required : Read m.required → Reads (q.asked at)
      pub ensured : Read m.ensured → AllByRecursion (Fine at) q.ensures_each

    abbrev ModesFine : (Place → ℕ) → List ModeText → List (ModeItem Resolving) → Type 0
    ModesFine at [] [] = Unit {0}
    ModesFine at (m ∷ ms) (q ∷ qs) = ModeFine at m q × ModesFine at ms qs
    ModesFine at [] (q ∷ qs) = ⊥
    ModesFine at (m ∷ ms) [] = ⊥

    record ItemsFine (at : Place → ℕ) (k : ContractText) (q : Items Resolving) : Type 0 where
      pub assumes : Read k.assumed → AllByRecursion (Fine at) q.assumes
      pub guarantees : Read k.guaranteed → AllByRecursion (Fine at) q.guarantees
      pub modes : ModesFine at k.modes q.modes

    fine_more : (at : Place → ℕ) (ms ns : List ModeText) (qs os : List (ModeItem Resolving)) → ModesFine at ms qs → ModesFine at ns os →
        ModesFine at (ms ++ ns) (qs ++ os)
    fine_more at [] ns [] os a c = c
    fine_more at [] ns (q ∷ qs) os a c = absurd a
    fine_more at (m ∷ ms) ns [] os a c = absurd a
    fine_more at (m ∷ ms) ns (q ∷ qs) os a c = (a.0, fine_more at ms ns qs os a.1 c)

    -- the first modes are among all
    items_more : (j : Instance) (subr : ℕ → Items Resolving) (qs : List (ModeItem Resolving)) (cs : List ContractStatement) →
        (more : Known Resolving) × (known (items_after resolved j subr qs cs).modes ≡ known qs ++ more)
    items_more j subr qs [] = ([], sym (append_none (known qs)))
    items_more j subr qs (assume l ∷ cs) = items_more j subr qs cs
    items_more j subr qs (guarantee l ∷ cs) = items_more j subr qs cs
    items_more j subr qs (ghost_variable x e ∷ cs) = items_more j subr qs cs
    items_more j subr qs (constant c ∷ cs) = items_more j subr qs cs
    items_more j subr qs (mode m rs es ∷ cs) =
        let one : List (ModeItem Resolving) = mode_item resolved j (known qs) m.text rs es ∷ [] in
        let z = items_more j subr (qs ++ one) cs in
        (known one ++ z.0, z.1 ∙ ap (λ l. l ++ z.0) (map_append (λ (m : ModeItem Resolving). (m.key, m.asked)) qs one) ∙ regroup (known qs) (known one) z.0)
      where
        regroup : (xs ys zs : Known Resolving) → (xs ++ ys) ++ zs ≡ xs ++ (ys ++ zs)
        regroup [] ys zs = refl
        regroup (x ∷ xs) ys zs = ap (λ l. x ∷ l) (regroup xs ys zs)
    items_more j subr qs («import» k c as_ xs ∷ cs) =
        let some : List (ModeItem Resolving) = map (imported_item resolved k c.text) (subr k).modes in
        let z = items_more j subr (qs ++ some) cs in
        (known some ++ z.0, z.1 ∙ ap (λ l. l ++ z.0) (map_append (λ (m : ModeItem Resolving). (m.key, m.asked)) qs some) ∙ regroup (known qs) (known some) z.0)
      where
        regroup : (xs ys zs : Known Resolving) → (xs ++ ys) ++ zs ≡ xs ++ (ys ++ zs)
        regroup [] ys zs = refl
        regroup (x ∷ xs) ys zs = ap (λ l. x ∷ l) (regroup xs ys zs)

    module _ (w : List ℕ) (j : Instance) (s : StandsAt i f w j) (sub : Calls) where
      abbrev here_at : Place → ℕ
      here_at = numbers_there i w

      module _ (ts : List ModeText) (qs : List (ModeItem Resolving)) (more : Known Resolving) (all : resolvings j ≡ known qs ++ more) where
        abbrev here : Setting
        here = setting j w sub ts

        one_read : (l : Labelled) → Read (frames.conditions_of here (l ∷ [])) → Fine here_at (resolved.says j (known qs) l.value)
        one_read l a = item_read w j s qs more all sub ts (needs_of here base l.value) l.value (left_part IsRead (whole_parts here [] base l.value) [] a)

        required_each : (rs : List Labelled) → Read (frames.conditions_of here rs) →
            AllByRecursion (λ l. Fine here_at (resolved.says j (known qs) l.value)) rs
        required_each [] a = tt
        required_each (l ∷ rs) a = (
          item_read w j s qs more all sub ts (needs_of here base l.value) l.value
              (left_part IsRead (whole_parts here [] base l.value) (frames.conditions_of here rs) a),
          required_each rs (right_part IsRead (whole_parts here [] base l.value) (frames.conditions_of here rs) a),
        )

        all_asked : (rs : List Labelled) → AllByRecursion (λ l. Fine here_at (resolved.says j (known qs) l.value)) rs →
            Reads (all_resolved (map (λ r. r here_at) (map (λ r. resolved.says j (known qs) r.value) rs)))
        all_asked [] a = tt
        all_asked (l ∷ []) a = a.0.0
        all_asked (l ∷ m ∷ rs) a = both_parts R (slots_read (resolved.says j (known qs) l.value here_at)) _ a.0.0 (all_asked (m ∷ rs) a.1)

        ensures_read : (m : Name) (rs es fs : List Labelled) →
            Read (flat_map (λ e. frames.conditions_of here rs ++ frames.conditions_of here (e ∷ [])) es) →
            AllByRecursion (Fine here_at) (map (λ e. resolved.under (mode_item resolved j (known qs) m rs fs).asked (resolved.says j (known qs) e.value)) es)
        ensures_read m rs [] fs a = tt
        ensures_read m rs (e ∷ es) fs a =
            let one : List Part = frames.conditions_of here rs ++ frames.conditions_of here (e ∷ []) in
            let rest : List Part = flat_map (λ e. frames.conditions_of here rs ++ frames.conditions_of here (e ∷ [])) es in
            let first : Read one = left_part IsRead one rest a in
            let said : Fine here_at (resolved.says j (known qs) e.value) =
            one_read e (right_part IsRead (frames.conditions_of here rs) (frames.conditions_of here (e ∷ [])) first) in (
              (
                both_parts R (slots_read ((mode_item resolved j (known qs) m rs fs).asked here_at)) _
                    (all_asked rs (required_each rs (left_part IsRead (frames.conditions_of here rs) (frames.conditions_of here (e ∷ [])) first))) said.0,
                said.1,
              ),
              ensures_read m rs es fs (right_part IsRead one rest a),
            )

        mode_fine : (m : Name) (rs es : List Labelled) → ModeFine here_at (mode_text here m rs es) (mode_item resolved j (known qs) m rs es)
        mode_fine m rs es = record {
          required = λ a. all_asked rs (required_each rs a);
          ensured = λ a. ensures_read m rs es es a;
        }

      -- an import's items
      through_all : (k : ℕ) → 0 < k → pred k < count_of (calls_of j) → (ws : List Resolving) →
          AllByRecursion (Fine (numbers_there i (w ++ k ∷ []))) ws → AllByRecursion (Fine here_at) (map (resolved.through k) ws)
      through_all k c l [] a = tt
      through_all k c l (v ∷ ws) a = (
        (subst (λ y. Reads (v y)) (numbers_further w (number_of i) k) a.0.0, up w j s k c l a.0.1),
        through_all k c l ws a.1,
      )

      through : (k : ℕ) → 0 < k → pred k < count_of (calls_of j) → (x : Name) (ms : List ModeText) (qs : List (ModeItem Resolving)) →
          ModesFine (numbers_there i (w ++ k ∷ [])) ms qs → ModesFine here_at (map (imported_mode x) ms) (map (imported_item resolved k x) qs)
      through k c l x [] [] a = tt
      through k c l x [] (q ∷ qs) a = absurd a
      through k c l x (m ∷ ms) [] a = absurd a
      through k c l x (m ∷ ms) (q ∷ qs) a = (
        record {
          required = λ y. subst (λ u. Reads (q.asked u)) (numbers_further w (number_of i) k) (a.0.required y);
          ensured = λ y. through_all k c l q.ensures_each (a.0.ensured y);
        },
        through k c l x ms qs a.1,
      )

      after : (subr : ℕ → Items Resolving) → ((k : ℕ) → IsImport j k → ItemsFine (numbers_there i (w ++ k ∷ [])) (sub k).contract (subr k)) → (ks : List Key)
          (ts : List ModeText) (qs : List (ModeItem Resolving)) (cs : List ContractStatement) → StatementsFit j ks cs → ModesFine here_at ts qs →
          resolvings j ≡ known (items_after resolved j subr qs cs).modes → ItemsFine here_at (contract_after j w sub ts cs) (items_after resolved j subr qs cs)
      after subr below ks ts qs [] h y e = record { assumes = λ z. tt; guarantees = λ z. tt; modes = y }
      after subr below ks ts qs (assume l ∷ cs) h y e =
          let n : ItemsFine here_at (contract_after j w sub ts cs) (items_after resolved j subr qs cs) = after subr below (ks ++ []) ts qs cs h.1 y e in
          let later = items_more j subr qs cs in
          let one : List Part = frames.conditions_of (setting j w sub ts) (l ∷ []) in
          record {
            assumes = λ z. (
              one_read ts qs later.0 (e ∙ later.1) l (left_part IsRead one (contract_after j w sub ts cs).assumed z),
              n.assumes (right_part IsRead one (contract_after j w sub ts cs).assumed z),
            );
            guarantees = n.guarantees;
            modes = n.modes;
          }
      after subr below ks ts qs (guarantee l ∷ cs) h y e =
          let n : ItemsFine here_at (contract_after j w sub ts cs) (items_after resolved j subr qs cs) = after subr below (ks ++ []) ts qs cs h.1 y e in
          let later = items_more j subr qs cs in
          let one : List Part = frames.conditions_of (setting j w sub ts) (l ∷ []) in
          record {
            assumes = n.assumes;
            guarantees = λ z. (
              one_read ts qs later.0 (e ∙ later.1) l (left_part IsRead one (contract_after j w sub ts cs).guaranteed z),
              n.guarantees (right_part IsRead one (contract_after j w sub ts cs).guaranteed z),
            );
            modes = n.modes;
          }
      after subr below ks ts qs (ghost_variable x d ∷ cs) h y e = after subr below (ks ++ []) ts qs cs h.1 y e
      after subr below ks ts qs (constant c ∷ cs) h y e = after subr below (ks ++ []) ts qs cs h.1 y e
      after subr below ks ts qs (mode m rs es ∷ cs) h y e =
          let later = items_more j subr qs (mode m rs es ∷ cs) in
          let text : List ModeText = mode_text (setting j w sub ts) m.text rs es ∷ [] in
          let item : List (ModeItem Resolving) = mode_item resolved j (known qs) m.text rs es ∷ [] in
          after subr below (ks ++ ([], m.text) ∷ []) (ts ++ text) (qs ++ item) cs h.1
          (fine_more here_at ts text qs item y (mode_fine ts qs later.0 (e ∙ later.1) m.text rs es, tt)) e
      after subr below ks ts qs («import» k c as_ xs ∷ cs) h y e =
          let there : ItemsFine (numbers_there i (w ++ k ∷ [])) (sub k).contract (subr k) = below k h.0 in
          let text : List ModeText = map (imported_mode c.text) (sub k).contract.modes in
          let item : List (ModeItem Resolving) = map (imported_item resolved k c.text) (subr k).modes in
          let n : ItemsFine here_at (contract_after j w sub (ts ++ text) cs) (items_after resolved j subr (qs ++ item) cs) =
          after subr below (ks ++ own_keys j («import» k c as_ xs)) (ts ++ text) (qs ++ item) cs h.1
          (fine_more here_at ts text qs item y (through k h.0.call.counted h.0.call.listed c.text (sub k).contract.modes (subr k).modes there.modes)) e in
          let rest : ContractText = contract_after j w sub (ts ++ text) cs in
          let items : Items Resolving = items_after resolved j subr (qs ++ item) cs in
          record {
            assumes = λ z. both_parts (Fine here_at) (map (resolved.through k) (subr k).assumes) items.assumes
                (through_all k h.0.call.counted h.0.call.listed (subr k).assumes (there.assumes (left_part IsRead (sub k).contract.assumed rest.assumed z)))
                (n.assumes (right_part IsRead (sub k).contract.assumed rest.assumed z));
            guarantees = λ z. both_parts (Fine here_at) (map (resolved.through k) (subr k).guarantees) items.guarantees
                (through_all k h.0.call.counted h.0.call.listed (subr k).guarantees
                (there.guarantees (left_part IsRead (sub k).contract.guaranteed rest.guaranteed z)))
                (n.guarantees (right_part IsRead (sub k).contract.guaranteed rest.guaranteed z));
            modes = n.modes;
          }

    -- ---- at every depth

    by_number : (Q : ℕ → Type 0) (n : ℕ) → ((p : ℕ) → p < n → Q (suc p)) → (k : ℕ) → 0 < k → pred k < n → Q k
    by_number Q n h zero c l = absurd (omega (arith, c))
    by_number Q n h (suc p) c l = h p l

    module _ (o : Orders) where
      mutual
        items_fine : (w : List ℕ) (j : Instance) → StandsAt i f w j → ItemsFine (numbers_there i w) (frame_text o w j).contract (conditions_of j)
        items_fine w (instance d cs is) s =
            after w (instance d cs is) s (text_at (call_texts o w is)) (λ k. slice_index_or (items_each resolved is) (pred k) no_items)
            (λ k im. by_number (λ k. ItemsFine (numbers_there i (w ++ k ∷ [])) (text_at (call_texts o w is) k).contract
            (slice_index_or (items_each resolved is) (pred k) no_items)) (count_of is)
            (λ p l. calls_fine w (instance d cs is) is 0 s.fits.1 p (suc p) (omega arith) l
            (stands_called i f w (instance d cs is) s (suc p) (omega arith) l)) k im.call.counted im.call.listed) [] [] []
            (contract_statements d) (own_fits IsKnown (instance d cs is) s.fits).contract tt (sym (items_ask_resolvings (instance d cs is)))

        calls_fine : (w : List ℕ) (j : Instance) (is : Instances) (q : ℕ) → CallsFit IsKnown j is q → (p n : ℕ) → n ≡ suc (q + p) → p < count_of is →
            StandsAt i f (w ++ n ∷ []) (instance_at is p) →
            ItemsFine (numbers_there i (w ++ n ∷ [])) (slice_index_or (call_texts o w is) p no_text).contract (slice_index_or (items_each resolved is) p no_items)
        calls_fine w j no_instances q t p n e l s = absurd (omega (arith, l))
        calls_fine w j (with_instance c k is) q t zero n e l s =
            let same : n ≡ c.number = (let u : n ≡ suc q = omega (arith, e) in u ∙ sym t.0.number) in
            subst (λ z. ItemsFine (numbers_there i (w ++ n ∷ [])) (frame_text o (w ++ z ∷ []) k).contract (conditions_of k)) same (items_fine (w ++ n ∷ []) k s)
        calls_fine w j (with_instance c k is) q t (suc p) n e l s =
            calls_fine w j is (suc q) t.2 p n (omega (arith, e)) (omega (arith, l)) s

      -- ---- frames

      where_read : (k : ℕ) → R k → (e : Resolution) → Reads e → Reads (where_active k e)
      where_read k h e a = (h, both_parts R (slots_read e) [] a tt)

      where_all : (at : Place → ℕ) (ws : List Resolving) → AllByRecursion (Fine at) ws → AllRead (map (where_active (at (own beat))) (map (λ v. v at) ws))
      where_all at [] a = tt
      where_all at (v ∷ ws) a = (where_read (at (own beat)) a.0.1 (v at) a.0.0, where_all at ws a.1)

      at_frame : (at : Place → ℕ) (ws : List Resolving) → AllByRecursion (Fine at) ws → AllRead (map (λ v. v at) ws)
      at_frame at [] a = tt
      at_frame at (v ∷ ws) a = (a.0.0, at_frame at ws a.1)

      texts_read : (w : List ℕ) (j : Instance) → StandsAt i f w j → (sub : Calls) (ts : List ModeText) (es : List Expression) →
          Read (wholes (setting j w sub ts) base es) →
          AllByRecursion (λ e. Reads (resolution (numbering_of j (numbers_there i w)) e) × R (numbers_there i w (own beat))) es
      texts_read w j s sub ts [] a = tt
      texts_read w j s sub ts (e ∷ es) a =
          let g : Setting = setting j w sub ts in (
            root_read w j s sub ts (needs_of g base e) e (left_part IsRead (whole_parts g [] base e) (wholes g base es) a),
            texts_read w j s sub ts es (right_part IsRead (whole_parts g [] base e) (wholes g base es) a),
          )

      asserts_read : (g : Numbering) (es : List Expression) → AllByRecursion (λ e. Reads (resolution g e) × R (g.number (own beat))) es →
          AllRead (map (λ e. where_active (g.number (own beat)) (resolution g e)) es)
      asserts_read g [] a = tt
      asserts_read g (e ∷ es) a = (where_read (g.number (own beat)) a.0.1 (resolution g e) a.0.0, asserts_read g es a.1)

      asserted_there : (g : Setting) (c : Site) (u : FrameText) → Read (asserted_below g c u) → Read u.asserted
      asserted_there g c u a = go u.body u.contract u.asserted a
        where
          go : (b : List Part) (k : ContractText) (qs : List Part) → Read (asserted_below g c record { body = b; contract = k; asserted = qs }) → Read qs
          go b k [] a = tt
          go b k (q ∷ qs) a =
              right_part IsRead (cond (is_evaluated (component_of g.place) c c.manner) [] (call_parts g c record { body = b; contract = k; asserted = q ∷ qs }))
              (q ∷ qs) a

      -- the frame of a call
      module _ (w : List ℕ) (j : Instance) (s : StandsAt i f w j) (c : Site) (k : Instance) (is : Instances) (p : ℕ) (fit : CallFits IsKnown j c k p)
          (e : drop_calls p (calls_of j) ≡ with_instance c k is) where
        site_here : site_of j (suc p) ≡ c
        site_here = site_dropped (calls_of j) p c ∙ ap (λ y. first_site y (site_at no_instances 0)) e

        instance_here : call_instance j (suc p) ≡ k
        instance_here = instance_dropped (calls_of j) p ∙ ap (λ y. first_instance y no_instance) e

        text_here : text_at (call_texts o w (calls_of j)) c.number ≡ frame_text o (w ++ c.number ∷ []) k
        text_here =
            ap (text_at (call_texts o w (calls_of j))) fit.number ∙ text_called o w j (suc p) fit.call.counted fit.call.listed
            ∙ ap (λ z. frame_text o (w ++ z.number ∷ []) (call_instance j (suc p))) site_here ∙ ap (λ z. frame_text o (w ++ c.number ∷ []) z) instance_here

        stands_here : StandsAt i f (w ++ c.number ∷ []) k
        stands_here =
            subst (λ n. StandsAt i f (w ++ n ∷ []) k) (sym fit.number)
            (subst (λ y. StandsAt i f (w ++ suc p ∷ []) y) instance_here (stands_called i f w j s (suc p) fit.call.counted fit.call.listed))

      mutual
        all_asserts : (w : List ℕ) (j : Instance) → StandsAt i f w j → TreeFits IsKnown j → (at : Place → ℕ) → numbers_there i w ≡ at →
            Read (frame_text o w j).asserted → AllRead (asserts_in j at)
        all_asserts w (instance d cs is) s t at k a =
            let j : Instance = instance d cs is in
            let sub : Calls = text_at (call_texts o w is) in
            let ts : List ModeText = (frame_text o w j).contract.modes in
            let own_ones : List Part = wholes (setting j w sub ts) base (assertions d.body) in
            let calls : List Part = asserted_in_calls (setting j w sub ts) sub is in
            both_parts Reads (asserts_of (numbering_of j at)) (calls_asserts (numbering_of j at) is)
            (subst (λ y. AllRead (asserts_of (numbering_of j y))) k
            (asserts_read (numbering_of j (numbers_there i w)) (assertions d.body)
            (texts_read w j s sub ts (assertions d.body) (left_part IsRead own_ones calls a))))
            (below_asserts w j s at k (setting j w sub ts) is 0 refl t.1 (right_part IsRead own_ones calls a))

        below_asserts : (w : List ℕ) (j : Instance) → StandsAt i f w j → (at : Place → ℕ) → numbers_there i w ≡ at → (g : Setting) (is : Instances) (p : ℕ) →
            drop_calls p (calls_of j) ≡ is → CallsFit IsKnown j is p → Read (asserted_in_calls g (text_at (call_texts o w (calls_of j))) is) →
            AllRead (calls_asserts (numbering_of j at) is)
        below_asserts w j s at k g no_instances p e t a = tt
        below_asserts w j s at k g (with_instance c z is) p e t a =
            let sub : Calls = text_at (call_texts o w (calls_of j)) in
            let one : List Part = asserted_below g c (sub c.number) in
            let rest : List Part = asserted_in_calls g sub is in
            both_parts Reads (asserts_in z (below_call c.number at)) (calls_asserts (numbering_of j at) is)
            (all_asserts (w ++ c.number ∷ []) z (stands_here w j s c z is p t.0 e) t.1 (below_call c.number at)
            (numbers_further w (number_of i) c.number ∙ ap (below_call c.number) k)
            (subst (λ (u : FrameText). Read u.asserted) (text_here w j s c z is p t.0 e) (asserted_there g c (sub c.number) (left_part IsRead one rest a))))
            (below_asserts w j s at k g is (suc p) (calls_later p (calls_of j) ∙ ap later_calls e) t.2 (right_part IsRead one rest a))

      -- ---- what callees are owed

      owed_read : (g : Numbering) (c : Site) (z : Instance) (m : Manner) (text : ContractText) →
          (Read text.assumed → AllByRecursion (Fine (below_call c.number g.number)) (conditions_of z).assumes) → Read (turn.owed c m text) →
          AllRead (owed_by_site g c m z)
      owed_read g c z (as_import xs) text h a = tt
      owed_read g c z plain text h a = where_all (below_call c.number g.number) (conditions_of z).assumes (h a)
      owed_read g c z (while_true e) text h a = where_all (below_call c.number g.number) (conditions_of z).assumes (h a)

      all_owed : (w : List ℕ) (j : Instance) → StandsAt i f w j → (at : Place → ℕ) → numbers_there i w ≡ at → (is : Instances) (p : ℕ) →
          drop_calls p (calls_of j) ≡ is → CallsFit IsKnown j is p → Read (owed_in_calls (text_at (call_texts o w (calls_of j))) is) →
          AllRead (owed_by_calls (numbering_of j at) is)
      all_owed w j s at k no_instances p e t a = tt
      all_owed w j s at k (with_instance c z is) p e t a =
          let sub : Calls = text_at (call_texts o w (calls_of j)) in
          let one : List Part = turn.owed c c.manner (sub c.number).contract in
          let rest : List Part = owed_in_calls sub is in
          both_parts Reads (owed_by_site (numbering_of j at) c c.manner z) (owed_by_calls (numbering_of j at) is)
          (owed_read (numbering_of j at) c z c.manner (frame_text o (w ++ c.number ∷ []) z).contract
          (λ y. subst (λ u. AllByRecursion (Fine u) (conditions_of z).assumes) (numbers_further w (number_of i) c.number ∙ ap (below_call c.number) k)
          ((items_fine (w ++ c.number ∷ []) z (stands_here w j s c z is p t.0 e)).assumes y))
          (subst (λ (u : FrameText). Read (turn.owed c c.manner u.contract)) (text_here w j s c z is p t.0 e) (left_part IsRead one rest a)))
          (all_owed w j s at k is (suc p) (calls_later p (calls_of j) ∙ ap later_calls e) t.2 (right_part IsRead one rest a))

      -- ---- modes, and properties of the body

      all_ensured : (at : Place → ℕ) (ms : List ModeText) (qs : List (ModeItem Resolving)) → ModesFine at ms qs → Read (flat_map (λ m. m.ensured) ms) →
          AllRead (flat_map (λ m. map (λ f. f at) m.ensures_each) qs)
      all_ensured at [] [] h a = tt
      all_ensured at [] (q ∷ qs) h a = absurd h
      all_ensured at (m ∷ ms) [] h a = absurd h
      all_ensured at (m ∷ ms) (q ∷ qs) h a =
          both_parts Reads (map (λ f. f at) q.ensures_each) (flat_map (λ m. map (λ f. f at) m.ensures_each) qs)
          (at_frame at q.ensures_each (h.0.ensured (left_part IsRead m.ensured (flat_map (λ m. m.ensured) ms) a)))
          (all_ensured at ms qs h.1 (right_part IsRead m.ensured (flat_map (λ m. m.ensured) ms) a))

      some_read : (at : Place → ℕ) (ms : List ModeText) (qs : List (ModeItem Resolving)) → ModesFine at ms qs → Read (flat_map (λ m. m.required) ms) →
          Reads (some_resolved (map (λ m. m.asked at) qs))
      some_read at [] [] h a = tt
      some_read at [] (q ∷ qs) h a = absurd h
      some_read at (m ∷ ms) [] h a = absurd h
      some_read at (m ∷ ms) (q ∷ []) h a = h.0.required (left_part IsRead m.required (flat_map (λ m. m.required) ms) a)
      some_read at (m ∷ ms) (q ∷ u ∷ qs) h a =
          both_parts R (slots_read (q.asked at)) _ (h.0.required (left_part IsRead m.required (flat_map (λ m. m.required) ms) a))
          (some_read at ms (u ∷ qs) h.1 (right_part IsRead m.required (flat_map (λ m. m.required) ms) a))

      one_read_mode : (at : Place → ℕ) (ms : List ModeText) (qs : List (ModeItem Resolving)) → ModesFine at ms qs → Read (flat_map (λ m. m.required) ms) →
          AllRead (one_mode qs at)
      one_read_mode at ms [] h a = tt
      one_read_mode at ms (q ∷ qs) h a = (some_read at ms (q ∷ qs) h a, tt)

      body_read : (g : Numbering) (ss : List Statement) → AllByRecursion (λ e. Reads (resolution g e) × R (g.number (own beat))) (property_texts ss) →
          AllRead (body_properties g ss)
      body_read g [] a = tt
      body_read g (property l ∷ ss) a = (a.0.0, body_read g ss a.1)
      body_read g (equation xs e ∷ ss) a = body_read g ss a
      body_read g (assertion e ∷ ss) a = body_read g ss a
      body_read g (main_mark q ∷ ss) a = body_read g ss a

      -- ---- the analysed declaration

      module _ (s : StandsAt i f [] i) (a : Read (condition_parts (text_at (call_texts o [] (calls_of i))) (frame_text o [] i) i)) where
        abbrev sub_here : Calls
        sub_here = text_at (call_texts o [] (calls_of i))

        abbrev text : FrameText
        text = frame_text o [] i

        abbrev checked : List Part
        checked = wholes (setting i [] sub_here text.contract.modes) base (property_texts (component_of i).body)

        abbrev q2 : List Part
        q2 = text.contract.assumed ++ text.asserted

        abbrev q3 : List Part
        q3 = q2 ++ checked

        abbrev q4 : List Part
        q4 = q3 ++ text.contract.guaranteed

        abbrev q5 : List Part
        q5 = q4 ++ flat_map (λ m. m.ensured) text.contract.modes

        abbrev q6 : List Part
        q6 = q5 ++ flat_map (λ m. m.required) text.contract.modes

        a6 : Read q6
        a6 = left_part IsRead q6 (owed_in_calls sub_here (calls_of i)) a

        a5 : Read q5
        a5 = left_part IsRead q5 (flat_map (λ m. m.required) text.contract.modes) a6

        a4 : Read q4
        a4 = left_part IsRead q4 (flat_map (λ m. m.ensured) text.contract.modes) a5

        a3 : Read q3
        a3 = left_part IsRead q3 text.contract.guaranteed a4

        a2 : Read q2
        a2 = left_part IsRead q2 checked a3

        items : ItemsFine (numbers_there i []) text.contract (conditions_of i)
        items = items_fine [] i s

        pub legal_read : AllRead (legal_in i (number_of i))
        legal_read =
            both_parts Reads (assumed i (number_of i)) (asserts_in i (number_of i))
            (at_frame (number_of i) (conditions_of i).assumes (items.assumes (left_part IsRead text.contract.assumed text.asserted a2)))
            (all_asserts [] i s s.fits (number_of i) refl (right_part IsRead text.contract.assumed text.asserted a2))

        abbrev Kinds : Instance → Type 0
        Kinds j =
            AllRead (body_properties (numbering_of j (number_of i)) (component_of j).body)
            × AllRead (map (λ f. f (number_of i)) (conditions_of j).guarantees)
            × AllRead (flat_map (λ m. map (λ f. f (number_of i)) m.ensures_each) (conditions_of j).modes)
            × AllRead (one_mode (conditions_of j).modes (number_of i))
            × AllRead (owed_by_calls (numbering_of j (number_of i)) (calls_of j))

        together : (j : Instance) → Kinds j → AllRead (properties_in j (number_of i))
        together (instance d cs is) k =
            let j : Instance = instance d cs is in
            let es1 : List Resolution = body_properties (numbering_of j (number_of i)) d.body in
            let es2 : List Resolution = map (λ f. f (number_of i)) (conditions_of j).guarantees in
            let es3 : List Resolution = flat_map (λ m. map (λ f. f (number_of i)) m.ensures_each) (conditions_of j).modes in
            let es4 : List Resolution = one_mode (conditions_of j).modes (number_of i) in
            both_parts Reads (es1 ++ es2 ++ es3 ++ es4) (owed_by_calls (numbering_of j (number_of i)) is)
            (both_parts Reads (es1 ++ es2 ++ es3) es4 (both_parts Reads (es1 ++ es2) es3 (both_parts Reads es1 es2 k.0 k.1) k.2) k.3) k.4

        pub properties_read : AllRead (properties_in i (number_of i))
        properties_read =
            together i (
              body_read (numbering_of i (number_of i)) (component_of i).body
                  (texts_read [] i s sub_here text.contract.modes (property_texts (component_of i).body) (right_part IsRead q2 checked a3)),
              at_frame (number_of i) (conditions_of i).guarantees (items.guarantees (right_part IsRead q3 text.contract.guaranteed a4)),
              all_ensured (number_of i) text.contract.modes (conditions_of i).modes items.modes
                  (right_part IsRead q4 (flat_map (λ m. m.ensured) text.contract.modes) a5),
              one_read_mode (number_of i) text.contract.modes (conditions_of i).modes items.modes
                  (right_part IsRead q5 (flat_map (λ m. m.required) text.contract.modes) a6),
              all_owed [] i s (number_of i) refl (calls_of i) 0 refl (calls_fit IsKnown i s.fits)
                  (right_part IsRead q6 (owed_in_calls sub_here (calls_of i)) a),
            )
