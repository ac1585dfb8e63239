-- Where the parts of a contract's items are within 128 bits, their resolutions have no operation outside.
use Rattle.std.proofs.Common.{◌≡◌, ℕ, zero, suc, pred, ◌<◌, Bool, true, false, cond, get_or, List, [], ◌∷◌, ◌++◌, map, flat_map, slice_index_or, refl, ap, ◌∙◌, sym, subst, arith, Some, None, unwrap_or}
use Rattle.std.specs.List.{AllByRecursion, list_any}
use Rattle.std.specs.Map.{lookup}
use Rattle.lus_tree.specs.Tree.{Name, Expression, Labelled, ContractStatement, assume, guarantee, ghost_variable, constant, mode, «import»}
use Rattle.lus_meaning.specs.Value.{flag}
use Rattle.lus_meaning.specs.Frame.{Frame}
use Rattle.lus_meaning.specs.Scene.{base, Instance, Instances, instance, no_instances, with_instance, instance_at, calls_of, call_instance, contract_statements, Scene, is_on}
use Rattle.lus_meaning.specs.Meaning.{mode_key}
use Rattle.lus_meaning.specs.Contract.{ModeTerms, Terms, no_terms, mode_terms, imported_mode as imported_terms, terms_after, terms, terms_each, scene}
use Rattle.lus_meaning.specs.Cycle.{Place as NeededPlace}
use Rattle.lus_meaning.specs.Verdict.{throughout}
use Rattle.lus_meaning.proofs.Lists.{append_none, both_parts, map_append}
use Rattle.lus_meaning.proofs.Now.{left_part, right_part}
use Rattle.sys_meaning.specs.Slot.{Place}
use Rattle.sys_meaning.specs.Items.{Key, Known, known, ModeItem, mode_item, imported_item, Items, no_items, items_after, items_each}
use Rattle.sys_meaning.specs.Defaults.{site_at, site_of}
use Rattle.sys_meaning.specs.System.{below_call}
use Rattle.sys_meaning.specs.WellTyped.{IsKnown, IsImport, IsCall, Stands, FlagFits, StatementsFit, own_keys, count_of}
use Rattle.sys_meaning.proofs.Forward.{own_fits}
use Rattle.sys_meaning.proofs.Whole.{import_beat}
use Rattle.lus_evaluation.specs.Part.{Part, Setting, needs_of, asked_in, parts, whole_parts, wholes}
use Rattle.lus_evaluation.specs.Frame.{ModeText, ContractText, no_text, Calls, setting, conditions_of, mode_text, imported_mode, contract_after, Orders, text_at, frame_text, call_texts}
use Rattle.lus_evaluation.specs.Past.{scene_on, part_past, NonePast}
use Rattle.slot_values.specs.Resolution.{Resolution}
use Rattle.slot_values.specs.Resolution as r
use Rattle.slot_values.specs.Evaluated.{SlotValues, told, outside}
use Rattle.slot_values.specs.Resolved.{mode_resolution, resolution}
use Rattle.slot_values.specs.Clocked.{row_by, clock_on, Passes}
use Rattle.slot_values.specs.FrameRow.{numbering, Shows}
use Rattle.slot_values.specs.Parts.{Standpoint}
use Rattle.slot_values.proofs.Parts.{parts_by_rows}
use Rattle.evaluation_laws.specs.Resolvings.{Resolving, at_numbers, nowhere, all_resolved}
use Rattle.evaluation_laws.proofs.FrameShown.{Standing, beat_clock, called}
use Rattle.condition_laws.specs.Conditions.{resolved}
use Rattle.condition_laws.specs.Conditions as c
use Rattle.condition_laws.proofs.ContractItems as q
use Rattle.condition_laws.proofs.ContractItems.{SameModes, modes_more, keys, imported_keys, terms_more, by_number, items_called, First, Below, mode_same, through_modes, requires, known_below}
use Rattle.condition_laws.proofs.Operations.{none_outside, never_and, never_implies, no_operation}

module _ (top : Instance) (whole : Frame) where
  abbrev pub Within : ℕ → List Part → Type 0
  Within t qs = NonePast top whole qs t

  abbrev pub IsPartWithin : ℕ → Part → Type 0
  IsPartWithin t q = part_past top whole q t ≡ None

  module _ (at : Place → ℕ) (on : Bool) (row : SlotValues) (t : ℕ) where
    abbrev pub AreFine : List Resolving → Type 0
    AreFine ws = AllByRecursion (λ (w : Resolving). outside row on (w at) ≡ []) ws

    -- what a mode asks, as a part of another condition and by itself, and its ensures
    pub record FineMode (m : ModeText) (q : ModeItem Resolving) : Type 0 where
      pub key : m.key ≡ q.key
      pub asked : (ns : List NeededPlace) → Within t (m.asked ns) → outside row on (q.asked at) ≡ []
      pub required : Within t m.required → outside row on (q.asked at) ≡ []
      pub ensured : Within t m.ensured → AreFine q.ensures_each

    abbrev pub FineModes : List ModeText → List (ModeItem Resolving) → Type 0
    FineModes [] [] = Unit {0}
    FineModes (m ∷ ms) (q ∷ qs) = FineMode m q × FineModes ms qs
    FineModes [] (q ∷ qs) = ⊥
    FineModes (m ∷ ms) [] = ⊥

    pub record FineItems (k : ContractText) (q : Items Resolving) : Type 0 where
      pub assumes : Within t k.assumed → AreFine q.assumes
      pub guarantees : Within t k.guaranteed → AreFine q.guarantees
      pub modes : FineModes k.modes q.modes

    fine_more : (ms ns : List ModeText) (qs os : List (ModeItem Resolving)) → FineModes ms qs → FineModes ns os → FineModes (ms ++ ns) (qs ++ os)
    fine_more [] ns [] os a c = c
    fine_more [] ns (q ∷ qs) os a c = absurd a
    fine_more (m ∷ ms) ns [] os a c = absurd a
    fine_more (m ∷ ms) ns (q ∷ qs) os a c = (a.0, fine_more ms ns qs os a.1 c)

    abbrev asked_by : List ModeText → List (Key × (List NeededPlace → List Part))
    asked_by ms = map (λ m. (m.key, m.asked)) ms

    pub fine_found : (key : Key) (ns : List NeededPlace) (d : List NeededPlace → List Part) (ms : List ModeText) (qs : List (ModeItem Resolving)) →
        FineModes ms qs → Within t ((unwrap_or (lookup (mode_key key) (asked_by ms)) d) ns) →
        outside row on (unwrap_or (lookup (mode_key key) (at_numbers at (known qs))) (r.known (flag false))) ≡ []
    fine_found key ns d [] [] a h = refl
    fine_found key ns d [] (q ∷ qs) a h = absurd a
    fine_found key ns d (m ∷ ms) [] a h = absurd a
    fine_found key ns d (m ∷ ms) (q ∷ qs) a h =
        subst (λ z. outside row on (unwrap_or (cond (mode_key key z) (Some (q.asked at)) (lookup (mode_key key) (at_numbers at (known qs))))
        (r.known (flag false))) ≡ []) a.0.key (go (mode_key key m.key) h (fine_found key ns d ms qs a.1))
      where
        go : (c : Bool) → Within t ((unwrap_or (cond c (Some m.asked) (lookup (mode_key key) (asked_by ms))) d) ns) →
            (Within t ((unwrap_or (lookup (mode_key key) (asked_by ms)) d) ns) →
            outside row on (unwrap_or (lookup (mode_key key) (at_numbers at (known qs))) (r.known (flag false))) ≡ []) →
            outside row on (unwrap_or (cond c (Some (q.asked at)) (lookup (mode_key key) (at_numbers at (known qs)))) (r.known (flag false))) ≡ []
        go true h r = a.0.asked ns h
        go false h r = r h

  module _ (i : Instance) (v : Standing i) (path : List ℕ) (there : scene_on path top throughout whole ≡ scene i v.b v.f) (sub : Calls) where
    abbrev s : Scene
    s = scene i v.b v.f

    -- ---- an expression, where these modes are known

    module _ (test : Key → Bool) (modes : Known Resolution) (ts : List ModeText) (shown : Shows s test v.at modes v.row v.t)
        (fine : (key : Key) (ns : List NeededPlace) → Within v.t (asked_in (setting i path sub ts) ns key) →
        outside v.row (v.b v.t) (mode_resolution (numbering s v.at modes) key) ≡ []) where
      abbrev view : Standpoint
      view = record {
        top = top;
        frame = whole;
        way = path;
        body = λ k. (sub k).body;
        asked = map (λ m. (m.key, m.asked)) ts;
        test = test;
        numbers = v.at;
        modes = modes;
        row = v.row;
        instant = v.t;
      }

      abbrev text_of_place : Instance → Setting
      text_of_place j = setting j path sub ts

      -- of a scene at the end of the way
      abbrev NoneThere : Scene → Type 0
      NoneThere z =
          Shows z test v.at modes v.row v.t →
          ((key : Key) (ns : List NeededPlace) → test key ≡ true → Within v.t (asked_in (text_of_place z.place) ns key) →
          outside v.row (z.beat v.t) (mode_resolution (numbering z v.at modes) key) ≡ []) → (ns : List NeededPlace) (e : Expression) →
          Stands z.place (Passes test) base e → clock_on (row_by v.at v.row) base ≡ is_on z base v.t →
          Within v.t (parts (text_of_place z.place) ns [] base e) → outside v.row (is_on z base v.t) (resolution (numbering z v.at modes) e) ≡ []

      none_at_end : NoneThere (scene_on path top throughout whole)
      none_at_end shows within ns e h o a = none_outside view ns base e (parts_by_rows view shows within ns [] base e h o) a

      none_here : NoneThere s
      none_here = subst NoneThere there none_at_end

      pub expression_fine : (ns : List NeededPlace) (e : Expression) → Stands i (Passes test) base e →
          Within v.t (parts (setting i path sub ts) ns [] base e) → outside v.row (v.b v.t) (resolution (numbering s v.at modes) e) ≡ []
      expression_fine ns e h a = none_here shown (λ key ns h a. fine key ns a) ns e h (beat_clock i v) a

      pub wholes_fine : (es : List Expression) → AllByRecursion (λ e. Stands i (Passes test) base e) es →
          Within v.t (wholes (setting i path sub ts) base es) →
          AllByRecursion (λ e. outside v.row (v.b v.t) (resolution (numbering s v.at modes) e) ≡ []) es
      wholes_fine [] h a = tt
      wholes_fine (e ∷ es) h a =
          let one : List Part = whole_parts (setting i path sub ts) [] base e in
          let rest : List Part = wholes (setting i path sub ts) base es in (
            expression_fine (needs_of (setting i path sub ts) base e) e h.0 (left_part (IsPartWithin v.t) one rest a),
            wholes_fine es h.1 (right_part (IsPartWithin v.t) one rest a),
          )

    -- ---- an item, behind these

    module _ (ks : List Key) (ms : List ModeTerms) (qs : List (ModeItem Resolving)) (h : First i v ks ms qs) (ts : List ModeText)
        (fine : FineModes v.at (v.b v.t) v.row v.t ts qs) where
      abbrev among : Key → Bool
      among key = list_any (mode_key key) ks

      abbrev here : Setting
      here = setting i path sub ts

      abbrev IsFine : Labelled → Type 0
      IsFine l = outside v.row (v.b v.t) (resolved.says i (known qs) l.value v.at) ≡ []

      item_fine : (l : Labelled) → FlagFits i ks l → (ns : List NeededPlace) → Within v.t (parts here ns [] base l.value) → IsFine l
      item_fine l w ns a =
          expression_fine among (at_numbers v.at (known qs)) ts (q.shown i v ks ms qs h)
          (λ key ns a. fine_found v.at (v.b v.t) v.row v.t key ns _ ts qs fine a) ns l.value w.0 a

      one_fine : (l : Labelled) → FlagFits i ks l → Within v.t (conditions_of here (l ∷ [])) → IsFine l
      one_fine l w a = item_fine l w (needs_of here base l.value) (left_part (IsPartWithin v.t) (whole_parts here [] base l.value) [] a)

      all_fine : (rs : List Labelled) → AllByRecursion IsFine rs → outside v.row (v.b v.t) (all_resolved (requires i v ks ms qs h rs)) ≡ []
      all_fine [] a = refl
      all_fine (l ∷ []) a = a.0
      all_fine (l ∷ k ∷ rs) a = no_operation _ _ _ a.0 (all_fine (k ∷ rs) a.1) (ap (told nowhere) (never_and _ _))

      asked_each : (rs : List Labelled) → AllByRecursion (FlagFits i ks) rs → (ns : List NeededPlace) →
          Within v.t (flat_map (λ r. parts here ns [] base r.value) rs) → AllByRecursion IsFine rs
      asked_each [] w ns a = tt
      asked_each (l ∷ rs) w ns a =
          let one : List Part = parts here ns [] base l.value in
          let rest : List Part = flat_map (λ r. parts here ns [] base r.value) rs in
          (item_fine l w.0 ns (left_part (IsPartWithin v.t) one rest a), asked_each rs w.1 ns (right_part (IsPartWithin v.t) one rest a))

      required_each : (rs : List Labelled) → AllByRecursion (FlagFits i ks) rs → Within v.t (conditions_of here rs) → AllByRecursion IsFine rs
      required_each [] w a = tt
      required_each (l ∷ rs) w a =
          let one : List Part = whole_parts here [] base l.value in
          let rest : List Part = conditions_of here rs in (
            item_fine l w.0 (needs_of here base l.value) (left_part (IsPartWithin v.t) one rest a),
            required_each rs w.1 (right_part (IsPartWithin v.t) one rest a),
          )

      ensures_fine : (m : Name) (rs es fs : List Labelled) → AllByRecursion (FlagFits i ks) rs → AllByRecursion (FlagFits i ks) es →
          Within v.t (flat_map (λ e. conditions_of here rs ++ conditions_of here (e ∷ [])) es) →
          AreFine v.at (v.b v.t) v.row v.t
          (map (λ e. resolved.under (mode_item resolved i (known qs) m rs fs).asked (resolved.says i (known qs) e.value)) es)
      ensures_fine m rs [] fs w u a = tt
      ensures_fine m rs (e ∷ es) fs w u a =
          let one : List Part = conditions_of here rs ++ conditions_of here (e ∷ []) in
          let rest : List Part = flat_map (λ e. conditions_of here rs ++ conditions_of here (e ∷ [])) es in
          let first : Within v.t one = left_part (IsPartWithin v.t) one rest a in (
            no_operation _ _ _ (all_fine rs (required_each rs w (left_part (IsPartWithin v.t) (conditions_of here rs) (conditions_of here (e ∷ [])) first)))
                (one_fine e u.0 (right_part (IsPartWithin v.t) (conditions_of here rs) (conditions_of here (e ∷ [])) first)) (ap (told nowhere) (never_implies _ _)),
            ensures_fine m rs es fs w u.1 (right_part (IsPartWithin v.t) one rest a),
          )

      mode_fine : (m : Name) (rs es : List Labelled) → AllByRecursion (FlagFits i ks) rs → AllByRecursion (FlagFits i ks) es →
          FineMode v.at (v.b v.t) v.row v.t (mode_text here m rs es) (mode_item resolved i (known qs) m rs es)
      mode_fine m rs es w u = record {
        key = refl;
        asked = λ ns a. all_fine rs (asked_each rs w ns a);
        required = λ a. all_fine rs (required_each rs w a);
        ensured = λ a. ensures_fine m rs es es w u a;
      }

    -- ---- its contract

    through_all : (k : ℕ) (ws : List Resolving) → AreFine (below_call k v.at) (v.b v.t) v.row v.t ws →
        AreFine v.at (v.b v.t) v.row v.t (map (resolved.through k) ws)
    through_all k [] a = tt
    through_all k (w ∷ ws) a = (a.0, through_all k ws a.1)

    through : (k : ℕ) (x : Name) (ts : List ModeText) (qs : List (ModeItem Resolving)) → FineModes (below_call k v.at) (v.b v.t) v.row v.t ts qs →
        FineModes v.at (v.b v.t) v.row v.t (map (imported_mode x) ts) (map (imported_item resolved k x) qs)
    through k x [] [] a = tt
    through k x [] (q ∷ qs) a = absurd a
    through k x (t ∷ ts) [] a = absurd a
    through k x (t ∷ ts) (q ∷ qs) a = (
      record {
        key = ap (λ (z : Key). (x ∷ z.0, z.1)) a.0.key;
        asked = a.0.asked;
        required = a.0.required;
        ensured = λ y. through_all k q.ensures_each (a.0.ensured y);
      },
      through k x ts qs a.1,
    )

    module _ (subt : ℕ → Terms) (subr : ℕ → Items Resolving) where
      abbrev ItemsFine : ContractText → Items Resolving → Type 0
      ItemsFine = FineItems v.at (v.b v.t) v.row v.t

      after : ((k : ℕ) → IsImport i k → Below i v subt subr k) →
          ((k : ℕ) → IsImport i k → FineItems (below_call k v.at) (v.b v.t) v.row v.t (sub k).contract (subr k)) → (ks : List Key) (ms : List ModeTerms)
          (ts : List ModeText) (qs : List (ModeItem Resolving)) (cs : List ContractStatement) → StatementsFit i ks cs →
          SameModes v.at v.b v.f v.row v.t ms qs → keys ms ≡ ks → FineModes v.at (v.b v.t) v.row v.t ts qs →
          (terms i).modes ≡ (terms_after i subt ms cs).modes → ItemsFine (contract_after i path sub ts cs) (items_after resolved i subr qs cs)
      after below fine ks ms ts qs [] w a k y e = record { assumes = λ z. tt; guarantees = λ z. tt; modes = y }
      after below fine ks ms ts qs (assume l ∷ cs) w a k y e =
          let r : ItemsFine (contract_after i path sub ts cs) (items_after resolved i subr qs cs) =
          after below fine (ks ++ []) ms ts qs cs w.1 a (k ∙ sym (append_none ks)) y e in
          let later = terms_more i subt ms cs in
          let first : First i v ks ms qs = record { same = a; named = k; more = later.0; all = e ∙ later.1 } in
          let one : List Part = conditions_of (setting i path sub ts) (l ∷ []) in
          let rest : List Part = (contract_after i path sub ts cs).assumed in
          record {
            assumes = λ z. (one_fine ks ms qs first ts y l w.0 (left_part (IsPartWithin v.t) one rest z), r.assumes (right_part (IsPartWithin v.t) one rest z));
            guarantees = r.guarantees;
            modes = r.modes;
          }
      after below fine ks ms ts qs (guarantee l ∷ cs) w a k y e =
          let r : ItemsFine (contract_after i path sub ts cs) (items_after resolved i subr qs cs) =
          after below fine (ks ++ []) ms ts qs cs w.1 a (k ∙ sym (append_none ks)) y e in
          let later = terms_more i subt ms cs in
          let first : First i v ks ms qs = record { same = a; named = k; more = later.0; all = e ∙ later.1 } in
          let one : List Part = conditions_of (setting i path sub ts) (l ∷ []) in
          let rest : List Part = (contract_after i path sub ts cs).guaranteed in
          record {
            assumes = r.assumes;
            guarantees = λ z. (one_fine ks ms qs first ts y l w.0 (left_part (IsPartWithin v.t) one rest z), r.guarantees (right_part (IsPartWithin v.t) one rest z));
            modes = r.modes;
          }
      after below fine ks ms ts qs (ghost_variable x d ∷ cs) w a k y e = after below fine (ks ++ []) ms ts qs cs w.1 a (k ∙ sym (append_none ks)) y e
      after below fine ks ms ts qs (constant c ∷ cs) w a k y e = after below fine (ks ++ []) ms ts qs cs w.1 a (k ∙ sym (append_none ks)) y e
      after below fine ks ms ts qs (mode m rs es ∷ cs) w a k y e =
          let later = terms_more i subt ms (mode m rs es ∷ cs) in
          let first : First i v ks ms qs = record { same = a; named = k; more = later.0; all = e ∙ later.1 } in
          let one : List ModeTerms = mode_terms i ms m.text rs es ∷ [] in
          let asked : List (ModeItem Resolving) = mode_item resolved i (known qs) m.text rs es ∷ [] in
          let text : List ModeText = mode_text (setting i path sub ts) m.text rs es ∷ [] in
          after below fine (ks ++ ([], m.text) ∷ []) (ms ++ one) (ts ++ text) (qs ++ asked) cs w.1
          (modes_more v.at v.b v.f v.row v.t ms one qs asked a (mode_same i v ks ms qs first m.text rs es w.0.0 w.0.1, tt))
          (map_append (λ (m : ModeTerms). m.key) ms one ∙ ap (λ l. l ++ ([], m.text) ∷ []) k)
          (fine_more v.at (v.b v.t) v.row v.t ts text qs asked y (mode_fine ks ms qs first ts y m.text rs es w.0.0 w.0.1, tt)) e
      after below fine ks ms ts qs («import» j c as_ xs ∷ cs) w a k y e =
          let there : Below i v subt subr j = below j w.0 in
          let within : FineItems (below_call j v.at) (v.b v.t) v.row v.t (sub j).contract (subr j) = fine j w.0 in
          let some : List ModeTerms = map (imported_terms j c.text) (subt j).modes in
          let asked : List (ModeItem Resolving) = map (imported_item resolved j c.text) (subr j).modes in
          let text : List ModeText = map (imported_mode c.text) (sub j).contract.modes in
          let r : ItemsFine (contract_after i path sub (ts ++ text) cs) (items_after resolved i subr (qs ++ asked) cs) =
          after below fine (ks ++ own_keys i («import» j c as_ xs)) (ms ++ some) (ts ++ text) (qs ++ asked) cs w.1
          (modes_more v.at v.b v.f v.row v.t ms some qs asked a (through_modes i v subt subr j c.text (subt j).modes (subr j).modes there.alike.modes))
          (map_append (λ (m : ModeTerms). m.key) ms some ∙ ap (λ l. l ++ keys some) k
          ∙ ap (λ l. ks ++ l) (imported_keys j c.text (subt j).modes
          ∙ ap (λ (r : Terms). map (λ (m : ModeTerms). (c.text ∷ m.key.0, m.key.1)) r.modes) there.same))
          (fine_more v.at (v.b v.t) v.row v.t ts text qs asked y (through j c.text (sub j).contract.modes (subr j).modes within.modes)) e in
          let more : ContractText = contract_after i path sub (ts ++ text) cs in
          let items : Items Resolving = items_after resolved i subr (qs ++ asked) cs in
          record {
            assumes = λ z. both_parts (λ (w : Resolving). outside v.row (v.b v.t) (w v.at) ≡ []) (map (resolved.through j) (subr j).assumes) items.assumes
                (through_all j (subr j).assumes (within.assumes (left_part (IsPartWithin v.t) (sub j).contract.assumed more.assumed z)))
                (r.assumes (right_part (IsPartWithin v.t) (sub j).contract.assumed more.assumed z));
            guarantees = λ z. both_parts (λ (w : Resolving). outside v.row (v.b v.t) (w v.at) ≡ []) (map (resolved.through j) (subr j).guarantees)
                items.guarantees
                (through_all j (subr j).guarantees (within.guarantees (left_part (IsPartWithin v.t) (sub j).contract.guaranteed more.guaranteed z)))
                (r.guarantees (right_part (IsPartWithin v.t) (sub j).contract.guaranteed more.guaranteed z));
            modes = r.modes;
          }

-- ---- at every depth of imports

texts_at : (o : Orders) (w : List ℕ) (is : Instances) (p : ℕ) → p < count_of is →
    get_or (call_texts o w is) p no_text ≡ frame_text o (w ++ (site_at is p).number ∷ []) (instance_at is p)
texts_at o w no_instances p h = absurd (omega (arith, h))
texts_at o w (with_instance c k is) zero h = refl
texts_at o w (with_instance c k is) (suc p) h = texts_at o w is p (omega (arith, h))

pub text_called : (o : Orders) (w : List ℕ) (i : Instance) (k : ℕ) → 0 < k → pred k < count_of (calls_of i) →
    text_at (call_texts o w (calls_of i)) k ≡ frame_text o (w ++ (site_of i k).number ∷ []) (call_instance i k)
text_called o w i zero c h = absurd (omega (arith, c))
text_called o w i (suc p) c h = texts_at o w (calls_of i) p h

pub assoc : (xs ks : List ℕ) (k : ℕ) → (xs ++ k ∷ []) ++ ks ≡ xs ++ k ∷ ks
assoc [] ks k = refl
assoc (x ∷ xs) ks k = ap (λ l. x ∷ l) (assoc xs ks k)

module _ (o : Orders) (top : Instance) (whole : Frame) where
  -- the frame stands at the end of this way
  abbrev pub IsThere : List ℕ → (i : Instance) → Standing i → Type 0
  IsThere path i v = (w : List ℕ) → scene_on (path ++ w) top throughout whole ≡ scene_on w i v.b v.f

  pub at_end : (path : List ℕ) (i : Instance) (v : Standing i) → IsThere path i v → scene_on path top throughout whole ≡ scene i v.b v.f
  at_end path i v h = ap (λ l. scene_on l top throughout whole) (sym (append_none path)) ∙ h []

  there_called : (path : List ℕ) (i : Instance) (v : Standing i) → IsThere path i v → (k : ℕ) (c : IsCall i (IsKnown i) k) →
      IsThere (path ++ k ∷ []) (call_instance i k) (called i v k c)
  there_called path i v h k c w = ap (λ l. scene_on l top throughout whole) (assoc path w k) ∙ h (k ∷ w)

  abbrev AllFine : Instance → Type 0
  AllFine i =
      (v : Standing i) (path : List ℕ) → IsThere path i v →
      FineItems top whole v.at (v.b v.t) v.row v.t (frame_text o path i).contract (c.conditions_of i)

  imported : (i : Instance) → ((k : ℕ) → 0 < k → pred k < count_of (calls_of i) → AllFine (call_instance i k)) → (v : Standing i) (path : List ℕ) →
      IsThere path i v → (k : ℕ) → IsImport i k →
      FineItems top whole (below_call k v.at) (v.b v.t) v.row v.t (frame_text o (path ++ k ∷ []) (call_instance i k)).contract
      (c.conditions_of (call_instance i k))
  imported i h v path there k im =
      subst (λ z. FineItems top whole (below_call k v.at) (z v.t) v.row v.t (frame_text o (path ++ k ∷ []) (call_instance i k)).contract
      (c.conditions_of (call_instance i k))) (import_beat (scene i v.b v.f) (site_of i k) im.outputs im.clock im.manner)
      (h k im.call.counted im.call.listed (called i v k im.call) (path ++ k ∷ []) (there_called path i v there k im.call))

  fine_below : (i : Instance) → ((k : ℕ) → 0 < k → pred k < count_of (calls_of i) → AllFine (call_instance i k)) → (v : Standing i) (path : List ℕ) →
      IsThere path i v → (k : ℕ) → IsImport i k →
      FineItems top whole (below_call k v.at) (v.b v.t) v.row v.t (text_at (call_texts o path (calls_of i)) k).contract
      (slice_index_or (items_each resolved (calls_of i)) (pred k) no_items)
  fine_below i h v path there k im =
      let text : text_at (call_texts o path (calls_of i)) k ≡ frame_text o (path ++ k ∷ []) (call_instance i k) =
      text_called o path i k im.call.counted im.call.listed ∙ ap (λ z. frame_text o (path ++ z ∷ []) (call_instance i k)) im.call.number in
      subst (λ z. FineItems top whole (below_call k v.at) (v.b v.t) v.row v.t z.contract (slice_index_or (items_each resolved (calls_of i)) (pred k) no_items))
      (sym text)
      (subst (λ z. FineItems top whole (below_call k v.at) (v.b v.t) v.row v.t (frame_text o (path ++ k ∷ []) (call_instance i k)).contract z)
      (sym (items_called i k im.call.counted im.call.listed)) (imported i h v path there k im))

  fine_from : (i : Instance) → ((k : ℕ) → 0 < k → pred k < count_of (calls_of i) → AllFine (call_instance i k)) → AllFine i
  fine_from (instance d cs is) h v path there =
      after top whole (instance d cs is) v path (at_end path (instance d cs is) v there) (text_at (call_texts o path is))
      (λ k. slice_index_or (terms_each is) (pred k) no_terms) (λ k. slice_index_or (items_each resolved is) (pred k) no_items)
      (known_below (instance d cs is) v) (fine_below (instance d cs is) h v path there) [] [] [] [] (contract_statements d)
      (own_fits IsKnown (instance d cs is) v.fits).contract tt refl tt refl

  mutual
    pub all_items_fine : (i : Instance) → AllFine i
    all_items_fine (instance d cs is) = fine_from (instance d cs is) (by_number AllFine (instance d cs is) (each_fine is))

    each_fine : (is : Instances) (p : ℕ) → p < count_of is → AllFine (instance_at is p)
    each_fine no_instances p l = absurd (omega (arith, l))
    each_fine (with_instance c k is) zero l = all_items_fine k
    each_fine (with_instance c k is) (suc p) l = each_fine is p (omega (arith, l))
