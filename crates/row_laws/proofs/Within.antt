-- In a row of a run the resolutions of modes have no operation outside 128 bits where what the modes require is within.
use Rattle.std.proofs.Common.{◌≡◌, ℕ, zero, suc, pred, ◌<◌, Bool, true, false, cond, get_or, List, [], ◌∷◌, ◌++◌, map, flat_map, slice_index_or, refl, ap, ◌∙◌, sym, subst, arith, Some, None, option_to_list, unwrap_or}
use Rattle.std.specs.List.{AllByRecursion, list_any}
use Rattle.std.specs.Map.{lookup}
use Rattle.lus_tree.specs.declared.expression.Operator.TheVariants.{And}
use Rattle.lus_tree.specs.Tree.{Name, Expression, truth, number, name, negation, minus, pre, arrow, binary, choice, sampled, merged, call, condact, mode_name, Labelled, ContractStatement, assume, guarantee, ghost_variable, constant, mode, «import»}
use Rattle.lus_meaning.specs.Value.{Value, absent, flag, whole, is}
use Rattle.lus_meaning.specs.Frame.{Frame}
use Rattle.lus_meaning.specs.Scene.{Clock, base, sampled_by, plain, Instance, Instances, instance, no_instances, with_instance, instance_at, component_of, calls_of, call_instance, clock_of, contract_statements, Scene, is_on}
use Rattle.lus_meaning.specs.Meaning.{mode_key}
use Rattle.lus_meaning.specs.Contract.{ModeTerms, terms, scene}
use Rattle.lus_meaning.specs.Cycle.{Place as NeededPlace}
use Rattle.lus_meaning.specs.Occurrences.{own}
use Rattle.lus_meaning.specs.Program.{instance_of}
use Rattle.lus_meaning.specs.Run.{IsRun}
use Rattle.lus_meaning.specs.Slots.{slots}
use Rattle.lus_meaning.specs.Verdict.{throughout}
use Rattle.lus_meaning.proofs.Lists.{append_none, both_parts, map_append}
use Rattle.lus_meaning.proofs.Now.{left_part, right_part}
use Rattle.sys_terms.specs.Meaning.{values_of}
use Rattle.sys_meaning.specs.Slot.{Place}
use Rattle.sys_meaning.specs.Items.{Key, Known}
use Rattle.sys_meaning.specs.Defaults.{site_at, site_of}
use Rattle.sys_meaning.specs.Seen.{seen_mode}
use Rattle.sys_meaning.specs.State.{state_of, reading}
use Rattle.sys_meaning.specs.System.{below_call, number_of}
use Rattle.sys_meaning.specs.WellTyped.{IsKnown, IsAmong, IsImport, IsCall, Stands, ClockEnds, FlagFits, StatementsFit, own_keys, count_of, WellTyped}
use Rattle.sys_meaning.proofs.Forward.{own_fits}
use Rattle.sys_meaning.proofs.Shows.{in_any, state_reads}
use Rattle.sys_meaning.proofs.Whole.{import_beat}
use Rattle.path_laws.proofs.Main.{each_is_well_typed}
use Rattle.lus_evaluation.specs.Part.{Part, Setting, needs_of, asked_in, part, parts, argument_parts, operand_parts}
use Rattle.lus_evaluation.specs.Frame.{ModeText, no_text, Calls, setting, mode_text, imported_mode, contract_after, Orders, text_at, frame_text, call_texts}
use Rattle.lus_evaluation.specs.Past.{scene_on, past_of_values, part_past, NonePast}
use Rattle.slot_values.specs.declared.resolved.PastAt.{PastAt}
use Rattle.slot_values.specs.Resolution.{Resolution, known}
use Rattle.slot_values.specs.Evaluated.{SlotValues, worth, told, outside}
use Rattle.slot_values.specs.Resolved.{mode_resolution, resolution}
use Rattle.slot_values.specs.Clocked.{row_by, clock_on, Passes, sight_by}
use Rattle.slot_values.specs.FrameRow.{numbering, Shows}
use Rattle.slot_values.specs.Parts.{own_parts, operands, Standpoint, scene_at, setting_at, operations_at, PartsByRow}
use Rattle.slot_values.proofs.Parts.{parts_by_rows}
use Rattle.evaluation_laws.specs.Resolvings.{Resolving, at_numbers, nowhere, all_resolved, asked_resolving, imported_resolving, resolvings_after, resolvings, resolvings_each}
use Rattle.evaluation_laws.specs.Rows.{row_at, AreCalls, numbers_on, knows}
use Rattle.evaluation_laws.proofs.FrameShown.{Standing, shows_with, beat_clock, called}
use Rattle.evaluation_laws.proofs.ModesShown.{frame_shown}
use Rattle.evaluation_laws.proofs.RowFrames.{rows_show}
use Rattle.row_laws.specs.Within.{standpoint, ModesStayWithin, RowsTellParts}
use Rattle.row_laws.proofs.ModeKeys.{keys, resolving_keys, imported_keys, resolvings_more, found_first, known_first}
use Rattle.row_laws.proofs.ModesNeeded.{by_number, resolvings_called}
use Rattle.row_laws.proofs.Ranking.{call_of_number}
use Rattle.row_laws.proofs.Running.{value_there}

-- ---- parts and operations

-- what holds of all parts of an expression holds of its own ones
own_among : (P : Part → Type 0) (g : Setting) (ns : List NeededPlace) (xs : List Name) (c : Clock) (e : Expression) →
    AllByRecursion P (parts g ns xs c e) → AllByRecursion P (own_parts g ns xs c e)
own_among P g ns xs c (truth p b) a = a
own_among P g ns xs c (number p n) a = a
own_among P g ns xs c (name p x) a = a
own_among P g ns xs c (negation p x) a =
    both_parts P (own_parts g ns [] c x) (part g ns xs c (negation p x) ∷ [])
    (own_among P g ns [] c x (left_part P (parts g ns [] c x) (part g ns xs c (negation p x) ∷ []) a))
    (right_part P (parts g ns [] c x) (part g ns xs c (negation p x) ∷ []) a)
own_among P g ns xs c (minus p x) a =
    both_parts P (own_parts g ns [] c x) (part g ns xs c (minus p x) ∷ [])
    (own_among P g ns [] c x (left_part P (parts g ns [] c x) (part g ns xs c (minus p x) ∷ []) a))
    (right_part P (parts g ns [] c x) (part g ns xs c (minus p x) ∷ []) a)
own_among P g ns xs c (pre p k x) a = right_part P (parts g (needs_of g c x) [] c x) (part g ns xs c (pre p k x) ∷ []) a
own_among P g ns xs c (arrow p k x y) a =
    let l : List Part = part g ns xs c (arrow p k x y) ∷ [] in
    let b = left_part P (parts g ns [] c x ++ parts g ns [] c y) l a in
    both_parts P (own_parts g ns [] c x ++ own_parts g ns [] c y) l
    (both_parts P (own_parts g ns [] c x) (own_parts g ns [] c y)
    (own_among P g ns [] c x (left_part P (parts g ns [] c x) (parts g ns [] c y) b))
    (own_among P g ns [] c y (right_part P (parts g ns [] c x) (parts g ns [] c y) b)))
    (right_part P (parts g ns [] c x ++ parts g ns [] c y) l a)
own_among P g ns xs c (binary p o x y) a =
    let l : List Part = part g ns xs c (binary p o x y) ∷ [] in
    let b = left_part P (parts g ns [] c x ++ parts g ns [] c y) l a in
    both_parts P (own_parts g ns [] c x ++ own_parts g ns [] c y) l
    (both_parts P (own_parts g ns [] c x) (own_parts g ns [] c y)
    (own_among P g ns [] c x (left_part P (parts g ns [] c x) (parts g ns [] c y) b))
    (own_among P g ns [] c y (right_part P (parts g ns [] c x) (parts g ns [] c y) b)))
    (right_part P (parts g ns [] c x ++ parts g ns [] c y) l a)
own_among P g ns xs c (choice p x y z) a =
    let l : List Part = part g ns xs c (choice p x y z) ∷ [] in
    let b = left_part P (parts g ns [] c x ++ parts g ns [] c y ++ parts g ns [] c z) l a in
    let d = left_part P (parts g ns [] c x ++ parts g ns [] c y) (parts g ns [] c z) b in
    both_parts P (own_parts g ns [] c x ++ own_parts g ns [] c y ++ own_parts g ns [] c z) l
    (both_parts P (own_parts g ns [] c x ++ own_parts g ns [] c y) (own_parts g ns [] c z)
    (both_parts P (own_parts g ns [] c x) (own_parts g ns [] c y)
    (own_among P g ns [] c x (left_part P (parts g ns [] c x) (parts g ns [] c y) d))
    (own_among P g ns [] c y (right_part P (parts g ns [] c x) (parts g ns [] c y) d)))
    (own_among P g ns [] c z (right_part P (parts g ns [] c x ++ parts g ns [] c y) (parts g ns [] c z) b)))
    (right_part P (parts g ns [] c x ++ parts g ns [] c y ++ parts g ns [] c z) l a)
own_among P g ns xs c (sampled p x q y) a =
    let d : Clock = clock_of (component_of g.place) y.text in
    both_parts P (own_parts g ns [] d x) (part g ns xs c (sampled p x q y) ∷ [])
    (own_among P g ns [] d x (left_part P (parts g ns [] d x) (part g ns xs c (sampled p x q y) ∷ []) a))
    (right_part P (parts g ns [] d x) (part g ns xs c (sampled p x q y) ∷ []) a)
own_among P g ns xs c (merged p y x z) a =
    let l : List Part = part g ns xs c (merged p y x z) ∷ [] in
    let d : Clock = sampled_by true y.text in
    let f : Clock = sampled_by false y.text in
    let b = left_part P (parts g ns [] d x ++ parts g ns [] f z) l a in
    both_parts P (own_parts g ns [] d x ++ own_parts g ns [] f z) l
    (both_parts P (own_parts g ns [] d x) (own_parts g ns [] f z)
    (own_among P g ns [] d x (left_part P (parts g ns [] d x) (parts g ns [] f z) b))
    (own_among P g ns [] f z (right_part P (parts g ns [] d x) (parts g ns [] f z) b)))
    (right_part P (parts g ns [] d x ++ parts g ns [] f z) l a)
own_among P g ns xs c (call p k h as_) a = right_part P (argument_parts g c as_ ++ g.body k) (part g ns xs c (call p k h as_) ∷ []) a
own_among P g ns xs c (condact p k x h as_ ds) a =
    let l : List Part = part g ns xs c (condact p k x h as_ ds) ∷ [] in
    let ms : List NeededPlace = needs_of g c x in
    let b = left_part P (parts g ms [] c x ++ argument_parts g c as_ ++ g.body k ++ operand_parts g ns c ds) l a in
    let d = left_part P (parts g ms [] c x ++ argument_parts g c as_ ++ g.body k) (operand_parts g ns c ds) b in
    let f = left_part P (parts g ms [] c x ++ argument_parts g c as_) (g.body k) d in
    both_parts P (own_parts g ms [] c x) l (own_among P g ms [] c x (left_part P (parts g ms [] c x) (argument_parts g c as_) f))
    (right_part P (parts g ms [] c x ++ argument_parts g c as_ ++ g.body k ++ operand_parts g ns c ds) l a)
own_among P g ns xs c (mode_name p d m) a = a

-- where all parts of an expression are within, its resolution has no operation outside
none_outside : (v : Standpoint) (ns : List NeededPlace) (c : Clock) (e : Expression) → PartsByRow v ns [] c e →
    NonePast v.top v.frame (parts (setting_at v) ns [] c e) v.instant → operations_at v c e ≡ []
none_outside v ns c e r a =
    let fine : Part → Type 0 = λ q. part_past v.top v.frame q v.instant ≡ None in
    let one : List Part = part (setting_at v) ns [] c e ∷ [] in
    let b : AllByRecursion fine (operands (setting_at v) ns c e ++ one) =
    subst (AllByRecursion fine) r.ends (own_among fine (setting_at v) ns [] c e a) in
    r.own_past (left_part fine (operands (setting_at v) ns c e) one b)
    ∙ ap (told (own e)) (right_part fine (operands (setting_at v) ns c e) one b).0

never_and : (v w : Value) → past_of_values And v w ≡ None
never_and absent w = refl
never_and (flag b) w = refl
never_and (whole x) absent = refl
never_and (whole x) (flag b) = refl
never_and (whole x) (whole y) = refl

no_operation : (x y z : List PastAt) → x ≡ [] → y ≡ [] → z ≡ [] → x ++ y ++ z ≡ []
no_operation x y z e h k = rw (e, h, k) refl

-- ---- the modes of a frame

module _ (top : Instance) (whole : Frame) where
  -- where what a mode requires is within, its resolution has no operation outside
  abbrev pub FineModes : (Place → ℕ) → Bool → SlotValues → ℕ → List ModeText → Known Resolving → Type 0
  FineModes at on row t [] [] = Unit {0}
  FineModes at on row t (m ∷ ms) (q ∷ qs) =
      ((m.key ≡ q.0) × ((ns : List NeededPlace) → NonePast top whole (m.asked ns) t → outside row on (q.1 at) ≡ [])) × FineModes at on row t ms qs
  FineModes at on row t [] (q ∷ qs) = ⊥
  FineModes at on row t (m ∷ ms) [] = ⊥

  fine_more : (at : Place → ℕ) (on : Bool) (row : SlotValues) (t : ℕ) (ms ns : List ModeText) (qs os : Known Resolving) →
      FineModes at on row t ms qs → FineModes at on row t ns os → FineModes at on row t (ms ++ ns) (qs ++ os)
  fine_more at on row t [] ns [] os a c = c
  fine_more at on row t [] ns (q ∷ qs) os a c = absurd a
  fine_more at on row t (m ∷ ms) ns [] os a c = absurd a
  fine_more at on row t (m ∷ ms) ns (q ∷ qs) os a c = (a.0, fine_more at on row t ms ns qs os a.1 c)

  abbrev asked_by : List ModeText → List (Key × (List NeededPlace → List Part))
  asked_by ms = map (λ m. (m.key, m.asked)) ms

  fine_found : (at : Place → ℕ) (on : Bool) (row : SlotValues) (t : ℕ) (key : Key) (ns : List NeededPlace) (d : List NeededPlace → List Part)
      (ms : List ModeText) (qs : Known Resolving) → FineModes at on row t ms qs →
      NonePast top whole ((unwrap_or (lookup (mode_key key) (asked_by ms)) d) ns) t →
      outside row on (unwrap_or (lookup (mode_key key) (at_numbers at qs)) (known (flag false))) ≡ []
  fine_found at on row t key ns d [] [] a h = refl
  fine_found at on row t key ns d [] (q ∷ qs) a h = absurd a
  fine_found at on row t key ns d (m ∷ ms) [] a h = absurd a
  fine_found at on row t key ns d (m ∷ ms) (q ∷ qs) a h =
      subst (λ z. outside row on (unwrap_or (cond (mode_key key z) (Some (q.1 at)) (lookup (mode_key key) (at_numbers at qs))) (known (flag false))) ≡ [])
      a.0.0 (go (mode_key key m.key) h (fine_found at on row t key ns d ms qs a.1))
    where
      go : (c : Bool) → NonePast top whole ((unwrap_or (cond c (Some m.asked) (lookup (mode_key key) (asked_by ms))) d) ns) t →
          (NonePast top whole ((unwrap_or (lookup (mode_key key) (asked_by ms)) d) ns) t →
          outside row on (unwrap_or (lookup (mode_key key) (at_numbers at qs)) (known (flag false))) ≡ []) →
          outside row on (unwrap_or (cond c (Some (q.1 at)) (lookup (mode_key key) (at_numbers at qs))) (known (flag false))) ≡ []
      go true h r = a.0.1 ns h
      go false h r = r h

  module _ (i : Instance) (v : Standing i) (path : List ℕ) (there : scene_on path top throughout whole ≡ scene i v.b v.f) (sub : Calls) where
    abbrev s : Scene
    s = scene i v.b v.f

    abbrev Fine : List ModeText → Known Resolving → Type 0
    Fine ms qs = FineModes v.at (v.b v.t) v.row v.t ms qs

    -- in the row modes of the first items of the contract ask what they ask among all
    module _ (ks : List Key) (ms : List ModeText) (qs more : Known Resolving) (fine : Fine ms qs) (same_keys : keys qs ≡ ks)
        (all : resolvings i ≡ qs ++ more) where
      abbrev among : Key → Bool
      among key = list_any (mode_key key) ks

      abbrev some : Known Resolution
      some = at_numbers v.at qs

      among_first : (key : Key) → among key ≡ true → IsAmong (keys qs) key
      among_first key h = subst (λ ks. IsAmong ks key) (sym same_keys) h

      abbrev asked_value : Resolving → Value
      asked_value q = worth v.row true (q v.at)

      abbrev by_resolving : Known Resolving → List (Key × Value)
      by_resolving rs = map (λ q. (q.0, asked_value q.1)) rs

      abbrev by_resolution : Known Resolution → List (Key × Value)
      by_resolution rs = map (λ q. (q.0, worth v.row true q.1)) rs

      twice : (rs : Known Resolving) → by_resolution (at_numbers v.at rs) ≡ by_resolving rs
      twice [] = refl
      twice (q ∷ rs) = ap (λ l. (q.0, asked_value q.1) ∷ l) (twice rs)

      seen_same : (key : Key) → among key ≡ true →
          seen_mode (sight_by (numbering s v.at some) v.row) key
          ≡ seen_mode (sight_by (numbering s v.at (at_numbers v.at (resolvings i))) v.row) key
      seen_same key h =
          ap (λ l. unwrap_or (lookup (mode_key key) l) (flag false)) (twice qs)
          ∙ ap (λ o. unwrap_or o (flag false)) (sym (found_first asked_value key qs more (among_first key h)))
          ∙ ap (λ rs. unwrap_or (lookup (mode_key key) (by_resolving rs)) (flag false)) (sym all)
          ∙ ap (λ l. unwrap_or (lookup (mode_key key) l) (flag false)) (sym (twice (resolvings i)))

      full : Shows s (knows i) v.at (at_numbers v.at (resolvings i)) v.row v.t
      full = frame_shown i v

      off_first : v.b v.t ≡ false → AllByRecursion (λ m. worth v.row false m.1 ≡ absent) some
      off_first o =
          left_part (λ m. worth v.row false m.1 ≡ absent) some (at_numbers v.at more)
          (subst (AllByRecursion (λ m. worth v.row false m.1 ≡ absent)) (ap (at_numbers v.at) all ∙ map_append (λ m. (m.0, m.1 v.at)) qs more)
          (full.asked_off o))

      shown_first : Shows s among v.at some v.row v.t
      shown_first =
          shows_with i v among some
          (λ d m h o. seen_same (option_to_list d, m) h
          ∙ full.modes_on d m (known_first i qs more all (option_to_list d, m) (among_first (option_to_list d, m) h)) o) off_first

      abbrev view : Standpoint
      view = record {
        top = top;
        frame = whole;
        way = path;
        body = λ k. (sub k).body;
        asked = asked_by ms;
        test = among;
        numbers = v.at;
        modes = some;
        row = v.row;
        instant = v.t;
      }

      abbrev text_of_place : Instance → Setting
      text_of_place j = record { place = j; way = path; body = λ k. (sub k).body; modes = asked_by ms }

      -- of a scene at the end of the way
      abbrev NoneThere : Scene → Type 0
      NoneThere z =
          Shows z among v.at some v.row v.t →
          ((key : Key) (ns : List NeededPlace) → among key ≡ true → NonePast top whole (asked_in (text_of_place z.place) ns key) v.t →
          outside v.row (z.beat v.t) (mode_resolution (numbering z v.at some) key) ≡ []) → (ns : List NeededPlace) (e : Expression) →
          Stands z.place (Passes among) base e → clock_on (row_by v.at v.row) base ≡ is_on z base v.t →
          NonePast top whole (parts (text_of_place z.place) ns [] base e) v.t →
          outside v.row (is_on z base v.t) (resolution (numbering z v.at some) e) ≡ []

      none_at_end : NoneThere (scene_on path top throughout whole)
      none_at_end shows within ns e h o a = none_outside view ns base e (parts_by_rows view shows within ns [] base e h o) a

      none_here : NoneThere s
      none_here = subst NoneThere there none_at_end

      require_fine : (l : Labelled) → FlagFits i ks l → (ns : List NeededPlace) →
          NonePast top whole (parts (setting i path sub ms) ns [] base l.value) v.t →
          outside v.row (v.b v.t) (resolution (record { place = i; number = v.at; modes = some }) l.value) ≡ []
      require_fine l w ns a =
          none_here shown_first (λ key ns h a. fine_found v.at (v.b v.t) v.row v.t key ns _ ms qs fine a) ns l.value w.0 (beat_clock i v) a

      requires_fine : (rs : List Labelled) → AllByRecursion (FlagFits i ks) rs → (ns : List NeededPlace) →
          NonePast top whole (flat_map (λ r. parts (setting i path sub ms) ns [] base r.value) rs) v.t →
          outside v.row (v.b v.t) (all_resolved (map (λ r. resolution (record { place = i; number = v.at; modes = some }) r.value) rs)) ≡ []
      requires_fine [] w ns a = refl
      requires_fine (r ∷ []) w ns a =
          require_fine r w.0 ns (left_part (λ q. part_past top whole q v.t ≡ None) (parts (setting i path sub ms) ns [] base r.value) [] a)
      requires_fine (r ∷ q ∷ rs) w ns a =
          let rest : List Part = flat_map (λ r. parts (setting i path sub ms) ns [] base r.value) (q ∷ rs) in
          no_operation _ _ _
          (require_fine r w.0 ns (left_part (λ q. part_past top whole q v.t ≡ None) (parts (setting i path sub ms) ns [] base r.value) rest a))
          (requires_fine (q ∷ rs) w.1 ns (right_part (λ q. part_past top whole q v.t ≡ None) (parts (setting i path sub ms) ns [] base r.value) rest a))
          (ap (told nowhere) (never_and _ _))

    -- ---- its contract

    through : (k : ℕ) (c : Name) (ms : List ModeText) (qs : Known Resolving) → FineModes (below_call k v.at) (v.b v.t) v.row v.t ms qs →
        Fine (map (imported_mode c) ms) (map (imported_resolving k c) qs)
    through k c [] [] a = tt
    through k c [] (q ∷ qs) a = absurd a
    through k c (m ∷ ms) [] a = absurd a
    through k c (m ∷ ms) (q ∷ qs) a = ((ap (λ (z : Key). (c ∷ z.0, z.1)) a.0.0, a.0.1), through k c ms qs a.1)

    -- what is known of the contracts that are imported
    pub record Below (subr : ℕ → Known Resolving) (k : ℕ) : Type 0 where
      pub same : subr k ≡ resolvings (call_instance i k)
      pub fine : FineModes (below_call k v.at) (v.b v.t) v.row v.t (sub k).contract.modes (subr k)

    after : (subr : ℕ → Known Resolving) → ((k : ℕ) → IsImport i k → Below subr k) → (ks : List Key) (ms : List ModeText) (qs : Known Resolving)
        (cs : List ContractStatement) → StatementsFit i ks cs → Fine ms qs → keys qs ≡ ks → resolvings i ≡ resolvings_after i subr qs cs →
        Fine (contract_after i path sub ms cs).modes (resolvings_after i subr qs cs)
    after subr below ks ms qs [] w a k e = a
    after subr below ks ms qs (assume l ∷ cs) w a k e = after subr below (ks ++ []) ms qs cs w.1 a (k ∙ sym (append_none ks)) e
    after subr below ks ms qs (guarantee l ∷ cs) w a k e = after subr below (ks ++ []) ms qs cs w.1 a (k ∙ sym (append_none ks)) e
    after subr below ks ms qs (ghost_variable x d ∷ cs) w a k e = after subr below (ks ++ []) ms qs cs w.1 a (k ∙ sym (append_none ks)) e
    after subr below ks ms qs (constant c ∷ cs) w a k e = after subr below (ks ++ []) ms qs cs w.1 a (k ∙ sym (append_none ks)) e
    after subr below ks ms qs (mode m rs es ∷ cs) w a k e =
        let later = resolvings_more i subr qs (mode m rs es ∷ cs) in
        let one : Known Resolving = (([], m.text), asked_resolving i qs rs) ∷ [] in
        after subr below (ks ++ ([], m.text) ∷ []) (ms ++ mode_text (setting i path sub ms) m.text rs es ∷ []) (qs ++ one) cs w.1
        (fine_more v.at (v.b v.t) v.row v.t ms (mode_text (setting i path sub ms) m.text rs es ∷ []) qs one a
        ((refl, λ ns h. requires_fine ks ms qs later.0 a k (e ∙ later.1) rs w.0.0 ns h), tt))
        (map_append (λ q. q.0) qs one ∙ ap (λ l. l ++ ([], m.text) ∷ []) k) e
    after subr below ks ms qs («import» j c as_ xs ∷ cs) w a k e =
        let there : Below subr j = below j w.0 in
        let more : Known Resolving = map (imported_resolving j c.text) (subr j) in
        after subr below (ks ++ own_keys i («import» j c as_ xs)) (ms ++ map (imported_mode c.text) (sub j).contract.modes) (qs ++ more) cs w.1
        (fine_more v.at (v.b v.t) v.row v.t ms (map (imported_mode c.text) (sub j).contract.modes) qs more a
        (through j c.text (sub j).contract.modes (subr j) there.fine))
        (map_append (λ q. q.0) qs more ∙ ap (λ l. l ++ keys more) k
        ∙ ap (λ l. ks ++ l) (imported_keys j c.text (subr j)
        ∙ ap (λ l. map {B = Key} (λ (z : Key). (c.text ∷ z.0, z.1)) l) (ap keys there.same ∙ resolving_keys (call_instance i j))
        ∙ under_keys c.text (terms (call_instance i j)).modes)) e
      where
        under_keys : (x : Name) (ts : List ModeTerms) →
            map {B = Key} (λ (z : Key). (x ∷ z.0, z.1)) (map (λ m. m.key) ts) ≡ map {B = Key} (λ (m : ModeTerms). (x ∷ m.key.0, m.key.1)) ts
        under_keys x [] = refl
        under_keys x (t ∷ ts) = ap (λ l. (x ∷ t.key.0, t.key.1) ∷ l) (under_keys x ts)

-- ---- at every depth of imports

texts_at : (o : Orders) (w : List ℕ) (is : Instances) (p : ℕ) → p < count_of is →
    get_or (call_texts o w is) p no_text ≡ frame_text o (w ++ (site_at is p).number ∷ []) (instance_at is p)
texts_at o w no_instances p h = absurd (omega (arith, h))
texts_at o w (with_instance c k is) zero h = refl
texts_at o w (with_instance c k is) (suc p) h = texts_at o w is p (omega (arith, h))

text_called : (o : Orders) (w : List ℕ) (i : Instance) (k : ℕ) → 0 < k → pred k < count_of (calls_of i) →
    text_at (call_texts o w (calls_of i)) k ≡ frame_text o (w ++ (site_of i k).number ∷ []) (call_instance i k)
text_called o w i zero c h = absurd (omega (arith, c))
text_called o w i (suc p) c h = texts_at o w (calls_of i) p h

assoc : (xs ks : List ℕ) (k : ℕ) → (xs ++ k ∷ []) ++ ks ≡ xs ++ k ∷ ks
assoc [] ks k = refl
assoc (x ∷ xs) ks k = ap (λ l. x ∷ l) (assoc xs ks k)

module _ (o : Orders) (top : Instance) (whole : Frame) where
  -- the frame stands at the end of this way
  abbrev IsThere : List ℕ → (i : Instance) → Standing i → Type 0
  IsThere path i v = (w : List ℕ) → scene_on (path ++ w) top throughout whole ≡ scene_on w i v.b v.f

  at_end : (path : List ℕ) (i : Instance) (v : Standing i) → IsThere path i v → scene_on path top throughout whole ≡ scene i v.b v.f
  at_end path i v h = ap (λ l. scene_on l top throughout whole) (sym (append_none path)) ∙ h []

  there_called : (path : List ℕ) (i : Instance) (v : Standing i) → IsThere path i v → (k : ℕ) (c : IsCall i (IsKnown i) k) →
      IsThere (path ++ k ∷ []) (call_instance i k) (called i v k c)
  there_called path i v h k c w = ap (λ l. scene_on l top throughout whole) (assoc path w k) ∙ h (k ∷ w)

  abbrev AllFine : Instance → Type 0
  AllFine i =
      (v : Standing i) (path : List ℕ) → IsThere path i v →
      FineModes top whole v.at (v.b v.t) v.row v.t (frame_text o path i).contract.modes (resolvings i)

  fine_from : (i : Instance) → ((k : ℕ) → 0 < k → pred k < count_of (calls_of i) → AllFine (call_instance i k)) → AllFine i
  fine_from (instance d cs is) h v path there =
      after top whole i v path (at_end path i v there) (text_at (call_texts o path is)) (λ k. slice_index_or (resolvings_each is) (pred k) [])
      below [] [] [] (contract_statements d) (own_fits IsKnown (instance d cs is) v.fits).contract tt refl refl
    where
      i : Instance
      i = instance d cs is

      imported : (k : ℕ) → IsImport (instance d cs is) k →
          FineModes top whole (below_call k v.at) (v.b v.t) v.row v.t
          (frame_text o (path ++ k ∷ []) (call_instance (instance d cs is) k)).contract.modes (resolvings (call_instance (instance d cs is) k))
      imported k im =
          subst (λ z. FineModes top whole (below_call k v.at) (z v.t) v.row v.t
          (frame_text o (path ++ k ∷ []) (call_instance (instance d cs is) k)).contract.modes (resolvings (call_instance (instance d cs is) k)))
          (import_beat (scene (instance d cs is) v.b v.f) (site_of (instance d cs is) k) im.outputs im.clock im.manner)
          (h k im.call.counted im.call.listed (called (instance d cs is) v k im.call) (path ++ k ∷ [])
          (there_called path (instance d cs is) v there k im.call))

      below : (k : ℕ) → IsImport (instance d cs is) k →
          Below top whole (instance d cs is) v path (at_end path (instance d cs is) v there) (text_at (call_texts o path is))
          (λ k. slice_index_or (resolvings_each is) (pred k) []) k
      below k im =
          let same = resolvings_called (instance d cs is) k im.call.counted im.call.listed in
          let text : text_at (call_texts o path is) k ≡ frame_text o (path ++ k ∷ []) (call_instance (instance d cs is) k) =
          text_called o path (instance d cs is) k im.call.counted im.call.listed
          ∙ ap (λ z. frame_text o (path ++ z ∷ []) (call_instance (instance d cs is) k)) im.call.number in
          record {
            same = same;
            fine = subst (λ z. FineModes top whole (below_call k v.at) (v.b v.t) v.row v.t z.contract.modes
                (slice_index_or (resolvings_each is) (pred k) [])) (sym text)
                (subst (λ z. FineModes top whole (below_call k v.at) (v.b v.t) v.row v.t
                (frame_text o (path ++ k ∷ []) (call_instance (instance d cs is) k)).contract.modes z) (sym same) (imported k im));
          }

  mutual
    all_fine : (i : Instance) → AllFine i
    all_fine (instance d cs is) = fine_from (instance d cs is) (by_number AllFine (instance d cs is) (each_fine is))

    each_fine : (is : Instances) (p : ℕ) → p < count_of is → AllFine (instance_at is p)
    each_fine no_instances p l = absurd (omega (arith, l))
    each_fine (with_instance c k is) zero l = all_fine k
    each_fine (with_instance c k is) (suc p) l = each_fine is p (omega (arith, l))

  -- ---- at the end of a way

  abbrev Within : List ℕ → Scene → (Place → ℕ) → SlotValues → ℕ → Type 0
  Within way s at row t =
      (key : Key) (ns : List NeededPlace) →
      NonePast top whole (asked_in (record {
        place = s.place;
        way = way;
        body = λ k. (text_at (call_texts o way (calls_of s.place)) k).body;
        modes = map (λ m. (m.key, m.asked)) (frame_text o way s.place).contract.modes;
      }) ns key) t →
      outside row (s.beat t) (mode_resolution (numbering s at (at_numbers at (resolvings s.place))) key) ≡ []

  pub within_along : (w path : List ℕ) (i : Instance) (v : Standing i) → IsThere path i v → AreCalls i w →
      Within (path ++ w) (scene_on w i v.b v.f) (numbers_on w v.at) v.row v.t
  within_along [] path i v h a =
      subst (λ l. Within l (scene i v.b v.f) v.at v.row v.t) (sym (append_none path))
      (λ key ns z. fine_found top whole v.at (v.b v.t) v.row v.t key ns _ (frame_text o path i).contract.modes (resolvings i) (all_fine i v path h) z)
  within_along (k ∷ w) path i v h a =
      let c : IsCall i (IsKnown i) k = call_of_number i v.fits k a.0 a.1 in
      subst (λ l. Within l (scene_on (k ∷ w) i v.b v.f) (numbers_on (k ∷ w) v.at) v.row v.t) (assoc path w k)
      (within_along w (path ++ k ∷ []) (call_instance i k) (called i v k c) (there_called path i v h k c) a.2)

-- ---- the run of a checked declaration

abbrev top_standing : (i : Instance) → WellTyped IsKnown i → (m : ℕ) (f : Frame) → IsRun i m throughout f → (t : ℕ) → t < m → Standing i
top_standing i w m f r t l = record {
  at = number_of i;
  b = throughout;
  f = f;
  course = λ u. values_of (state_of i f u);
  n = m;
  run = r;
  fits = w.tree;
  reads = λ u h. state_reads IsKnown i w f u;
  row = row_at i f t;
  t = t;
  before = l;
  has = λ ks p z h. value_there (λ x. reading i throughout f x t) absent (slots i) (ks, p) z (w.places ks p z (in_any IsKnown plain ks i p z h));
}

pub modes_stay_within : ModesStayWithin
modes_stay_within p c n j m f r t l w a o key ns h z =
    let i : Instance = instance_of p n in
    within_along o i f w [] i (top_standing i (each_is_well_typed p c n j).0 m f r t l) (λ w. refl) a key ns z

ends_shown : (s : Scene) (test : Key → Bool) (at : Place → ℕ) (modes : Known Resolution) (row : SlotValues) (t : ℕ) →
    Shows s test at modes row t → (m : ℕ) (c : Clock) → ClockEnds s.place (Passes test) m c → clock_on (row_by at row) c ≡ is_on s c t
ends_shown s test at modes row t h m base e = ap (is true) h.beats ∙ true_flag (s.beat t)
  where
    true_flag : (x : Bool) → is true (flag x) ≡ x
    true_flag true = refl
    true_flag false = refl
ends_shown s test at modes row t h zero (sampled_by q x) e = absurd e
ends_shown s test at modes row t h (suc m) (sampled_by q x) e = ap (is q) (h.names x e.0.stream e.0.declared)

pub rows_tell_parts : RowsTellParts
rows_tell_parts p c n j m f r t l w a o ns xs d e h k =
    let v : Standpoint = standpoint o (instance_of p n) f t w in
    let shows : Shows (scene_at v) v.test v.numbers v.modes v.row t = rows_show p c n j m f r t l w a in
    parts_by_rows v shows (modes_stay_within p c n j m f r t l w a o) ns xs d e h
    (ends_shown (scene_at v) v.test v.numbers v.modes v.row t shows _ d k)
