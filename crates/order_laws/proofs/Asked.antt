-- Where what the modes of a contract require is within 128 bits, their resolutions have no operation outside.
use Rattle.std.proofs.Common.{◌≡◌, ℕ, zero, suc, pred, ◌+◌, ◌<◌, Bool, true, false, cond, ◌||◌, List, [], ◌∷◌, ◌++◌, map, slice_index_or, refl, ap, ◌∙◌, sym, subst, arith, Some, None, option_to_list, unwrap_or}
use Rattle.std.specs.List.{AllByRecursion, list_any}
use Rattle.std.specs.Map.{lookup}
use Rattle.std.proofs.lemmas.Bool.{false≢true}
use Rattle.lus_tree.specs.declared.expression.Operator.TheVariants.{And}
use Rattle.lus_tree.specs.Tree.{Component, Name, Expression, Expressions, Labelled, ContractStatement, assume, guarantee, ghost_variable, constant, mode, «import»}
use Rattle.lus_meaning.specs.Value.{Value, absent, flag, whole}
use Rattle.lus_meaning.specs.Frame.{Frame}
use Rattle.lus_meaning.specs.Scene.{Clock, base, Instance, Instances, instance, no_instances, with_instance, call_instance, instance_at, contract_statements, Scene}
use Rattle.lus_meaning.specs.Occurrences.{own}
use Rattle.lus_meaning.specs.Meaning.{mode_key}
use Rattle.lus_meaning.specs.Contract.{ModeTerms, terms}
use Rattle.lus_meaning.specs.Cycle.{Place as NeededPlace}
use Rattle.lus_meaning.specs.Verdict.{throughout}
use Rattle.lus_meaning.proofs.Lists.{append_none, map_append}
use Rattle.sys_meaning.specs.Items.{Key, Known}
use Rattle.sys_meaning.specs.Defaults.{site_of}
use Rattle.sys_meaning.specs.System.{number_of}
use Rattle.sys_meaning.specs.WellTyped.{IsKnown, IsAmong, IsCall, IsPlainCall, IsHeldCall, IsImport, FlagFits, StatementsFit, own_keys, count_of, CallsFit}
use Rattle.sys_meaning.proofs.Forward.{own_fits}
use Rattle.sys_meaning.proofs.Whole.{import_beat}
use Rattle.lus_evaluation.specs.Part.{Part, ModeParts, Setting, part}
use Rattle.lus_evaluation.specs.Past.{past_of_values, part_past, NonePast}
use Rattle.slot_values.specs.Resolution.{Resolution, known}
use Rattle.slot_values.specs.Evaluated.{SlotValues, told, outside}
use Rattle.slot_values.specs.Resolved.{resolution}
use Rattle.slot_values.specs.FrameRow.{Shows}
use Rattle.slot_values.specs.Parts.{operands, own_parts, Standpoint, PartsByRow, ModesWithin}
use Rattle.slot_values.proofs.Parts.{parts_by_rows}
use Rattle.evaluation_laws.specs.Resolvings.{Resolving, at_numbers, nowhere, all_resolved, asked_resolving, imported_resolving, resolvings_after, resolvings, resolvings_each}
use Rattle.evaluation_laws.specs.Rows.{AreCalls, row_at, scene_there, numbers_there, modes_there, RowShows}
use Rattle.order_laws.specs.Own.{own_setting, own_asked, imported_own, own_modes_after, own_modes, own_modes_each}
use Rattle.order_laws.proofs.Lists.{left_of, right_of}
use Rattle.order_laws.proofs.ModeKeys.{keys, imported_keys, resolving_keys, resolvings_more, found_first, known_first}
use Rattle.order_laws.proofs.Same.{same_resolution}
use Rattle.order_laws.proofs.Frames.{scene_further, numbers_further, StandsAt, stands_called, base_there}

-- ---- conjunctions

no_and : (v w : Value) → past_of_values And v w ≡ None
no_and absent w = refl
no_and (flag b) w = refl
no_and (whole x) absent = refl
no_and (whole x) (flag b) = refl
no_and (whole x) (whole y) = refl

all_nothing : {X : Type 0} {xs ys zs : List X} → xs ≡ [] → ys ≡ [] → zs ≡ [] → xs ++ ys ++ zs ≡ []
all_nothing e h k = rw (e, h, k) refl

all_none : (row : SlotValues) (on : Bool) (rs : List Resolution) → AllByRecursion (λ r. outside row on r ≡ []) rs →
    outside row on (all_resolved rs) ≡ []
all_none row on [] a = refl
all_none row on (r ∷ []) a = a.0
all_none row on (r ∷ q ∷ rs) a = all_nothing a.0 (all_none row on (q ∷ rs) a.1) (ap (told nowhere) (no_and _ _))

-- ---- whatever modes are known

module _ (i : Instance) (M N : Key → Type 0) where
  as_call : (k : ℕ) → IsCall i M k → IsCall i N k
  as_call k h = record { number = h.number; counted = h.counted; listed = h.listed; named = h.named }

  pub as_plain : (k : ℕ) (c : Clock) → IsPlainCall i M k c → IsPlainCall i N k c
  as_plain k c h = record { call = as_call k h.call; outputs = h.outputs; clock = h.clock; manner = h.manner }

  pub as_held : (k : ℕ) (c : Clock) (a : Expression) (ds : Expressions) → IsHeldCall i M k c a ds → IsHeldCall i N k c a ds
  as_held k c a ds h = record { call = as_call k h.call; outputs = h.outputs; clock = h.clock; manner = h.manner; defaults = h.defaults }

module _ (i : Instance) (f : Frame) (t : ℕ) (shown : (w : List ℕ) → AreCalls i w → RowShows i f t w) where
  abbrev row : SlotValues
  row = row_at i f t

  abbrev Within : List Part → Type 0
  Within qs = NonePast i f qs t

  -- where what a mode requires is within, its resolution has no operation outside
  pub record IsFine (w : List ℕ) (m : Key × (List NeededPlace → List Part)) (q : Key × Resolving) : Type 0 where
    pub key : q.0 ≡ m.0
    pub none : (ns : List NeededPlace) → Within (m.1 ns) → outside row ((scene_there i f w).beat t) (q.1 (numbers_there i w)) ≡ []

  abbrev pub AreFine : List ℕ → ModeParts → Known Resolving → Type 0
  AreFine w [] [] = Unit {0}
  AreFine w (m ∷ ms) (q ∷ qs) = IsFine w m q × AreFine w ms qs
  AreFine w [] (q ∷ qs) = ⊥
  AreFine w (m ∷ ms) [] = ⊥

  fine_more : (w : List ℕ) (ms ns : ModeParts) (qs rs : Known Resolving) → AreFine w ms qs → AreFine w ns rs → AreFine w (ms ++ ns) (qs ++ rs)
  fine_more w [] ns [] rs a e = e
  fine_more w [] ns (q ∷ qs) rs a e = absurd a
  fine_more w (m ∷ ms) ns [] rs a e = absurd a
  fine_more w (m ∷ ms) ns (q ∷ qs) rs a e = (a.0, fine_more w ms ns qs rs a.1 e)

  abbrev asked_of : ModeParts → Key → List NeededPlace → List Part
  asked_of ms key ns = (unwrap_or (lookup (mode_key key) ms) (λ ns. [])) ns

  abbrev resolved_of : List ℕ → Known Resolving → Key → Resolution
  resolved_of w qs key = unwrap_or (lookup (mode_key key) (at_numbers (numbers_there i w) qs)) (known (flag false))

  pub fine_found : (w : List ℕ) (key : Key) (ns : List NeededPlace) (ms : ModeParts) (qs : Known Resolving) → AreFine w ms qs → IsAmong (keys qs) key →
      Within (asked_of ms key ns) → outside row ((scene_there i f w).beat t) (resolved_of w qs key) ≡ []
  fine_found w key ns [] [] a h l = absurd (false≢true h)
  fine_found w key ns [] (q ∷ qs) a h l = absurd a
  fine_found w key ns (m ∷ ms) [] a h l = absurd a
  fine_found w key ns (m ∷ ms) (q ∷ qs) a h l =
      go (mode_key key m.0) (subst (λ z. (mode_key key z || list_any (mode_key key) (keys qs)) ≡ true) a.0.key h) l (fine_found w key ns ms qs a.1)
      (ap (mode_key key) a.0.key)
    where
      go : (c : Bool) → (c || list_any (mode_key key) (keys qs)) ≡ true →
          Within ((unwrap_or (cond c (Some m.1) (lookup (mode_key key) ms)) (λ ns. [])) ns) →
          (IsAmong (keys qs) key → Within (asked_of ms key ns) → outside row ((scene_there i f w).beat t) (resolved_of w qs key) ≡ []) →
          mode_key key q.0 ≡ c →
          outside row ((scene_there i f w).beat t)
          (unwrap_or (cond (mode_key key q.0) (Some (q.1 (numbers_there i w))) (lookup (mode_key key) (at_numbers (numbers_there i w) qs)))
          (known (flag false))) ≡ []
      go true k l r e = rw e (a.0.none ns l)
      go false k l r e = rw e (r k l)

  -- ---- a mode of a contract

  abbrev ModeIsFine : List ℕ → Instance → Type 0
  ModeIsFine w j =
      (ks : List Key) (ms : ModeParts) (qs more : Known Resolving) → AreFine w ms qs → keys qs ≡ ks → resolvings j ≡ qs ++ more →
      (m : Name) (rs : List Labelled) → AllByRecursion (FlagFits j ks) rs →
      IsFine w (([], m), own_asked j w ms rs) (([], m), asked_resolving j qs rs)

  module _ (w : List ℕ) (sh : RowShows i f t w) where
    abbrev s : Scene
    s = scene_there i f w

    module _ (ks : List Key) (ms : ModeParts) (qs more : Known Resolving) (fine : AreFine w ms qs) (named : keys qs ≡ ks)
        (all : resolvings s.place ≡ qs ++ more) where
      abbrev among : Key → Bool
      among key = list_any (mode_key key) ks

      among_keys : (key : Key) → IsAmong ks key → IsAmong (keys qs) key
      among_keys key h = subst (λ l. IsAmong l key) (sym named) h

      abbrev v : Standpoint
      v = record {
        top = i;
        frame = f;
        way = w;
        body = λ k. [];
        asked = ms;
        test = among;
        numbers = numbers_there i w;
        modes = modes_there i f w;
        row = row;
        instant = t;
      }

      known_here : (key : Key) → IsAmong ks key → IsKnown s.place key
      known_here key h = known_first s.place qs more all key (among_keys key h)

      shown_first : Shows s among (numbers_there i w) (modes_there i f w) row t
      shown_first = record {
        beats = sh.beats;
        names = λ x e d. sh.names x e d;
        types = λ x e d. sh.types x e d;
        clocks = λ x e d. sh.clocks x e d;
        memories = λ k c a e. sh.memories k c a e;
        starts = λ k c e. sh.starts k c e;
        calls = λ k c e. sh.calls k c (as_plain s.place (IsAmong ks) (IsKnown s.place) k c e);
        held_calls = λ k c a ds e. sh.held_calls k c a ds (as_held s.place (IsAmong ks) (IsKnown s.place) k c a ds e);
        modes_on = λ d m k o. sh.modes_on d m (known_here (option_to_list d, m) k) o;
        modes_off = λ d m o. sh.modes_off d m o;
        asked_off = sh.asked_off;
      }

      same_found : (key : Key) → IsAmong ks key →
          lookup (mode_key key) (at_numbers (numbers_there i w) qs) ≡ lookup (mode_key key) (modes_there i f w)
      same_found key h =
          sym (found_first (λ r. r (numbers_there i w)) key qs more (among_keys key h))
          ∙ ap (λ l. lookup (mode_key key) (at_numbers (numbers_there i w) l)) (sym all)

      first_within : ModesWithin v
      first_within key ns k l =
          ap (λ o. outside row (s.beat t) (unwrap_or o (known (flag false)))) (sym (same_found key k))
          ∙ fine_found w key ns ms qs fine (among_keys key k) l

      abbrev g : Setting
      g = own_setting s.place w ms

      one_fine : (ns : List NeededPlace) (r : Labelled) → FlagFits s.place ks r → Within (own_parts g ns [] base r.value) →
          outside row (s.beat t) (resolution (record { place = s.place; number = numbers_there i w; modes = at_numbers (numbers_there i w) qs }) r.value) ≡ []
      one_fine ns r h l =
          ap (outside row (s.beat t)) (same_resolution s.place (numbers_there i w) (IsAmong ks) (at_numbers (numbers_there i w) qs) (modes_there i f w)
          same_found base r.value h.0)
          ∙ by.own_past (left_of Fine (operands g ns base r.value) (part g ns [] base r.value ∷ []) owned)
          ∙ ap (told (own r.value)) (right_of Fine (operands g ns base r.value) (part g ns [] base r.value ∷ []) owned).0
        where
          Fine : Part → Type 0
          Fine q = part_past i f q t ≡ None

          by : PartsByRow v ns [] base r.value
          by = parts_by_rows v shown_first first_within ns [] base r.value h.0 (base_there i f t w sh)

          owned : Within (operands g ns base r.value ++ part g ns [] base r.value ∷ [])
          owned = subst Within by.ends l

      each_fine : (ns : List NeededPlace) (rs : List Labelled) → AllByRecursion (FlagFits s.place ks) rs →
          Within (own_asked s.place w ms rs ns) →
          AllByRecursion (λ r. outside row (s.beat t) r ≡ [])
          (map (λ r. resolution (record { place = s.place; number = numbers_there i w; modes = at_numbers (numbers_there i w) qs }) r.value) rs)
      each_fine ns [] a l = tt
      each_fine ns (r ∷ rs) a l = (
        one_fine ns r a.0 (left_of (λ q. part_past i f q t ≡ None) (own_parts g ns [] base r.value) _ l),
        each_fine ns rs a.1 (right_of (λ q. part_past i f q t ≡ None) (own_parts g ns [] base r.value) _ l),
      )

      fine_here : (m : Name) (rs : List Labelled) → AllByRecursion (FlagFits s.place ks) rs →
          IsFine w (([], m), own_asked s.place w ms rs) (([], m), asked_resolving s.place qs rs)
      fine_here m rs a = record { key = refl; none = λ ns l. all_none row (s.beat t) _ (each_fine ns rs a l) }

    mode_fine : ModeIsFine w s.place
    mode_fine ks ms qs more a n e m rs h = fine_here ks ms qs more a n e m rs h

  mode_fine_at : (w : List ℕ) (j : Instance) → StandsAt i f w j → ModeIsFine w j
  mode_fine_at w j a = subst (ModeIsFine w) a.place (mode_fine w (shown w a.calls))

  -- ---- imports

  imported_fine : (w : List ℕ) (k : ℕ) (c : Name) (ms : ModeParts) (qs : Known Resolving) →
      (scene_there i f (w ++ k ∷ [])).beat ≡ (scene_there i f w).beat → AreFine (w ++ k ∷ []) ms qs →
      AreFine w (map (imported_own c) ms) (map (imported_resolving k c) qs)
  imported_fine w k c [] [] e a = tt
  imported_fine w k c [] (q ∷ qs) e a = absurd a
  imported_fine w k c (m ∷ ms) [] e a = absurd a
  imported_fine w k c (m ∷ ms) (q ∷ qs) e a = (
    record {
      key = ap (λ (z : Key). let r : Key = (c ∷ z.0, z.1) in r) a.0.key;
      none = λ ns l. subst (λ at. outside row ((scene_there i f w).beat t) (q.1 at) ≡ []) (numbers_further w (number_of i) k)
          (subst (λ b. outside row (b t) (q.1 (numbers_there i (w ++ k ∷ []))) ≡ []) e (a.0.none ns l));
    },
    imported_fine w k c ms qs e a.1,
  )

  same_beat : (w : List ℕ) (j : Instance) → StandsAt i f w j → (k : ℕ) → IsImport j k → (scene_there i f (w ++ k ∷ [])).beat ≡ (scene_there i f w).beat
  same_beat w j a k im =
      ap (λ q. q.beat) (scene_further w i throughout f k)
      ∙ import_beat (scene_there i f w) (site_of (scene_there i f w).place k) im.outputs
      (ap (λ q. (site_of q k).clock) a.place ∙ im.clock) (ap (λ q. (site_of q k).manner) a.place ∙ im.manner)

  -- ---- a contract

  abbrev under : Name → Key → Key
  under c z = (c ∷ z.0, z.1)

  module _ (w : List ℕ) (j : Instance) (stands : StandsAt i f w j) (sub : ℕ → ModeParts) (subr : ℕ → Known Resolving) where
    pub record Below (k : ℕ) : Type 0 where
      pub same : subr k ≡ resolvings (call_instance j k)
      pub fine : AreFine (w ++ k ∷ []) (sub k) (subr k)

    after : ((k : ℕ) → IsImport j k → Below k) → (ks : List Key) (ms : ModeParts) (qs : Known Resolving) (cs : List ContractStatement) →
        StatementsFit j ks cs → AreFine w ms qs → keys qs ≡ ks → resolvings j ≡ resolvings_after j subr qs cs →
        AreFine w (own_modes_after j w sub ms cs) (resolvings_after j subr qs cs)
    after below ks ms qs [] h a k e = a
    after below ks ms qs (assume l ∷ cs) h a k e = after below (ks ++ []) ms qs cs h.1 a (k ∙ sym (append_none ks)) e
    after below ks ms qs (guarantee l ∷ cs) h a k e = after below (ks ++ []) ms qs cs h.1 a (k ∙ sym (append_none ks)) e
    after below ks ms qs (ghost_variable x d ∷ cs) h a k e = after below (ks ++ []) ms qs cs h.1 a (k ∙ sym (append_none ks)) e
    after below ks ms qs (constant c ∷ cs) h a k e = after below (ks ++ []) ms qs cs h.1 a (k ∙ sym (append_none ks)) e
    after below ks ms qs (mode m rs es ∷ cs) h a k e =
        let later = resolvings_more j subr qs (mode m rs es ∷ cs) in
        let one : ModeParts = (([], m.text), own_asked j w ms rs) ∷ [] in
        let resolving : Known Resolving = (([], m.text), asked_resolving j qs rs) ∷ [] in
        after below (ks ++ ([], m.text) ∷ []) (ms ++ one) (qs ++ resolving) cs h.1
        (fine_more w ms one qs resolving a
        (mode_fine_at w j stands ks ms qs later.0 a k (e ∙ later.1) m.text rs h.0.0, tt))
        (map_append (λ q. q.0) qs resolving ∙ ap (λ l. l ++ ([], m.text) ∷ []) k) e
    after below ks ms qs («import» n c as_ xs ∷ cs) h a k e =
        let there : Below n = below n h.0 in
        let some : ModeParts = map (imported_own c.text) (sub n) in
        let resolving : Known Resolving = map (imported_resolving n c.text) (subr n) in
        after below (ks ++ own_keys j («import» n c as_ xs)) (ms ++ some) (qs ++ resolving) cs h.1
        (fine_more w ms some qs resolving a
        (imported_fine w n c.text (sub n) (subr n) (same_beat w j stands n h.0) there.fine))
        (map_append (λ q. q.0) qs resolving ∙ ap (λ l. l ++ keys resolving) k
        ∙ ap (λ l. ks ++ l) (imported_keys n c.text (subr n)
        ∙ ap (map (under c.text)) (ap keys there.same ∙ resolving_keys (call_instance j n))
        ∙ under_all c.text (terms (call_instance j n)).modes)) e
      where
        under_all : (x : Name) (ts : List ModeTerms) →
            map (under x) (map (λ m. m.key) ts) ≡ map (λ (m : ModeTerms). under x m.key) ts
        under_all x [] = refl
        under_all x (m ∷ ts) = ap (λ l. under x m.key ∷ l) (under_all x ts)

  -- ---- at every depth

  abbrev FrameIsFine : List ℕ → Instance → Type 0
  FrameIsFine w j = AreFine w (own_modes w j) (resolvings j)

  abbrev CallIsFine : List ℕ → Instances → ℕ → ℕ → Type 0
  CallIsFine w is n p =
      (slice_index_or (resolvings_each is) p [] ≡ resolvings (instance_at is p))
      × AreFine (w ++ n ∷ []) (slice_index_or (own_modes_each w is) p []) (slice_index_or (resolvings_each is) p [])

  from_calls : (w : List ℕ) (d : Component) (cs : List (Name × Value)) (is : Instances) → StandsAt i f w (instance d cs is) →
      ((p : ℕ) → p < count_of is → StandsAt i f (w ++ suc p ∷ []) (instance_at is p) → CallIsFine w is (suc p) p) → FrameIsFine w (instance d cs is)
  from_calls w d cs is a each =
      after w (instance d cs is) a (λ k. slice_index_or (own_modes_each w is) (pred k) []) (λ k. slice_index_or (resolvings_each is) (pred k) [])
      (λ k im. below k im.call.counted im.call.listed) [] [] []
      (contract_statements d) (own_fits IsKnown (instance d cs is) a.fits).contract tt refl refl
    where
      below : (k : ℕ) → 0 < k → pred k < count_of is → Below w (instance d cs is) a (λ k. slice_index_or (own_modes_each w is) (pred k) [])
          (λ k. slice_index_or (resolvings_each is) (pred k) []) k
      below zero c l = absurd (omega arith)
      below (suc p) c l =
          let r : CallIsFine w is (suc p) p = each p l (stands_called i f w (instance d cs is) a (suc p) c l) in
          record { same = r.0; fine = r.1 }

  mutual
    pub frame_fine : (w : List ℕ) (j : Instance) → StandsAt i f w j → FrameIsFine w j
    frame_fine w (instance d cs is) a =
        from_calls w d cs is a (λ p l s. calls_fine w (instance d cs is) is 0 a.fits.1 p (suc p) (omega arith) l s)

    calls_fine : (w : List ℕ) (j : Instance) (is : Instances) (q : ℕ) → CallsFit IsKnown j is q → (p n : ℕ) → n ≡ suc (q + p) → p < count_of is →
        StandsAt i f (w ++ n ∷ []) (instance_at is p) →
        CallIsFine w is n p
    calls_fine w j no_instances q h p n e l a = absurd (omega arith)
    calls_fine w j (with_instance c k is) q h zero n e l a =
        let same : n ≡ c.number = (let u : n ≡ suc q = omega arith in u ∙ sym h.0.number) in
        (refl, subst (λ z. AreFine (w ++ n ∷ []) (own_modes (w ++ z ∷ []) k) (resolvings k)) same (frame_fine (w ++ n ∷ []) k a))
    calls_fine w j (with_instance c k is) q h (suc p) n e l a =
        calls_fine w j is (suc q) h.2 p n (let u : n ≡ suc (suc q + p) = omega arith in u) (omega arith) a
