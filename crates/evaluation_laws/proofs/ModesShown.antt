-- In a row that has what a frame reads, what the resolutions of modes are worth is what the modes ask.
use Rattle.std.proofs.Common.{◌≡◌, ℕ, zero, suc, pred, ◌<◌, Bool, true, false, cond, ◌||◌, get_or, List, [], ◌∷◌, ◌++◌, map, slice_index_or, refl, ap, ◌∙◌, sym, subst, arith, Option, Some, option_to_list, unwrap_or}
use Rattle.std.specs.List.{AllByRecursion, list_any}
use Rattle.std.specs.Map.{lookup}
use Rattle.std.proofs.lemmas.Bool.{false≢true}
use Rattle.lus_tree.specs.declared.expression.Operator.TheVariants.{And}
use Rattle.lus_tree.specs.Tree.{Name, Labelled, ContractStatement, assume, guarantee, ghost_variable, constant, mode, «import»}
use Rattle.lus_meaning.specs.Value.{Value, absent, flag, Instants, apply}
use Rattle.lus_meaning.specs.Frame.{Frame, call_frame}
use Rattle.lus_meaning.specs.Scene.{base, Instance, Instances, instance, no_instances, with_instance, instance_at, call_instance, calls_of, contract_statements, Scene}
use Rattle.lus_meaning.specs.Meaning.{mode_key, head_stream}
use Rattle.lus_meaning.specs.Contract.{ModeTerms, Terms, no_terms, mode_streams, all_true, says, mode_terms, imported_mode, terms_after, terms, terms_each, scene}
use Rattle.sys_meaning.specs.Slot.{Place}
use Rattle.sys_meaning.specs.Items.{Key, Known}
use Rattle.sys_meaning.specs.Defaults.{site_of}
use Rattle.sys_meaning.specs.System.{below_call}
use Rattle.sys_meaning.specs.WellTyped.{IsKnown, IsAmong, IsImport, FlagFits, StatementsFit, own_keys, count_of}
use Rattle.sys_meaning.proofs.ContractStatements.{terms_called}
use Rattle.sys_meaning.proofs.Forward.{own_fits}
use Rattle.sys_meaning.proofs.SameText.{same_value}
use Rattle.sys_meaning.proofs.Whole.{import_beat}
use Rattle.slot_values.specs.Resolution.{Resolution}
use Rattle.slot_values.specs.Evaluated.{SlotValues, worth}
use Rattle.slot_values.specs.Resolved.{resolution}
use Rattle.slot_values.specs.FrameRow.{numbering, Shows}
use Rattle.slot_values.proofs.FrameRow.{value_by_row, absent_by_row}
use Rattle.evaluation_laws.specs.Resolvings.{Resolving, at_numbers, all_resolved, asked_resolving, imported_resolving, resolvings_after, resolvings, resolvings_each}
use Rattle.evaluation_laws.specs.Rows.{knows}
use Rattle.evaluation_laws.proofs.FrameShown.{Standing, shows_with, beat_clock, called}

-- ---- lists and keys

none_more : {A : Type 0} (xs : List A) → xs ++ [] ≡ xs
none_more [] = refl
none_more (x ∷ xs) = ap (λ l. x ∷ l) (none_more xs)

grouped : {A : Type 0} (xs ys zs : List A) → xs ++ (ys ++ zs) ≡ (xs ++ ys) ++ zs
grouped [] ys zs = refl
grouped (x ∷ xs) ys zs = ap (λ l. x ∷ l) (grouped xs ys zs)

abbrev keys : List ModeTerms → List Key
keys ms = map (λ m. m.key) ms

keys_both : (ms ns : List ModeTerms) → keys (ms ++ ns) ≡ keys ms ++ keys ns
keys_both [] ns = refl
keys_both (m ∷ ms) ns = ap (λ l. m.key ∷ l) (keys_both ms ns)

keys_same : (key : Key) (ms : List ModeTerms) → list_any (λ m. mode_key key m.key) ms ≡ list_any (mode_key key) (keys ms)
keys_same key [] = refl
keys_same key (m ∷ ms) = ap (λ z. mode_key key m.key || z) (keys_same key ms)

imported_keys : (k : ℕ) (x : Name) (ms : List ModeTerms) → keys (map (imported_mode k x) ms) ≡ map (λ (m : ModeTerms). (x ∷ m.key.0, m.key.1)) ms
imported_keys k x [] = refl
imported_keys k x (m ∷ ms) = ap (λ l. (x ∷ m.key.0, m.key.1) ∷ l) (imported_keys k x ms)

-- what is found among the first is found among all
found_first : (b : Instants) (f : Frame) (key : Key) (ms ns : List ModeTerms) → IsAmong (keys ms) key →
    lookup (mode_key key) (mode_streams (ms ++ ns) b f) ≡ lookup (mode_key key) (mode_streams ms b f)
found_first b f key [] ns h = absurd (false≢true h)
found_first b f key (m ∷ ms) ns h = go (mode_key key m.key) h (found_first b f key ms ns)
  where
    go : (c : Bool) → (c || list_any (mode_key key) (keys ms)) ≡ true →
        (IsAmong (keys ms) key → lookup (mode_key key) (mode_streams (ms ++ ns) b f) ≡ lookup (mode_key key) (mode_streams ms b f)) →
        cond c (Some (m.requires_all b f)) (lookup (mode_key key) (mode_streams (ms ++ ns) b f))
        ≡ cond c (Some (m.requires_all b f)) (lookup (mode_key key) (mode_streams ms b f))
    go true q r = refl
    go false q r = r q

-- the modes that stand first in a contract are first of all
terms_more : (i : Instance) (sub : ℕ → Terms) (ms : List ModeTerms) (cs : List ContractStatement) →
    (more : List ModeTerms) × ((terms_after i sub ms cs).modes ≡ ms ++ more)
terms_more i sub ms [] = ([], sym (none_more ms))
terms_more i sub ms (assume l ∷ cs) = terms_more i sub ms cs
terms_more i sub ms (guarantee l ∷ cs) = terms_more i sub ms cs
terms_more i sub ms (ghost_variable x e ∷ cs) = terms_more i sub ms cs
terms_more i sub ms (constant c ∷ cs) = terms_more i sub ms cs
terms_more i sub ms (mode m rs es ∷ cs) =
    let one : List ModeTerms = mode_terms i ms m.text rs es ∷ [] in
    let r = terms_more i sub (ms ++ one) cs in
    (one ++ r.0, r.1 ∙ sym (grouped ms one r.0))
terms_more i sub ms («import» k c as_ xs ∷ cs) =
    let some : List ModeTerms = map (imported_mode k c.text) (sub k).modes in
    let r = terms_more i sub (ms ++ some) cs in
    (some ++ r.0, r.1 ∙ sym (grouped ms some r.0))

-- ---- modes and their resolutions

module _ (at : Place → ℕ) (b : Instants) (f : Frame) (row : SlotValues) (t : ℕ) where
  -- where the frame is active the resolution is worth what the mode asks, and elsewhere it is absent
  pub record IsAsked (m : ModeTerms) (q : Key × Resolving) : Type 0 where
    pub key : q.0 ≡ m.key
    pub on : b t ≡ true → worth row true (q.1 at) ≡ m.requires_all b f t
    pub off : b t ≡ false → worth row false (q.1 at) ≡ absent

  abbrev pub AreAsked : List ModeTerms → Known Resolving → Type 0
  AreAsked [] [] = Unit {0}
  AreAsked (m ∷ ms) (q ∷ qs) = IsAsked m q × AreAsked ms qs
  AreAsked [] (q ∷ qs) = ⊥
  AreAsked (m ∷ ms) [] = ⊥

  asked_more : (ms ns : List ModeTerms) (qs rs : Known Resolving) → AreAsked ms qs → AreAsked ns rs → AreAsked (ms ++ ns) (qs ++ rs)
  asked_more [] ns [] rs a e = e
  asked_more [] ns (q ∷ qs) rs a e = absurd a
  asked_more (m ∷ ms) ns [] rs a e = absurd a
  asked_more (m ∷ ms) ns (q ∷ qs) rs a e = (a.0, asked_more ms ns qs rs a.1 e)

  asked_found : (key : Key) (ms : List ModeTerms) (qs : Known Resolving) → AreAsked ms qs → IsAmong (keys ms) key → b t ≡ true →
      unwrap_or (lookup (mode_key key) (map (λ m. (m.0, worth row true m.1)) (at_numbers at qs))) (flag false)
      ≡ head_stream (option_to_list (lookup (mode_key key) (mode_streams ms b f))) t
  asked_found key [] qs a h o = absurd (false≢true h)
  asked_found key (m ∷ ms) [] a h o = absurd a
  asked_found key (m ∷ ms) (q ∷ qs) a h o =
      subst (λ z. unwrap_or (cond (mode_key key z) (Some (worth row true (q.1 at))) rest) (flag false)
      ≡ head_stream (option_to_list (cond (mode_key key m.key) (Some (m.requires_all b f)) (lookup (mode_key key) (mode_streams ms b f)))) t)
      (sym a.0.key) (go (mode_key key m.key) h (asked_found key ms qs a.1))
    where
      rest : Option Value
      rest = lookup (mode_key key) (map (λ m. (m.0, worth row true m.1)) (at_numbers at qs))

      go : (c : Bool) → (c || list_any (mode_key key) (keys ms)) ≡ true →
          (IsAmong (keys ms) key → b t ≡ true → unwrap_or rest (flag false)
          ≡ head_stream (option_to_list (lookup (mode_key key) (mode_streams ms b f))) t) →
          unwrap_or (cond c (Some (worth row true (q.1 at))) rest) (flag false)
          ≡ head_stream (option_to_list (cond c (Some (m.requires_all b f)) (lookup (mode_key key) (mode_streams ms b f)))) t
      go true k r = a.0.on o
      go false k r = r k o

  asked_absent : (ms : List ModeTerms) (qs : Known Resolving) → AreAsked ms qs → b t ≡ false →
      AllByRecursion (λ m. worth row false m.1 ≡ absent) (at_numbers at qs)
  asked_absent [] [] a o = tt
  asked_absent [] (q ∷ qs) a o = absurd a
  asked_absent (m ∷ ms) [] a o = absurd a
  asked_absent (m ∷ ms) (q ∷ qs) a o = (a.0.off o, asked_absent ms qs a.1 o)

on_beat : (o : Bool) (v : Value) → o ≡ true → cond o v absent ≡ v
on_beat true v e = refl
on_beat false v e = absurd (false≢true e)

both_values : {v v' w w' : Value} → v ≡ v' → w ≡ w' → apply And v w ≡ apply And v' w'
both_values e h = rw (e, h) refl

-- ---- a frame

module _ (i : Instance) (v : Standing i) where
  abbrev s : Scene
  s = scene i v.b v.f

  abbrev Asked : List ModeTerms → Known Resolving → Type 0
  Asked = AreAsked v.at v.b v.f v.row v.t

  -- modes of these keys, which are the first of all
  record First (ks : List Key) (ms : List ModeTerms) (qs : Known Resolving) : Type 0 where
    asked : Asked ms qs
    named : keys ms ≡ ks
    more : List ModeTerms
    all : (terms i).modes ≡ ms ++ more

  module _ (ks : List Key) (ms : List ModeTerms) (qs : Known Resolving) (h : First ks ms qs) where
    abbrev among : Key → Bool
    among key = list_any (mode_key key) ks

    among_terms : (key : Key) → IsAmong ks key → IsAmong (keys ms) key
    among_terms key k = subst (λ ks. IsAmong ks key) (sym h.named) k

    streams_found : (key : Key) → IsAmong ks key →
        lookup (mode_key key) (mode_streams ms v.b v.f) ≡ lookup (mode_key key) (mode_streams (terms i).modes v.b v.f)
    streams_found key k =
        sym (ap (λ ns. lookup (mode_key key) (mode_streams ns v.b v.f)) h.all ∙ found_first v.b v.f key ms h.more (among_terms key k))

    shown : Shows s among v.at (at_numbers v.at qs) v.row v.t
    shown =
        shows_with i v among (at_numbers v.at qs)
        (λ d m k o. asked_found v.at v.b v.f v.row v.t (option_to_list d, m) ms qs h.asked (among_terms (option_to_list d, m) k) o
        ∙ ap (λ z. head_stream (option_to_list z) v.t) (streams_found (option_to_list d, m) k))
        (asked_absent v.at v.b v.f v.row v.t ms qs h.asked)

    abbrev resolved : Labelled → Resolution
    resolved l = resolution (numbering s v.at (at_numbers v.at qs)) l.value

    says_on : (l : Labelled) → FlagFits i ks l → v.b v.t ≡ true → worth v.row true (resolved l) ≡ says i ms l v.b v.f v.t
    says_on l w o =
        ap (λ k. worth v.row k (resolved l)) (sym o)
        ∙ value_by_row s among v.at (at_numbers v.at qs) v.row v.t shown base l.value w.0 (beat_clock i v)
        ∙ sym (same_value i v.f v.b ks (mode_streams ms v.b v.f) (mode_streams (terms i).modes v.b v.f) streams_found l.value base w.0 v.t)

    says_off : (l : Labelled) → FlagFits i ks l → v.b v.t ≡ false → worth v.row false (resolved l) ≡ absent
    says_off l w o =
        ap (λ k. worth v.row k (resolved l)) (sym o)
        ∙ absent_by_row s among v.at (at_numbers v.at qs) v.row v.t shown base l.value w.0 (beat_clock i v) o

    all_on : (rs : List Labelled) → AllByRecursion (FlagFits i ks) rs → v.b v.t ≡ true →
        worth v.row true (all_resolved (map resolved rs)) ≡ all_true (map (λ r. says i ms r v.b v.f) rs) v.t
    all_on [] a o = refl
    all_on (r ∷ []) a o = says_on r a.0 o
    all_on (r ∷ q ∷ rs) a o = both_values (says_on r a.0 o) (all_on (q ∷ rs) a.1 o)

    all_off : (rs : List Labelled) → AllByRecursion (FlagFits i ks) rs → v.b v.t ≡ false →
        worth v.row false (all_resolved (map resolved rs)) ≡ absent
    all_off [] a o = refl
    all_off (r ∷ []) a o = says_off r a.0 o
    all_off (r ∷ q ∷ rs) a o = both_values (says_off r a.0 o) (all_off (q ∷ rs) a.1 o)

    asks : (m : Name) (rs es : List Labelled) → AllByRecursion (FlagFits i ks) rs →
        IsAsked v.at v.b v.f v.row v.t (mode_terms i ms m rs es) (([], m), asked_resolving i qs rs)
    asks m rs es a = record {
      key = refl;
      on = λ o. all_on rs a o ∙ sym (on_beat (v.b v.t) (all_true (map (λ r. says i ms r v.b v.f) rs) v.t) o);
      off = λ o. all_off rs a o;
    }

  -- ---- its contract

  module _ (sub : ℕ → Terms) (sub' : ℕ → Known Resolving) where
    -- what is known of the contracts that are imported
    pub record Below (k : ℕ) : Type 0 where
      pub same : sub k ≡ terms (call_instance i k)
      pub asked : AreAsked (below_call k v.at) v.b (call_frame v.f k) v.row v.t (sub k).modes (sub' k)

    through : (k : ℕ) (x : Name) (ms : List ModeTerms) (qs : Known Resolving) →
        AreAsked (below_call k v.at) v.b (call_frame v.f k) v.row v.t ms qs → Asked (map (imported_mode k x) ms) (map (imported_resolving k x) qs)
    through k x [] [] a = tt
    through k x [] (q ∷ qs) a = absurd a
    through k x (m ∷ ms) [] a = absurd a
    through k x (m ∷ ms) (q ∷ qs) a = (
      record { key = ap (λ (z : Key). (x ∷ z.0, z.1)) a.0.key; on = a.0.on; off = a.0.off },
      through k x ms qs a.1,
    )

    after : ((k : ℕ) → IsImport i k → Below k) → (ks : List Key) (ms : List ModeTerms) (qs : Known Resolving) (cs : List ContractStatement) →
        StatementsFit i ks cs → Asked ms qs → keys ms ≡ ks → (terms i).modes ≡ (terms_after i sub ms cs).modes →
        Asked (terms_after i sub ms cs).modes (resolvings_after i sub' qs cs)
    after below ks ms qs [] w a k e = a
    after below ks ms qs (assume l ∷ cs) w a k e = after below (ks ++ []) ms qs cs w.1 a (k ∙ sym (none_more ks)) e
    after below ks ms qs (guarantee l ∷ cs) w a k e = after below (ks ++ []) ms qs cs w.1 a (k ∙ sym (none_more ks)) e
    after below ks ms qs (ghost_variable x d ∷ cs) w a k e = after below (ks ++ []) ms qs cs w.1 a (k ∙ sym (none_more ks)) e
    after below ks ms qs (constant c ∷ cs) w a k e = after below (ks ++ []) ms qs cs w.1 a (k ∙ sym (none_more ks)) e
    after below ks ms qs (mode m rs es ∷ cs) w a k e =
        let later = terms_more i sub ms (mode m rs es ∷ cs) in
        let here : First ks ms qs = record { asked = a; named = k; more = later.0; all = e ∙ later.1 } in
        let one : List ModeTerms = mode_terms i ms m.text rs es ∷ [] in
        let resolving : Known Resolving = (([], m.text), asked_resolving i qs rs) ∷ [] in
        after below (ks ++ ([], m.text) ∷ []) (ms ++ one) (qs ++ resolving) cs w.1
        (asked_more v.at v.b v.f v.row v.t ms one qs resolving a (asks ks ms qs here m.text rs es w.0.0, tt))
        (keys_both ms one ∙ ap (λ l. l ++ ([], m.text) ∷ []) k) e
    after below ks ms qs («import» j c as_ xs ∷ cs) w a k e =
        let there : Below j = below j w.0 in
        let some : List ModeTerms = map (imported_mode j c.text) (sub j).modes in
        let resolving : Known Resolving = map (imported_resolving j c.text) (sub' j) in
        after below (ks ++ own_keys i («import» j c as_ xs)) (ms ++ some) (qs ++ resolving) cs w.1
        (asked_more v.at v.b v.f v.row v.t ms some qs resolving a (through j c.text (sub j).modes (sub' j) there.asked))
        (keys_both ms some ∙ ap (λ l. l ++ keys some) k
        ∙ ap (λ l. ks ++ l) (imported_keys j c.text (sub j).modes
        ∙ ap (λ (r : Terms). map (λ (m : ModeTerms). (c.text ∷ m.key.0, m.key.1)) r.modes) there.same)) e

-- ---- at every depth of imports

abbrev AllAsked : Instance → Type 0
AllAsked i = (v : Standing i) → AreAsked v.at v.b v.f v.row v.t (terms i).modes (resolvings i)

resolvings_at : (is : Instances) (p : ℕ) → p < count_of is → get_or (resolvings_each is) p [] ≡ resolvings (instance_at is p)
resolvings_at no_instances p h = absurd (omega arith)
resolvings_at (with_instance c k is) zero h = refl
resolvings_at (with_instance c k is) (suc p) h = resolvings_at is p (omega arith)

resolvings_called : (i : Instance) (k : ℕ) → 0 < k → pred k < count_of (calls_of i) →
    slice_index_or (resolvings_each (calls_of i)) (pred k) [] ≡ resolvings (call_instance i k)
resolvings_called i zero c h = absurd (omega arith)
resolvings_called i (suc p) c h = resolvings_at (calls_of i) p h

by_number : (P : Instance → Type 0) (i : Instance) → ((p : ℕ) → p < count_of (calls_of i) → P (instance_at (calls_of i) p)) → (k : ℕ) → 0 < k →
    pred k < count_of (calls_of i) → P (call_instance i k)
by_number P i h zero c l = absurd (omega arith)
by_number P i h (suc p) c l = h p l

-- an import's frame is active where that of its parent is
imported_asked : (i : Instance) → ((k : ℕ) → 0 < k → pred k < count_of (calls_of i) → AllAsked (call_instance i k)) → (v : Standing i) → (k : ℕ) →
    IsImport i k → AreAsked (below_call k v.at) v.b (call_frame v.f k) v.row v.t (terms (call_instance i k)).modes (resolvings (call_instance i k))
imported_asked i h v k im =
    subst (λ z. AreAsked (below_call k v.at) z (call_frame v.f k) v.row v.t (terms (call_instance i k)).modes (resolvings (call_instance i k)))
    (import_beat (scene i v.b v.f) (site_of i k) im.outputs im.clock im.manner) (h k im.call.counted im.call.listed (called i v k im.call))

asked_from : (i : Instance) → ((k : ℕ) → 0 < k → pred k < count_of (calls_of i) → AllAsked (call_instance i k)) → AllAsked i
asked_from (instance d cs is) h v =
    after (instance d cs is) v (λ k. slice_index_or (terms_each is) (pred k) no_terms) (λ k. slice_index_or (resolvings_each is) (pred k) [])
    below [] [] [] (contract_statements d) (own_fits IsKnown (instance d cs is) v.fits).contract tt refl refl
  where
    i : Instance
    i = instance d cs is

    below : (k : ℕ) → IsImport (instance d cs is) k → Below (instance d cs is) v (λ k. slice_index_or (terms_each is) (pred k) no_terms)
        (λ k. slice_index_or (resolvings_each is) (pred k) []) k
    below k im =
        let same = terms_called (instance d cs is) k im.call.counted im.call.listed in
        let resolved = resolvings_called (instance d cs is) k im.call.counted im.call.listed in
        record {
          same = same;
          asked = subst (λ r. AreAsked (below_call k v.at) v.b (call_frame v.f k) v.row v.t r.modes (slice_index_or (resolvings_each is) (pred k) []))
              (sym same)
              (subst (λ q. AreAsked (below_call k v.at) v.b (call_frame v.f k) v.row v.t (terms (call_instance (instance d cs is) k)).modes q)
              (sym resolved) (imported_asked (instance d cs is) h v k im));
        }

mutual
  all_asked : (i : Instance) → AllAsked i
  all_asked (instance d cs is) = asked_from (instance d cs is) (by_number AllAsked (instance d cs is) (each_asked is))

  each_asked : (is : Instances) (p : ℕ) → p < count_of is → AllAsked (instance_at is p)
  each_asked no_instances p l = absurd (omega arith)
  each_asked (with_instance c k is) zero l = all_asked k
  each_asked (with_instance c k is) (suc p) l = each_asked is p (omega arith)

-- the row shows the frame, with all its modes
pub frame_shown : (i : Instance) (v : Standing i) → Shows (scene i v.b v.f) (knows i) v.at (at_numbers v.at (resolvings i)) v.row v.t
frame_shown i v =
    shows_with i v (knows i) (at_numbers v.at (resolvings i))
    (λ d m k o. asked_found v.at v.b v.f v.row v.t (option_to_list d, m) (terms i).modes (resolvings i) (all_asked i v)
    (sym (keys_same (option_to_list d, m) (terms i).modes) ∙ k) o) (asked_absent v.at v.b v.f v.row v.t (terms i).modes (resolvings i) (all_asked i v))
