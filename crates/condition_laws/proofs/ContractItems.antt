-- In a row that has what a frame reads, what the resolutions of a contract's items are worth is what the items say.
use Rattle.std.proofs.Common.{◌≡◌, ℕ, zero, suc, pred, ◌<◌, Bool, true, false, cond, ◌||◌, get_or, List, [], ◌∷◌, ◌++◌, map, slice_index_or, refl, ap, ◌∙◌, sym, subst, arith, Option, Some, option_to_list, unwrap_or}
use Rattle.std.specs.List.{AllByRecursion, list_any}
use Rattle.std.specs.Map.{lookup}
use Rattle.std.proofs.lemmas.Bool.{false≢true}
use Rattle.lus_tree.specs.declared.expression.Operator.{Operator}
use Rattle.lus_tree.specs.declared.expression.Operator.TheVariants.{And, Or, Implies}
use Rattle.lus_tree.specs.Tree.{Name, Labelled, ContractStatement, assume, guarantee, ghost_variable, constant, mode, «import»}
use Rattle.lus_meaning.specs.Value.{Value, absent, flag, Instants, apply}
use Rattle.lus_meaning.specs.Frame.{Frame, call_frame}
use Rattle.lus_meaning.specs.Scene.{base, Instance, Instances, instance, no_instances, with_instance, instance_at, call_instance, calls_of, contract_statements, Scene}
use Rattle.lus_meaning.specs.Meaning.{mode_key, head_stream}
use Rattle.lus_meaning.specs.Contract.{Test, Property, ModeTerms, Terms, no_terms, mode_streams, all_true, some_true, says, item, under, ensured, mode_terms, imported, imported_mode, terms_after, terms, terms_each, scene}
use Rattle.lus_meaning.proofs.Lists.{append_none, map_append}
use Rattle.sys_meaning.specs.Slot.{Place}
use Rattle.sys_meaning.specs.Items.{Key, known, ModeItem, mode_item, imported_item, Items, no_items, items_after, items_each}
use Rattle.sys_meaning.specs.Defaults.{site_of}
use Rattle.sys_meaning.specs.System.{below_call}
use Rattle.sys_meaning.specs.WellTyped.{IsKnown, IsAmong, IsImport, FlagFits, StatementsFit, own_keys, count_of}
use Rattle.sys_meaning.proofs.ContractStatements.{terms_called}
use Rattle.sys_meaning.proofs.Forward.{own_fits}
use Rattle.sys_meaning.proofs.SameText.{same_value}
use Rattle.sys_meaning.proofs.Whole.{import_beat}
use Rattle.slot_values.specs.Resolution.{Resolution}
use Rattle.slot_values.specs.Evaluated.{SlotValues, worth}
use Rattle.slot_values.specs.Resolved.{resolution}
use Rattle.slot_values.specs.FrameRow.{numbering, Shows}
use Rattle.slot_values.proofs.FrameRow.{value_by_row, absent_by_row}
use Rattle.evaluation_laws.specs.Resolvings.{Resolving, at_numbers, all_resolved}
use Rattle.evaluation_laws.proofs.FrameShown.{Standing, shows_with, beat_clock, called}
use Rattle.condition_laws.specs.Conditions.{some_resolved, resolved, conditions_of}

-- ---- lists and keys

grouped : {A : Type 0} (xs ys zs : List A) → xs ++ (ys ++ zs) ≡ (xs ++ ys) ++ zs
grouped [] ys zs = refl
grouped (x ∷ xs) ys zs = ap (λ l. x ∷ l) (grouped xs ys zs)

abbrev pub keys : List ModeTerms → List Key
keys ms = map (λ m. m.key) ms

pub imported_keys : (k : ℕ) (x : Name) (ms : List ModeTerms) → keys (map (imported_mode k x) ms) ≡ map (λ (m : ModeTerms). (x ∷ m.key.0, m.key.1)) ms
imported_keys k x [] = refl
imported_keys k x (m ∷ ms) = ap (λ l. (x ∷ m.key.0, m.key.1) ∷ l) (imported_keys k x ms)

-- what is found among the first is found among all
found_first : (b : Instants) (f : Frame) (key : Key) (ms ns : List ModeTerms) → IsAmong (keys ms) key →
    lookup (mode_key key) (mode_streams (ms ++ ns) b f) ≡ lookup (mode_key key) (mode_streams ms b f)
found_first b f key [] ns h = absurd (false≢true h)
found_first b f key (m ∷ ms) ns h = go (mode_key key m.key) h (found_first b f key ms ns)
  where
    go : (c : Bool) → (c || list_any (mode_key key) (keys ms)) ≡ true →
        (IsAmong (keys ms) key → lookup (mode_key key) (mode_streams (ms ++ ns) b f) ≡ lookup (mode_key key) (mode_streams ms b f)) →
        cond c (Some (m.requires_all b f)) (lookup (mode_key key) (mode_streams (ms ++ ns) b f))
        ≡ cond c (Some (m.requires_all b f)) (lookup (mode_key key) (mode_streams ms b f))
    go true q r = refl
    go false q r = r q

-- the modes that stand first in a contract are first of all
pub terms_more : (i : Instance) (sub : ℕ → Terms) (ms : List ModeTerms) (cs : List ContractStatement) →
    (more : List ModeTerms) × ((terms_after i sub ms cs).modes ≡ ms ++ more)
terms_more i sub ms [] = ([], sym (append_none ms))
terms_more i sub ms (assume l ∷ cs) = terms_more i sub ms cs
terms_more i sub ms (guarantee l ∷ cs) = terms_more i sub ms cs
terms_more i sub ms (ghost_variable x e ∷ cs) = terms_more i sub ms cs
terms_more i sub ms (constant c ∷ cs) = terms_more i sub ms cs
terms_more i sub ms (mode m rs es ∷ cs) =
    let one : List ModeTerms = mode_terms i ms m.text rs es ∷ [] in
    let r = terms_more i sub (ms ++ one) cs in
    (one ++ r.0, r.1 ∙ sym (grouped ms one r.0))
terms_more i sub ms («import» k c as_ xs ∷ cs) =
    let some : List ModeTerms = map (imported_mode k c.text) (sub k).modes in
    let r = terms_more i sub (ms ++ some) cs in
    (some ++ r.0, r.1 ∙ sym (grouped ms some r.0))

-- ---- items and their resolutions

module _ (at : Place → ℕ) (b : Instants) (f : Frame) (row : SlotValues) (t : ℕ) where
  -- where the frame is active the resolution is worth what the item says
  abbrev pub SameTest : Test → Resolving → Type 0
  SameTest p q = b t ≡ true → worth row true (q at) ≡ p b f t

  abbrev pub AllSame : List Property → List Resolving → Type 0
  AllSame [] [] = Unit {0}
  AllSame (p ∷ ps) (q ∷ qs) = SameTest p.test q × AllSame ps qs
  AllSame [] (q ∷ qs) = ⊥
  AllSame (p ∷ ps) [] = ⊥

  -- what a mode asks is absent where the frame is not active
  pub record SameMode (m : ModeTerms) (q : ModeItem Resolving) : Type 0 where
    pub key : q.key ≡ m.key
    pub on : SameTest m.requires_all q.asked
    pub off : b t ≡ false → worth row false (q.asked at) ≡ absent
    pub ensures_each : AllSame m.ensures_each q.ensures_each

  abbrev pub SameModes : List ModeTerms → List (ModeItem Resolving) → Type 0
  SameModes [] [] = Unit {0}
  SameModes (m ∷ ms) (q ∷ qs) = SameMode m q × SameModes ms qs
  SameModes [] (q ∷ qs) = ⊥
  SameModes (m ∷ ms) [] = ⊥

  pub record SameTerms (r : Terms) (q : Items Resolving) : Type 0 where
    pub assumes : AllSame r.assumes q.assumes
    pub guarantees : AllSame r.guarantees q.guarantees
    pub modes : SameModes r.modes q.modes

  all_more : (ps ps' : List Property) (qs qs' : List Resolving) → AllSame ps qs → AllSame ps' qs' → AllSame (ps ++ ps') (qs ++ qs')
  all_more [] ps' [] qs' a e = e
  all_more [] ps' (q ∷ qs) qs' a e = absurd a
  all_more (p ∷ ps) ps' [] qs' a e = absurd a
  all_more (p ∷ ps) ps' (q ∷ qs) qs' a e = (a.0, all_more ps ps' qs qs' a.1 e)

  pub modes_more : (ms ns : List ModeTerms) (qs rs : List (ModeItem Resolving)) → SameModes ms qs → SameModes ns rs → SameModes (ms ++ ns) (qs ++ rs)
  modes_more [] ns [] rs a e = e
  modes_more [] ns (q ∷ qs) rs a e = absurd a
  modes_more (m ∷ ms) ns [] rs a e = absurd a
  modes_more (m ∷ ms) ns (q ∷ qs) rs a e = (a.0, modes_more ms ns qs rs a.1 e)

  asked_found : (key : Key) (ms : List ModeTerms) (qs : List (ModeItem Resolving)) → SameModes ms qs → IsAmong (keys ms) key → b t ≡ true →
      unwrap_or (lookup (mode_key key) (map (λ m. (m.0, worth row true m.1)) (at_numbers at (known qs)))) (flag false)
      ≡ head_stream (option_to_list (lookup (mode_key key) (mode_streams ms b f))) t
  asked_found key [] qs a h o = absurd (false≢true h)
  asked_found key (m ∷ ms) [] a h o = absurd a
  asked_found key (m ∷ ms) (q ∷ qs) a h o =
      subst (λ z. unwrap_or (cond (mode_key key z) (Some (worth row true (q.asked at))) rest) (flag false)
      ≡ head_stream (option_to_list (cond (mode_key key m.key) (Some (m.requires_all b f)) (lookup (mode_key key) (mode_streams ms b f)))) t)
      (sym a.0.key) (go (mode_key key m.key) h (asked_found key ms qs a.1))
    where
      rest : Option Value
      rest = lookup (mode_key key) (map (λ m. (m.0, worth row true m.1)) (at_numbers at (known qs)))

      go : (c : Bool) → (c || list_any (mode_key key) (keys ms)) ≡ true →
          (IsAmong (keys ms) key → b t ≡ true → unwrap_or rest (flag false)
          ≡ head_stream (option_to_list (lookup (mode_key key) (mode_streams ms b f))) t) →
          unwrap_or (cond c (Some (worth row true (q.asked at))) rest) (flag false)
          ≡ head_stream (option_to_list (cond c (Some (m.requires_all b f)) (lookup (mode_key key) (mode_streams ms b f)))) t
      go true k r = a.0.on o
      go false k r = r k o

  asked_absent : (ms : List ModeTerms) (qs : List (ModeItem Resolving)) → SameModes ms qs → b t ≡ false →
      AllByRecursion (λ m. worth row false m.1 ≡ absent) (at_numbers at (known qs))
  asked_absent [] [] a o = tt
  asked_absent [] (q ∷ qs) a o = absurd a
  asked_absent (m ∷ ms) [] a o = absurd a
  asked_absent (m ∷ ms) (q ∷ qs) a o = (a.0.off o, asked_absent ms qs a.1 o)

on_beat : (o : Bool) (v : Value) → o ≡ true → cond o v absent ≡ v
on_beat true v e = refl
on_beat false v e = absurd (false≢true e)

pub both_values : (z : Operator) {v v' w w' : Value} → v ≡ v' → w ≡ w' → apply z v w ≡ apply z v' w'
both_values z e h = rw (e, h) refl

-- ---- a frame

module _ (i : Instance) (v : Standing i) where
  abbrev pub s : Scene
  s = scene i v.b v.f

  abbrev pub Modes : List ModeTerms → List (ModeItem Resolving) → Type 0
  Modes = SameModes v.at v.b v.f v.row v.t

  abbrev Listed : List Property → List Resolving → Type 0
  Listed = AllSame v.at v.b v.f v.row v.t

  abbrev Alike : Terms → Items Resolving → Type 0
  Alike = SameTerms v.at v.b v.f v.row v.t

  abbrev IsSaid : Test → Resolving → Type 0
  IsSaid = SameTest v.at v.b v.f v.row v.t

  -- modes of these keys, which are the first of all
  pub record First (ks : List Key) (ms : List ModeTerms) (qs : List (ModeItem Resolving)) : Type 0 where
    pub same : Modes ms qs
    pub named : keys ms ≡ ks
    pub more : List ModeTerms
    pub all : (terms i).modes ≡ ms ++ more

  module _ (ks : List Key) (ms : List ModeTerms) (qs : List (ModeItem Resolving)) (h : First ks ms qs) where
    abbrev pub among : Key → Bool
    among key = list_any (mode_key key) ks

    among_terms : (key : Key) → IsAmong ks key → IsAmong (keys ms) key
    among_terms key k = subst (λ ks. IsAmong ks key) (sym h.named) k

    streams_found : (key : Key) → IsAmong ks key →
        lookup (mode_key key) (mode_streams ms v.b v.f) ≡ lookup (mode_key key) (mode_streams (terms i).modes v.b v.f)
    streams_found key k =
        sym (ap (λ ns. lookup (mode_key key) (mode_streams ns v.b v.f)) h.all ∙ found_first v.b v.f key ms h.more (among_terms key k))

    pub shown : Shows s among v.at (at_numbers v.at (known qs)) v.row v.t
    shown =
        shows_with i v among (at_numbers v.at (known qs))
        (λ d m k o. asked_found v.at v.b v.f v.row v.t (option_to_list d, m) ms qs h.same (among_terms (option_to_list d, m) k) o
        ∙ ap (λ z. head_stream (option_to_list z) v.t) (streams_found (option_to_list d, m) k))
        (asked_absent v.at v.b v.f v.row v.t ms qs h.same)

    abbrev here : Labelled → Resolution
    here l = resolution (numbering s v.at (at_numbers v.at (known qs))) l.value

    says_on : (l : Labelled) → FlagFits i ks l → v.b v.t ≡ true → worth v.row true (here l) ≡ says i ms l v.b v.f v.t
    says_on l w o =
        ap (λ k. worth v.row k (here l)) (sym o)
        ∙ value_by_row s among v.at (at_numbers v.at (known qs)) v.row v.t shown base l.value w.0 (beat_clock i v)
        ∙ sym (same_value i v.f v.b ks (mode_streams ms v.b v.f) (mode_streams (terms i).modes v.b v.f) streams_found l.value base w.0 v.t)

    says_off : (l : Labelled) → FlagFits i ks l → v.b v.t ≡ false → worth v.row false (here l) ≡ absent
    says_off l w o =
        ap (λ k. worth v.row k (here l)) (sym o)
        ∙ absent_by_row s among v.at (at_numbers v.at (known qs)) v.row v.t shown base l.value w.0 (beat_clock i v) o

    abbrev pub requires : List Labelled → List Resolution
    requires rs = map (λ r. r v.at) (map (λ r. resolved.says i (known qs) r.value) rs)

    all_on : (rs : List Labelled) → AllByRecursion (FlagFits i ks) rs → v.b v.t ≡ true →
        worth v.row true (all_resolved (requires rs)) ≡ all_true (map (λ r. says i ms r v.b v.f) rs) v.t
    all_on [] a o = refl
    all_on (r ∷ []) a o = says_on r a.0 o
    all_on (r ∷ q ∷ rs) a o = both_values And (says_on r a.0 o) (all_on (q ∷ rs) a.1 o)

    all_off : (rs : List Labelled) → AllByRecursion (FlagFits i ks) rs → v.b v.t ≡ false →
        worth v.row false (all_resolved (requires rs)) ≡ absent
    all_off [] a o = refl
    all_off (r ∷ []) a o = says_off r a.0 o
    all_off (r ∷ q ∷ rs) a o = both_values And (says_off r a.0 o) (all_off (q ∷ rs) a.1 o)

    asks_on : (m : Name) (rs es : List Labelled) → AllByRecursion (FlagFits i ks) rs →
        IsSaid (mode_terms i ms m rs es).requires_all (mode_item resolved i (known qs) m rs es).asked
    asks_on m rs es a o = all_on rs a o ∙ sym (on_beat (v.b v.t) (all_true (map (λ r. says i ms r v.b v.f) rs) v.t) o)

    ensures_same : (m : Name) (rs es fs : List Labelled) → AllByRecursion (FlagFits i ks) rs → AllByRecursion (FlagFits i ks) es →
        Listed (map (λ e. under (mode_terms i ms m rs fs).requires_all (item i ms (ensured m) e)) es)
        (map (λ e. resolved.under (mode_item resolved i (known qs) m rs fs).asked (resolved.says i (known qs) e.value)) es)
    ensures_same m rs [] fs a e = tt
    ensures_same m rs (x ∷ es) fs a e =
        (λ o. both_values Implies (asks_on m rs fs a o) (says_on x e.0 o), ensures_same m rs es fs a e.1)

    pub mode_same : (m : Name) (rs es : List Labelled) → AllByRecursion (FlagFits i ks) rs → AllByRecursion (FlagFits i ks) es →
        SameMode v.at v.b v.f v.row v.t (mode_terms i ms m rs es) (mode_item resolved i (known qs) m rs es)
    mode_same m rs es a e = record {
      key = refl;
      on = asks_on m rs es a;
      off = λ o. all_off rs a o;
      ensures_each = ensures_same m rs es es a e;
    }

  -- ---- its contract

  module _ (sub : ℕ → Terms) (sub' : ℕ → Items Resolving) where
    -- what is known of the contracts that are imported
    pub record Below (k : ℕ) : Type 0 where
      pub same : sub k ≡ terms (call_instance i k)
      pub alike : SameTerms (below_call k v.at) v.b (call_frame v.f k) v.row v.t (sub k) (sub' k)

    through_all : (k : ℕ) (ps : List Property) (qs : List Resolving) → AllSame (below_call k v.at) v.b (call_frame v.f k) v.row v.t ps qs →
        Listed (map (imported k) ps) (map (resolved.through k) qs)
    through_all k [] [] a = tt
    through_all k [] (q ∷ qs) a = absurd a
    through_all k (p ∷ ps) [] a = absurd a
    through_all k (p ∷ ps) (q ∷ qs) a = (a.0, through_all k ps qs a.1)

    pub through_modes : (k : ℕ) (x : Name) (ms : List ModeTerms) (qs : List (ModeItem Resolving)) →
        SameModes (below_call k v.at) v.b (call_frame v.f k) v.row v.t ms qs → Modes (map (imported_mode k x) ms) (map (imported_item resolved k x) qs)
    through_modes k x [] [] a = tt
    through_modes k x [] (q ∷ qs) a = absurd a
    through_modes k x (m ∷ ms) [] a = absurd a
    through_modes k x (m ∷ ms) (q ∷ qs) a = (
      record {
        key = ap (λ (z : Key). (x ∷ z.0, z.1)) a.0.key;
        on = a.0.on;
        off = a.0.off;
        ensures_each = through_all k m.ensures_each q.ensures_each a.0.ensures_each;
      },
      through_modes k x ms qs a.1,
    )

    after : ((k : ℕ) → IsImport i k → Below k) → (ks : List Key) (ms : List ModeTerms) (qs : List (ModeItem Resolving)) (cs : List ContractStatement) →
        StatementsFit i ks cs → Modes ms qs → keys ms ≡ ks → (terms i).modes ≡ (terms_after i sub ms cs).modes →
        Alike (terms_after i sub ms cs) (items_after resolved i sub' qs cs)
    after below ks ms qs [] w a k e = record { assumes = tt; guarantees = tt; modes = a }
    after below ks ms qs (assume l ∷ cs) w a k e =
        let r : Alike (terms_after i sub ms cs) (items_after resolved i sub' qs cs) = after below (ks ++ []) ms qs cs w.1 a (k ∙ sym (append_none ks)) e in
        let later = terms_more i sub ms cs in
        let first : First ks ms qs = record { same = a; named = k; more = later.0; all = e ∙ later.1 } in
        record { assumes = (λ o. says_on ks ms qs first l w.0 o, r.assumes); guarantees = r.guarantees; modes = r.modes }
    after below ks ms qs (guarantee l ∷ cs) w a k e =
        let r : Alike (terms_after i sub ms cs) (items_after resolved i sub' qs cs) = after below (ks ++ []) ms qs cs w.1 a (k ∙ sym (append_none ks)) e in
        let later = terms_more i sub ms cs in
        let first : First ks ms qs = record { same = a; named = k; more = later.0; all = e ∙ later.1 } in
        record { assumes = r.assumes; guarantees = (λ o. says_on ks ms qs first l w.0 o, r.guarantees); modes = r.modes }
    after below ks ms qs (ghost_variable x d ∷ cs) w a k e = after below (ks ++ []) ms qs cs w.1 a (k ∙ sym (append_none ks)) e
    after below ks ms qs (constant c ∷ cs) w a k e = after below (ks ++ []) ms qs cs w.1 a (k ∙ sym (append_none ks)) e
    after below ks ms qs (mode m rs es ∷ cs) w a k e =
        let later = terms_more i sub ms (mode m rs es ∷ cs) in
        let first : First ks ms qs = record { same = a; named = k; more = later.0; all = e ∙ later.1 } in
        let one : List ModeTerms = mode_terms i ms m.text rs es ∷ [] in
        let asked : List (ModeItem Resolving) = mode_item resolved i (known qs) m.text rs es ∷ [] in
        after below (ks ++ ([], m.text) ∷ []) (ms ++ one) (qs ++ asked) cs w.1
        (modes_more v.at v.b v.f v.row v.t ms one qs asked a (mode_same ks ms qs first m.text rs es w.0.0 w.0.1, tt))
        (map_append (λ (m : ModeTerms). m.key) ms one ∙ ap (λ l. l ++ ([], m.text) ∷ []) k) e
    after below ks ms qs («import» j c as_ xs ∷ cs) w a k e =
        let there : Below j = below j w.0 in
        let some : List ModeTerms = map (imported_mode j c.text) (sub j).modes in
        let asked : List (ModeItem Resolving) = map (imported_item resolved j c.text) (sub' j).modes in
        let r : Alike (terms_after i sub (ms ++ some) cs) (items_after resolved i sub' (qs ++ asked) cs) =
        after below (ks ++ own_keys i («import» j c as_ xs)) (ms ++ some) (qs ++ asked) cs w.1
        (modes_more v.at v.b v.f v.row v.t ms some qs asked a (through_modes j c.text (sub j).modes (sub' j).modes there.alike.modes))
        (map_append (λ (m : ModeTerms). m.key) ms some ∙ ap (λ l. l ++ keys some) k
        ∙ ap (λ l. ks ++ l) (imported_keys j c.text (sub j).modes
        ∙ ap (λ (r : Terms). map (λ (m : ModeTerms). (c.text ∷ m.key.0, m.key.1)) r.modes) there.same)) e in
        record {
          assumes = all_more v.at v.b v.f v.row v.t (map (imported j) (sub j).assumes) (terms_after i sub (ms ++ some) cs).assumes
              (map (resolved.through j) (sub' j).assumes) (items_after resolved i sub' (qs ++ asked) cs).assumes
              (through_all j (sub j).assumes (sub' j).assumes there.alike.assumes) r.assumes;
          guarantees = all_more v.at v.b v.f v.row v.t (map (imported j) (sub j).guarantees) (terms_after i sub (ms ++ some) cs).guarantees
              (map (resolved.through j) (sub' j).guarantees) (items_after resolved i sub' (qs ++ asked) cs).guarantees
              (through_all j (sub j).guarantees (sub' j).guarantees there.alike.guarantees) r.guarantees;
          modes = r.modes;
        }

-- ---- at every depth of imports

abbrev AllAlike : Instance → Type 0
AllAlike i = (v : Standing i) → SameTerms v.at v.b v.f v.row v.t (terms i) (conditions_of i)

items_at : (is : Instances) (p : ℕ) → p < count_of is → get_or (items_each resolved is) p no_items ≡ conditions_of (instance_at is p)
items_at no_instances p h = absurd (omega (arith, h))
items_at (with_instance c k is) zero h = refl
items_at (with_instance c k is) (suc p) h = items_at is p (omega (arith, h))

pub items_called : (i : Instance) (k : ℕ) → 0 < k → pred k < count_of (calls_of i) →
    slice_index_or (items_each resolved (calls_of i)) (pred k) no_items ≡ conditions_of (call_instance i k)
items_called i zero c h = absurd (omega (arith, c))
items_called i (suc p) c h = items_at (calls_of i) p h

pub by_number : (P : Instance → Type 0) (i : Instance) → ((p : ℕ) → p < count_of (calls_of i) → P (instance_at (calls_of i) p)) → (k : ℕ) → 0 < k →
    pred k < count_of (calls_of i) → P (call_instance i k)
by_number P i h zero c l = absurd (omega (arith, c))
by_number P i h (suc p) c l = h p l

-- an import's frame is active where that of its parent is
imported_alike : (i : Instance) → ((k : ℕ) → 0 < k → pred k < count_of (calls_of i) → AllAlike (call_instance i k)) → (v : Standing i) → (k : ℕ) →
    IsImport i k → SameTerms (below_call k v.at) v.b (call_frame v.f k) v.row v.t (terms (call_instance i k)) (conditions_of (call_instance i k))
imported_alike i h v k im =
    subst (λ z. SameTerms (below_call k v.at) z (call_frame v.f k) v.row v.t (terms (call_instance i k)) (conditions_of (call_instance i k)))
    (import_beat (scene i v.b v.f) (site_of i k) im.outputs im.clock im.manner) (h k im.call.counted im.call.listed (called i v k im.call))

alike_below : (i : Instance) → ((k : ℕ) → 0 < k → pred k < count_of (calls_of i) → AllAlike (call_instance i k)) → (v : Standing i) → (k : ℕ) →
    IsImport i k → Below i v (λ k. slice_index_or (terms_each (calls_of i)) (pred k) no_terms)
    (λ k. slice_index_or (items_each resolved (calls_of i)) (pred k) no_items) k
alike_below i h v k im =
    let same = terms_called i k im.call.counted im.call.listed in
    let items = items_called i k im.call.counted im.call.listed in
    record {
      same = same;
      alike = subst (λ r. SameTerms (below_call k v.at) v.b (call_frame v.f k) v.row v.t r
          (slice_index_or (items_each resolved (calls_of i)) (pred k) no_items)) (sym same)
          (subst (λ q. SameTerms (below_call k v.at) v.b (call_frame v.f k) v.row v.t (terms (call_instance i k)) q) (sym items)
          (imported_alike i h v k im));
    }

alike_from : (i : Instance) → ((k : ℕ) → 0 < k → pred k < count_of (calls_of i) → AllAlike (call_instance i k)) → AllAlike i
alike_from (instance d cs is) h v =
    after (instance d cs is) v (λ k. slice_index_or (terms_each is) (pred k) no_terms) (λ k. slice_index_or (items_each resolved is) (pred k) no_items)
    (alike_below (instance d cs is) h v) [] [] [] (contract_statements d) (own_fits IsKnown (instance d cs is) v.fits).contract tt refl refl

mutual
  -- what a frame's items are worth is what they say
  pub all_alike : (i : Instance) → AllAlike i
  all_alike (instance d cs is) = alike_from (instance d cs is) (by_number AllAlike (instance d cs is) (each_alike is))

  each_alike : (is : Instances) (p : ℕ) → p < count_of is → AllAlike (instance_at is p)
  each_alike no_instances p l = absurd (omega (arith, l))
  each_alike (with_instance c k is) zero l = all_alike k
  each_alike (with_instance c k is) (suc p) l = each_alike is p (omega (arith, l))

-- so what is imported is known
pub known_below : (i : Instance) (v : Standing i) (k : ℕ) → IsImport i k →
    Below i v (λ k. slice_index_or (terms_each (calls_of i)) (pred k) no_terms) (λ k. slice_index_or (items_each resolved (calls_of i)) (pred k) no_items) k
known_below i v k im = alike_below i (λ j c l. all_alike (call_instance i j)) v k im

-- that a mode is active
pub some_on : (at : Place → ℕ) (b : Instants) (f : Frame) (row : SlotValues) (t : ℕ) (ms : List ModeTerms) (qs : List (ModeItem Resolving)) →
    SameModes at b f row t ms qs → b t ≡ true →
    worth row true (some_resolved (map (λ q. q.asked at) qs)) ≡ some_true (map (λ m. m.requires_all b f) ms) t
some_on at b f row t [] [] a o = refl
some_on at b f row t [] (q ∷ qs) a o = absurd a
some_on at b f row t (m ∷ ms) [] a o = absurd a
some_on at b f row t (m ∷ []) (q ∷ []) a o = a.0.on o
some_on at b f row t (m ∷ []) (q ∷ r ∷ qs) a o = absurd a.1
some_on at b f row t (m ∷ n ∷ ms) (q ∷ []) a o = absurd a.1
some_on at b f row t (m ∷ n ∷ ms) (q ∷ r ∷ qs) a o = both_values Or (a.0.on o) (some_on at b f row t (n ∷ ms) (r ∷ qs) a.1 o)
