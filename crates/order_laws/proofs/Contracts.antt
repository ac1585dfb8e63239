-- The parts of a contract, each behind its own operands.
use Rattle.std.proofs.Common.{◌≡◌, ℕ, pred, ◌<◌, Bool, true, false, cond, ◌||◌, List, [], ◌∷◌, ◌++◌, map, flat_map, refl, ap, ◌∙◌, sym, subst, Option, Some, unwrap_or}
use Rattle.std.specs.Prelude.{Contains}
use Rattle.std.specs.List.{AllByRecursion, list_any}
use Rattle.std.specs.Map.{lookup}
use Rattle.std.proofs.Math.Logic.{◌⊎◌, inl, inr}
use Rattle.std.proofs.lemmas.Bool.{false≢true}
use Rattle.lus_tree.specs.Tree.{Name, Spelled, Expression, Labelled, ContractStatement, assume, guarantee, ghost_variable, constant, mode, «import», Program}
use Rattle.lus_meaning.specs.Frame.{Frame}
use Rattle.lus_meaning.specs.Scene.{base, while_true, as_import, Instance, component_of, calls_of, call_instance}
use Rattle.lus_meaning.specs.Meaning.{mode_key}
use Rattle.lus_meaning.specs.Contract.{ModeTerms, terms}
use Rattle.lus_meaning.specs.Occurrences.{on_clock}
use Rattle.lus_meaning.specs.Depends.{Need, the_beat, inside, ModeNeeds, known_needs, needs, asked_needs, imported_needs, modes_after, modes_need}
use Rattle.lus_meaning.specs.Cycle.{Place as NeededPlace}
use Rattle.lus_meaning.specs.Verdict.{throughout}
use Rattle.lus_meaning.specs.ClockFaults.{components}
use Rattle.lus_meaning.specs.Refusals.{IsChecked}
use Rattle.lus_meaning.proofs.Members.{IsIn, in_left, in_right}
use Rattle.lus_meaning.proofs.EachPart.{Each}
use Rattle.lus_meaning.proofs.Lists.{append_none, map_append, all_from, both_parts}
use Rattle.rule_laws.specs.Laws.{IsUnfolded}
use Rattle.sys_meaning.specs.Defaults.{site_of}
use Rattle.sys_meaning.specs.Items.{Key}
use Rattle.sys_meaning.specs.WellTyped.{IsAmong, IsImport, count_of, own_keys}
use Rattle.lus_evaluation.specs.Part.{Part, ModeParts, parts, wholes}
use Rattle.lus_evaluation.specs.Frame.{ModeText, ContractText, FrameText, Calls, setting, conditions_of, mode_text, imported_mode, contract_after, import_parts}
use Rattle.lus_evaluation.specs.Evaluation.{is_above}
use Rattle.slot_values.specs.Parts.{own_parts}
use Rattle.evaluation_laws.specs.Rows.{AreCalls, RowShows}
use Rattle.order_laws.specs.Own.{own_setting, own_asked, imported_own, own_modes_after, own_modes}
use Rattle.order_laws.specs.Rows.{place_there}
use Rattle.order_laws.proofs.Lists.{grouped, left_of}
use Rattle.order_laws.proofs.Names.{Named}
use Rattle.order_laws.proofs.Covers.{CoversNeeds, covers_left, covers_right, keys_needed, known_first, asked_first}
use Rattle.order_laws.proofs.Beats.{inside_covers}
use Rattle.order_laws.proofs.Frames.{same_place}
use Rattle.order_laws.proofs.Placed.{Among, Settled, Within, OwnIn, WholesIn, GivenTo, Behind, EachLaid, Bodied, laid_both, laid_below, body_below, settled_among, above_further, own_two, all_in_self}
use Rattle.order_laws.proofs.Laying.{Holding, Has, has_more, wholes_given, own_in}
use Rattle.order_laws.proofs.Laid.{wholes_laid, asked_laid}
use Rattle.order_laws.proofs.Items.{LabelFits, ItemsFit}

-- ---- the numbers of imports

abbrev pub import_numbers : List ContractStatement → List ℕ
import_numbers [] = []
import_numbers («import» k c as_ xs ∷ cs) = k ∷ import_numbers cs
import_numbers (_ ∷ cs) = import_numbers cs

abbrev pub Holds : List Part → List Part → Type 0
Holds qs b = AllByRecursion (λ r. IsIn r b) qs

no_condition : (xs : List Name) (a : Expression) → as_import xs ≡ while_true a → ⊥
no_condition xs a e = cc

module _ (i : Instance) (f : Frame) (t : ℕ) (every : List Part) where
  -- ---- modes

  -- the parts of a mode, behind what makes them ready
  pub record ModeLaid (w : List ℕ) (ready : List Part → Type 0) (m : ModeText) (q : Key × (List NeededPlace → List Part)) (d : Key × List Need) : Type 0 where
    pub key : q.0 ≡ m.key
    pub named : d.0 ≡ m.key
    pub asked : (ns : List NeededPlace) (b : List Part) → ready b → CoversNeeds i w ns d.1 → EachLaid i f t every w b (m.asked ns)
    pub own : (ns : List NeededPlace) (b : List Part) → ready b → CoversNeeds i w ns d.1 → AllByRecursion (OwnIn i f t w b (m.asked ns) ns) (q.1 ns)
    pub required : (b : List Part) → ready b → EachLaid i f t every w b m.required
    pub ensured : (b : List Part) → ready b → EachLaid i f t every w b m.ensured

  -- of each mode: its parts, its own parts, and what it needs
  abbrev pub AreLaid : List ℕ → (List Part → Type 0) → List ModeText → ModeParts → ModeNeeds → Type 0
  AreLaid w ready [] [] [] = Unit {0}
  AreLaid w ready (m ∷ ms) (q ∷ qs) (d ∷ ds) = ModeLaid w ready m q d × AreLaid w ready ms qs ds
  AreLaid w ready [] (q ∷ qs) ds = ⊥
  AreLaid w ready [] [] (d ∷ ds) = ⊥
  AreLaid w ready (m ∷ ms) [] ds = ⊥
  AreLaid w ready (m ∷ ms) (q ∷ qs) [] = ⊥

  pub laid_when : (w : List ℕ) (ready later : List Part → Type 0) → ((b : List Part) → later b → ready b) → (ms : List ModeText) (qs : ModeParts)
      (ds : ModeNeeds) → AreLaid w ready ms qs ds → AreLaid w later ms qs ds
  laid_when w ready later h [] [] [] a = tt
  laid_when w ready later h [] (q ∷ qs) ds a = absurd a
  laid_when w ready later h [] [] (d ∷ ds) a = absurd a
  laid_when w ready later h (m ∷ ms) [] ds a = absurd a
  laid_when w ready later h (m ∷ ms) (q ∷ qs) [] a = absurd a
  laid_when w ready later h (m ∷ ms) (q ∷ qs) (d ∷ ds) a = (
    record {
      key = a.0.key;
      named = a.0.named;
      asked = λ ns b r y. a.0.asked ns b (h b r) y;
      own = λ ns b r y. a.0.own ns b (h b r) y;
      required = λ b r. a.0.required b (h b r);
      ensured = λ b r. a.0.ensured b (h b r);
    },
    laid_when w ready later h ms qs ds a.1,
  )

  laid_more : (w : List ℕ) (ready : List Part → Type 0) (ms ns : List ModeText) (qs rs : ModeParts) (ds es : ModeNeeds) → AreLaid w ready ms qs ds →
      AreLaid w ready ns rs es → AreLaid w ready (ms ++ ns) (qs ++ rs) (ds ++ es)
  laid_more w ready [] ns [] rs [] es a e = e
  laid_more w ready [] ns (q ∷ qs) rs ds es a e = absurd a
  laid_more w ready [] ns [] rs (d ∷ ds) es a e = absurd a
  laid_more w ready (m ∷ ms) ns [] rs ds es a e = absurd a
  laid_more w ready (m ∷ ms) ns (q ∷ qs) rs [] es a e = absurd a
  laid_more w ready (m ∷ ms) ns (q ∷ qs) rs (d ∷ ds) es a e = (a.0, laid_more w ready ms ns qs rs ds es a.1 e)

  abbrev keys : ModeParts → List Key
  keys qs = map (λ q. q.0) qs

  abbrev asked_of : List ModeText → Key → List NeededPlace → List Part
  asked_of ms key ns = (unwrap_or (lookup (mode_key key) (map (λ m. (m.key, m.asked)) ms)) (λ ns. [])) ns

  abbrev own_of : ModeParts → Key → List NeededPlace → List Part
  own_of qs key ns = (unwrap_or (lookup (mode_key key) qs) (λ ns. [])) ns

  abbrev Found : List ℕ → List ModeText → ModeParts → Key → List NeededPlace → List Part → Type 0
  Found w ms qs key ns b =
      EachLaid i f t every w b (asked_of ms key ns) × AllByRecursion (OwnIn i f t w b (asked_of ms key ns) ns) (own_of qs key ns)

  -- the needs have the same keys
  pub same_keys : (w : List ℕ) (ready : List Part → Type 0) (ms : List ModeText) (qs : ModeParts) (ds : ModeNeeds) → AreLaid w ready ms qs ds →
      keys_needed ds ≡ keys qs
  same_keys w ready [] [] [] a = refl
  same_keys w ready [] (q ∷ qs) ds a = absurd a
  same_keys w ready [] [] (d ∷ ds) a = absurd a
  same_keys w ready (m ∷ ms) [] ds a = absurd a
  same_keys w ready (m ∷ ms) (q ∷ qs) [] a = absurd a
  same_keys w ready (m ∷ ms) (q ∷ qs) (d ∷ ds) a = rw (a.0.named, a.0.key, same_keys w ready ms qs ds a.1) refl

  pub laid_found : (w : List ℕ) (ready : List Part → Type 0) (ms moret : List ModeText) (qs more : ModeParts) (ds : ModeNeeds) → AreLaid w ready ms qs ds →
      (key : Key) → IsAmong (keys qs) key → (ns : List NeededPlace) (b : List Part) → ready b → CoversNeeds i w ns (known_needs ds key) →
      Found w (ms ++ moret) (qs ++ more) key ns b
  laid_found w ready [] moret [] more [] a key h ns b r y = absurd (false≢true h)
  laid_found w ready [] moret (q ∷ qs) more ds a key h ns b r y = absurd a
  laid_found w ready [] moret [] more (d ∷ ds) a key h ns b r y = absurd a
  laid_found w ready (m ∷ ms) moret [] more ds a key h ns b r y = absurd a
  laid_found w ready (m ∷ ms) moret (q ∷ qs) more [] a key h ns b r y = absurd a
  laid_found w ready (m ∷ ms) moret (q ∷ qs) more (d ∷ ds) a key h ns b r y =
      subst (λ z. EachLaid i f t every w b ((unwrap_or (cond (mode_key key m.key) (Some m.asked) rest) (λ ns. [])) ns)
      × AllByRecursion (OwnIn i f t w b ((unwrap_or (cond (mode_key key m.key) (Some m.asked) rest) (λ ns. [])) ns) ns)
      ((unwrap_or (cond (mode_key key z) (Some q.1) others) (λ ns. [])) ns)) (sym a.0.key)
      (go (mode_key key m.key) (subst (λ z. (mode_key key z || list_any (mode_key key) (keys qs)) ≡ true) a.0.key h)
      (subst (λ z. CoversNeeds i w ns (unwrap_or (cond (mode_key key z) (Some d.1) (lookup (mode_key key) ds)) [])) a.0.named y)
      (λ k z. laid_found w ready ms moret qs more ds a.1 key k ns b r z))
    where
      rest : Option (List NeededPlace → List Part)
      rest = lookup (mode_key key) (map (λ m. (m.key, m.asked)) (ms ++ moret))

      others : Option (List NeededPlace → List Part)
      others = lookup (mode_key key) (qs ++ more)

      go : (c : Bool) → (c || list_any (mode_key key) (keys qs)) ≡ true →
          CoversNeeds i w ns (unwrap_or (cond c (Some d.1) (lookup (mode_key key) ds)) []) →
          (IsAmong (keys qs) key → CoversNeeds i w ns (known_needs ds key) → Found w (ms ++ moret) (qs ++ more) key ns b) →
          EachLaid i f t every w b ((unwrap_or (cond c (Some m.asked) rest) (λ ns. [])) ns)
          × AllByRecursion (OwnIn i f t w b ((unwrap_or (cond c (Some m.asked) rest) (λ ns. [])) ns) ns)
          ((unwrap_or (cond c (Some q.1) others) (λ ns. [])) ns)
      go true k z s = (a.0.asked ns b r z, a.0.own ns b r z)
      go false k z s = s k z

  -- ---- imports

  -- a frame whose equations are settled where its parts are there
  pub record ImportLaid (w : List ℕ) (x : FrameText) (qs : ModeParts) (ds : ModeNeeds) : Type 0 where
    pub body : (b : List Part) → EachLaid i f t every w b x.body
    pub settled : (b : List Part) → Holds x.body b → Settled i f t w b
    pub modes : AreLaid w (Holds x.body) x.contract.modes qs ds
    pub assumed : (b : List Part) → Holds x.body b → EachLaid i f t every w b x.contract.assumed
    pub guaranteed : (b : List Part) → Holds x.body b → EachLaid i f t every w b x.contract.guaranteed

  within_import : (w : List ℕ) (k : ℕ) (b : List Part) (v : List ℕ) → Settled i f t (w ++ k ∷ []) b → Within i f t (w ++ k ∷ []) b v → Within i f t w b v
  within_import w k b v s h y a = go (h y a)
    where
      go : (is_above y (w ++ k ∷ []) ≡ true) ⊎ Settled i f t y b → (is_above y w ≡ true) ⊎ Settled i f t y b
      go (inr m) = inr m
      go (inl l) = by (above_further y w k l)
        where
          by : (is_above y w ≡ true) ⊎ (y ≡ w ++ k ∷ []) → (is_above y w ≡ true) ⊎ Settled i f t y b
          by (inl m) = inl m
          by (inr e) = inr (subst (λ z. Settled i f t z b) (sym e) s)

  -- what stands in a frame that is called, where that is settled
  pub lowered : (w : List ℕ) (k : ℕ) (b qs : List Part) → Settled i f t (w ++ k ∷ []) b → Behind i f t every w b (GivenTo i f t w k b) →
      EachLaid i f t every (w ++ k ∷ []) b qs → EachLaid i f t every w b qs
  lowered w k b qs v z e = laid_below i f t every w k b qs (λ hb hq. settled_among i f t (w ++ k ∷ []) b every v hb) z e

  imported_laid : (w : List ℕ) (k : ℕ) (c : Name) (ready : List Part → Type 0) → ((b : List Part) → ready b → Settled i f t (w ++ k ∷ []) b) →
      ((b : List Part) → ready b → GivenTo i f t w k b) →
      ((ns : List NeededPlace) (qs : List Need) → CoversNeeds i w ns (map (inside (pred k)) qs) → CoversNeeds i (w ++ k ∷ []) ns qs) →
      (ms : List ModeText) (qs : ModeParts) (ds : ModeNeeds) → AreLaid (w ++ k ∷ []) ready ms qs ds →
      AreLaid w ready (map (imported_mode c) ms) (map (imported_own c) qs) (map (imported_needs (pred k) c) ds)
  imported_laid w k c ready s g v [] [] [] a = tt
  imported_laid w k c ready s g v [] (q ∷ qs) ds a = absurd a
  imported_laid w k c ready s g v [] [] (d ∷ ds) a = absurd a
  imported_laid w k c ready s g v (m ∷ ms) [] ds a = absurd a
  imported_laid w k c ready s g v (m ∷ ms) (q ∷ qs) [] a = absurd a
  imported_laid w k c ready s g v (m ∷ ms) (q ∷ qs) (d ∷ ds) a = (
    record {
      key = ap (λ (z : Key). let r : Key = (c ∷ z.0, z.1) in r) a.0.key;
      named = ap (λ (z : Key). let r : Key = (c ∷ z.0, z.1) in r) a.0.named;
      asked = λ ns b r y. lower b (m.asked ns) r (a.0.asked ns b r (v ns d.1 y));
      own = λ ns b r y. all_from (OwnIn i f t (w ++ k ∷ []) b (m.asked ns) ns) (OwnIn i f t w b (m.asked ns) ns)
          (λ x o. record { there = o.there; needs = o.needs; within = within_import w k b x.way (s b r) o.within }) (q.1 ns) (a.0.own ns b r (v ns d.1 y));
      required = λ b r. lower b m.required r (a.0.required b r);
      ensured = λ b r. lower b m.ensured r (a.0.ensured b r);
    },
    imported_laid w k c ready s g v ms qs ds a.1,
  )
    where
      lower : (b qs : List Part) → ready b → EachLaid i f t every (w ++ k ∷ []) b qs → EachLaid i f t every w b qs
      lower b qs r e = lowered w k b qs (s b r) (λ inside given hb. g b r) e

  imported_keys : (c : Name) (qs : ModeParts) → keys (map (imported_own c) qs) ≡ map (λ (z : Key). let r : Key = (c ∷ z.0, z.1) in r) (keys qs)
  imported_keys c [] = refl
  imported_keys c (q ∷ qs) = ap (λ l. let r : List Key = (c ∷ q.0.0, q.0.1) ∷ l in r) (imported_keys c qs)

  -- ---- the rest of a contract

  module _ (p : Program) (c : IsChecked p) (w : List ℕ) (calls : AreCalls i w) (sh : RowShows i f t w) (u : IsUnfolded p (place_there i f w))
      (d : Contains (components p) (component_of (place_there i f w))) (sub : Calls) (subo : ℕ → ModeParts) (subd : ℕ → ModeNeeds)
      (bodies : (k : ℕ) → 0 < k → pred k < count_of (calls_of (place_there i f w)) → Bodied i f t every (w ++ k ∷ []) (sub k).body) where
    abbrev j : Instance
    j = place_there i f w

    abbrev Laid : List Part → List Part → Type 0
    Laid b qs = EachLaid i f t every w b qs

    both : (b qs rs : List Part) → Laid b qs → Laid (b ++ qs) rs → Laid b (qs ++ rs)
    both b qs rs a e = laid_both i f t every w b qs rs a e

    pub record Below (k : ℕ) : Type 0 where
      pub laid : ImportLaid (w ++ k ∷ []) (sub k) (subo k) (subd k)
      pub keyed : keys (subo k) ≡ map (λ m. m.key) (terms (call_instance j k)).modes

    abbrev Ready : List ℕ → List Part → Type 0
    Ready ins b = Has i f t w sub ins b

    ready_more : (ins : List ℕ) (b xs : List Part) → Ready ins b → Ready ins (b ++ xs)
    ready_more ins b xs r = has_more i f t w sub ins b xs r

    ready_left : (ins more : List ℕ) (b : List Part) → Ready (ins ++ more) b → Ready ins b
    ready_left ins more b r = left_of (Holding i f t w sub b) ins more r

    import_given : (n : ℕ) (as_ : List Expression) → IsImport j n × ((site_of j n).arguments ≡ as_) → (ms : List ModeText) (qs : List Part) →
        Among (wholes (setting j w sub ms) base as_) qs → GivenTo i f t w n qs
    import_given n as_ s ms qs m = record {
      arguments = subst (λ z. WholesIn i f t w qs z (site_of j n).arguments) (sym s.0.clock)
          (subst (WholesIn i f t w qs base) (sym s.1) (wholes_given i f t w sub ms base as_ qs m));
      condition = λ a e. absurd (no_condition s.0.outputs a (sym s.0.manner ∙ e));
    }

    -- where these modes stand before, and in all there are those
    pub record Before (ks : List Key) (ms : List ModeText) (qs : ModeParts) (ds : ModeNeeds) (ins : List ℕ) : Type 0 where
      pub laid : AreLaid w (Ready ins) ms qs ds
      pub named : keys qs ≡ ks
      pub more : ModeParts
      pub all : own_modes w j ≡ qs ++ more
      pub rest : ModeNeeds
      pub needed : modes_need j ≡ ds ++ rest

    module _ (ks : List Key) (ms : List ModeText) (qs : ModeParts) (ds : ModeNeeds) (ins : List ℕ) (h : Before ks ms qs ds ins) where
      among : (key : Key) → IsAmong ks key → IsAmong (keys qs) key
      among key k = subst (λ l. IsAmong l key) (sym h.named) k

      among_needed : (key : Key) → IsAmong ks key → IsAmong (keys_needed ds) key
      among_needed key k = subst (λ l. IsAmong l key) (sym (same_keys w (Ready ins) ms qs ds h.laid)) (among key k)

      abbrev Reads : Key → List NeededPlace → Type 0
      Reads key ns = CoversNeeds i w ns (known_needs (modes_need j) key)

      read_first : (key : Key) → IsAmong ks key → (ns : List NeededPlace) → Reads key ns → CoversNeeds i w ns (known_needs ds key)
      read_first key k ns y =
          subst (CoversNeeds i w ns) (ap (λ l. known_needs l key) h.needed ∙ known_first key ds h.rest (among_needed key k)) y

      -- in a text that has these modes first
      found : (moret : List ModeText) (key : Key) → IsAmong ks key → (ns : List NeededPlace) (b : List Part) → Ready ins b → Reads key ns →
          Found w (ms ++ moret) (own_modes w j) key ns b
      found moret key k ns b r y =
          subst (λ l. Found w (ms ++ moret) l key ns b) (sym h.all)
          (laid_found w (Ready ins) ms moret qs h.more ds h.laid key (among key k) ns b r (read_first key k ns y))

      labels_laid : (moret : List ModeText) (es : List Expression) → AllByRecursion (LabelFits j ks) es → (b : List Part) → Ready ins b →
          Laid b (wholes (setting j w sub (ms ++ moret)) base es)
      labels_laid moret es a b r =
          wholes_laid p c i f t every w calls sh u d sub (ms ++ moret) (IsAmong ks) ins bodies (λ key k ns z q y. (found moret key k ns z q y).0)
          (λ key k ns z q y. (found moret key k ns z q y).1) es a b r

      values_fit : (ls : List Labelled) → AllByRecursion (λ l. LabelFits j ks l.value) ls → AllByRecursion (LabelFits j ks) (map (λ l. l.value) ls)
      values_fit [] a = tt
      values_fit (l ∷ ls) a = (a.0, values_fit ls a.1)

      here_laid : (ls : List Labelled) → AllByRecursion (λ l. LabelFits j ks l.value) ls → (b : List Part) → Ready ins b →
          Laid b (conditions_of (setting j w sub ms) ls)
      here_laid ls a b r =
          subst (λ z. Laid b (wholes (setting j w sub z) base (map (λ l. l.value) ls))) (append_none ms)
          (labels_laid [] (map (λ l. l.value) ls) (values_fit ls a) b r)

      found_here : (key : Key) → IsAmong ks key → (ns : List NeededPlace) (b : List Part) → Ready ins b → Reads key ns → Found w ms (own_modes w j) key ns b
      found_here key k ns b r y = subst (λ z. Found w z (own_modes w j) key ns b) (append_none ms) (found [] key k ns b r y)

      required_own : (key : Key) → IsAmong ks key → (ns : List NeededPlace) (b : List Part) → Ready ins b → Reads key ns → Found w ms qs key ns b
      required_own key k ns b r y =
          subst (λ z. Found w z qs key ns b) (append_none ms)
          (subst (λ l. Found w (ms ++ []) l key ns b) (append_none qs)
          (laid_found w (Ready ins) ms [] qs [] ds h.laid key (among key k) ns b r (read_first key k ns y)))

      own_laid : (ns : List NeededPlace) (rs : List Labelled) → AllByRecursion (λ l. LabelFits j ks l.value) rs → (b : List Part) → Ready ins b →
          CoversNeeds i w ns (flat_map (λ r. needs j (modes_need j) base r.value) rs) →
          AllByRecursion (OwnIn i f t w b (flat_map (λ r. parts (setting j w sub ms) ns [] base r.value) rs) ns) (own_asked j w qs rs ns)
      own_laid ns [] a b r y = tt
      own_laid ns (l ∷ rs) a b r y =
          let one : List Need = needs j (modes_need j) base l.value in
          let others : List Need = flat_map (λ r. needs j (modes_need j) base r.value) rs in
          own_two i f t w b (parts (setting j w sub ms) ns [] base l.value) (flat_map (λ r. parts (setting j w sub ms) ns [] base r.value) rs)
          (own_parts (own_setting j w qs) ns [] base l.value) (own_asked j w qs rs ns) ns
          (own_in i f t j w sub ms qs (IsAmong ks) b (λ key k ns z. (required_own key k ns b r z).1) ns [] (on_clock base) l.value a.0.1
          (covers_left i w ns one others y))
          (own_laid ns rs a.1 b r (covers_right i w ns one others y))

      -- what a mode needs, by those before it
      asked_read : (ns : List NeededPlace) (rs : List Labelled) → AllByRecursion (λ l. LabelFits j ks l.value) rs → CoversNeeds i w ns (asked_needs j ds rs) →
          CoversNeeds i w ns (flat_map (λ r. needs j (modes_need j) base r.value) rs)
      asked_read ns rs a y =
          subst (CoversNeeds i w ns)
          (sym (ap (λ l. flat_map (λ r. needs j l base r.value) rs) h.needed ∙ asked_first j ds h.rest rs (named_first rs a)))
          (covers_right i w ns (the_beat ∷ []) (flat_map (λ r. needs j ds base r.value) rs) y)
        where
          named_first : (rs : List Labelled) → AllByRecursion (λ l. LabelFits j ks l.value) rs →
              AllByRecursion (λ r. Each (Named (IsAmong (keys_needed ds))) (component_of j) (on_clock base) r.value) rs
          named_first [] a = tt
          named_first (l ∷ rs) a = (
            subst (λ z. Each (Named (IsAmong z)) (component_of j) (on_clock base) l.value)
                (sym (same_keys w (Ready ins) ms qs ds h.laid ∙ h.named)) a.0.1,
            named_first rs a.1,
          )

      ensured_laid : (rs es : List Labelled) → AllByRecursion (λ l. LabelFits j ks l.value) rs → AllByRecursion (λ l. LabelFits j ks l.value) es →
          (b : List Part) → Ready ins b →
          Laid b (flat_map (λ e. conditions_of (setting j w sub ms) rs ++ conditions_of (setting j w sub ms) (e ∷ [])) es)
      ensured_laid rs [] a e b r = λ g v hb hq. tt
      ensured_laid rs (l ∷ es) a e b r =
          let asked : List Part = conditions_of (setting j w sub ms) rs in
          let own : List Part = conditions_of (setting j w sub ms) (l ∷ []) in
          both b (asked ++ own) _ (both b asked own (here_laid rs a b r) (here_laid (l ∷ []) (e.0, tt) (b ++ asked) (ready_more ins b asked r)))
          (ensured_laid rs es a e.1 (b ++ (asked ++ own)) (ready_more ins b (asked ++ own) r))

      one_mode : (m : Name) (rs es : List Labelled) → AllByRecursion (λ l. LabelFits j ks l.value) rs →
          AllByRecursion (λ l. LabelFits j ks l.value) es →
          ModeLaid w (Ready ins) (mode_text (setting j w sub ms) m rs es) (([], m), own_asked j w qs rs) (([], m), asked_needs j ds rs)
      one_mode m rs es a e = record {
        key = refl;
        named = refl;
        asked = λ ns b r y. asked_laid p c i f t every w calls sh u d sub ms (IsAmong ks) ins bodies (λ key k ns z q x. (found_here key k ns z q x).0)
            (λ key k ns z q x. (found_here key k ns z q x).1) ns rs a b r (asked_read ns rs a y);
        own = λ ns b r y. own_laid ns rs a b r (asked_read ns rs a y);
        required = λ b r. here_laid rs a b r;
        ensured = λ b r. ensured_laid rs es a e b r;
      }

    -- ---- item by item

    pub record AfterLaid (ins : List ℕ) (k : ContractText) (qs : ModeParts) (ds : ModeNeeds) (cs : List ContractStatement) (first : List ModeText) : Type 0 where
      pub modes : AreLaid w (Ready (ins ++ import_numbers cs)) k.modes qs ds
      pub assumed : (b : List Part) → Ready (ins ++ import_numbers cs) b → Laid b k.assumed
      pub guaranteed : (b : List Part) → Ready (ins ++ import_numbers cs) b → Laid b k.guaranteed
      pub more : List ModeText
      pub all : k.modes ≡ first ++ more
      pub imports : (b : List Part) → Ready ins b → Laid b (flat_map (import_parts (setting j w sub k.modes)) cs)
      pub has : (b : List Part) → Ready ins b → Ready (ins ++ import_numbers cs) (b ++ flat_map (import_parts (setting j w sub k.modes)) cs)

    own_more : (qs : ModeParts) (cs : List ContractStatement) → (more : ModeParts) × (own_modes_after j w subo qs cs ≡ qs ++ more)
    own_more qs [] = ([], sym (append_none qs))
    own_more qs (assume l ∷ cs) = own_more qs cs
    own_more qs (guarantee l ∷ cs) = own_more qs cs
    own_more qs (ghost_variable x e ∷ cs) = own_more qs cs
    own_more qs (constant x ∷ cs) = own_more qs cs
    own_more qs (mode m rs es ∷ cs) =
        let one : ModeParts = (([], m.text), own_asked j w qs rs) ∷ [] in
        let r = own_more (qs ++ one) cs in
        (one ++ r.0, r.1 ∙ grouped qs one r.0)
    own_more qs («import» k x as_ xs ∷ cs) =
        let some : ModeParts = map (imported_own x.text) (subo k) in
        let r = own_more (qs ++ some) cs in
        (some ++ r.0, r.1 ∙ grouped qs some r.0)

    needs_more : (ds : ModeNeeds) (cs : List ContractStatement) → (more : ModeNeeds) × (modes_after j subd ds cs ≡ ds ++ more)
    needs_more ds [] = ([], sym (append_none ds))
    needs_more ds (assume l ∷ cs) = needs_more ds cs
    needs_more ds (guarantee l ∷ cs) = needs_more ds cs
    needs_more ds (ghost_variable x e ∷ cs) = needs_more ds cs
    needs_more ds (constant x ∷ cs) = needs_more ds cs
    needs_more ds (mode m rs es ∷ cs) =
        let one : ModeNeeds = (([], m.text), asked_needs j ds rs) ∷ [] in
        let r = needs_more (ds ++ one) cs in
        (one ++ r.0, r.1 ∙ grouped ds one r.0)
    needs_more ds («import» k x as_ xs ∷ cs) =
        let some : ModeNeeds = map (imported_needs (pred k) x.text) (subd k) in
        let r = needs_more (ds ++ some) cs in
        (some ++ r.0, r.1 ∙ grouped ds some r.0)

    has_at : (ins : List ℕ) (k : ℕ) (more : List ℕ) (b : List Part) → Ready (ins ++ k ∷ more) b → Holding i f t w sub b k
    has_at [] k more b a = a.0
    has_at (n ∷ ins) k more b a = has_at ins k more b a.1

    holds_further : (b qs : List Part) → Holds qs (b ++ qs)
    holds_further b qs = all_from (λ r. IsIn r qs) (λ r. IsIn r (b ++ qs)) (λ r m. in_right r b qs m) qs (all_in_self qs)

    under_all : (x : Name) (ts : List ModeTerms) →
        map (λ (z : Key). let r : Key = (x ∷ z.0, z.1) in r) (map (λ m. m.key) ts) ≡ map (λ (m : ModeTerms). let r : Key = (x ∷ m.key.0, m.key.1) in r) ts
    under_all x [] = refl
    under_all x (m ∷ ts) = ap (λ l. let r : List Key = (x ∷ m.key.0, m.key.1) ∷ l in r) (under_all x ts)

    module _ (below : (k : ℕ) → IsImport j k → Below k) where
      import_laid : (ks : List Key) (ms : List ModeText) (qs : ModeParts) (ds : ModeNeeds) (ins : List ℕ) (here : Before ks ms qs ds ins) (n : ℕ)
          (x : Spelled) (as_ : List Expression) (xs : List Spelled) (cs : List ContractStatement) → AllByRecursion (LabelFits j ks) as_ → IsImport j n × ((site_of j n).arguments ≡ as_) → Below n →
          (k : ContractText) (own : ModeParts) (needed : ModeNeeds) (some : List ModeText) → AfterLaid (ins ++ n ∷ []) k own needed cs (ms ++ some) →
          (ins ++ n ∷ []) ++ import_numbers cs ≡ ins ++ (n ∷ import_numbers cs) →
          AfterLaid ins (record k { assumed = (sub n).contract.assumed ++ k.assumed; guaranteed = (sub n).contract.guaranteed ++ k.guaranteed })
          own needed («import» n x as_ xs ∷ cs) ms
      import_laid ks ms qs ds ins here n x as_ xs cs h site there k own needed some r g = record {
        modes = subst (λ l. AreLaid w (Ready l) k.modes own needed) g r.modes;
        assumed = λ b q. both b (sub n).contract.assumed k.assumed
            (under b (sub n).contract.assumed q (there.laid.assumed b (has_at ins n (import_numbers cs) b q).0))
            (r.assumed (b ++ (sub n).contract.assumed) (back (b ++ (sub n).contract.assumed)
            (ready_more (ins ++ (n ∷ import_numbers cs)) b (sub n).contract.assumed q)));
        guaranteed = λ b q. both b (sub n).contract.guaranteed k.guaranteed
            (under b (sub n).contract.guaranteed q (there.laid.guaranteed b (has_at ins n (import_numbers cs) b q).0))
            (r.guaranteed (b ++ (sub n).contract.guaranteed) (back (b ++ (sub n).contract.guaranteed)
            (ready_more (ins ++ (n ∷ import_numbers cs)) b (sub n).contract.guaranteed q)));
        more = some ++ r.more;
        all = all;
        imports = λ b q. both b (given ++ (sub n).body) rest (both b given (sub n).body (given_laid b q)
            (body_below i f t every w n (b ++ given) (sub n).body record { laid = there.laid.body; settled = there.laid.settled }
            (λ inside above hb. to (b ++ given) (λ y m. in_right y b given m))))
            (r.imports (b ++ (given ++ (sub n).body)) (has_now b q));
        has = λ b q. subst (λ l. Ready l (b ++ ((given ++ (sub n).body) ++ rest))) g
            (subst (Ready ((ins ++ n ∷ []) ++ import_numbers cs)) (grouped b (given ++ (sub n).body) rest)
            (r.has (b ++ (given ++ (sub n).body)) (has_now b q)));
      }
        where
          all : k.modes ≡ ms ++ (some ++ r.more)
          all = r.all ∙ grouped ms some r.more

          given : List Part
          given = wholes (setting j w sub k.modes) base as_

          rest : List Part
          rest = flat_map (import_parts (setting j w sub k.modes)) cs

          back : (b : List Part) → Ready (ins ++ (n ∷ import_numbers cs)) b → Ready ((ins ++ n ∷ []) ++ import_numbers cs) b
          back b q = subst (λ l. Ready l b) (sym g) q

          under : (b qs : List Part) → Ready (ins ++ (n ∷ import_numbers cs)) b → EachLaid i f t every (w ++ n ∷ []) b qs → Laid b qs
          under b qs q e =
              let z : Holding i f t w sub b n = has_at ins n (import_numbers cs) b q in
              lowered w n b qs (there.laid.settled b z.0) (λ inside above hb. z.1) e

          to : (zs : List Part) → Among given zs → GivenTo i f t w n zs
          to zs m = import_given n as_ site k.modes zs m

          given_laid : (b : List Part) → Ready ins b → Laid b given
          given_laid b q =
              subst (λ z. Laid b (wholes (setting j w sub z) base as_)) (sym all) (labels_laid ks ms qs ds ins here (some ++ r.more) as_ h b q)

          has_now : (b : List Part) → Ready ins b → Ready (ins ++ n ∷ []) (b ++ (given ++ (sub n).body))
          has_now b q =
              both_parts (Holding i f t w sub (b ++ (given ++ (sub n).body))) ins (n ∷ [])
              (ready_more ins b (given ++ (sub n).body) q) (
                (
                  all_from (λ y. IsIn y (sub n).body) (λ y. IsIn y (b ++ (given ++ (sub n).body)))
                      (λ y m. in_right y b (given ++ (sub n).body) (in_right y given (sub n).body m)) (sub n).body (all_in_self (sub n).body),
                  to (b ++ (given ++ (sub n).body)) (λ y m. in_right y b (given ++ (sub n).body) (in_left y given (sub n).body m)),
                ),
                tt,
              )

      pub after : (ks : List Key) (ms : List ModeText) (qs : ModeParts) (ds : ModeNeeds) (ins : List ℕ) (cs : List ContractStatement) → ItemsFit j ks cs →
          AreLaid w (Ready ins) ms qs ds → keys qs ≡ ks → own_modes w j ≡ own_modes_after j w subo qs cs → modes_need j ≡ modes_after j subd ds cs →
          AfterLaid ins (contract_after j w sub ms cs) (own_modes_after j w subo qs cs) (modes_after j subd ds cs) cs ms
      after ks ms qs ds ins [] h a k e n = record {
        modes = subst (λ l. AreLaid w (Ready l) ms qs ds) (sym (append_none ins)) a;
        assumed = λ b r g v hb hq. tt;
        guaranteed = λ b r g v hb hq. tt;
        more = [];
        all = sym (append_none ms);
        imports = λ b r g v hb hq. tt;
        has = λ b r. subst (λ l. Ready l (b ++ [])) (sym (append_none ins)) (ready_more ins b [] r);
      }
      after ks ms qs ds ins (assume l ∷ cs) h a k e n =
          let more = own_more qs cs in
          let rest = needs_more ds cs in
          let here : Before ks ms qs ds ins =
          record { laid = a; named = k; more = more.0; all = e ∙ more.1; rest = rest.0; needed = n ∙ rest.1 } in
          let r = after (ks ++ []) ms qs ds ins cs h.1 a (k ∙ sym (append_none ks)) e n in
          let one : List Part = conditions_of (setting j w sub ms) (l ∷ []) in
          record {
            modes = r.modes;
            assumed = λ b q. both b one _ (here_laid ks ms qs ds ins here (l ∷ []) (h.0, tt) b (ready_left ins (import_numbers cs) b q))
                (r.assumed (b ++ one) (ready_more (ins ++ import_numbers cs) b one q));
            guaranteed = r.guaranteed;
            more = r.more;
            all = r.all;
            imports = r.imports;
            has = r.has;
          }
      after ks ms qs ds ins (guarantee l ∷ cs) h a k e n =
          let more = own_more qs cs in
          let rest = needs_more ds cs in
          let here : Before ks ms qs ds ins =
          record { laid = a; named = k; more = more.0; all = e ∙ more.1; rest = rest.0; needed = n ∙ rest.1 } in
          let r = after (ks ++ []) ms qs ds ins cs h.1 a (k ∙ sym (append_none ks)) e n in
          let one : List Part = conditions_of (setting j w sub ms) (l ∷ []) in
          record {
            modes = r.modes;
            assumed = r.assumed;
            guaranteed = λ b q. both b one _ (here_laid ks ms qs ds ins here (l ∷ []) (h.0, tt) b (ready_left ins (import_numbers cs) b q))
                (r.guaranteed (b ++ one) (ready_more (ins ++ import_numbers cs) b one q));
            more = r.more;
            all = r.all;
            imports = r.imports;
            has = r.has;
          }
      after ks ms qs ds ins (ghost_variable x y ∷ cs) h a k e n =
          let r = after (ks ++ []) ms qs ds ins cs h.1 a (k ∙ sym (append_none ks)) e n in
          record {
            modes = r.modes;
            assumed = r.assumed;
            guaranteed = r.guaranteed;
            more = r.more;
            all = r.all;
            imports = r.imports;
            has = r.has;
          }
      after ks ms qs ds ins (constant x ∷ cs) h a k e n =
          let r = after (ks ++ []) ms qs ds ins cs h.1 a (k ∙ sym (append_none ks)) e n in
          record {
            modes = r.modes;
            assumed = r.assumed;
            guaranteed = r.guaranteed;
            more = r.more;
            all = r.all;
            imports = r.imports;
            has = r.has;
          }
      after ks ms qs ds ins (mode m rs es ∷ cs) h a k e n =
          let more = own_more qs (mode m rs es ∷ cs) in
          let rest = needs_more ds (mode m rs es ∷ cs) in
          let here : Before ks ms qs ds ins =
          record { laid = a; named = k; more = more.0; all = e ∙ more.1; rest = rest.0; needed = n ∙ rest.1 } in
          let needed : ModeNeeds = (([], m.text), asked_needs j ds rs) ∷ [] in
          let one : List ModeText = mode_text (setting j w sub ms) m.text rs es ∷ [] in
          let own : ModeParts = (([], m.text), own_asked j w qs rs) ∷ [] in
          let r = after (ks ++ ([], m.text) ∷ []) (ms ++ one) (qs ++ own) (ds ++ needed) ins cs h.1
          (laid_more w (Ready ins) ms one qs own ds needed a (one_mode ks ms qs ds ins here m.text rs es h.0.0 h.0.1, tt))
          (map_append (λ q. q.0) qs own ∙ ap (λ l. let z : List Key = l ++ ([], m.text) ∷ [] in z) k) e n in
          record {
            modes = r.modes;
            assumed = r.assumed;
            guaranteed = r.guaranteed;
            more = one ++ r.more;
            all = r.all ∙ grouped ms one r.more;
            imports = r.imports;
            has = r.has;
          }
      after ks ms qs ds ins («import» n x as_ xs ∷ cs) h a k e z =
          let more = own_more qs («import» n x as_ xs ∷ cs) in
          let rest = needs_more ds («import» n x as_ xs ∷ cs) in
          let here : Before ks ms qs ds ins =
          record { laid = a; named = k; more = more.0; all = e ∙ more.1; rest = rest.0; needed = z ∙ rest.1 } in
          let there : Below n = below n h.0.0 in
          let some : List ModeText = map (imported_mode x.text) (sub n).contract.modes in
          let own : ModeParts = map (imported_own x.text) (subo n) in
          let needed : ModeNeeds = map (imported_needs (pred n) x.text) (subd n) in
          let wider : AreLaid w (Ready (ins ++ n ∷ [])) ms qs ds =
          laid_when w (Ready ins) (Ready (ins ++ n ∷ [])) (λ b r. ready_left ins (n ∷ []) b r) ms qs ds a in
          let beside : AreLaid (w ++ n ∷ []) (λ b. Holding i f t w sub b n) (sub n).contract.modes (subo n) (subd n) =
          laid_when (w ++ n ∷ []) (Holds (sub n).body) (λ b. Holding i f t w sub b n) (λ b r. r.0) (sub n).contract.modes (subo n) (subd n) there.laid.modes in
          let brought : AreLaid w (Ready (ins ++ n ∷ [])) some own needed =
          laid_when w (λ b. Holding i f t w sub b n) (Ready (ins ++ n ∷ [])) (λ b r. has_at ins n [] b r) some own needed
          (imported_laid w n x.text (λ b. Holding i f t w sub b n) (λ b r. there.laid.settled b r.0) (λ b r. r.1)
          (λ ns qs y. inside_covers i w n calls j (sym (same_place w i throughout f)) h.0.0 ns qs y) (sub n).contract.modes (subo n) (subd n) beside) in
          let r = after (ks ++ own_keys j («import» n x as_ xs)) (ms ++ some) (qs ++ own) (ds ++ needed) (ins ++ n ∷ []) cs h.1
          (laid_more w (Ready (ins ++ n ∷ [])) ms some qs own ds needed wider brought)
          (map_append (λ q. q.0) qs own ∙ ap (λ l. l ++ keys own) k
          ∙ ap (λ l. ks ++ l) (imported_keys x.text (subo n)
          ∙ ap (λ l. map (λ (z : Key). let r : Key = (x.text ∷ z.0, z.1) in r) l) there.keyed
          ∙ under_all x.text (terms (call_instance j n)).modes)) e z in
          import_laid ks ms qs ds ins here n x as_ xs cs h.0.1 (h.0.0, h.0.2) there _ _ _ some r (grouped ins (n ∷ []) (import_numbers cs))
