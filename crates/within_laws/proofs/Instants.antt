-- Where no source and no condition has an operation outside 128 bits, all that is evaluated at an instant is within.
use Rattle.std.proofs.Common.{◌≡◌, ℕ, zero, suc, pred, ◌+◌, ◌<◌, Bool, true, List, [], ◌∷◌, ◌++◌, map, flat_map, refl, ap, ◌∙◌, sym, subst, arith}
use Rattle.std.specs.Prelude.{Contains}
use Rattle.std.specs.List.{AllByRecursion}
use Rattle.lus_tree.specs.Tree.{Statement, equation, assertion, property, main_mark, Component, Program}
use Rattle.lus_meaning.specs.Value.{is}
use Rattle.lus_meaning.specs.Frame.{Frame}
use Rattle.lus_meaning.specs.Scene.{base, Manner, plain, while_true, as_import, Site, Instance, Instances, instance, no_instances, with_instance, component_of, calls_of, call_instance, instance_at}
use Rattle.lus_meaning.specs.ClockFaults.{components}
use Rattle.lus_meaning.specs.Program.{instance_of, all_sites}
use Rattle.lus_meaning.specs.Refusals.{IsChecked}
use Rattle.lus_meaning.proofs.Lists.{both_parts}
use Rattle.lus_meaning.proofs.Now.{left_part, right_part}
use Rattle.rule_laws.proofs.Callees.{each_site}
use Rattle.rule_laws.proofs.Unfolded.{component_within, each_unfolded}
use Rattle.sys_meaning.specs.Slot.{Place, beat, own, in_call}
use Rattle.sys_meaning.specs.Items.{ModeItem}
use Rattle.sys_meaning.specs.System.{number_of, below_call}
use Rattle.sys_meaning.specs.WellTyped.{IsKnown, CallsFit, count_of}
use Rattle.sys_meaning.proofs.Forward.{calls_fit}
use Rattle.path_laws.proofs.Main.{each_is_well_typed}
use Rattle.path_laws.proofs.Tree.{tree_fits}
use Rattle.lus_evaluation.specs.Part.{Part, wholes}
use Rattle.lus_evaluation.specs.Frame.{ModeText, ContractText, FrameText, Calls, setting, Orders, text_over, text_at, frame_text, call_texts}
use Rattle.lus_evaluation.specs.Turn as turn
use Rattle.lus_evaluation.specs.Turn.{property_texts, owed_in_calls, condition_parts, in_turn}
use Rattle.slot_values.specs.Evaluated.{SlotValues, told, outside}
use Rattle.slot_values.specs.Resolution.{Resolution}
use Rattle.slot_values.specs.Resolved.{Numbering, resolution}
use Rattle.evaluation_laws.specs.Laws.{HasOneEvaluation}
use Rattle.evaluation_laws.specs.Resolvings.{Resolving, nowhere}
use Rattle.evaluation_laws.specs.Rows.{row_at, AreCalls, scene_there, RowShows}
use Rattle.evaluation_laws.proofs.Evaluations.{each_has_one_evaluation}
use Rattle.evaluation_laws.proofs.FrameShown.{true_flag}
use Rattle.evaluation_laws.proofs.RowFrames.{rows_show}
use Rattle.slot_sources.specs.Sources.{numbering_of, call_beat}
use Rattle.condition_laws.specs.Conditions as conditions
use Rattle.condition_laws.specs.Conditions.{assumed, some_resolved, where_active, asserts_in, legal_in, legal_resolutions, body_properties, one_mode, owed_by_site, owed_by_calls, properties_in, property_resolutions}
use Rattle.condition_laws.specs.Within.{NoneOutside}
use Rattle.order_laws.specs.Laws.{operations_there}
use Rattle.order_laws.proofs.Frames.{stands_there, stands_called}
use Rattle.order_laws.proofs.Items.{properties_fit}
use Rattle.within_laws.specs.Laws.{AreQuiet}
use Rattle.within_laws.specs.Sources.{IsFrameQuiet}
use Rattle.within_laws.specs.Instants.{InstantsAreWithin, QuietRunsStayWithin}
use Rattle.within_laws.proofs.Bodies.{active_none, FrameQuiet, fit_quiet}
use Rattle.within_laws.proofs.Defaults.{unfolded_sites}
use Rattle.within_laws.proofs.Contracts.{QuietModes}
use Rattle.within_laws.proofs.Facts.{frames_are_quiet}
use Rattle.within_laws.proofs.Lists.{each_picked, from_mapped}
use Rattle.within_laws.proofs.Quiet.{quiet_parts_are_within}
use Rattle.within_laws.proofs.Texts.{none_in}
use Rattle.within_laws.proofs.Trees.{FrameAt, frame_tree, calls_tree}

-- ---- conditions that have no operation outside

-- each of a disjunction
each_some : (row : SlotValues) (on : Bool) (es : List Resolution) → outside row on (some_resolved es) ≡ [] → AllByRecursion (λ e. outside row on e ≡ []) es
each_some row on [] h = tt
each_some row on (e ∷ []) h = (h, tt)
each_some row on (e ∷ k ∷ es) h =
    let all = none_in (outside row on e ++ outside row on (some_resolved (k ∷ es))) (told nowhere _) h in
    let two = none_in (outside row on e) (outside row on (some_resolved (k ∷ es))) all.0 in
    (two.0, each_some row on (k ∷ es) two.1)

body_none : (row : SlotValues) (g : Numbering) (ss : List Statement) → NoneOutside row (body_properties g ss) →
    AllByRecursion (λ e. outside row true (resolution g e) ≡ []) (property_texts ss)
body_none row g [] a = tt
body_none row g (property l ∷ ss) a = (a.0, body_none row g ss a.1)
body_none row g (equation xs e ∷ ss) a = body_none row g ss a
body_none row g (assertion e ∷ ss) a = body_none row g ss a
body_none row g (main_mark q ∷ ss) a = body_none row g ss a

-- what a caller owes, where the callee's frame is active
owed_none : (row : SlotValues) (b : ℕ) (o : Bool) → is true (row b) ≡ o → (at : Place → ℕ) (ws : List Resolving) →
    NoneOutside row (map (where_active b) (map (λ f. f at) ws)) → AllByRecursion (λ (w : Resolving). outside row o (w at) ≡ []) ws
owed_none row b o e at [] a = tt
owed_none row b o e at (w ∷ ws) a =
    (subst (λ z. outside row z (w at) ≡ []) e (active_none row b (w at) a.0), owed_none row b o e at ws a.1)

properties_are : (i : Instance) (at : Place → ℕ) →
    properties_in i at
    ≡ body_properties (numbering_of i at) (component_of i).body ++ map (λ f. f at) (conditions.conditions_of i).guarantees
    ++ flat_map (λ m. map (λ f. f at) m.ensures_each) (conditions.conditions_of i).modes ++ one_mode (conditions.conditions_of i).modes at
    ++ owed_by_calls (numbering_of i at) (calls_of i)
properties_are (instance d cs is) at = refl

text_same : (o : Orders) (i : Instance) → frame_text o [] i ≡ text_over (text_at (call_texts o [] (calls_of i))) (o []) [] i
text_same o (instance d cs is) = refl

module _ (p : Program) (c : IsChecked p) (i : Instance) (f : Frame) (t : ℕ) (shown : (w : List ℕ) → AreCalls i w → RowShows i f t w)
    (frames : (w : List ℕ) → AreCalls i w → IsFrameQuiet i f t w) (o : Orders) (s : FrameAt p c i f t shown frames o [] i) where
  abbrev n : Component
  n = component_of i

  abbrev row : SlotValues
  row = row_at i f t

  abbrev at : Place → ℕ
  at = number_of i

  abbrev sub : Calls
  sub = text_at (call_texts o [] (calls_of i))

  abbrev x : FrameText
  x = text_over sub (o []) [] i

  abbrev k : ContractText
  k = x.contract

  abbrev qs : List (ModeItem Resolving)
  qs = (conditions.conditions_of i).modes

  abbrev Quiet : List Part → Type 0
  Quiet ps = AreQuiet i f t ps

  fits : CallsFit IsKnown i (calls_of i) 0
  fits = calls_fit IsKnown i (tree_fits p c i s.unfolded s.declared)

  child : (m : ℕ) → 0 < m → pred m < count_of (calls_of i) → FrameQuiet i f t (m ∷ []) (call_instance i m) (sub m)
  child zero a l = absurd (omega (arith, a))
  child (suc q) a l =
      calls_tree p c i f t shown frames o [] i (calls_of i) 0 fits (all_sites n) (unfolded_sites p i s.unfolded)
      (each_site p c.rules.clocked.typed n s.declared) q (suc q) (omega arith) l (stands_called i f [] i s.stands (suc q) (omega arith) l)

  top : FrameQuiet i f t [] i x
  top = subst (λ y. FrameQuiet i f t [] i y) (text_same o i) (frame_tree p c i f t shown frames o [] i s)

  -- ---- modes

  abbrev Modes : List ModeText → List (ModeItem Resolving) → Type 0
  Modes ms os = QuietModes i f t at true ms os

  abbrev All : List Resolution → Type 0
  All es = AllByRecursion (λ e. outside row true e ≡ []) es

  all_ensured : (ms : List ModeText) (os : List (ModeItem Resolving)) → Modes ms os → All (flat_map (λ m. map (λ f. f at) m.ensures_each) os) →
      Quiet (flat_map (λ m. m.ensured) ms)
  all_ensured [] os a h = tt
  all_ensured (m ∷ ms) [] a h = absurd a
  all_ensured (m ∷ ms) (q ∷ os) a h =
      let mine : List Resolution = map (λ f. f at) q.ensures_each in
      let rest : List Resolution = flat_map (λ m. map (λ f. f at) m.ensures_each) os in
      both_parts _ m.ensured (flat_map (λ m. m.ensured) ms)
      (a.0.ensured (from_mapped (λ e. outside row true e ≡ []) (λ f. f at) q.ensures_each (left_part _ mine rest h)))
      (all_ensured ms os a.1 (right_part _ mine rest h))

  all_required : (ms : List ModeText) (os : List (ModeItem Resolving)) → Modes ms os → All (map (λ m. m.asked at) os) → Quiet (flat_map (λ m. m.required) ms)
  all_required [] os a h = tt
  all_required (m ∷ ms) [] a h = absurd a
  all_required (m ∷ ms) (q ∷ os) a h =
      both_parts _ m.required (flat_map (λ m. m.required) ms) (a.0.required h.0) (all_required ms os a.1 h.1)

  one_asked : (os : List (ModeItem Resolving)) → NoneOutside row (one_mode os at) → All (map (λ m. m.asked at) os)
  one_asked [] a = tt
  one_asked (q ∷ os) a = each_some row true (map (λ m. m.asked at) (q ∷ os)) a.0

  -- ---- what is owed

  abbrev Same : Instances → ℕ → Type 0
  Same is q = (m j : ℕ) → j ≡ suc (q + m) → m < count_of is → call_instance i j ≡ instance_at is m

  same_all : Same (calls_of i) 0
  same_all m j e l = let v : j ≡ suc m = omega arith in subst (λ y. call_instance i y ≡ instance_at (calls_of i) m) (sym v) refl

  same_next : (z : Site) (y : Instance) (is : Instances) (q : ℕ) → Same (with_instance z y is) q → Same is (suc q)
  same_next z y is q h m j e l = h (suc m) j (omega (arith, e)) (omega (arith, l))

  -- the beat of a call in the row
  beat_there : (m : ℕ) → 0 < m → pred m < count_of (calls_of i) → is true (row (at (in_call m (own beat)))) ≡ (scene_there i f (m ∷ [])).beat t
  beat_there m a l =
      ap (is true) (shown (m ∷ []) (stands_called i f [] i s.stands m a l).calls).beats ∙ true_flag ((scene_there i f (m ∷ [])).beat t)

  owed_one : (z : Site) (y : Instance) → 0 < z.number → pred z.number < count_of (calls_of i) → FrameQuiet i f t (z.number ∷ []) y (sub z.number) →
      (m : Manner) → NoneOutside row (owed_by_site (numbering_of i at) z m y) → Quiet (turn.owed z m (sub z.number).contract)
  owed_one z y a l h (as_import xs) b = tt
  owed_one z y a l h plain b =
      h.contract.assumes (owed_none row (call_beat (numbering_of i at) z) ((scene_there i f (z.number ∷ [])).beat t) (beat_there z.number a l)
      (below_call z.number at) (conditions.conditions_of y).assumes b)
  owed_one z y a l h (while_true e) b =
      h.contract.assumes (owed_none row (call_beat (numbering_of i at) z) ((scene_there i f (z.number ∷ [])).beat t) (beat_there z.number a l)
      (below_call z.number at) (conditions.conditions_of y).assumes b)

  each_owed : (is : Instances) (q : ℕ) → Same is q → CallsFit IsKnown i is q → q + count_of is ≡ count_of (calls_of i) →
      NoneOutside row (owed_by_calls (numbering_of i at) is) → Quiet (owed_in_calls sub is)
  each_owed no_instances q v h e b = tt
  each_owed (with_instance z y is) q v h e b =
      let counted : suc q ≡ z.number = sym h.0.number in
      let there : FrameQuiet i f t (z.number ∷ []) y (sub z.number) =
      subst (λ m. FrameQuiet i f t (m ∷ []) y (sub m)) counted
      (subst (λ j. FrameQuiet i f t (suc q ∷ []) j (sub (suc q))) (v 0 (suc q) (omega arith) (omega arith)) (child (suc q) (omega arith) (omega (arith, e)))) in
      let low : 0 < z.number = omega (arith, counted) in
      let high : pred z.number < count_of (calls_of i) = subst (λ m. pred m < count_of (calls_of i)) counted (omega (arith, e)) in
      let mine : List Resolution = owed_by_site (numbering_of i at) z z.manner y in
      let rest : List Resolution = owed_by_calls (numbering_of i at) is in
      both_parts _ (turn.owed z z.manner (sub z.number).contract) (owed_in_calls sub is)
      (owed_one z y low high there z.manner (left_part _ mine rest b))
      (each_owed is (suc q) (same_next z y is q v) h.2 (omega (arith, e)) (right_part _ mine rest b))

  -- ---- all of them

  abbrev checks : List Part
  checks = wholes (setting i [] sub k.modes) base (property_texts n.body)

  abbrev ensures : List Part
  ensures = flat_map (λ m. m.ensured) k.modes

  abbrev requires_ : List Part
  requires_ = flat_map (λ m. m.required) k.modes

  module _ (legal : NoneOutside row (legal_resolutions i)) (said : NoneOutside row (property_resolutions i)) where
    abbrev es1 : List Resolution
    es1 = body_properties (numbering_of i at) n.body

    abbrev es2 : List Resolution
    es2 = map (λ f. f at) (conditions.conditions_of i).guarantees

    abbrev es3 : List Resolution
    es3 = flat_map (λ m. map (λ f. f at) m.ensures_each) qs

    abbrev es4 : List Resolution
    es4 = one_mode qs at

    abbrev es5 : List Resolution
    es5 = owed_by_calls (numbering_of i at) (calls_of i)

    all_said : All (es1 ++ es2 ++ es3 ++ es4 ++ es5)
    all_said = subst (λ l. NoneOutside row l) (properties_are i at) said

    four : All (es1 ++ es2 ++ es3 ++ es4)
    four = left_part _ (es1 ++ es2 ++ es3 ++ es4) es5 all_said

    three : All (es1 ++ es2 ++ es3)
    three = left_part _ (es1 ++ es2 ++ es3) es4 four

    two : All (es1 ++ es2)
    two = left_part _ (es1 ++ es2) es3 three

    assumed_quiet : Quiet k.assumed
    assumed_quiet =
        top.contract.assumes (from_mapped (λ e. outside row true e ≡ []) (λ f. f at) (conditions.conditions_of i).assumes
        (left_part _ (assumed i at) (asserts_in i at) legal))

    asserted_quiet : Quiet x.asserted
    asserted_quiet = top.asserted (right_part _ (assumed i at) (asserts_in i at) legal)

    checks_quiet : Quiet checks
    checks_quiet =
        fit_quiet i f t p c [] (shown [] s.stands.calls) s.unfolded s.declared (frames [] s.stands.calls) sub child (property_texts n.body)
        (properties_fit p c i s.unfolded s.declared) (body_none row (numbering_of i at) n.body (left_part _ es1 es2 two))

    guaranteed_quiet : Quiet k.guaranteed
    guaranteed_quiet =
        top.contract.guarantees (from_mapped (λ e. outside row true e ≡ []) (λ f. f at) (conditions.conditions_of i).guarantees (right_part _ es1 es2 two))

    conditions_quiet : Quiet (condition_parts sub x i)
    conditions_quiet =
        let a2 = both_parts _ k.assumed x.asserted assumed_quiet asserted_quiet in
        let a3 = both_parts _ (k.assumed ++ x.asserted) checks a2 checks_quiet in
        let a4 = both_parts _ (k.assumed ++ x.asserted ++ checks) k.guaranteed a3 guaranteed_quiet in
        let a5 = both_parts _ (k.assumed ++ x.asserted ++ checks ++ k.guaranteed) ensures a4
        (all_ensured k.modes qs top.contract.modes (right_part _ (es1 ++ es2) es3 three)) in
        let a6 = both_parts _ (k.assumed ++ x.asserted ++ checks ++ k.guaranteed ++ ensures) requires_ a5
        (all_required k.modes qs top.contract.modes (one_asked qs (right_part _ (es1 ++ es2 ++ es3) es4 four))) in
        both_parts _ (k.assumed ++ x.asserted ++ checks ++ k.guaranteed ++ ensures ++ requires_) (owed_in_calls sub (calls_of i)) a6
        (each_owed (calls_of i) 0 same_all fits (omega arith) (right_part _ (es1 ++ es2 ++ es3 ++ es4) es5 all_said))

    pub instant_quiet : Quiet (in_turn o i)
    instant_quiet =
        subst (λ y. Quiet (y.body ++ condition_parts sub y i)) (sym (text_same o i))
        (both_parts _ x.body (condition_parts sub x i) top.body conditions_quiet)

-- ---- an evaluation

pub instants_are_within : InstantsAreWithin
instants_are_within p c n j qs ev m f run t l sources legal said =
    let i : Instance = instance_of p n in
    let top : FrameAt p c i f t (λ w a. rows_show p c n j m f run t l w a) (λ w a. frames_are_quiet p c n j m f run t l w a sources) ev.orders [] i =
    record {
      stands = stands_there i f [] tt (each_is_well_typed p c n j).0.tree;
      unfolded = each_unfolded p c n j;
      declared = subst (Contains (components p)) (sym (component_within _ p n)) j;
    } in
    quiet_parts_are_within p c n j qs ev m f run t l
    (subst (AreQuiet i f t) (sym ev.parts)
    (each_picked (λ q. operations_there i f t q ≡ []) ev.numbers (in_turn ev.orders i)
    (instant_quiet p c i f t (λ w a. rows_show p c n j m f run t l w a) (λ w a. frames_are_quiet p c n j m f run t l w a sources) ev.orders top legal said)))

pub quiet_runs_stay_within : QuietRunsStayWithin
quiet_runs_stay_within p c n j m f run k le sources legal said =
    let e : HasOneEvaluation (instance_of p n) = each_has_one_evaluation p c n j in
    record {
      parts = e.parts;
      evaluation = e.evaluation;
      within = λ t l. instants_are_within p c n j e.parts e.evaluation m f run t (omega (arith, l, le)) (sources t l) (legal t l) (said t l);
    }
