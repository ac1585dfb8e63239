-- Where the parts of a declaration's conditions are within 128 bits, no operation of their resolutions is outside.
use Rattle.std.proofs.Common.{◌≡◌, ℕ, suc, Bool, true, cond, List, [], ◌∷◌, ◌++◌, map, flat_map, refl, ap, ◌∙◌, subst}
use Rattle.std.specs.List.{AllByRecursion}
use Rattle.lus_tree.specs.declared.place.Sort.TheVariants.{Bool as Flags}
use Rattle.lus_tree.specs.Tree.{Expression, Statement, equation, assertion, property, main_mark}
use Rattle.lus_meaning.specs.Value.{flag, is}
use Rattle.lus_meaning.specs.Frame.{Frame, Frames, no_frames, with_frame, calls_in, call_frame}
use Rattle.lus_meaning.specs.Scene.{base, Manner, plain, while_true, as_import, Site, Instance, Instances, instance, no_instances, with_instance, component_of, calls_of, call_instance}
use Rattle.lus_meaning.specs.Contract.{scene}
use Rattle.lus_meaning.specs.Cycle.{Place as NeededPlace}
use Rattle.lus_meaning.specs.Program.{instance_of}
use Rattle.lus_meaning.specs.Property.{assertions}
use Rattle.lus_meaning.specs.Run.{CallsRun, active, sort_of}
use Rattle.lus_meaning.specs.Verdict.{throughout}
use Rattle.lus_meaning.proofs.Lists.{append_none, both_parts, all_from}
use Rattle.lus_meaning.proofs.Now.{left_part, right_part}
use Rattle.sys_meaning.specs.Slot.{Place, beat, own}
use Rattle.sys_meaning.specs.Items.{Key, ModeItem}
use Rattle.sys_meaning.specs.Defaults.{site_of}
use Rattle.sys_meaning.specs.System.{below_call}
use Rattle.sys_meaning.specs.WellTyped.{IsKnown, Stands, checked, CallFits, CallsFit, WellTyped}
use Rattle.sys_meaning.proofs.Forward.{drop_calls, drop_frames, later_calls, later_frames, calls_later, frames_later, own_fits}
use Rattle.path_laws.proofs.Main.{each_is_well_typed}
use Rattle.lus_evaluation.specs.Part.{Part, Setting, asked_in, wholes}
use Rattle.lus_evaluation.specs.Frame.{ModeText, ContractText, FrameText, Calls, setting, is_evaluated, call_parts, asserted_below, asserted_in_calls, Orders, text_at, frame_text, call_texts}
use Rattle.lus_evaluation.specs.Turn as turn
use Rattle.lus_evaluation.specs.Turn.{property_texts, owed_in_calls, condition_parts}
use Rattle.lus_evaluation.specs.Past.{scene_on}
use Rattle.slot_values.specs.Resolution.{Resolution}
use Rattle.slot_values.specs.Evaluated.{SlotValues, told, outside}
use Rattle.slot_values.specs.Resolved.{Numbering, mode_resolution, resolution}
use Rattle.slot_values.specs.FrameRow.{numbering}
use Rattle.evaluation_laws.specs.Resolvings.{Resolving, at_numbers, nowhere, resolvings}
use Rattle.evaluation_laws.specs.Rows.{knows}
use Rattle.evaluation_laws.proofs.FrameShown.{Standing, true_flag, beat_shown}
use Rattle.evaluation_laws.proofs.ModesShown.{frame_shown}
use Rattle.slot_sources.specs.Sources.{numbering_of, call_beat}
use Rattle.condition_laws.specs.Conditions.{conditions_of, assumed, some_resolved, where_active, asserts_of, asserts_in, calls_asserts, legal_in, body_properties, one_mode, owed_by_site, owed_by_calls, properties_in}
use Rattle.condition_laws.specs.Within.{NoneOutside, ConditionsStayWithin}
use Rattle.condition_laws.proofs.Frames.{site_here, instance_here, frame_called, below}
use Rattle.condition_laws.proofs.ItemsWithin.{Within, IsPartWithin, FineModes, FineItems, fine_found, wholes_fine, IsThere, at_end, all_items_fine, text_called, assoc}
use Rattle.condition_laws.proofs.Known.{items_ask_resolvings}
use Rattle.condition_laws.proofs.Operations.{never_or, no_operation}
use Rattle.condition_laws.proofs.Runs.{standing}

-- a condition of a frame is evaluated where that is active
outside_where : (row : SlotValues) (k : ℕ) (o : Bool) (e : Resolution) → row k ≡ flag o → outside row o e ≡ [] →
    outside row true (where_active k e) ≡ []
outside_where row k o e h a =
    append_none (outside row (is true (row k)) e) ∙ ap (λ v. outside row (is true v) e) h ∙ ap (λ z. outside row z e) (true_flag o) ∙ a

all_where : (row : SlotValues) (k : ℕ) (o : Bool) (es : List Resolution) → row k ≡ flag o → AllByRecursion (λ e. outside row o e ≡ []) es →
    NoneOutside row (map (where_active k) es)
all_where row k o [] h a = tt
all_where row k o (e ∷ es) h a = (outside_where row k o e h a.0, all_where row k o es h a.1)

at_frame : (row : SlotValues) (o : Bool) (at : Place → ℕ) (ws : List Resolving) → AllByRecursion (λ (w : Resolving). outside row o (w at) ≡ []) ws →
    AllByRecursion (λ e. outside row o e ≡ []) (map (λ w. w at) ws)
at_frame row o at [] a = tt
at_frame row o at (w ∷ ws) a = (a.0, at_frame row o at ws a.1)

-- where the frame is active throughout
when_on : (row : SlotValues) (o : Bool) (es : List Resolution) → o ≡ true → AllByRecursion (λ e. outside row o e ≡ []) es → NoneOutside row es
when_on row o es h a = subst (λ z. AllByRecursion (λ e. outside row z e ≡ []) es) h a

module _ (o : Orders) (top : Instance) (whole : Frame) where
  abbrev Inside : ℕ → List Part → Type 0
  Inside t qs = Within top whole t qs

  abbrev IsInside : ℕ → Part → Type 0
  IsInside t q = IsPartWithin top whole t q

  -- ---- the text of a frame, with all its modes

  module _ (i : Instance) (v : Standing i) (path : List ℕ) (there : IsThere o top whole path i v) where
    abbrev sub : Calls
    sub = text_at (call_texts o path (calls_of i))

    abbrev contract : ContractText
    contract = (frame_text o path i).contract

    abbrev here : Setting
    here = setting i path sub contract.modes

    abbrev g : Numbering
    g = numbering_of i v.at

    items : FineItems top whole v.at (v.b v.t) v.row v.t contract (conditions_of i)
    items = all_items_fine o top whole i v path there

    mode_fine : (key : Key) (ns : List NeededPlace) → Inside v.t (asked_in here ns key) →
        outside v.row (v.b v.t) (mode_resolution (numbering (scene i v.b v.f) v.at (at_numbers v.at (resolvings i))) key) ≡ []
    mode_fine key ns a =
        subst (λ ms. outside v.row (v.b v.t) (mode_resolution (numbering (scene i v.b v.f) v.at (at_numbers v.at ms)) key) ≡ []) (items_ask_resolvings i)
        (fine_found top whole v.at (v.b v.t) v.row v.t key ns _ contract.modes (conditions_of i).modes items.modes a)

    texts_fine : (es : List Expression) → AllByRecursion (λ e. Stands i (IsKnown i) base e × (sort_of i e ≡ Flags)) es →
        Inside v.t (wholes here base es) → AllByRecursion (λ e. outside v.row (v.b v.t) (resolution g e) ≡ []) es
    texts_fine es h a =
        wholes_fine top whole i v path (at_end o top whole path i v there) sub (knows i) (at_numbers v.at (resolvings i)) contract.modes (frame_shown i v)
        mode_fine es (all_from (λ e. Stands i (IsKnown i) base e × (sort_of i e ≡ Flags)) (λ e. Stands i (IsKnown i) base e) (λ e y. y.0) es h) a

    asserts_fine : Inside v.t (wholes here base (assertions (component_of i).body)) → NoneOutside v.row (asserts_of g)
    asserts_fine a = by (assertions (component_of i).body) (texts_fine (assertions (component_of i).body) (own_fits IsKnown i v.fits).asserts a)
      where
        by : (es : List Expression) → AllByRecursion (λ e. outside v.row (v.b v.t) (resolution g e) ≡ []) es →
            NoneOutside v.row (map (λ e. where_active (v.at (own beat)) (resolution g e)) es)
        by [] a = tt
        by (e ∷ es) a = (outside_where v.row (v.at (own beat)) (v.b v.t) (resolution g e) (beat_shown i v) a.0, by es a.1)

    -- ---- the frame of a call

    module _ (c : Site) (k : Instance) (is : Instances) (h : Frame) (fs : Frames) (q : ℕ) (fit : CallFits IsKnown i c k q)
        (e : drop_calls q (calls_of i) ≡ with_instance c k is) (d : drop_frames q (calls_in v.f) ≡ with_frame h fs) where
      text_here : sub c.number ≡ frame_text o (path ++ c.number ∷ []) k
      text_here =
          ap sub fit.number ∙ text_called o path i (suc q) fit.call.counted fit.call.listed
          ∙ ap (λ z. frame_text o (path ++ z.number ∷ []) (call_instance i (suc q))) (site_here i v c k is h fs q fit e d)
          ∙ ap (λ z. frame_text o (path ++ c.number ∷ []) z) (instance_here i v c k is h fs q fit e d)

      there_below : (w : List ℕ) → scene_on ((path ++ c.number ∷ []) ++ w) top throughout whole ≡ scene_on w k (active (scene i v.b v.f) c) h
      there_below w =
          ap (λ l. scene_on l top throughout whole) (assoc path w c.number) ∙ there (c.number ∷ w)
          ∙ ap (λ z. scene_on w z (active (scene i v.b v.f) (site_of i c.number)) (call_frame v.f c.number))
          (ap (λ z. call_instance i z) fit.number ∙ instance_here i v c k is h fs q fit e d)
          ∙ ap (λ z. scene_on w k (active (scene i v.b v.f) z) (call_frame v.f c.number))
          (ap (λ z. site_of i z) fit.number ∙ site_here i v c k is h fs q fit e d)
          ∙ ap (λ z. scene_on w k (active (scene i v.b v.f) c) z) (frame_called i v c k is h fs q fit e d)

  -- ---- assertions

  asserted_there : (t : ℕ) (g : Setting) (c : Site) (u : FrameText) → Inside t (asserted_below g c u) → Inside t u.asserted
  asserted_there t g c u a = go u.body u.contract u.asserted a
    where
      go : (b : List Part) (k : ContractText) (qs : List Part) → Inside t (asserted_below g c record { body = b; contract = k; asserted = qs }) → Inside t qs
      go b k [] a = tt
      go b k (q ∷ qs) a =
          right_part (IsInside t) (cond (is_evaluated (component_of g.place) c c.manner) []
          (call_parts g c record { body = b; contract = k; asserted = q ∷ qs })) (q ∷ qs) a

  mutual
    all_asserts : (i : Instance) (v : Standing i) (path : List ℕ) → IsThere o top whole path i v → Inside v.t (frame_text o path i).asserted →
        NoneOutside v.row (asserts_in i v.at)
    all_asserts (instance d cs is) v path there a =
        let i : Instance = instance d cs is in
        let own_ones : List Part = wholes (here i v path there) base (assertions d.body) in
        let calls : List Part = asserted_in_calls (here i v path there) (text_at (call_texts o path is)) is in
        both_parts (λ e. outside v.row true e ≡ []) (asserts_of (numbering_of i v.at)) (calls_asserts (numbering_of i v.at) is)
        (asserts_fine i v path there (left_part (IsInside v.t) own_ones calls a))
        (below_asserts i v path there is 0 (calls_in v.f) refl refl v.run.1 v.fits.1 (right_part (IsInside v.t) own_ones calls a))

    below_asserts : (i : Instance) (v : Standing i) (path : List ℕ) (there : IsThere o top whole path i v) (is : Instances) (q : ℕ) (fs : Frames) →
        drop_calls q (calls_of i) ≡ is → drop_frames q (calls_in v.f) ≡ fs → CallsRun v.n (scene i v.b v.f) is fs → CallsFit IsKnown i is q →
        Inside v.t (asserted_in_calls (here i v path there) (sub i v path there) is) → NoneOutside v.row (calls_asserts (numbering_of i v.at) is)
    below_asserts i v path there no_instances q fs e d run fits a = tt
    below_asserts i v path there (with_instance c k is) q no_frames e d run fits a = absurd run
    below_asserts i v path there (with_instance c k is) q (with_frame h fs) e d run fits a =
        let one : List Part = asserted_below (here i v path there) c (sub i v path there c.number) in
        let rest : List Part = asserted_in_calls (here i v path there) (sub i v path there) is in
        both_parts (λ e. outside v.row true e ≡ []) (asserts_in k (below_call c.number v.at)) (calls_asserts (numbering_of i v.at) is)
        (all_asserts k (below i v c k is h fs q fits.0 e d run.1 fits.1) (path ++ c.number ∷ []) (there_below i v path there c k is h fs q fits.0 e d)
        (subst (λ (u : FrameText). Inside v.t u.asserted) (text_here i v path there c k is h fs q fits.0 e d)
        (asserted_there v.t (here i v path there) c (sub i v path there c.number) (left_part (IsInside v.t) one rest a))))
        (below_asserts i v path there is (suc q) fs (calls_later q (calls_of i) ∙ ap later_calls e) (frames_later q (calls_in v.f) ∙ ap later_frames d)
        run.2 fits.2 (right_part (IsInside v.t) one rest a))

  -- ---- what callees are owed

  owed_site : (row : SlotValues) (t : ℕ) (g : Numbering) (c : Site) (k : Instance) (on : Bool) (m : Manner) (text : ContractText) →
      row (call_beat g c) ≡ flag on → FineItems top whole (below_call c.number g.number) on row t text (conditions_of k) →
      Inside t (turn.owed c m text) → NoneOutside row (owed_by_site g c m k)
  owed_site row t g c k on (as_import xs) text h fine a = tt
  owed_site row t g c k on plain text h fine a =
      all_where row (call_beat g c) on (assumed k (below_call c.number g.number)) h
      (at_frame row on (below_call c.number g.number) (conditions_of k).assumes (fine.assumes a))
  owed_site row t g c k on (while_true w) text h fine a =
      all_where row (call_beat g c) on (assumed k (below_call c.number g.number)) h
      (at_frame row on (below_call c.number g.number) (conditions_of k).assumes (fine.assumes a))

  all_owed : (i : Instance) (v : Standing i) (path : List ℕ) (there : IsThere o top whole path i v) (is : Instances) (q : ℕ) (fs : Frames) →
      drop_calls q (calls_of i) ≡ is → drop_frames q (calls_in v.f) ≡ fs → CallsRun v.n (scene i v.b v.f) is fs → CallsFit IsKnown i is q →
      Inside v.t (owed_in_calls (sub i v path there) is) → NoneOutside v.row (owed_by_calls (numbering_of i v.at) is)
  all_owed i v path there no_instances q fs e d run fits a = tt
  all_owed i v path there (with_instance c k is) q no_frames e d run fits a = absurd run
  all_owed i v path there (with_instance c k is) q (with_frame h fs) e d run fits a =
      let u : Standing k = below i v c k is h fs q fits.0 e d run.1 fits.1 in
      let one : List Part = turn.owed c c.manner (sub i v path there c.number).contract in
      let rest : List Part = owed_in_calls (sub i v path there) is in
      let text : FrameText = frame_text o (path ++ c.number ∷ []) k in
      both_parts (λ e. outside v.row true e ≡ []) (owed_by_site (numbering_of i v.at) c c.manner k) (owed_by_calls (numbering_of i v.at) is)
      (owed_site v.row v.t (numbering_of i v.at) c k (active (scene i v.b v.f) c v.t) c.manner text.contract (beat_shown k u)
      (all_items_fine o top whole k u (path ++ c.number ∷ []) (there_below i v path there c k is h fs q fits.0 e d))
      (subst (λ (u : FrameText). Inside v.t (turn.owed c c.manner u.contract)) (text_here i v path there c k is h fs q fits.0 e d)
      (left_part (IsInside v.t) one rest a)))
      (all_owed i v path there is (suc q) fs (calls_later q (calls_of i) ∙ ap later_calls e) (frames_later q (calls_in v.f) ∙ ap later_frames d)
      run.2 fits.2 (right_part (IsInside v.t) one rest a))

  -- ---- modes

  all_ensured : (at : Place → ℕ) (on : Bool) (row : SlotValues) (t : ℕ) (ms : List ModeText) (qs : List (ModeItem Resolving)) →
      FineModes top whole at on row t ms qs → Inside t (flat_map (λ m. m.ensured) ms) →
      AllByRecursion (λ e. outside row on e ≡ []) (flat_map (λ m. map (λ f. f at) m.ensures_each) qs)
  all_ensured at on row t [] [] f a = tt
  all_ensured at on row t [] (q ∷ qs) f a = absurd f
  all_ensured at on row t (m ∷ ms) [] f a = absurd f
  all_ensured at on row t (m ∷ ms) (q ∷ qs) f a =
      both_parts (λ e. outside row on e ≡ []) (map (λ f. f at) q.ensures_each) (flat_map (λ m. map (λ f. f at) m.ensures_each) qs)
      (at_frame row on at q.ensures_each (f.0.ensured (left_part (IsInside t) m.ensured (flat_map (λ m. m.ensured) ms) a)))
      (all_ensured at on row t ms qs f.1 (right_part (IsInside t) m.ensured (flat_map (λ m. m.ensured) ms) a))

  all_required : (at : Place → ℕ) (on : Bool) (row : SlotValues) (t : ℕ) (ms : List ModeText) (qs : List (ModeItem Resolving)) →
      FineModes top whole at on row t ms qs → Inside t (flat_map (λ m. m.required) ms) →
      AllByRecursion (λ e. outside row on e ≡ []) (map (λ m. m.asked at) qs)
  all_required at on row t [] [] f a = tt
  all_required at on row t [] (q ∷ qs) f a = absurd f
  all_required at on row t (m ∷ ms) [] f a = absurd f
  all_required at on row t (m ∷ ms) (q ∷ qs) f a = (
    f.0.required (left_part (IsInside t) m.required (flat_map (λ m. m.required) ms) a),
    all_required at on row t ms qs f.1 (right_part (IsInside t) m.required (flat_map (λ m. m.required) ms) a),
  )

some_outside : (on : Bool) (row : SlotValues) (es : List Resolution) → AllByRecursion (λ e. outside row on e ≡ []) es →
    outside row on (some_resolved es) ≡ []
some_outside on row [] a = refl
some_outside on row (e ∷ []) a = a.0
some_outside on row (e ∷ k ∷ es) a = no_operation _ _ _ a.0 (some_outside on row (k ∷ es) a.1) (ap (told nowhere) (never_or _ _))

one_outside : (at : Place → ℕ) (on : Bool) (row : SlotValues) (qs : List (ModeItem Resolving)) →
    AllByRecursion (λ e. outside row on e ≡ []) (map (λ m. m.asked at) qs) → AllByRecursion (λ e. outside row on e ≡ []) (one_mode qs at)
one_outside at on row [] a = tt
one_outside at on row (q ∷ qs) a = (some_outside on row (map (λ m. m.asked at) (q ∷ qs)) a, tt)

body_outside : (row : SlotValues) (on : Bool) (g : Numbering) (ss : List Statement) →
    AllByRecursion (λ e. outside row on (resolution g e) ≡ []) (property_texts ss) → AllByRecursion (λ e. outside row on e ≡ []) (body_properties g ss)
body_outside row on g [] a = tt
body_outside row on g (property l ∷ ss) a = (a.0, body_outside row on g ss a.1)
body_outside row on g (equation xs e ∷ ss) a = body_outside row on g ss a
body_outside row on g (assertion e ∷ ss) a = body_outside row on g ss a
body_outside row on g (main_mark q ∷ ss) a = body_outside row on g ss a

-- the texts of properties are those that are checked
checked_texts : (P : Expression → Type 0) (ss : List Statement) → AllByRecursion P (checked ss) → AllByRecursion P (property_texts ss)
checked_texts P [] a = tt
checked_texts P (property l ∷ ss) a = (a.0, checked_texts P ss a.1)
checked_texts P (equation xs e ∷ ss) a = checked_texts P ss a
checked_texts P (assertion e ∷ ss) a = checked_texts P ss a
checked_texts P (main_mark q ∷ ss) a = checked_texts P ss a

-- ---- the analysed declaration

pub record AreWithin (t : FrameText) (g : Setting) (sub : Calls) (i : Instance) (P : Part → Type 0) : Type 0 where
  pub assumed : AllByRecursion P t.contract.assumed
  pub asserted : AllByRecursion P t.asserted
  pub body : AllByRecursion P (wholes g base (property_texts (component_of i).body))
  pub guaranteed : AllByRecursion P t.contract.guaranteed
  pub ensured : AllByRecursion P (flat_map (λ m. m.ensured) t.contract.modes)
  pub required : AllByRecursion P (flat_map (λ m. m.required) t.contract.modes)
  pub owed : AllByRecursion P (owed_in_calls sub (calls_of i))

-- the conditions kind by kind
kinds : (P : Part → Type 0) (sub : Calls) (t : FrameText) (i : Instance) → AllByRecursion P (condition_parts sub t i) →
    AreWithin t (setting i [] sub t.contract.modes) sub i P
kinds P sub t i a =
    let q1 : List Part = t.contract.assumed in
    let q2 : List Part = t.asserted in
    let q3 : List Part = wholes (setting i [] sub t.contract.modes) base (property_texts (component_of i).body) in
    let q4 : List Part = t.contract.guaranteed in
    let q5 : List Part = flat_map (λ m. m.ensured) t.contract.modes in
    let q6 : List Part = flat_map (λ m. m.required) t.contract.modes in
    let q7 : List Part = owed_in_calls sub (calls_of i) in
    let a6 : AllByRecursion P (q1 ++ q2 ++ q3 ++ q4 ++ q5 ++ q6) = left_part P (q1 ++ q2 ++ q3 ++ q4 ++ q5 ++ q6) q7 a in
    let a5 : AllByRecursion P (q1 ++ q2 ++ q3 ++ q4 ++ q5) = left_part P (q1 ++ q2 ++ q3 ++ q4 ++ q5) q6 a6 in
    let a4 : AllByRecursion P (q1 ++ q2 ++ q3 ++ q4) = left_part P (q1 ++ q2 ++ q3 ++ q4) q5 a5 in
    let a3 : AllByRecursion P (q1 ++ q2 ++ q3) = left_part P (q1 ++ q2 ++ q3) q4 a4 in
    let a2 : AllByRecursion P (q1 ++ q2) = left_part P (q1 ++ q2) q3 a3 in
    record {
      assumed = left_part P q1 q2 a2;
      asserted = right_part P q1 q2 a2;
      body = right_part P (q1 ++ q2) q3 a3;
      guaranteed = right_part P (q1 ++ q2 ++ q3) q4 a4;
      ensured = right_part P (q1 ++ q2 ++ q3 ++ q4) q5 a5;
      required = right_part P (q1 ++ q2 ++ q3 ++ q4 ++ q5) q6 a6;
      owed = right_part P (q1 ++ q2 ++ q3 ++ q4 ++ q5 ++ q6) q7 a;
    }

module _ (o : Orders) (top : Instance) (whole : Frame) where
  -- the conditions of a frame are within
  abbrev Kinds : (i : Instance) → Standing i → Type 0
  Kinds i v =
      let sub : Calls = text_at (call_texts o [] (calls_of i)) in
      AreWithin (frame_text o [] i) (setting i [] sub (frame_text o [] i).contract.modes) sub i (λ q. IsPartWithin top whole v.t q)

  legal_within : (i : Instance) (v : Standing i) → v.b v.t ≡ true → IsThere o top whole [] i v → Kinds i v → NoneOutside v.row (legal_in i v.at)
  legal_within i v on there a =
      both_parts (λ e. outside v.row true e ≡ []) (assumed i v.at) (asserts_in i v.at)
      (when_on v.row (v.b v.t) (assumed i v.at) on
      (at_frame v.row (v.b v.t) v.at (conditions_of i).assumes ((items o top whole i v [] there).assumes a.assumed)))
      (all_asserts o top whole i v [] there a.asserted)

  properties_within : (i : Instance) (v : Standing i) → v.b v.t ≡ true → IsThere o top whole [] i v → Kinds i v → NoneOutside v.row (properties_in i v.at)
  properties_within (instance d cs is) v on there a =
      let i : Instance = instance d cs is in
      let fine : FineItems top whole v.at (v.b v.t) v.row v.t (frame_text o [] i).contract (conditions_of i) = items o top whole i v [] there in
      let P : Resolution → Type 0 = λ e. outside v.row true e ≡ [] in
      let es1 : List Resolution = body_properties (numbering_of i v.at) d.body in
      let es2 : List Resolution = map (λ f. f v.at) (conditions_of i).guarantees in
      let es3 : List Resolution = flat_map (λ m. map (λ f. f v.at) m.ensures_each) (conditions_of i).modes in
      let es4 : List Resolution = one_mode (conditions_of i).modes v.at in
      let stands : AllByRecursion (λ e. Stands i (IsKnown i) base e × (sort_of i e ≡ Flags)) (property_texts d.body) =
      checked_texts (λ e. Stands i (IsKnown i) base e × (sort_of i e ≡ Flags)) d.body v.fits.0.body_properties in
      let one : NoneOutside v.row (es1 ++ es2) =
      both_parts P es1 es2
      (when_on v.row (v.b v.t) es1 on (body_outside v.row (v.b v.t) (numbering_of i v.at) d.body
      (texts_fine o top whole i v [] there (property_texts d.body) stands a.body)))
      (when_on v.row (v.b v.t) es2 on (at_frame v.row (v.b v.t) v.at (conditions_of i).guarantees (fine.guarantees a.guaranteed))) in
      let two : NoneOutside v.row (es1 ++ es2 ++ es3) =
      both_parts P (es1 ++ es2) es3 one
      (when_on v.row (v.b v.t) es3 on (all_ensured o top whole v.at (v.b v.t) v.row v.t (frame_text o [] i).contract.modes (conditions_of i).modes fine.modes
      a.ensured)) in
      let three : NoneOutside v.row (es1 ++ es2 ++ es3 ++ es4) =
      both_parts P (es1 ++ es2 ++ es3) es4 two
      (when_on v.row (v.b v.t) es4 on (one_outside v.at (v.b v.t) v.row (conditions_of i).modes
      (all_required o top whole v.at (v.b v.t) v.row v.t (frame_text o [] i).contract.modes (conditions_of i).modes fine.modes a.required))) in
      both_parts P (es1 ++ es2 ++ es3 ++ es4) (owed_by_calls (numbering_of i v.at) is) three
      (all_owed o top whole i v [] there is 0 (calls_in v.f) refl refl v.run.1 v.fits.1 a.owed)

pub conditions_stay_within : ConditionsStayWithin
conditions_stay_within p c n j m f run t l o a =
    let i : Instance = instance_of p n in
    let w : WellTyped IsKnown i = (each_is_well_typed p c n j).0 in
    let v : Standing i = standing i w m f run t l in
    let k : Kinds o i f i v = kinds (λ q. IsPartWithin i f t q) (text_at (call_texts o [] (calls_of i))) (frame_text o [] i) i a in
    (legal_within o i f i v refl (λ w. refl) k, properties_within o i f i v refl (λ w. refl) k)
