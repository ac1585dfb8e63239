-- In the row of a run the resolutions of conditions have the truth of the conditions, in all frames.
use Rattle.std.proofs.Common.{◌≡◌, ℕ, suc, Bool, true, false, not, cond, ◌&&◌, ◌||◌, List, [], ◌∷◌, ◌++◌, map, flat_map, refl, ap, ◌∙◌, sym, subst}
use Rattle.std.specs.List.{AllByRecursion, list_all}
use Rattle.lus_tree.specs.declared.place.Sort.TheVariants.{Bool as Flags}
use Rattle.lus_tree.specs.Tree.{Expression, Statement, equation, assertion, property, main_mark}
use Rattle.lus_meaning.specs.Value.{Value, flag, Instants, is, choose}
use Rattle.lus_meaning.specs.Frame.{Frame, Frames, no_frames, with_frame, calls_in, frame_at, call_frame}
use Rattle.lus_meaning.specs.Scene.{base, Manner, plain, while_true, as_import, Site, Scene, Instance, Instances, instance, no_instances, with_instance, no_instance, component_of, calls_of, call_instance}
use Rattle.lus_meaning.specs.Meaning.{value}
use Rattle.lus_meaning.specs.Contract.{Property, ModeTerms, terms, scene}
use Rattle.lus_meaning.specs.Run.{IsRun, CallsRun, active, sort_of}
use Rattle.lus_meaning.specs.Property as p
use Rattle.lus_meaning.specs.Property.{assertions, all_assert, calls_assert, meets_assumptions, meets_all}
use Rattle.sys_meaning.specs.Slot.{Place, beat, own}
use Rattle.sys_meaning.specs.Items.{ModeItem}
use Rattle.sys_meaning.specs.Defaults.{site_at, site_of}
use Rattle.sys_meaning.specs.System.{below_call}
use Rattle.sys_meaning.specs.WellTyped.{IsKnown, Stands, checked, CallFits, TreeFits, CallsFit}
use Rattle.sys_meaning.proofs.Forward.{drop_calls, drop_frames, first_site, first_instance, first_frame, site_dropped, instance_dropped, frame_dropped, later_calls, later_frames, calls_later, frames_later, call_at_reads, own_fits}
use Rattle.slot_values.specs.Resolution.{Resolution}
use Rattle.slot_values.specs.Evaluated.{SlotValues, worth, only_where}
use Rattle.slot_values.specs.Resolved.{Numbering, resolution}
use Rattle.slot_values.proofs.FrameRow.{value_by_row}
use Rattle.evaluation_laws.specs.Resolvings.{Resolving, at_numbers, resolvings}
use Rattle.evaluation_laws.specs.Rows.{knows}
use Rattle.evaluation_laws.proofs.FrameShown.{RowHas, call_has, Standing, beat_clock, beat_shown}
use Rattle.evaluation_laws.proofs.ModesShown.{frame_shown}
use Rattle.slot_sources.specs.Sources.{numbering_of, call_beat}
use Rattle.condition_laws.specs.Conditions.{conditions_of, assumed, where_active, asserts_of, asserts_in, calls_asserts, legal_in, body_properties, one_mode, owed_by_site, owed_by_calls, properties_in}
use Rattle.condition_laws.specs.Breaks.{is_true, all_true}
use Rattle.condition_laws.proofs.ContractItems.{AllSame, SameTerms, SameModes, all_alike, some_on}

-- ---- truths

and_turned : (a b : Bool) → (a && b) ≡ (b && a)
and_turned true true = refl
and_turned true false = refl
and_turned false true = refl
and_turned false false = refl

and_nested : (a b c : Bool) → ((a && b) && c) ≡ (a && (b && c))
and_nested true b c = refl
and_nested false b c = refl

true_both : (row : SlotValues) (xs ys : List Resolution) → all_true row (xs ++ ys) ≡ (all_true row xs && all_true row ys)
true_both row [] ys = refl
true_both row (x ∷ xs) ys =
    ap (λ z. is_true row x && z) (true_both row xs ys) ∙ sym (and_nested (is_true row x) (all_true row xs) (all_true row ys))

-- a condition of a frame counts where that is active
worth_where : (row : SlotValues) (k : ℕ) (o : Bool) (e : Resolution) → row k ≡ flag o →
    worth row true (where_active k e) ≡ cond o (worth row true e) (flag true)
worth_where row k o e h =
    ap (λ v. choose v (worth row (is true v) e) (only_where (is false v) (flag true))) h ∙ by o
  where
    by : (o : Bool) → choose (flag o) (worth row (is true (flag o)) e) (only_where (is false (flag o)) (flag true)) ≡ cond o (worth row true e) (flag true)
    by true = refl
    by false = refl

where_same : (o : Bool) (v w : Value) → (o ≡ true → v ≡ w) → cond o v (flag true) ≡ cond o w (flag true)
where_same true v w h = h refl
where_same false v w h = refl

-- ---- a frame

module _ (i : Instance) (v : Standing i) where
  abbrev s : Scene
  s = scene i v.b v.f

  abbrev g : Numbering
  g = numbering_of i v.at

  worth_here : (e : Expression) → Stands i (IsKnown i) base e → v.b v.t ≡ true → worth v.row true (resolution g e) ≡ value s base e v.t
  worth_here e h o =
      ap (λ z. worth v.row z (resolution g e)) (sym o)
      ∙ value_by_row s (knows i) v.at (at_numbers v.at (resolvings i)) v.row v.t (frame_shown i v) base e h (beat_clock i v)

  asserted : (es : List Expression) → AllByRecursion (λ e. Stands i (IsKnown i) base e × (sort_of i e ≡ Flags)) es → (o : Bool) → v.b v.t ≡ o →
      all_true v.row (map (λ e. where_active (v.at (own beat)) (resolution g e)) es) ≡ (not o || list_all (λ e. is true (value s base e v.t)) es)
  asserted [] a true y = refl
  asserted [] a false y = refl
  asserted (e ∷ es) a o y =
      ap (λ z. is true z && all_true v.row (map (λ e. where_active (v.at (own beat)) (resolution g e)) es))
      (worth_where v.row (v.at (own beat)) o (resolution g e) (beat_shown i v ∙ ap flag y))
      ∙ ap (λ z. is true (cond o (worth v.row true (resolution g e)) (flag true)) && z) (asserted es a.1 o y)
      ∙ by o y
    where
      by : (o : Bool) → v.b v.t ≡ o → (is true (cond o (worth v.row true (resolution g e)) (flag true))
          && (not o || list_all (λ e. is true (value s base e v.t)) es)) ≡ (not o || list_all (λ e. is true (value s base e v.t)) (e ∷ es))
      by true y = ap (λ z. is true z && list_all (λ e. is true (value s base e v.t)) es) (worth_here e a.0.0 y)
      by false y = refl

  frame_asserts : all_true v.row (asserts_of g) ≡ p.asserts s (component_of i) v.t
  frame_asserts = asserted (assertions (component_of i).body) (own_fits IsKnown i v.fits).asserts (v.b v.t) refl

  -- ---- the frame of a call

  module _ (c : Site) (k : Instance) (is : Instances) (h : Frame) (fs : Frames) (q : ℕ) (fit : CallFits IsKnown i c k q)
      (e : drop_calls q (calls_of i) ≡ with_instance c k is) (d : drop_frames q (calls_in v.f) ≡ with_frame h fs) where
    pub site_here : site_of i (suc q) ≡ c
    site_here = site_dropped (calls_of i) q c ∙ ap (λ z. first_site z (site_at no_instances 0)) e

    pub instance_here : call_instance i (suc q) ≡ k
    instance_here = instance_dropped (calls_of i) q ∙ ap (λ z. first_instance z no_instance) e

    pub frame_here : call_frame v.f (suc q) ≡ h
    frame_here = frame_dropped (calls_in v.f) q ∙ ap (λ z. first_frame z (frame_at no_frames 0)) d

    pub frame_called : call_frame v.f c.number ≡ h
    frame_called = ap (λ z. call_frame v.f z) fit.number ∙ frame_here

    pub has_call : RowHas k (below_call c.number v.at) (active s c) h v.row v.t
    has_call =
        subst (λ z. RowHas k (below_call z v.at) (active s c) h v.row v.t) (sym fit.number)
        (subst (λ z. RowHas k (below_call (suc q) v.at) (active s c) z v.row v.t) frame_here
        (subst (λ z. RowHas k (below_call (suc q) v.at) (active s z) (call_frame v.f (suc q)) v.row v.t) site_here
        (subst (λ z. RowHas z (below_call (suc q) v.at) (active s (site_of i (suc q))) (call_frame v.f (suc q)) v.row v.t) instance_here
        (call_has i v.at v.b v.f v.row v.t v.has (suc q) fit.call))))

    abbrev pub below : IsRun k v.n (active s c) h → TreeFits IsKnown k → Standing k
    below run w = record {
      at = below_call c.number v.at;
      b = active s c;
      f = h;
      course = v.course;
      n = v.n;
      run = run;
      fits = w;
      reads = λ t l. call_at_reads IsKnown i v.at v.b v.f t (v.course t) c k is h fs q fit e d (v.reads t l);
      row = v.row;
      t = v.t;
      before = v.before;
      has = has_call;
    }

-- ---- what makes an instant lawful

mutual
  all_assert_same : (i : Instance) (v : Standing i) → all_true v.row (asserts_in i v.at) ≡ all_assert i v.b v.f v.t
  all_assert_same (instance d cs is) v =
      let i : Instance = instance d cs is in
      true_both v.row (asserts_of (numbering_of i v.at)) (calls_asserts (numbering_of i v.at) is)
      ∙ ap (λ z. z && all_true v.row (calls_asserts (numbering_of i v.at) is)) (frame_asserts i v)
      ∙ ap (λ z. p.asserts (scene i v.b v.f) d v.t && z) (calls_assert_same i v is 0 (calls_in v.f) refl refl v.run.1 v.fits.1)

  calls_assert_same : (i : Instance) (v : Standing i) (is : Instances) (q : ℕ) (fs : Frames) → drop_calls q (calls_of i) ≡ is →
      drop_frames q (calls_in v.f) ≡ fs → CallsRun v.n (scene i v.b v.f) is fs → CallsFit IsKnown i is q →
      all_true v.row (calls_asserts (numbering_of i v.at) is) ≡ calls_assert (scene i v.b v.f) is fs v.t
  calls_assert_same i v no_instances q fs e d run fits = refl
  calls_assert_same i v (with_instance c k is) q no_frames e d run fits = absurd run
  calls_assert_same i v (with_instance c k is) q (with_frame h fs) e d run fits =
      true_both v.row (asserts_in k (below_call c.number v.at)) (calls_asserts (numbering_of i v.at) is)
      ∙ ap (λ z. z && all_true v.row (calls_asserts (numbering_of i v.at) is))
      (all_assert_same k (below i v c k is h fs q fits.0 e d run.1 fits.1))
      ∙ ap (λ z. all_assert k (active (scene i v.b v.f) c) h v.t && z)
      (calls_assert_same i v is (suc q) fs (calls_later q (calls_of i) ∙ ap later_calls e) (frames_later q (calls_in v.f) ∙ ap later_frames d)
      run.2 fits.2)

all_assumed : (at : Place → ℕ) (b : Instants) (f : Frame) (row : SlotValues) (t : ℕ) (ps : List Property) (qs : List Resolving) →
    AllSame at b f row t ps qs → b t ≡ true → all_true row (map (λ q. q at) qs) ≡ list_all (λ p. is true (p.test b f t)) ps
all_assumed at b f row t [] [] a o = refl
all_assumed at b f row t [] (q ∷ qs) a o = absurd a
all_assumed at b f row t (p ∷ ps) [] a o = absurd a
all_assumed at b f row t (p ∷ ps) (q ∷ qs) a o = rw (a.0 o, all_assumed at b f row t ps qs a.1 o) refl

pub legal_same : (i : Instance) (v : Standing i) → v.b v.t ≡ true → meets_all i v.b v.f v.t ≡ all_true v.row (legal_in i v.at)
legal_same i v o =
    sym (true_both v.row (assumed i v.at) (asserts_in i v.at)
    ∙ and_turned (all_true v.row (assumed i v.at)) (all_true v.row (asserts_in i v.at))
    ∙ ap (λ z. z && all_true v.row (assumed i v.at)) (all_assert_same i v)
    ∙ ap (λ z. all_assert i v.b v.f v.t && z)
    (all_assumed v.at v.b v.f v.row v.t (terms i).assumes (conditions_of i).assumes (all_alike i v).assumes o))

-- ---- properties

module _ (b : Instants) (f : Frame) (row : SlotValues) (t : ℕ) where
  -- resolutions are worth what the properties say, one by one
  abbrev pub AllWorth : List Property → List Resolution → Type 0
  AllWorth [] [] = Unit {0}
  AllWorth (p ∷ ps) (e ∷ es) = (worth row true e ≡ p.test b f t) × AllWorth ps es
  AllWorth [] (e ∷ es) = ⊥
  AllWorth (p ∷ ps) [] = ⊥

  worth_both : (ps ps' : List Property) (es es' : List Resolution) → AllWorth ps es → AllWorth ps' es' → AllWorth (ps ++ ps') (es ++ es')
  worth_both [] ps' [] es' a c = c
  worth_both [] ps' (e ∷ es) es' a c = absurd a
  worth_both (p ∷ ps) ps' [] es' a c = absurd a
  worth_both (p ∷ ps) ps' (e ∷ es) es' a c = (a.0, worth_both ps ps' es es' a.1 c)

  items_worth : (at : Place → ℕ) (ps : List Property) (qs : List Resolving) → AllSame at b f row t ps qs → b t ≡ true → AllWorth ps (map (λ q. q at) qs)
  items_worth at [] [] a o = tt
  items_worth at [] (q ∷ qs) a o = absurd a
  items_worth at (p ∷ ps) [] a o = absurd a
  items_worth at (p ∷ ps) (q ∷ qs) a o = (a.0 o, items_worth at ps qs a.1 o)

  ensures_worth : (at : Place → ℕ) (ms : List ModeTerms) (qs : List (ModeItem Resolving)) → SameModes at b f row t ms qs → b t ≡ true →
      AllWorth (flat_map (λ m. m.ensures_each) ms) (flat_map (λ m. map (λ q. q at) m.ensures_each) qs)
  ensures_worth at [] [] a o = tt
  ensures_worth at [] (q ∷ qs) a o = absurd a
  ensures_worth at (m ∷ ms) [] a o = absurd a
  ensures_worth at (m ∷ ms) (q ∷ qs) a o =
      worth_both m.ensures_each (flat_map (λ m. m.ensures_each) ms) (map (λ q. q at) q.ensures_each)
      (flat_map (λ m. map (λ q. q at) m.ensures_each) qs) (items_worth at m.ensures_each q.ensures_each a.0.ensures_each o) (ensures_worth at ms qs a.1 o)

  one_mode_worth : (i : Instance) (at : Place → ℕ) (ms : List ModeTerms) (qs : List (ModeItem Resolving)) → SameModes at b f row t ms qs → b t ≡ true →
      AllWorth (p.one_mode (component_of i) ms) (one_mode qs at)
  one_mode_worth i at [] [] a o = tt
  one_mode_worth i at [] (q ∷ qs) a o = absurd a
  one_mode_worth i at (m ∷ ms) [] a o = absurd a
  one_mode_worth i at (m ∷ ms) (q ∷ qs) a o = (some_on at b f row t (m ∷ ms) (q ∷ qs) a o, tt)

module _ (i : Instance) (v : Standing i) (o : v.b v.t ≡ true) where
  abbrev Worth : List Property → List Resolution → Type 0
  Worth = AllWorth v.b v.f v.row v.t

  body_worth : (ss : List Statement) → AllByRecursion (λ e. Stands i (IsKnown i) base e × (sort_of i e ≡ Flags)) (checked ss) →
      Worth (p.body_properties i ss) (body_properties (numbering_of i v.at) ss)
  body_worth [] a = tt
  body_worth (property l ∷ ss) a = (worth_here i v l.value a.0.0 o, body_worth ss a.1)
  body_worth (equation xs e ∷ ss) a = body_worth ss a
  body_worth (assertion e ∷ ss) a = body_worth ss a
  body_worth (main_mark q ∷ ss) a = body_worth ss a

  -- ---- what a call owes

  owed_list : (c : Site) (k : Instance) (h : Frame) → call_frame v.f c.number ≡ h →
      v.row (call_beat (numbering_of i v.at) c) ≡ flag (active (scene i v.b v.f) c v.t) → (ps : List Property) (qs : List Resolving) →
      AllSame (below_call c.number v.at) (active (scene i v.b v.f) c) h v.row v.t ps qs →
      Worth (map (p.owed i c) ps) (map (where_active (call_beat (numbering_of i v.at) c)) (map (λ q. q (below_call c.number v.at)) qs))
  owed_list c k h e y [] [] x = tt
  owed_list c k h e y [] (q ∷ qs) x = absurd x
  owed_list c k h e y (r ∷ ps) [] x = absurd x
  owed_list c k h e y (r ∷ ps) (q ∷ qs) x = (
    worth_where v.row (call_beat (numbering_of i v.at) c) (active (scene i v.b v.f) c v.t) (q (below_call c.number v.at)) y
        ∙ where_same (active (scene i v.b v.f) c v.t) (worth v.row true (q (below_call c.number v.at))) (r.test (active (scene i v.b v.f) c) h v.t) x.0
        ∙ ap (λ h. cond (active (scene i v.b v.f) c v.t) (r.test (active (scene i v.b v.f) c) h v.t) (flag true)) (sym e),
    owed_list c k h e y ps qs x.1,
  )

  owed_worth : (c : Site) (k : Instance) (m : Manner) (h : Frame) → call_frame v.f c.number ≡ h →
      v.row (call_beat (numbering_of i v.at) c) ≡ flag (active (scene i v.b v.f) c v.t) →
      AllSame (below_call c.number v.at) (active (scene i v.b v.f) c) h v.row v.t (terms k).assumes (conditions_of k).assumes →
      Worth (p.owed_by_site i c m (terms k)) (owed_by_site (numbering_of i v.at) c m k)
  owed_worth c k (as_import xs) h e y x = tt
  owed_worth c k plain h e y x = owed_list c k h e y (terms k).assumes (conditions_of k).assumes x
  owed_worth c k (while_true a) h e y x = owed_list c k h e y (terms k).assumes (conditions_of k).assumes x

  calls_owe : (is : Instances) (q : ℕ) (fs : Frames) → drop_calls q (calls_of i) ≡ is → drop_frames q (calls_in v.f) ≡ fs →
      CallsRun v.n (scene i v.b v.f) is fs → CallsFit IsKnown i is q → Worth (p.owed_by_calls i is) (owed_by_calls (numbering_of i v.at) is)
  calls_owe no_instances q fs e d run fits = tt
  calls_owe (with_instance c k is) q no_frames e d run fits = absurd run
  calls_owe (with_instance c k is) q (with_frame h fs) e d run fits =
      let u : Standing k = below i v c k is h fs q fits.0 e d run.1 fits.1 in
      worth_both v.b v.f v.row v.t (p.owed_by_site i c c.manner (terms k)) (p.owed_by_calls i is) (owed_by_site (numbering_of i v.at) c c.manner k)
      (owed_by_calls (numbering_of i v.at) is)
      (owed_worth c k c.manner h (frame_called i v c k is h fs q fits.0 e d) (beat_shown k u) (all_alike k u).assumes)
      (calls_owe is (suc q) fs (calls_later q (calls_of i) ∙ ap later_calls e) (frames_later q (calls_in v.f) ∙ ap later_frames d) run.2 fits.2)

pub properties_worth : (i : Instance) (v : Standing i) → v.b v.t ≡ true → AllWorth v.b v.f v.row v.t (p.properties i) (properties_in i v.at)
properties_worth (instance d cs is) v o =
    let i : Instance = instance d cs is in
    let same : SameTerms v.at v.b v.f v.row v.t (terms i) (conditions_of i) = all_alike i v in
    let ps1 : List Property = p.body_properties i d.body in
    let ps2 : List Property = (terms i).guarantees in
    let ps3 : List Property = flat_map (λ m. m.ensures_each) (terms i).modes in
    let ps4 : List Property = p.one_mode d (terms i).modes in
    let es1 : List Resolution = body_properties (numbering_of i v.at) d.body in
    let es2 : List Resolution = map (λ f. f v.at) (conditions_of i).guarantees in
    let es3 : List Resolution = flat_map (λ m. map (λ f. f v.at) m.ensures_each) (conditions_of i).modes in
    let es4 : List Resolution = one_mode (conditions_of i).modes v.at in
    let one : AllWorth v.b v.f v.row v.t (ps1 ++ ps2) (es1 ++ es2) =
    worth_both v.b v.f v.row v.t ps1 ps2 es1 es2 (body_worth i v o d.body v.fits.0.body_properties)
    (items_worth v.b v.f v.row v.t v.at (terms i).guarantees (conditions_of i).guarantees same.guarantees o) in
    let two : AllWorth v.b v.f v.row v.t (ps1 ++ ps2 ++ ps3) (es1 ++ es2 ++ es3) =
    worth_both v.b v.f v.row v.t (ps1 ++ ps2) ps3 (es1 ++ es2) es3 one
    (ensures_worth v.b v.f v.row v.t v.at (terms i).modes (conditions_of i).modes same.modes o) in
    let three : AllWorth v.b v.f v.row v.t (ps1 ++ ps2 ++ ps3 ++ ps4) (es1 ++ es2 ++ es3 ++ es4) =
    worth_both v.b v.f v.row v.t (ps1 ++ ps2 ++ ps3) ps4 (es1 ++ es2 ++ es3) es4 two
    (one_mode_worth v.b v.f v.row v.t i v.at (terms i).modes (conditions_of i).modes same.modes o) in
    worth_both v.b v.f v.row v.t (ps1 ++ ps2 ++ ps3 ++ ps4) (p.owed_by_calls i is) (es1 ++ es2 ++ es3 ++ es4)
    (owed_by_calls (numbering_of i v.at) is) three (calls_owe i v o is 0 (calls_in v.f) refl refl v.run.1 v.fits.1)
