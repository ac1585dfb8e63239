-- Each property has the truth of its formula.
use Rattle.std.proofs.Common.{◌≡◌, ℕ, suc, pred, ◌<◌, Bool, true, false, not, cond, ◌&&◌, List, [], ◌∷◌, ◌++◌, map, flat_map, refl, ap, ◌∙◌, sym, subst}
use Rattle.std.specs.List.{AllByRecursion}
use Rattle.lus_tree.specs.declared.place.Sort.TheVariants.{Bool as Flags}
use Rattle.lus_tree.specs.Tree.{Expression, Statement, equation, assertion, property, main_mark}
use Rattle.lus_meaning.specs.Value.{Value, flag}
use Rattle.lus_meaning.specs.Frame.{Frame, Frames, no_frames, with_frame, calls_in, frame_at, call_frame}
use Rattle.lus_meaning.specs.Scene.{base, Manner, plain, while_true, as_import, Site, Scene, Instance, Instances, instance, no_instances, with_instance, component_of, calls_of}
use Rattle.lus_meaning.specs.Contract.{ModeTerms, Property, terms, scene}
use Rattle.lus_meaning.specs.Run.{IsRun, CallsRun, active, sort_of}
use Rattle.lus_meaning.specs.Property as p
use Rattle.lus_meaning.specs.Verdict.{throughout}
use Rattle.sys_terms.specs.declared.term.Entry.{Entry}
use Rattle.sys_terms.specs.View.{Formula, negation, both}
use Rattle.sys_terms.specs.Meaning.{values_of, truth_of}
use Rattle.lus_meaning.specs.Meaning.{value}
use Rattle.sys_meaning.specs.Slot.{Place, beat, own, in_call}
use Rattle.sys_meaning.specs.Items.{ModeItem}
use Rattle.sys_meaning.specs.Path.{Course}
use Rattle.sys_meaning.specs.State.{state_of}
use Rattle.sys_meaning.specs.Translate.{flag_at, formula}
use Rattle.sys_meaning.specs.System.{Written, below_call, stage, number_of, contract_of, body_properties, one_mode, owed_by_site, owed_by_calls}
use Rattle.sys_meaning.specs.Law.{Agree, TruthsInRuns}
use Rattle.sys_meaning.specs.WellTyped.{IsKnown, Stands, checked, CallsFit, WellTyped}
use Rattle.sys_meaning.proofs.Rows.{OwnShown}
use Rattle.sys_meaning.proofs.Main.{formula_value}
use Rattle.sys_meaning.proofs.Conditions.{flags_same}
use Rattle.sys_meaning.proofs.Shows.{Reads, state_reads}
use Rattle.sys_meaning.proofs.Forward.{drop_calls, drop_frames, first_frame, frame_dropped, later_calls, later_frames, calls_later, frames_later, modes_of, call_at_reads, own_fits, shown_here}
use Rattle.sys_meaning.proofs.ContractStatements.{AllSame, SameTerms, SameModes, IsShownBy, terms_same, some_mode}
use Rattle.sys_meaning.proofs.Whole.{imports_forward, known_contracts}

agree_both : (f : Frame) (t : ℕ) (s : List Entry) (ps ps' : List Property) (qs qs' : List Formula) →
    Agree f t s ps qs → Agree f t s ps' qs' → Agree f t s (ps ++ ps') (qs ++ qs')
agree_both f t s [] ps' [] qs' a b = b
agree_both f t s [] ps' (q ∷ qs) qs' a b = absurd a
agree_both f t s (p ∷ ps) ps' [] qs' a b = absurd a
agree_both f t s (p ∷ ps) ps' (q ∷ qs) qs' a b = (a.0, agree_both f t s ps ps' qs qs' a.1 b)

-- what is owed where a call's frame is active
owed_value : (o z : Bool) (v : Value) → (o ≡ true → flag z ≡ v) → cond o v (flag true) ≡ flag (not (o && not z))
owed_value true true v h = sym (h refl)
owed_value true false v h = sym (h refl)
owed_value false z v h = refl

module _ (i : Instance) (w : WellTyped IsKnown i) (n : ℕ) (f : Frame) (t : ℕ) (run : IsRun i n throughout f)
    (h : t < n) where
  abbrev pub c : Course
  c t = values_of (state_of i f t)

  sh : OwnShown (scene i throughout f) (IsKnown i) (number_of i) (c t) (c t) t (modes_of IsKnown i (number_of i))
  sh = shown_here IsKnown known_contracts c n i (number_of i) throughout f run w.tree
      (λ t h. state_reads IsKnown i w f t) t h (c t)

  one : (e : Expression) → Stands i (IsKnown i) base e → sort_of i e ≡ Flags →
      flag (truth_of (c t) (c t) (formula (stage i (number_of i)) e)) ≡ value (scene i throughout f) base e t
  one e v k = formula_value (scene i throughout f) (IsKnown i) (number_of i) (modes_of IsKnown i (number_of i))
      (c t) (c t) t sh (known_contracts i (number_of i) c n throughout f run
      (λ t h. state_reads IsKnown i w f t) w.tree t h (c t) sh) e base v k refl

  pub body_agrees : (ss : List Statement) →
      AllByRecursion (λ e. Stands i (IsKnown i) base e × (sort_of i e ≡ Flags)) (checked ss) →
      Agree f t (state_of i f t) (p.body_properties i ss) (body_properties (stage i (number_of i)) ss)
  body_agrees [] a = tt
  body_agrees (property l ∷ ss) a = (sym (one l.value a.0.0 a.0.1), body_agrees ss a.1)
  body_agrees (equation xs e ∷ ss) a = body_agrees ss a
  body_agrees (assertion e ∷ ss) a = body_agrees ss a
  body_agrees (main_mark q ∷ ss) a = body_agrees ss a

  -- the items of a contract agree with their formulas
  items_agree : (ps : List Property) (qs : List Written) →
      AllSame (number_of i) (c t) (c t) throughout f t ps qs →
      Agree f t (state_of i f t) ps (map (λ q. q (number_of i)) qs)
  items_agree [] [] a = tt
  items_agree [] (q ∷ qs) a = absurd a
  items_agree (p ∷ ps) [] a = absurd a
  items_agree (p ∷ ps) (q ∷ qs) a = (sym (a.0 refl), items_agree ps qs a.1)

  same : SameTerms (number_of i) (c t) (c t) throughout f t (terms i) (contract_of i)
  same = terms_same (number_of i) (c t) (c t) throughout f t i (own_fits IsKnown i w.tree) sh
      (imports_forward i (number_of i) c n throughout f run (λ t h. state_reads IsKnown i w f t) w.tree t h (c t))

  guarantees_agree : Agree f t (state_of i f t) (terms i).guarantees (map (λ q. q (number_of i))
      (contract_of i).guarantees)
  guarantees_agree =
      items_agree (terms i).guarantees (contract_of i).guarantees
      same.guarantees

  ensures_agree : (ms : List ModeTerms) (qs : List (ModeItem Written)) →
      SameModes (number_of i) (c t) (c t) throughout f t ms qs →
      Agree f t (state_of i f t) (flat_map (λ m. m.ensures_each) ms)
      (flat_map (λ m. map (λ q. q (number_of i)) m.ensures_each) qs)
  ensures_agree [] [] a = tt
  ensures_agree [] (q ∷ qs) a = absurd a
  ensures_agree (m ∷ ms) [] a = absurd a
  ensures_agree (m ∷ ms) (q ∷ qs) a =
      agree_both f t (state_of i f t) m.ensures_each (flat_map (λ m. m.ensures_each) ms)
      (map (λ q. q (number_of i)) q.ensures_each) (flat_map (λ m. map (λ q. q (number_of i)) m.ensures_each) qs)
      (items_agree m.ensures_each q.ensures_each a.0.ensures_each) (ensures_agree ms qs a.1)

  one_mode_agrees : (ms : List ModeTerms) (qs : List (ModeItem Written)) →
      SameModes (number_of i) (c t) (c t) throughout f t ms qs →
      Agree f t (state_of i f t) (p.one_mode (component_of i) ms) (one_mode qs (number_of i))
  one_mode_agrees [] [] a = tt
  one_mode_agrees [] (q ∷ qs) a = absurd a
  one_mode_agrees (m ∷ ms) [] a = absurd a
  one_mode_agrees (m ∷ ms) (q ∷ qs) a = (some_mode (number_of i) (c t) (c t) throughout f t (m ∷ ms) (q ∷ qs) a refl, tt)

  -- ---- what a call owes

  abbrev s : Scene
  s = scene i throughout f

  abbrev below : Site → Place → ℕ
  below a = below_call a.number (number_of i)

  owed_list : (a : Site) (k : Instance) (g : Frame) → call_frame f a.number ≡ g →
      (c t).flag_at (number_of i (in_call a.number (own beat))) ≡ active s a t →
      (ps : List Property) (qs : List Written) → AllSame (below a) (c t) (c t) (active s a) g t ps qs →
      Agree f t (state_of i f t) (map (p.owed i a) ps)
      (map (λ z. negation (both (flag_at (stage i (number_of i)) (in_call a.number (own beat))) (negation z)))
      (map (λ q. q (below a)) qs))
  owed_list a k g e o [] [] x = tt
  owed_list a k g e o [] (q ∷ qs) x = absurd x
  owed_list a k g e o (r ∷ ps) [] x = absurd x
  owed_list a k g e o (r ∷ ps) (q ∷ qs) x = (
    ap (λ g. cond (active s a t) (r.test (active s a) g t) (flag true)) e
        ∙ owed_value (active s a t) (truth_of (c t) (c t) (q (below a))) (r.test (active s a) g t) x.0
        ∙ ap (λ o. flag (not (o && not (truth_of (c t) (c t) (q (below a)))))) (sym o),
    owed_list a k g e o ps qs x.1,
  )

  owed_agrees : (a : Site) (k : Instance) (m : Manner) (g : Frame) → call_frame f a.number ≡ g →
      (c t).flag_at (number_of i (in_call a.number (own beat))) ≡ active s a t →
      AllSame (below a) (c t) (c t) (active s a) g t (terms k).assumes (contract_of k).assumes →
      Agree f t (state_of i f t) (p.owed_by_site i a m (terms k)) (owed_by_site (stage i (number_of i)) a m k)
  owed_agrees a k (as_import xs) g e o x = tt
  owed_agrees a k plain g e o x = owed_list a k g e o (terms k).assumes (contract_of k).assumes x
  owed_agrees a k (while_true y) g e o x = owed_list a k g e o (terms k).assumes (contract_of k).assumes x

  all_owed : (is : Instances) (p' : ℕ) (fs : Frames) → drop_calls p' (calls_of i) ≡ is →
      drop_frames p' (calls_in f) ≡ fs → CallsRun n s is fs → CallsFit IsKnown i is p' →
      Agree f t (state_of i f t) (p.owed_by_calls i is) (owed_by_calls (stage i (number_of i)) is)
  all_owed no_instances p' fs e d r w' = tt
  all_owed (with_instance a k is) p' no_frames e d r w' = absurd r
  all_owed (with_instance a k is) p' (with_frame g fs) e d r w' =
      let reads : (t : ℕ) → t < n → Reads IsKnown k (below a) (active s a) g t (c t) =
      λ t h. call_at_reads IsKnown i (number_of i) throughout f t (c t) a k is g fs p' w'.0 e d
      (state_reads IsKnown i w f t) in
      let frame : call_frame f a.number ≡ g =
      ap (λ m. frame_at (calls_in f) (pred m)) w'.0.number ∙ frame_dropped (calls_in f) p'
      ∙ ap (λ z. first_frame z (frame_at no_frames 0)) d in
      let here : IsShownBy (below a) (c t) (c t) (active s a) g t k =
      shown_here IsKnown known_contracts c n k (below a) (active s a) g r.1 w'.1 reads t h (c t) in
      agree_both f t (state_of i f t) (p.owed_by_site i a a.manner (terms k)) (p.owed_by_calls i is)
      (owed_by_site (stage i (number_of i)) a a.manner k) (owed_by_calls (stage i (number_of i)) is)
      (owed_agrees a k a.manner g frame
      (flags_same ((c t).flag_at (number_of i (in_call a.number (own beat)))) (active s a t)
      (reads t h [] beat Flags refl refl))
      (terms_same (below a) (c t) (c t) (active s a) g t k (own_fits IsKnown k w'.1) here
      (imports_forward k (below a) c n (active s a) g r.1 reads w'.1 t h (c t))).assumes)
      (all_owed is (suc p') fs (calls_later p' (calls_of i) ∙ ap later_calls e)
      (frames_later p' (calls_in f) ∙ ap later_frames d) r.2 w'.2)

-- the properties of such a declaration
pub truths_in_runs : TruthsInRuns
truths_in_runs (instance d cs is) w n f t run h =
    let i : Instance = instance d cs is in
    let at : Place → ℕ = number_of i in
    let s : List Entry = state_of i f t in
    let ps1 : List Property = p.body_properties i d.body in
    let qs1 : List Formula = body_properties (stage i at) d.body in
    let qs2 : List Formula = map (λ f. f at) (contract_of i).guarantees in
    let ps3 : List Property = flat_map (λ m. m.ensures_each) (terms i).modes in
    let qs3 : List Formula = flat_map (λ m. map (λ f. f at) m.ensures_each) (contract_of i).modes in
    let qs4 : List Formula = one_mode (contract_of i).modes at in
    let one : Agree f t s (ps1 ++ (terms i).guarantees) (qs1 ++ qs2) =
    agree_both f t s ps1 (terms i).guarantees qs1 qs2
    (body_agrees i w n f t run h d.body w.tree.0.body_properties) (guarantees_agree i w n f t run h) in
    let two : Agree f t s (ps1 ++ (terms i).guarantees ++ ps3) (qs1 ++ qs2 ++ qs3) =
    agree_both f t s (ps1 ++ (terms i).guarantees) ps3 (qs1 ++ qs2) qs3 one (ensures_agree i w n f t run h (terms i).modes (contract_of i).modes (same i w n f t run h).modes) in
    let three : Agree f t s (ps1 ++ (terms i).guarantees ++ ps3 ++ p.one_mode d (terms i).modes)
    (qs1 ++ qs2 ++ qs3 ++ qs4) =
    agree_both f t s (ps1 ++ (terms i).guarantees ++ ps3) (p.one_mode d (terms i).modes)
    (qs1 ++ qs2 ++ qs3) qs4 two (one_mode_agrees i w n f t run h (terms i).modes (contract_of i).modes (same i w n f t run h).modes) in
    agree_both f t s (ps1 ++ (terms i).guarantees ++ ps3 ++ p.one_mode d (terms i).modes) (p.owed_by_calls i is)
    (qs1 ++ qs2 ++ qs3 ++ qs4) (owed_by_calls (stage i at) is) three
    (all_owed i w n f t run h is 0 (calls_in f) refl refl run.1 w.tree.1)
