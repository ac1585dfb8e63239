-- Each occurrence in a text of a frame leaves to others what a source evaluates.
use Rattle.std.proofs.Common.{ℕ, zero, suc, pred, ◌<◌, List, [], ◌∷◌, ◌++◌, sym, subst, arith}
use Rattle.std.specs.Prelude.{Contains}
use Rattle.std.specs.List.{AllByRecursion}
use Rattle.lus_tree.specs.Tree.{Name, Expression, truth, number, name, negation, minus, pre, arrow, binary, choice, sampled, merged, call, condact, mode_name, Component, Program}
use Rattle.lus_meaning.specs.Value.{Instants}
use Rattle.lus_meaning.specs.Frame.{Frame, call_frame}
use Rattle.lus_meaning.specs.Scene.{plain, while_true, Site, Instance, Instances, instance, no_instances, with_instance, instance_at, component_of, calls_of, call_instance, clock_of_names, Clock}
use Rattle.lus_meaning.specs.Contract.{scene}
use Rattle.lus_meaning.specs.Cycle.{Place as NeededPlace}
use Rattle.lus_meaning.specs.ClockFaults.{components}
use Rattle.lus_meaning.specs.Refusals.{IsChecked}
use Rattle.lus_meaning.specs.Run.{active, Equation, equations}
use Rattle.lus_meaning.specs.Verdict.{throughout}
use Rattle.lus_meaning.specs.Occurrences.{Standing, Text, occurrences, texts, as_side}
use Rattle.lus_meaning.specs.Program.{instance_of, listed, all_sites}
use Rattle.lus_meaning.proofs.EachPart.{Each, each_part}
use Rattle.lus_meaning.proofs.Lists.{all_from, all_from_both}
use Rattle.rule_laws.specs.Laws.{IsUnfolded, AreUnfolded}
use Rattle.rule_laws.proofs.Callees.{GoesDown, each_site}
use Rattle.rule_laws.proofs.Parts.{Whole, nested, all_parts}
use Rattle.rule_laws.proofs.Unfolded.{component_within, each_unfolded}
use Rattle.clock_laws.proofs.Clocks.{declared_at}
use Rattle.sys_meaning.specs.Defaults.{site_of}
use Rattle.sys_meaning.specs.WellTyped.{count_of}
use Rattle.path_laws.proofs.Standing.{Known, site_there}
use Rattle.path_laws.proofs.Places.{KnownText, known_texts, stand}
use Rattle.lus_evaluation.specs.Frame.{call_condition, equation_parts}
use Rattle.lus_evaluation.specs.Part.{Part, ModeParts, parts, needs_of}
use Rattle.lus_evaluation.specs.Past.{scene_on}
use Rattle.slot_values.specs.Parts.{setting_on}
use Rattle.evaluation_laws.specs.Rows.{AreCalls, RowShows}
use Rattle.evaluation_laws.proofs.RowFrames.{rows_show}
use Rattle.order_laws.specs.Rows.{place_there}
use Rattle.order_laws.proofs.Items.{SideFits, sides_fit}
use Rattle.within_laws.specs.Laws.{AreQuiet}
use Rattle.within_laws.specs.Texts.{IsQuiet, EachQuiet, LeavesQuiet, IsGood}
use Rattle.within_laws.specs.Sources.{IsFrameQuiet}
use Rattle.within_laws.specs.Frames.{OthersQuiet, AllTextsAreQuiet, AllSidesAreQuiet}
use Rattle.within_laws.proofs.Texts.{quiet_parts}
use Rattle.within_laws.proofs.Defaults.{defaults_quiet}
use Rattle.within_laws.proofs.Facts.{frames_are_quiet}

module _ (p : Program) (c : IsChecked p) where
  abbrev IsThere : Instance → Type 0
  IsThere i = IsUnfolded p i × Contains (components p) (component_of i)

  calls_there : (n : Component) (is : Instances) (ss : List Site) → AreUnfolded p ss is → AllByRecursion (λ s. GoesDown p n s.callee) ss → (q : ℕ) →
      q < count_of is → IsThere (instance_at is q)
  calls_there n no_instances ss u g q l = absurd (omega (arith, l))
  calls_there n (with_instance z x is) [] u g q l = absurd u
  calls_there n (with_instance z x is) (s ∷ ss) u g zero l = (u.2, declared_at p c n s x g.0 u.1)
  calls_there n (with_instance z x is) (s ∷ ss) u g (suc q) l = calls_there n is ss u.3 g.1 q (omega (arith, l))

  call_there : (i : Instance) → IsThere i → (q : ℕ) → q < count_of (calls_of i) → IsThere (instance_at (calls_of i) q)
  call_there (instance d cs is) h q l = calls_there d is (all_sites d) h.0.1 (each_site p c.rules.clocked.typed d h.1) q l

  along : (w : List ℕ) (i : Instance) (b : Instants) (f : Frame) → AreCalls i w → IsThere i → IsThere (scene_on w i b f).place
  along [] i b f a h = h
  along (zero ∷ w) i b f a h = absurd (omega (arith, a.0))
  along (suc q ∷ w) i b f a h =
      along w (call_instance i (suc q)) (active (scene i b f) (site_of i (suc q))) (call_frame f (suc q)) a.2 (call_there i h q a.1)

  module _ (i : Instance) (f : Frame) (t : ℕ) (w : List ℕ) (sh : RowShows i f t w) (u : IsUnfolded p (place_there i f w))
      (d : Contains (components p) (component_of (place_there i f w))) (body : ℕ → List Part) (asked : ModeParts) (mine : IsFrameQuiet i f t w)
      (others : OthersQuiet i f t w body asked) where
    abbrev j : Instance
    j = place_there i f w

    abbrev Knows : Standing → Expression → Type 0
    Knows z e = Each (Known j) (component_of j) z e

    leaves : (z : Standing) (e : Expression) → Knows z e → LeavesQuiet i f t w body asked z e
    leaves z (pre q k x) a = mine.memories k z.clock x a.0.memory.0
    leaves z (call q k h as_) a =
        let s : Site = record { number = k; callee = h.text; clock = z.clock; arguments = listed as_; defaults = []; manner = plain } in
        let r = site_there (calls_of j) (pred k) s a.0.fits.site in (
          subst (λ y. EachQuiet i f t w y.clock (call_condition y y.manner ++ y.arguments)) r.0 (mine.calls k a.0.fits.number r.1),
          others.bodies k a.0.fits.number r.1,
        )
    leaves z (condact q k x h as_ ds) a =
        let s : Site = record { number = k; callee = h.text; clock = z.clock; arguments = listed as_; defaults = listed ds; manner = while_true x } in
        let r = site_there (calls_of j) (pred k) s a.0.fits.0.site in
        let given = subst (λ y. EachQuiet i f t w y.clock (call_condition y y.manner ++ y.arguments)) r.0 (mine.calls k a.0.fits.0.number r.1) in (
          given.1,
          others.bodies k a.0.fits.0.number r.1,
          subst (λ y. EachQuiet i f t w y.clock y.defaults) r.0 (defaults_quiet p c i f t w u d k r.1),
        )
    leaves z (mode_name q x m) a = λ h ns.
        others.modes q x m a.fits.1 (subst (λ y. IsQuiet i f t w y (mode_name q x m)) a.fits.0 h) ns
    leaves z (truth q b) a = tt
    leaves z (number q b) a = tt
    leaves z (name q b) a = tt
    leaves z (negation q x) a = tt
    leaves z (minus q x) a = tt
    leaves z (arrow q k x y) a = tt
    leaves z (binary q o x y) a = tt
    leaves z (choice q x y v) a = tt
    leaves z (sampled q x b y) a = tt
    leaves z (merged q y x v) a = tt

    all_good : (z : Standing) (e : Expression) → Knows z e → AllByRecursion (IsGood i f t w body asked) (occurrences (component_of j) z e)
    all_good z e a =
        all_from (Whole (Known j) (component_of j)) (IsGood i f t w body asked)
        (λ o y. (stand p c j u d o.standing o.expression y, leaves o.standing o.expression y)) (occurrences (component_of j) z e)
        (all_parts (Whole (Known j) (component_of j)) (component_of j) z e (nested (Known j) (component_of j) z e a))

    -- a text that is known
    pub text_quiet : (z : Standing) (e : Expression) → Knows z e → IsQuiet i f t w z.clock e → (ns : List NeededPlace) (xs : List Name) →
        AreQuiet i f t (parts (setting_on i f w body asked) ns xs z.clock e)
    text_quiet z e a h ns xs =
        quiet_parts i f t w sh body asked ns xs z e (each_part (IsGood i f t w body asked) (component_of j) z e (all_good z e a)) h

    abbrev TextQuiet : Text → Type 0
    TextQuiet x = IsQuiet i f t w x.0.clock x.1 → (ns : List NeededPlace) (xs : List Name) →
        AreQuiet i f t (parts (setting_on i f w body asked) ns xs x.0.clock x.1)

    pub texts_quiet : AllByRecursion TextQuiet (texts (component_of j))
    texts_quiet =
        all_from (KnownText p c j u d) TextQuiet
        (λ x a h ns xs. text_quiet x.0 x.1 a h ns xs) (texts (component_of j)) (known_texts p c j u d)

    abbrev SideQuiet : Equation → Type 0
    SideQuiet e = AreQuiet i f t (equation_parts (setting_on i f w body asked) e)

    pub sides_quiet : AllByRecursion SideQuiet (equations (component_of j))
    sides_quiet =
        all_from_both (SideFits j) (λ e. IsQuiet i f t w (clock_of_names (component_of j) e.names) e.right) SideQuiet
        (λ e a h. let k : Clock = clock_of_names (component_of j) e.names in
        text_quiet (as_side k) e.right a.0 h (needs_of (setting_on i f w body asked) k e.right) e.names)
        (equations (component_of j)) (sides_fit p c j u d) mine.rights

pub all_texts_are_quiet : AllTextsAreQuiet
all_texts_are_quiet p c n k m f run t l w a h body asked others =
    let i : Instance = instance_of p n in
    let there : IsThere p c i = (each_unfolded p c n k, subst (Contains (components p)) (sym (component_within _ p n)) k) in
    let here : IsThere p c (place_there i f w) = along p c w i throughout f a there in
    texts_quiet p c i f t w (rows_show p c n k m f run t l w a) here.0 here.1 body asked (frames_are_quiet p c n k m f run t l w a h) others

pub all_sides_are_quiet : AllSidesAreQuiet
all_sides_are_quiet p c n k m f run t l w a h body asked others =
    let i : Instance = instance_of p n in
    let there : IsThere p c i = (each_unfolded p c n k, subst (Contains (components p)) (sym (component_within _ p n)) k) in
    let here : IsThere p c (place_there i f w) = along p c w i throughout f a there in
    sides_quiet p c i f t w (rows_show p c n k m f run t l w a) here.0 here.1 body asked (frames_are_quiet p c n k m f run t l w a h) others
