-- The first state of a run meets what holds at first, and each lawful state the assertions.
use Rattle.std.proofs.Common.{◌≡◌, ℕ, suc, ◌<◌, Bool, true, false, not, ◌&&◌, ◌||◌, List, [], ◌∷◌, ◌++◌, map, refl, ap, ◌∙◌, sym, subst}
use Rattle.std.specs.List.{AllByRecursion, list_all}
use Rattle.std.proofs.lemmas.Bool.{false≢true}
use Rattle.lus_tree.specs.declared.place.Sort.TheVariants.{Bool as Flags}
use Rattle.lus_tree.specs.Tree.{Variable, Expression, Expressions, no_more, more}
use Rattle.lus_meaning.specs.Value.{Value, flag, Instants, has_sort, is as equals}
use Rattle.lus_meaning.specs.Frame.{Frame, Frames, no_frames, with_frame, calls_in}
use Rattle.lus_meaning.specs.Scene.{no_instance, base, Manner, plain, while_true, as_import, Site, Instance, Instances, instance, no_instances, with_instance, component_of, calls_of, call_instance}
use Rattle.lus_meaning.specs.Meaning.{value}
use Rattle.lus_meaning.specs.Contract.{scene}
use Rattle.lus_meaning.specs.Occurrences.{starts}
use Rattle.lus_meaning.specs.Program.{in_order}
use Rattle.lus_meaning.specs.Property.{assertions, asserts, all_assert, calls_assert}
use Rattle.lus_meaning.specs.Run.{IsRun, CallsRun, active, sort_of}
use Rattle.sys_terms.specs.View.{Formula, negation, both}
use Rattle.sys_terms.specs.Meaning.{truth_of}
use Rattle.sys_meaning.specs.Slot.{Place, own, beat, starting}
use Rattle.sys_meaning.specs.Slot as slot
use Rattle.sys_meaning.specs.Items.{Key}
use Rattle.sys_meaning.specs.Defaults.{default_of}
use Rattle.sys_meaning.specs.State.{held_before}
use Rattle.sys_meaning.specs.Path.{Course}
use Rattle.sys_meaning.specs.Part.{variable, fixed, equal_parts, value_in}
use Rattle.sys_meaning.specs.Translate.{flag_at, formula}
use Rattle.sys_meaning.specs.System.{below_call, stage, so_far_first, starts_first, held_first, first_of, calls_first, asserts_of, asserts_in, calls_asserts}
use Rattle.sys_meaning.specs.WellTyped.{StartFits, DefaultsFit, Stands, CallFits, TreeFits, CallsFit}
use Rattle.sys_meaning.proofs.Conditions.{parts_made}
use Rattle.sys_meaning.proofs.Shown.{variable_worth, value_has, fixed_worth}
use Rattle.sys_meaning.proofs.Rows.{OwnShown}
use Rattle.sys_meaning.proofs.Main.{formula_value}
use Rattle.sys_meaning.proofs.Pools.{true_all, all_both}
use Rattle.sys_meaning.proofs.Shows.{FlagReads, Reads}
use Rattle.sys_meaning.proofs.Forward.{call_at_flag, drop_calls, drop_frames, first_instance, instance_dropped, later_calls, later_frames, calls_later, frames_later, modes_of, Contracts, call_at_reads, own_fits, shown_here, agreed_here}
use Rattle.sys_meaning.proofs.Onward.{ordered_all, map_all, SoFar}

module _ (Modes : Instance → Key → Type 0) (contracts : Contracts Modes) (c : Course) (n : ℕ)
    (so_far : SoFar Modes c n) (some : 0 < n) where
  module _ (i : Instance) (at : Place → ℕ) (b : Instants) (f : Frame) (run : IsRun i n b f)
      (fits : TreeFits Modes i) (reads : (t : ℕ) → t < n → Reads Modes i at b f t (c t)) where
    abbrev pub first_shown : OwnShown (scene i b f) (Modes i) at (c 0) (c 0) 0 (modes_of Modes i at)
    first_shown = shown_here Modes contracts c n i at b f run fits reads 0 some (c 0)

    starts_true : true_all (c 0) (c 0) (starts_first (stage i at))
    starts_true = map_all (StartFits i (Modes i)) (c 0) (c 0) (λ a. flag_at (stage i at) (own (starting a.number)))
        (λ a w. first_shown.starts a.number a.clock w.found)
        (in_order (λ a. a.number) (starts (component_of i))) (ordered_all (StartFits i (Modes i)) (λ a. a.number)
        (starts (component_of i)) (own_fits Modes i fits).starts)

    helds_first : (k : ℕ) (vs : List Variable) (es : Expressions) → DefaultsFit i (Modes i) k vs es →
        AllByRecursion (λ v. value_in (c 0) v.sort (at (own (slot.held k v.name.text))) ≡ held_before
        (scene i b f) k v.name.text 0) vs →
        true_all (c 0) (c 0) (map (λ v. equal_parts (variable v.sort (at (own (slot.held k v.name.text)))) (fixed
        (default_of i k v.name.text))) vs)
    helds_first k [] es d q = tt
    helds_first k (v ∷ vs) no_more d q = absurd d
    helds_first k (v ∷ vs) (more x es) d q =
        let z : ℕ = at (own (slot.held k v.name.text)) in
        let has : has_sort v.sort (default_of i k v.name.text) ≡ true = rw d.0 d.2 in (
          parts_made (c 0) (c 0) v.sort (variable v.sort z) (fixed (default_of i k v.name.text)) (rw
              (variable_worth (c 0) (c 0) v.sort z) (value_has (c 0) v.sort z)) (variable_worth (c 0)
              (c 0) v.sort z ∙ q.0 ∙ sym (fixed_worth (c 0) (c 0) v.sort (default_of i k v.name.text) has)),
          helds_first k vs es d.3 q.1,
        )

    held_first_at : (a : Site) (k : Instance) (is : Instances) (p : ℕ) → CallFits Modes i a k p →
        drop_calls p (calls_of i) ≡ with_instance a k is → (m : Manner) → a.manner ≡ m →
        true_all (c 0) (c 0) (held_first (stage i at) a m k)
    held_first_at a k is p fit e plain q = tt
    held_first_at a k is p fit e (as_import xs) q = tt
    held_first_at a k is p fit e (while_true x) q =
        let d = fit.held x q in
        let inst : call_instance i (suc p) ≡ k = instance_dropped (calls_of i) p ∙ ap (λ z. first_instance z no_instance) e in
        let there : true_all (c 0) (c 0) (map (λ v. equal_parts (variable v.sort (at (own (slot.held
        (suc p) v.name.text)))) (fixed (default_of i (suc p) v.name.text))) (component_of k).outputs) =
        subst (λ z. true_all (c 0) (c 0) (map (λ v. equal_parts (variable v.sort (at (own (slot.held
        (suc p) v.name.text)))) (fixed (default_of i (suc p) v.name.text))) (component_of z).outputs)) inst
        (helds_first (suc p) (component_of (call_instance i (suc p))).outputs d.0 d.1.defaults (first_shown.held
        (suc p) a.clock x d.0 d.1)) in
        subst (λ z. true_all (c 0) (c 0) (map (λ v. equal_parts (variable v.sort (at (own
        (slot.held z v.name.text)))) (fixed (default_of i z v.name.text))) (component_of k).outputs))
        (sym fit.number) there

  mutual
    pub first_true : (m : Manner) (i : Instance) (at : Place → ℕ) (b : Instants) (f : Frame) (run : IsRun i n b f)
        (fits : TreeFits Modes i) (reads : (t : ℕ) → t < n → Reads Modes i at b f t (c t))
        (flags : FlagReads Modes m i at c n b f) →
        true_all (c 0) (c 0) (first_of m i at)
    first_true m (instance d cs is) at b f run fits reads flags =
        let i : Instance = instance d cs is in
        let T : Formula → Type 0 = λ z. truth_of (c 0) (c 0) z ≡ true in
        all_both T (starts_first (stage i at) ++ so_far_first (stage i at) m) (calls_first is (stage i at))
        (all_both T (starts_first (stage i at)) (so_far_first (stage i at) m) (starts_true i at b f run fits reads)
        (so_far.first m i at b f fits run reads flags some))
        (calls_first_true is i at b f run fits reads 0 (calls_in f) refl refl run.1 fits.1)

    calls_first_true : (is : Instances) (i : Instance) (at : Place → ℕ) (b : Instants) (f : Frame)
        (run : IsRun i n b f) (fits : TreeFits Modes i) (reads : (t : ℕ) → t < n → Reads Modes i at b f t (c t))
        (p : ℕ) (fs : Frames) →
        drop_calls p (calls_of i) ≡ is → drop_frames p (calls_in f) ≡ fs → CallsRun n (scene i b f) is fs →
        CallsFit Modes i is p → true_all (c 0) (c 0) (calls_first is (stage i at))
    calls_first_true no_instances i at b f run fits reads p fs e d r w = tt
    calls_first_true (with_instance a k is) i at b f run fits reads p no_frames e d r w = absurd r
    calls_first_true (with_instance a k is) i at b f run fits reads p (with_frame g fs) e d r w =
        let T : Formula → Type 0 = λ z. truth_of (c 0) (c 0) z ≡ true in
        let below : (t : ℕ) → t < n → Reads Modes k (below_call a.number at) (active (scene i b f) a) g t (c t) =
        λ t h. call_at_reads Modes i at b f t (c t) a k is g fs p w.0 e d (reads t h) in
        all_both T (held_first (stage i at) a a.manner k ++ first_of a.manner k (below_call a.number at))
        (calls_first is (stage i at))
        (all_both T (held_first (stage i at) a a.manner k) (first_of a.manner k (below_call a.number at))
        (held_first_at i at b f run fits reads a k is p w.0 e a.manner refl)
        (first_true a.manner k (below_call a.number at) (active (scene i b f) a) g r.1 w.1 below
        (call_at_flag Modes i at c n b f reads a k is g fs p w.0 e d)))
        (calls_first_true is i at b f run fits reads (suc p) fs (calls_later p (calls_of i) ∙ ap later_calls e)
        (frames_later p (calls_in f) ∙ ap later_frames d) r.2 w.2)

-- ---- assertions

pub and_first : (a b : Bool) → (a && b) ≡ true → a ≡ true
and_first true b e = refl
and_first false b e = absurd (false≢true e)

pub and_second : (a b : Bool) → (a && b) ≡ true → b ≡ true
and_second true b e = e
and_second false b e = absurd (false≢true e)

module _ (Modes : Instance → Key → Type 0) (contracts : Contracts Modes) (c : Course) (n : ℕ) where
  module _ (i : Instance) (at : Place → ℕ) (b : Instants) (f : Frame) (run : IsRun i n b f)
      (fits : TreeFits Modes i) (reads : (t : ℕ) → t < n → Reads Modes i at b f t (c t)) (t : ℕ) (h : t < n) where
    one_assert : (e : Expression) → Stands i (Modes i) base e → sort_of i e ≡ Flags →
        (not (b t) || equals true (value (scene i b f) base e t)) ≡ true →
        truth_of (c t) (c t) (negation (both (flag_at (stage i at) (own beat)) (negation (formula
        (stage i at) e)))) ≡ true
    one_assert e w k a = rw (sh.beats) (by (b t) refl a)
      where
        sh : OwnShown (scene i b f) (Modes i) at (c t) (c t) t (modes_of Modes i at)
        sh = shown_here Modes contracts c n i at b f run fits reads t h (c t)

        held : (q : Bool) (v : Value) → flag q ≡ v → equals true v ≡ true → q ≡ true
        held true v d r = refl
        held false v d r = absurd (false≢true (ap (equals true) d ∙ r))

        by : (o : Bool) → b t ≡ o → (not o || equals true (value (scene i b f) base e t)) ≡ true →
            not (o && not (truth_of (c t) (c t) (formula (stage i at) e))) ≡ true
        by false d r = refl
        by true d r = rw (held (truth_of (c t) (c t) (formula (stage i at) e)) (value (scene i b f) base e t)
            (formula_value (scene i b f) (Modes i) at (modes_of Modes i at) (c t) (c t) t sh
            (agreed_here Modes contracts c n i at b f run fits reads t h (c t)) e base w k d) r) refl

    own_asserts : (b t ≡ true → list_all (λ e. equals true (value (scene i b f) base e t)) (assertions
        (component_of i).body) ≡ true) → true_all (c t) (c t) (asserts_of (stage i at))
    own_asserts a = each (assertions (component_of i).body) (own_fits Modes i fits).asserts a
      where
        either : (o q : Bool) → (o ≡ true → q ≡ true) → (not o || q) ≡ true
        either true q r = r refl
        either false q r = refl

        each : (es : List Expression) → AllByRecursion (λ e. Stands i (Modes i) base e × (sort_of i e ≡ Flags)) es →
            (b t ≡ true → list_all (λ e. equals true (value (scene i b f) base e t)) es ≡ true) →
            true_all (c t) (c t) (map (λ e. negation (both (flag_at (stage i at) (own beat)) (negation (formula
            (stage i at) e)))) es)
        each [] w q = tt
        each (e ∷ es) w q = (
          one_assert e w.0.0 w.0.1 (either (b t) (equals true (value (scene i b f) base e t)) (λ o. and_first
              (equals true (value (scene i b f) base e t)) (list_all (λ e. equals true (value
              (scene i b f) base e t)) es) (q o))),
          each es w.1 (λ o. and_second (equals true (value (scene i b f) base e t)) (list_all (λ e. equals true
              (value (scene i b f) base e t)) es) (q o)),
        )

  asserted : (o q : Bool) → (not o || q) ≡ true → o ≡ true → q ≡ true
  asserted true q e h = e
  asserted false q e h = absurd (false≢true h)

  mutual
    pub asserts_true : (i : Instance) (at : Place → ℕ) (b : Instants) (f : Frame) (run : IsRun i n b f)
        (fits : TreeFits Modes i) (reads : (t : ℕ) → t < n → Reads Modes i at b f t (c t)) (t : ℕ) (h : t < n) →
        all_assert i b f t ≡ true → true_all (c t) (c t) (asserts_in i at)
    asserts_true (instance d cs is) at b f run fits reads t h a =
        let i : Instance = instance d cs is in
        all_both (λ z. truth_of (c t) (c t) z ≡ true) (asserts_of (stage i at)) (calls_asserts is (stage i at))
        (own_asserts i at b f run fits reads t h (asserted (b t) (list_all (λ e. equals true (value
        (scene i b f) base e t)) (assertions d.body)) (and_first (asserts (scene i b f) d t) (calls_assert
        (scene i b f) is (calls_in f) t) a)))
        (calls_asserts_true is i at b f run fits reads t h 0 (calls_in f) refl refl run.1 fits.1 (and_second
        (asserts (scene i b f) d t) (calls_assert (scene i b f) is (calls_in f) t) a))

    calls_asserts_true : (is : Instances) (i : Instance) (at : Place → ℕ) (b : Instants) (f : Frame)
        (run : IsRun i n b f) (fits : TreeFits Modes i) (reads : (t : ℕ) → t < n → Reads Modes i at b f t (c t))
        (t : ℕ) (h : t < n) (p : ℕ) (fs : Frames) →
        drop_calls p (calls_of i) ≡ is → drop_frames p (calls_in f) ≡ fs → CallsRun n (scene i b f) is fs →
        CallsFit Modes i is p → calls_assert (scene i b f) is fs t ≡ true →
        true_all (c t) (c t) (calls_asserts is (stage i at))
    calls_asserts_true no_instances i at b f run fits reads t h p fs e d r w q = tt
    calls_asserts_true (with_instance a k is) i at b f run fits reads t h p no_frames e d r w q = absurd r
    calls_asserts_true (with_instance a k is) i at b f run fits reads t h p (with_frame g fs) e d r w q =
        let below : (t : ℕ) → t < n → Reads Modes k (below_call a.number at) (active (scene i b f) a) g t (c t) =
        λ t h. call_at_reads Modes i at b f t (c t) a k is g fs p w.0 e d (reads t h) in
        all_both (λ z. truth_of (c t) (c t) z ≡ true) (asserts_in k (below_call a.number at)) (calls_asserts is
        (stage i at))
        (asserts_true k (below_call a.number at) (active (scene i b f) a) g r.1 w.1 below t h (and_first
        (all_assert k (active (scene i b f) a) g t) (calls_assert (scene i b f) is fs t) q))
        (calls_asserts_true is i at b f run fits reads t h (suc p) fs (calls_later p
        (calls_of i) ∙ ap later_calls e) (frames_later p (calls_in f) ∙ ap later_frames d) r.2 w.2 (and_second
        (all_assert k (active (scene i b f) a) g t) (calls_assert (scene i b f) is fs t) q))
