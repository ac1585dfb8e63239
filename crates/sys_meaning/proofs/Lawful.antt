-- Where a state meets the formulas of the assertions, the assertions are true.
use Rattle.std.proofs.Common.{◌≡◌, ℕ, suc, ◌<◌, Bool, true, false, not, ◌&&◌, ◌||◌, List, [], ◌∷◌, map, refl, ap, ◌∙◌, sym}
use Rattle.std.specs.List.{AllByRecursion, list_all}
use Rattle.std.proofs.lemmas.Bool.{false≢true}
use Rattle.lus_tree.specs.declared.place.Sort.TheVariants.{Bool as Flags}
use Rattle.lus_tree.specs.Tree.{Expression}
use Rattle.lus_meaning.specs.Value.{Value, flag, Instants, is as equals}
use Rattle.lus_meaning.specs.Frame.{Frame, Frames, no_frames, with_frame, calls_in}
use Rattle.lus_meaning.specs.Scene.{base, Instance, Instances, instance, no_instances, with_instance, calls_of}
use Rattle.lus_meaning.specs.Meaning.{value}
use Rattle.lus_meaning.specs.Contract.{scene}
use Rattle.lus_meaning.specs.Property.{assertions, all_assert, calls_assert}
use Rattle.lus_meaning.specs.Run.{IsRun, CallsRun, active, sort_of}
use Rattle.lus_meaning.proofs.Now.{left_part, right_part}
use Rattle.sys_terms.specs.View.{Formula, negation, both}
use Rattle.sys_terms.specs.Meaning.{truth_of}
use Rattle.sys_meaning.specs.Slot.{Place, own, beat}
use Rattle.sys_meaning.specs.Items.{Key}
use Rattle.sys_meaning.specs.Path.{Course}
use Rattle.sys_meaning.specs.Translate.{flag_at, formula}
use Rattle.sys_meaning.specs.System.{below_call, stage, asserts_of, asserts_in, calls_asserts}
use Rattle.sys_meaning.specs.WellTyped.{Stands, TreeFits, CallsFit}
use Rattle.sys_meaning.proofs.Rows.{OwnShown}
use Rattle.sys_meaning.proofs.Main.{formula_value}
use Rattle.sys_meaning.proofs.Pools.{true_all}
use Rattle.sys_meaning.proofs.Shows.{Reads}
use Rattle.sys_meaning.proofs.Forward.{both_true, drop_calls, drop_frames, later_calls, later_frames, calls_later, frames_later, modes_of, Contracts, call_at_reads, shown_here, agreed_here}

abbrev asserting : Bool → Bool → Bool
asserting o q = not (o && not q)

asserted_where : (o p q : Bool) → o ≡ p → p ≡ true → asserting o q ≡ true → q ≡ true
asserted_where true p true e d h = refl
asserted_where true p false e d h = absurd (false≢true h)
asserted_where false p q e d h = absurd (false≢true (e ∙ d))

is_true : (q : Bool) (v : Value) → flag q ≡ v → q ≡ true → equals true v ≡ true
is_true true v e d = sym (ap (equals true) e)
is_true false v e d = absurd (false≢true d)

either : (o q : Bool) → (o ≡ true → q ≡ true) → (not o || q) ≡ true
either true q r = r refl
either false q r = refl

module _ (Modes : Instance → Key → Type 0) (contracts : Contracts Modes) (c : Course) (n : ℕ) where
  module _ (i : Instance) (at : Place → ℕ) (b : Instants) (f : Frame) (run : IsRun i n b f)
      (fits : TreeFits Modes i) (reads : (t : ℕ) → t < n → Reads Modes i at b f t (c t)) (t : ℕ) (h : t < n)
      (o : b t ≡ true) where
    sh : OwnShown (scene i b f) (Modes i) at (c t) (c t) t (modes_of Modes i at)
    sh = shown_here Modes contracts c n i at b f run fits reads t h (c t)

    one_asserted : (e : Expression) → Stands i (Modes i) base e → sort_of i e ≡ Flags →
        truth_of (c t) (c t) (negation (both (flag_at (stage i at) (own beat)) (negation (formula
        (stage i at) e)))) ≡ true →
        equals true (value (scene i b f) base e t) ≡ true
    one_asserted e w k a =
        is_true (truth_of (c t) (c t) (formula (stage i at) e)) (value (scene i b f) base e t)
        (formula_value (scene i b f) (Modes i) at (modes_of Modes i at) (c t) (c t) t sh
        (agreed_here Modes contracts c n i at b f run fits reads t h (c t)) e base w k o)
        (asserted_where ((c t).flag_at (at (own beat))) (b t) (truth_of (c t) (c t) (formula (stage i at) e))
        sh.beats o a)

    pub own_asserted : (es : List Expression) →
        AllByRecursion (λ e. Stands i (Modes i) base e × (sort_of i e ≡ Flags)) es →
        true_all (c t) (c t) (map (λ e. negation (both (flag_at (stage i at) (own beat)) (negation (formula
        (stage i at) e)))) es) →
        list_all (λ e. equals true (value (scene i b f) base e t)) es ≡ true
    own_asserted [] w a = refl
    own_asserted (e ∷ es) w a = both_true (equals true (value (scene i b f) base e t)) (list_all (λ e. equals true
        (value (scene i b f) base e t)) es) (one_asserted e w.0.0 w.0.1 a.0) (own_asserted es w.1 a.1)

  mutual
    pub all_asserted : (i : Instance) (at : Place → ℕ) (b : Instants) (f : Frame) (run : IsRun i n b f)
        (fits : TreeFits Modes i) (reads : (t : ℕ) → t < n → Reads Modes i at b f t (c t)) (t : ℕ) (h : t < n) →
        true_all (c t) (c t) (asserts_in i at) → all_assert i b f t ≡ true
    all_asserted (instance d cs is) at b f run fits reads t h a =
        let i : Instance = instance d cs is in
        let T : Formula → Type 0 = λ z. truth_of (c t) (c t) z ≡ true in
        both_true (not (b t) || list_all (λ e. equals true (value (scene i b f) base e t)) (assertions d.body))
        (calls_assert (scene i b f) is (calls_in f) t)
        (either (b t) (list_all (λ e. equals true (value (scene i b f) base e t)) (assertions d.body))
        (λ o. own_asserted i at b f run fits reads t h o (assertions d.body) fits.0.asserts
        (left_part T (asserts_of (stage i at)) (calls_asserts is (stage i at)) a)))
        (calls_asserted is i at b f run fits reads t h 0 (calls_in f) refl refl run.1 fits.1
        (right_part T (asserts_of (stage i at)) (calls_asserts is (stage i at)) a))

    calls_asserted : (is : Instances) (i : Instance) (at : Place → ℕ) (b : Instants) (f : Frame)
        (run : IsRun i n b f) (fits : TreeFits Modes i) (reads : (t : ℕ) → t < n → Reads Modes i at b f t (c t))
        (t : ℕ) (h : t < n) (p : ℕ) (fs : Frames) →
        drop_calls p (calls_of i) ≡ is → drop_frames p (calls_in f) ≡ fs → CallsRun n (scene i b f) is fs →
        CallsFit Modes i is p → true_all (c t) (c t) (calls_asserts is (stage i at)) →
        calls_assert (scene i b f) is fs t ≡ true
    calls_asserted no_instances i at b f run fits reads t h p fs e d r w q = refl
    calls_asserted (with_instance a k is) i at b f run fits reads t h p no_frames e d r w q = absurd r
    calls_asserted (with_instance a k is) i at b f run fits reads t h p (with_frame g fs) e d r w q =
        let T : Formula → Type 0 = λ z. truth_of (c t) (c t) z ≡ true in
        let below : (t : ℕ) → t < n → Reads Modes k (below_call a.number at) (active (scene i b f) a) g t (c t) =
        λ t h. call_at_reads Modes i at b f t (c t) a k is g fs p w.0 e d (reads t h) in
        both_true (all_assert k (active (scene i b f) a) g t) (calls_assert (scene i b f) is fs t)
        (all_asserted k (below_call a.number at) (active (scene i b f) a) g r.1 w.1 below t h
        (left_part T (asserts_in k (below_call a.number at)) (calls_asserts is (stage i at)) q))
        (calls_asserted is i at b f run fits reads t h (suc p) fs (calls_later p (calls_of i) ∙ ap later_calls e)
        (frames_later p (calls_in f) ∙ ap later_frames d) r.2 w.2
        (right_part T (asserts_in k (below_call a.number at)) (calls_asserts is (stage i at)) q))
