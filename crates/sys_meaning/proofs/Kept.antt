-- What the frame of a path keeps by itself.
use Rattle.std.proofs.Common.{◌≡◌, ℕ, suc, ◌<◌, Bool, true, false, ◌&&◌, List, [], ◌∷◌, ◌++◌, map, refl, ap, ◌∙◌, subst, Option}
use Rattle.std.specs.List.{AllByRecursion}
use Rattle.std.proofs.lemmas.Bool.{false≢true}
use Rattle.lus_tree.specs.declared.place.Sort.{Sort}
use Rattle.lus_tree.specs.Tree.{Name, Variable, Component}
use Rattle.lus_meaning.specs.Value.{Value, absent, Instants, has_sort}
use Rattle.lus_meaning.specs.Frame.{entry, call_frame}
use Rattle.lus_meaning.specs.Scene.{Clock, Manner, Scene, Instance, Instances, instance, component_of, call_instance, variables, clock_from, clock_of, is_on}
use Rattle.lus_meaning.specs.Meaning.{mode_stream, call_outputs}
use Rattle.lus_meaning.specs.Contract.{scene_with, scene}
use Rattle.lus_meaning.specs.Run.{KeepsText, Equation, equations, IsBalanced, at_instant, have_sorts, first_sorts, is_typed, sort_of_name, active}
use Rattle.lus_meaning.specs.WellMade.{AreDistinct}
use Rattle.lus_meaning.proofs.Exists.{sampled_names, sampled_lengths}
use Rattle.sys_terms.specs.View.{Formula}
use Rattle.sys_terms.specs.Meaning.{truth_of}
use Rattle.sys_meaning.specs.Slot.{Place, beat, own, named, memory}
use Rattle.sys_meaning.specs.Items.{Key}
use Rattle.sys_meaning.specs.Defaults.{site_of}
use Rattle.sys_meaning.specs.Part.{value_in}
use Rattle.sys_meaning.specs.Path.{Course, bare_stage, name_by, firsts_by, frame_by}
use Rattle.sys_meaning.specs.Translate.{present}
use Rattle.sys_meaning.specs.System.{stage, Sources, equation_sources}
use Rattle.sys_meaning.specs.WellTyped.{IsKnown, no_constant, is_declared, clock_here, IsPlainCall, TreeFits, StreamFits}
use Rattle.sys_meaning.proofs.Conditions.{zero_value}
use Rattle.sys_meaning.proofs.Shown.{value_has}
use Rattle.sys_meaning.proofs.Rows.{OwnShown}
use Rattle.sys_meaning.proofs.Off.{typed_off, all_absent}
use Rattle.sys_meaning.proofs.Balanced.{source_names, equations_balanced}
use Rattle.sys_meaning.proofs.Forward.{modes_of}
use Rattle.sys_meaning.proofs.Backward.{FrameMeets, CallsMeet, call_shown}
use Rattle.sys_meaning.proofs.Given.{AgreeBy, plain_beat, frame_shown}
use Rattle.sys_meaning.proofs.ContractStatements.{modes_off}

firsts_sorted : (k : ℕ) (ss : List Sort) (at : Place → ℕ) (c : Course) → have_sorts ss (firsts_by k ss at c) ≡ true
firsts_sorted k [] at c = refl
firsts_sorted k (s ∷ ss) at c =
    by (has_sort s (value_in (c 0) s (at (own (memory k))))) (value_has (c 0) s (at (own (memory k))))
    (firsts_sorted (suc k) ss at c)
  where
    by : (a : Bool) → a ≡ true → have_sorts ss (firsts_by (suc k) ss at c) ≡ true →
        (a && have_sorts ss (firsts_by (suc k) ss at c)) ≡ true
    by true e h = h
    by false e h = absurd (false≢true e)

module _ (d : Component) (cs : List (Name × Value)) (is : Instances) (at : Place → ℕ) (c : Course) (n : ℕ)
    (b : Instants) where
  abbrev pub i : Instance
  i = instance d cs is

  abbrev pub s : Scene
  s = scene i b (frame_by i at c n)

  abbrev pub M : Key → Type 0
  M = IsKnown i

  -- off its clock a plain call's outputs are absent
  outputs_off : (k t : ℕ) (vs : List Variable) →
      AllByRecursion (λ v. is_typed v.sort (active s (site_of i k) t) (entry (call_frame
      (frame_by i at c n) k) v.name.text t) ≡ true) vs → active s (site_of i k) t ≡ false →
      all_absent (at_instant t (map (λ x. entry (call_frame (frame_by i at c n) k) x) (map (λ v. v.name.text) vs)))
  outputs_off k t [] a o = tt
  outputs_off k t (v ∷ vs) a o = (
    typed_off v.sort (active s (site_of i k) t) (entry (call_frame
        (frame_by i at c n) k) v.name.text t) a.0 o,
    outputs_off k t vs a.1 o,
  )

  swapped : (es : List Equation) → ((t : ℕ) → t < n → AllByRecursion (λ e. IsBalanced s e t) es) →
      AllByRecursion (λ e. (t : ℕ) → t < n → IsBalanced s e t) es
  swapped [] a = tt
  swapped (e ∷ es) a = ((λ t h. (a t h).0), swapped es (λ t h. (a t h).1))

  module _ (m : Manner) (act : Formula) (given : Sources) (fits : TreeFits IsKnown i)
      (meets : FrameMeets c n m i at act given) (calls : CallsMeet c n is (stage i at))
      (beats : (t : ℕ) → t < n → (c t).flag_at (at (own beat)) ≡ b t)
      (offs : (t : ℕ) → t < n → (x : Name) → is_declared i (λ key. ⊥) x → no_constant i (λ key. ⊥) x → truth_of
      (c t) (c t) (present (bare_stage i at) (clock_here i (λ key. ⊥) x)) ≡ false →
      value_in (c t) (sort_of_name i x) (at (own (named x))) ≡ zero_value (sort_of_name i x))
      (agrees : AgreeBy i at c n b) (distinct : AreDistinct (source_names (given ++ equation_sources (stage i at) (equations d)))) where
    sh : (t : ℕ) → t < n → OwnShown s M at (c t) (c t) t (modes_of IsKnown i at)
    sh t h = frame_shown d cs is at c n b m act given fits meets calls beats offs agrees t h (c t)

    types_kept : (vs : List Variable) → AllByRecursion (StreamFits i M) vs →
        AllByRecursion (λ v. (t : ℕ) → t < n → is_typed v.sort (is_on s (clock_from v.clock) t) (entry
        (frame_by i at c n) v.name.text t) ≡ true) vs
    types_kept [] a = tt
    types_kept (v ∷ vs) a = (
      (λ t h. subst (λ k. is_typed v.sort (is_on s k t) (entry
          (frame_by i at c n) v.name.text t) ≡ true) a.0.name.clock
          (subst (λ z. is_typed z (is_on s (clock_of d v.name.text) t) (entry
          (frame_by i at c n) v.name.text t) ≡ true) a.0.sort
          ((sh t h).typed v.name.text a.0.name.stream a.0.name.declared))),
      types_kept vs a.1,
    )

    plain_off : (t : ℕ) → t < n → (k : ℕ) (cl : Clock) → IsPlainCall i M k cl → is_on s cl t ≡ false →
        all_absent (at_instant t (call_outputs s k))
    plain_off t h k cl e o = outputs_off k t (component_of (call_instance i k)).outputs
        (call_shown IsKnown d cs is at c n b fits calls t h (c t) k e.call
        (plain_beat d cs is at c n b m act given fits meets calls beats offs agrees t h k cl e)).typed
        (rw (ap (λ z. is_on s z t) e.clock ∙ o) refl)

    -- the frame of a path keeps its text
    pub path_keeps : KeepsText n s
    path_keeps = record {
      names = sampled_names n (name_by i at c) (variables d);
      lengths = sampled_lengths n (name_by i at c) (variables d);
      firsts = firsts_sorted 1 (first_sorts i) at c;
      types = types_kept (variables d) fits.0.streams;
      equations = swapped (equations d) (λ t h. equations_balanced s M at (modes_of IsKnown i at) (c t) (c t) t
          (sh t h) (agrees t h (c t) (sh t h)) given fits.0 (meets.names t h)
          (plain_off t h) (modes_off b t i (frame_by i at c n)) distinct);
    }
