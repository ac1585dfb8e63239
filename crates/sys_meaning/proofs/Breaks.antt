-- A path that breaks a property breaks it by its frame, at the last instant.
use Rattle.std.proofs.Common.{◌≡◌, ℕ, zero, suc, pred, ◌<◌, ◌+◌, List, [], ◌∷◌, length, refl, ap, ◌∙◌, sym, arith, Option, Some, None, slice_get, get_or}
use Rattle.lus_meaning.specs.Value.{flag}
use Rattle.lus_meaning.specs.Frame.{Frame}
use Rattle.lus_meaning.specs.Scene.{Instance}
use Rattle.lus_meaning.specs.Contract.{Property}
use Rattle.lus_meaning.specs.Property.{properties}
use Rattle.lus_meaning.specs.Verdict.{throughout, Breaks}
use Rattle.sys_terms.specs.declared.term.Entry.{Entry}
use Rattle.sys_terms.specs.View.{Formula}
use Rattle.sys_terms.specs.Paths.{IsTrueAt, IsFalseAt, IsFalseAtLastAlone, OfSome}
use Rattle.sys_meaning.specs.State.{state_of}
use Rattle.sys_meaning.specs.Path.{frame_of_path}
use Rattle.sys_meaning.specs.System.{number_of, system_of}
use Rattle.sys_meaning.specs.WellTyped.{IsKnown, WellTyped}
use Rattle.sys_meaning.specs.Law.{true_in, IsRunOf, Agree, TreeDistinct}
use Rattle.sys_meaning.specs.Verdicts.{BreaksAtLast}
use Rattle.sys_meaning.proofs.Follows.{none_some, at_place}
use Rattle.sys_meaning.proofs.PathStates.{some_length}
use Rattle.sys_meaning.proofs.Truths.{truths_in_runs}
use Rattle.sys_meaning.proofs.OneRun.{state_listed, paths_to_runs}

-- where a formula is, there is its property
property_there : (k : ℕ) (f : Frame) (t : ℕ) (s : List Entry) (ps : List Property) (qs : List Formula) (q : Formula) →
    Agree f t s ps qs → slice_get qs k ≡ Some q → (p : Property) × (slice_get ps k ≡ Some p)
property_there k f t s ps [] q a e = absurd (none_some q e)
property_there k f t s [] (x ∷ qs) q a e = absurd a
property_there zero f t s (p ∷ ps) (x ∷ qs) q a e = (p, refl)
property_there (suc k) f t s (p ∷ ps) (x ∷ qs) q a e = property_there k f t s ps qs q a.1 e

false_at_last : (q : Formula) (states : List (List Entry)) → IsFalseAtLastAlone q states →
    IsFalseAt q (get_or states (pred (length states)) [])
false_at_last q [] h = absurd h
false_at_last q (s ∷ []) h = h
false_at_last q (s ∷ t ∷ rest) h = false_at_last q (t ∷ rest) h.1

true_before : (q : Formula) (states : List (List Entry)) → IsFalseAtLastAlone q states → (u : ℕ) →
    u < pred (length states) → IsTrueAt q (get_or states u [])
true_before q [] h u l = absurd h
true_before q (s ∷ []) h u l = absurd (omega arith)
true_before q (s ∷ t ∷ rest) h zero l = h.0
true_before q (s ∷ t ∷ rest) h (suc u) l = true_before q (t ∷ rest) h.1 u (omega arith)

module _ (i : Instance) (w : WellTyped IsKnown i) (distinct : TreeDistinct i (number_of i) []) where
  pub breaks_at_last : BreaksAtLast i
  breaks_at_last k states b = go (slice_get (system_of i).properties k) refl b.broken
    where
      f : Frame
      f = frame_of_path i states

      r : IsRunOf i states f
      r = (paths_to_runs i w distinct states b.path).0

      some : 0 < length states
      some = some_length states b.path.loose.some

      state_there : (t : ℕ) → t < length states → state_of i f t ≡ get_or states t []
      state_there t l = let from : t ≡ 0 + t = omega arith in
          ap (state_of i f) from ∙ sym (state_listed i f (length states) 0 t l) ∙ ap (λ z. get_or z t []) r.goes

      agree : (t : ℕ) → t < length states → Agree f t (state_of i f t) (properties i) (system_of i).properties
      agree t l = truths_in_runs i w (length states) f t r.run l

      go : (o : Option Formula) → slice_get (system_of i).properties k ≡ o →
          OfSome (λ q. IsFalseAtLastAlone q states) o →
          (p : Property) × (slice_get (properties i) k ≡ Some p) × Breaks i p f (pred (length states))
      go None e h = absurd h
      go (Some q) e h =
          let p = property_there k f 0 (state_of i f 0) (properties i) (system_of i).properties q (agree 0 some) e in
          let truth : (t : ℕ) → t < length states → p.0.test throughout f t ≡ flag (true_in (get_or states t []) q) =
          λ t l. at_place k f t (state_of i f t) (properties i) (system_of i).properties p.0 q (agree t l) p.1 e
          ∙ ap (λ s. flag (true_in s q)) (state_there t l) in (
            p.0,
            p.1,
            record {
              instants = length states;
              enough = omega (arith, some);
              run = r.run;
              lawful = r.lawful;
              first = λ u l. truth u (omega (arith, l)) ∙ ap flag (true_before q states h u l);
              fails = truth (pred (length states)) (omega (arith, some)) ∙ ap flag (false_at_last q states h);
            },
          )
