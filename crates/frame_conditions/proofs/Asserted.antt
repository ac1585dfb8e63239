-- What frames assert by tables is what the instances assert.
use Rattle.std.proofs.Common.{◌≡◌, ℕ, zero, suc, List, [], ◌∷◌, ◌++◌, Some, refl, ap, ◌∙◌}
use Rattle.std.specs.Prelude.{slice_get}
use Rattle.lus_tree.specs.Tree.{Expression}
use Rattle.lus_meaning.specs.Property.{assertions}
use Rattle.lus_meaning.specs.Scene.{Manner, Instance, Instances, instance, no_instances, with_instance, component_of}
use Rattle.lus_limits.specs.Calls.{way_of}
use Rattle.lus_limits.specs.declared.calls.Way.{Way}
use Rattle.sys_meaning.specs.Slot.{Place, own, beat}
use Rattle.sys_meaning.specs.System.{below_call}
use Rattle.sys_texts.specs.Laws.{IsSightOf}
use Rattle.sys_texts.specs.Sights.{Sight}
use Rattle.sys_contracts.specs.Laws.{bare}
use Rattle.sys_tables.specs.Tabled.{Linked, Tabled}
use Rattle.sys_tables.specs.Numbers.{behind_own, frame_base, sight_at}
use Rattle.sys_frames.proofs.Seen.{Seen, CallsSeen}
use Rattle.slot_values.specs.Resolved.{resolution}
use Rattle.evaluation_laws.specs.Resolvings.{resolvings}
use Rattle.slot_sources.specs.Sources.{numbering_of}
use Rattle.condition_laws.specs.Conditions.{asserts_in, asserts_of, where_active}
use Rattle.condition_laws.specs.Conditions as c
use Rattle.frame_sources.specs.Laws.{modes_at}
use Rattle.frame_sources.specs.Resolved.{resolved_by}
use Rattle.frame_sources.proofs.Contracted.{each_same}
use Rattle.frame_sources.proofs.FrameModes.{modes_so}
use Rattle.frame_sources.proofs.Sights.{resolved_as}
use Rattle.frame_conditions.specs.Conditioned.{asserts_by}
use Rattle.frame_conditions.specs.Walked.{AssertsOf, asserts_below, asserts_or_none, asserts_within, call_asserts, calls_asserts, own_asserts}

-- ---- a frame itself

body_so : (s : Sight) (i : Instance) (at : Place → ℕ) → IsSightOf s [] (bare i at)
    → asserts_by s (modes_at at i) (component_of i).body ≡ asserts_of (numbering_of i at)
body_so s i at h =
    each_same (λ e. where_active s.beat (resolved_by s (modes_at at i) e)) (λ e. where_active (at (own beat)) (resolution (numbering_of i at) e)) one (assertions (component_of i).body)
  where
    one : (e : Expression) → where_active s.beat (resolved_by s (modes_at at i) e) ≡ where_active (at (own beat)) (resolution (numbering_of i at) e)
    one e = ap (λ b. where_active b (resolved_by s (modes_at at i) e)) h.beats ∙ ap (where_active (at (own beat))) (resolved_as s i at h (resolvings i) e)

module _ (missing : ℕ) (ts : List Tabled) where
  own_so : (d : ℕ) (t : Tabled) (w : Way) (b : ℕ) (m : Manner) (n : Instance) (at : Place → ℕ) → (h : Seen missing ts d t w b m n at)
      → t.component ≡ component_of n → IsSightOf (sight_at t w b missing) [] (bare n at)
      → own_asserts d ts missing t w b ≡ asserts_of (numbering_of n at)
  own_so d t w b m i at h text sees =
      ap (λ z. asserts_by (sight_at t w b missing) z t.component.body) (modes_so missing ts d t w b m i at h)
      ∙ (ap (λ z. asserts_by (sight_at t w b missing) (modes_at at i) z.body) text ∙ body_so (sight_at t w b missing) i at sees)

  -- ---- with those of its calls

  called_so : (f : AssertsOf) (q : Linked) (from : ℕ) (u : Tabled) → slice_get ts q.place ≡ Some u
      → call_asserts f ts from q ≡ f u (way_of q.site.manner) (frame_base from q)
  called_so f q from u there = ap (λ o. asserts_or_none f o (way_of q.site.manner) (frame_base from q)) there

  mutual
    pub asserts_so : (d : ℕ) (t : Tabled) (w : Way) (b : ℕ) (m : Manner) (i : Instance) (at : Place → ℕ) → Seen missing ts d t w b m i at
        → asserts_within d ts missing t w b ≡ asserts_in i at
    asserts_so d t w b m (instance n cs is) at h =
        ap (λ l. l ++ asserts_below d ts missing (behind_own w t b) t.calls) (own_so d t w b m (instance n cs is) at h h.0.text h.0.sight)
        ∙ ap (λ l. asserts_of (numbering_of (instance n cs is) at) ++ l)
        (calls_so d (instance n cs is) at (sight_at t w b missing) (behind_own w t b) 0 t.calls is h.1)

    calls_so : (d : ℕ) (i : Instance) (at : Place → ℕ) (s : Sight) (from j : ℕ) (qs : List Linked) (is : Instances)
        → CallsSeen missing ts d i at s from j qs is → asserts_below d ts missing from qs ≡ c.calls_asserts (numbering_of i at) is
    calls_so zero i at s from j [] no_instances h = refl
    calls_so (suc d) i at s from j [] no_instances h = refl
    calls_so d i at s from j (q ∷ qs) no_instances h = absurd h
    calls_so d i at s from j [] (with_instance x k is) h = absurd h
    calls_so zero i at s from j (q ∷ qs) (with_instance x k is) h = absurd h
    calls_so (suc d) i at s from j (q ∷ qs) (with_instance x k is) h =
        ap (λ l. l ++ calls_asserts (asserts_within d ts missing) ts from qs)
        (called_so (asserts_within d ts missing) q from h.1.0 h.1.1
        ∙ asserts_so d h.1.0 (way_of q.site.manner) (frame_base from q) x.manner k (below_call x.number at) h.1.2)
        ∙ ap (λ l. asserts_in k (below_call x.number at) ++ l) (calls_so (suc d) i at s from (suc j) qs is h.2)
