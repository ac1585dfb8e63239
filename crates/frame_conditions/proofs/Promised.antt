-- The properties of a declaration by its table are those of its instance.
use Rattle.std.proofs.Common.{◌≡◌, ℕ, zero, suc, List, [], ◌∷◌, ◌++◌, map, flat_map, append_assoc, Option, Some, refl, sym, ap, ◌∙◌, subst}
use Rattle.std.specs.Prelude.{slice_get}
use Rattle.lus_tree.specs.Tree.{Statement, property, equation, assertion, main_mark}
use Rattle.lus_meaning.specs.Scene.{Manner, plain, while_true, as_import, Site, Instance, Instances, instance, no_instances, with_instance}
use Rattle.lus_limits.specs.Calls.{way_of}
use Rattle.lus_limits.specs.declared.calls.Way.{Way}
use Rattle.lus_limits.specs.declared.calls.Way.TheVariants.{Plain}
use Rattle.sys_meaning.specs.Items.{ModeItem}
use Rattle.sys_meaning.specs.Slot.{Place, own, beat, in_call}
use Rattle.sys_meaning.specs.System.{below_call}
use Rattle.sys_texts.specs.Laws.{IsSightOf}
use Rattle.sys_texts.specs.Sights.{Sight}
use Rattle.sys_contracts.specs.Laws.{bare}
use Rattle.sys_tables.specs.Tabled.{Linked, Tabled}
use Rattle.sys_tables.specs.Numbers.{behind_own, frame_base, sight_at}
use Rattle.sys_frames.proofs.Seen.{Seen, CallsSeen}
use Rattle.slot_values.specs.Resolution.{Resolution}
use Rattle.slot_values.specs.Resolved.{resolution}
use Rattle.evaluation_laws.specs.Resolvings.{Resolving, resolvings}
use Rattle.slot_sources.specs.Sources.{numbering_of}
use Rattle.condition_laws.specs.Conditions.{assumed, conditions_of, properties_in, some_resolved}
use Rattle.condition_laws.specs.Conditions as c
use Rattle.frame_sources.specs.Laws.{modes_at}
use Rattle.frame_sources.specs.Resolved.{Asked}
use Rattle.frame_sources.proofs.Contracted.{twice}
use Rattle.frame_sources.proofs.FrameModes.{modes_so}
use Rattle.frame_sources.proofs.Sights.{resolved_as}
use Rattle.frame_conditions.specs.Conditioned.{Conditions, one_mode, owed, promises, properties_by}
use Rattle.frame_conditions.specs.Laws.{conditions_at, mode_at}
use Rattle.frame_conditions.specs.Walked.{conditions_or_none, conditions_within, owed_by, owed_by_calls, owed_within, properties_over, properties_within}
use Rattle.frame_conditions.proofs.FrameConditions.{conditions_so}

-- ---- the body

body_so : (s : Sight) (i : Instance) (at : Place → ℕ) → IsSightOf s [] (bare i at) → (ss : List Statement)
    → properties_by s (modes_at at i) ss ≡ c.body_properties (numbering_of i at) ss
body_so s i at h [] = refl
body_so s i at h (property l ∷ ss) =
    ap (λ z. z ∷ properties_by s (modes_at at i) ss) (resolved_as s i at h (resolvings i) l.value)
    ∙ ap (λ l'. resolution (numbering_of i at) l.value ∷ l') (body_so s i at h ss)
body_so s i at h (equation xs e ∷ ss) = body_so s i at h ss
body_so s i at h (assertion e ∷ ss) = body_so s i at h ss
body_so s i at h (main_mark p ∷ ss) = body_so s i at h ss

-- ---- the contract

one_mode_so : (at : Place → ℕ) (ms : List (ModeItem Resolving)) → one_mode (map (mode_at at) ms) ≡ c.one_mode ms at
one_mode_so at [] = refl
one_mode_so at (m ∷ ms) = ap (λ l. some_resolved l ∷ []) (twice (λ (n : Asked). n.asked) (mode_at at) (m ∷ ms))

regrouped : (a b d e f : List Resolution) → a ++ (b ++ (d ++ (e ++ f))) ≡ a ++ b ++ d ++ e ++ f
regrouped a b d e f =
    sym (append_assoc a b (d ++ (e ++ f))) ∙ (sym (append_assoc (a ++ b) d (e ++ f)) ∙ sym (append_assoc (a ++ b ++ d) e f))

-- ---- what calls owe

module _ (missing : ℕ) (ts : List Tabled) where
  assumed_so : (d : ℕ) (u : Tabled) (w : Way) (b : ℕ) (m : Manner) (k : Instance) (at : Place → ℕ) → Seen missing ts d u w b m k at
      → (o : Option Tabled) → o ≡ Some u → (conditions_or_none (conditions_within d ts missing) o w b).assumes ≡ assumed k at
  assumed_so d u w b m k at h o there =
      ap (λ z. (conditions_or_none (conditions_within d ts missing) z w b).assumes) there
      ∙ ap (λ (r : Conditions). r.assumes) (conditions_so missing ts d u w b m k at h)

  owed_so : (d : ℕ) (i : Instance) (at : Place → ℕ) (x : Site) (m : Manner) (u : Tabled) (b : ℕ) (k : Instance) (o : Option Tabled) → o ≡ Some u
      → b ≡ at (in_call x.number (own beat)) → Seen missing ts d u (way_of m) b m k (below_call x.number at)
      → owed_by (conditions_within d ts missing) o b m ≡ c.owed_by_site (numbering_of i at) x m k
  owed_so d i at x (as_import xs) u b k o there beats h = refl
  owed_so d i at x plain u b k o there beats h =
      ap (owed b) (assumed_so d u (way_of plain) b plain k (below_call x.number at) h o there) ∙ ap (λ n. owed n (assumed k (below_call x.number at))) beats
  owed_so d i at x (while_true a) u b k o there beats h =
      ap (owed b) (assumed_so d u (way_of (while_true a)) b (while_true a) k (below_call x.number at) h o there)
      ∙ ap (λ n. owed n (assumed k (below_call x.number at))) beats

  owed_calls_so : (d : ℕ) (i : Instance) (at : Place → ℕ) (s : Sight) (from j : ℕ) (qs : List Linked) (is : Instances)
      → CallsSeen missing ts (suc d) i at s from j qs is
      → owed_by_calls (conditions_within d ts missing) ts from qs ≡ c.owed_by_calls (numbering_of i at) is
  owed_calls_so d i at s from j [] no_instances h = refl
  owed_calls_so d i at s from j (q ∷ qs) no_instances h = absurd h
  owed_calls_so d i at s from j [] (with_instance x k is) h = absurd h
  owed_calls_so d i at s from j (q ∷ qs) (with_instance x k is) h =
      ap (λ l. l ++ owed_by_calls (conditions_within d ts missing) ts from qs)
      (ap (λ (y : Site). owed_by (conditions_within d ts missing) (slice_get ts q.place) (frame_base from q) y.manner) h.0.site
      ∙ owed_so d i at x x.manner h.1.0 (frame_base from q) k (slice_get ts q.place) h.1.1 h.0.frame
      (seen (ap (λ (y : Site). y.manner) h.0.site) h.1.2))
      ∙ ap (λ l. c.owed_by_site (numbering_of i at) x x.manner k ++ l) (owed_calls_so d i at s from (suc j) qs is h.2)
    where
      seen : q.site.manner ≡ x.manner → Seen missing ts d h.1.0 (way_of q.site.manner) (frame_base from q) x.manner k (below_call x.number at)
          → Seen missing ts d h.1.0 (way_of x.manner) (frame_base from q) x.manner k (below_call x.number at)
      seen e y = subst (λ (m : Manner). Seen missing ts d h.1.0 (way_of m) (frame_base from q) x.manner k (below_call x.number at)) e y

  owed_within_so : (d : ℕ) (t : Tabled) (i : Instance) (at : Place → ℕ) (s : Sight) (from : ℕ) (is : Instances)
      → CallsSeen missing ts d i at s from 0 t.calls is → owed_within d ts missing t from ≡ c.owed_by_calls (numbering_of i at) is
  owed_within_so (suc d) t i at s from is h = owed_calls_so d i at s from 0 t.calls is h
  owed_within_so zero t i at s from is h = none t.calls is h
    where
      none : (qs : List Linked) (is : Instances) → CallsSeen missing ts zero i at s from 0 qs is → [] ≡ c.owed_by_calls (numbering_of i at) is
      none [] no_instances h = refl
      none (q ∷ qs) no_instances h = absurd h
      none [] (with_instance x k is) h = absurd h
      none (q ∷ qs) (with_instance x k is) h = absurd h

  -- ---- all of them

  pub properties_so : (d : ℕ) (t : Tabled) (i : Instance) (at : Place → ℕ) → Seen missing ts d t Plain 0 plain i at
      → properties_within d ts missing t ≡ properties_in i at
  properties_so d t (instance n cs is) at h =
      let i : Instance = instance n cs is in
      let s : Sight = sight_at t Plain 0 missing in
      let owes : List Resolution = owed_within d ts missing t (behind_own Plain t 0) in
      let r : Conditions = conditions_at at (conditions_of i) in
      ap (λ z. properties_over s z (conditions_within d ts missing t Plain 0) t owes) (modes_so missing ts d t Plain 0 plain i at h)
      ∙ (ap (λ z. properties_over s (modes_at at i) z t owes) (conditions_so missing ts d t Plain 0 plain i at h)
      ∙ (ap (λ z. properties_by s (modes_at at i) z.body ++ (promises r ++ owes)) h.0.text
      ∙ (ap (λ z. z ++ (promises r ++ owes)) (body_so s i at h.0.sight n.body)
      ∙ (ap (λ z. c.body_properties (numbering_of i at) n.body ++ (promises r ++ z))
      (owed_within_so d t i at s (behind_own Plain t 0) is h.1)
      ∙ (ap (λ z. c.body_properties (numbering_of i at) n.body ++ z) (promised i is)
      ∙ regrouped (c.body_properties (numbering_of i at) n.body) (map (λ f. f at) (conditions_of i).guarantees)
      (flat_map (λ m. map (λ f. f at) m.ensures_each) (conditions_of i).modes) (c.one_mode (conditions_of i).modes at)
      (c.owed_by_calls (numbering_of i at) is))))))
    where
      promised : (i : Instance) (is : Instances) → promises (conditions_at at (conditions_of i)) ++ c.owed_by_calls (numbering_of i at) is
          ≡ map (λ f. f at) (conditions_of i).guarantees
          ++ (flat_map (λ m. map (λ f. f at) m.ensures_each) (conditions_of i).modes
          ++ (c.one_mode (conditions_of i).modes at ++ c.owed_by_calls (numbering_of i at) is))
      promised i is =
          let gs : List Resolution = map (λ f. f at) (conditions_of i).guarantees in
          let es : List Resolution = flat_map (λ m. map (λ f. f at) m.ensures_each) (conditions_of i).modes in
          let one : List Resolution = one_mode (map (mode_at at) (conditions_of i).modes) in
          let owes : List Resolution = c.owed_by_calls (numbering_of i at) is in
          append_assoc gs (es ++ one) owes
          ∙ ap (λ l. gs ++ l) (append_assoc es one owes ∙ ap (λ l. es ++ (l ++ owes)) (one_mode_so at (conditions_of i).modes))
