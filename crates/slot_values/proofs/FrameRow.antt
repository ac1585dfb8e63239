-- In a row that shows a frame the resolution of an expression is worth the expression's value.
use Rattle.std.proofs.Common.{◌≡◌, ℕ, Bool, true, false, cond, ◌&&◌, List, [], ◌∷◌, map, refl, ap, ◌∙◌, sym}
use Rattle.std.specs.List.{AllByRecursion}
use Rattle.std.proofs.lemmas.Bool.{false≢true, cases_Bool}
use Rattle.std.proofs.Math.Logic.{◌⊎◌, inl, inr}
use Rattle.lus_tree.specs.declared.place.Sort.{Sort}
use Rattle.lus_tree.specs.declared.place.Sort.TheVariants.{Bool as Flags, Int as Numbers}
use Rattle.lus_tree.specs.Tree.{Variable, Expression, Expressions, no_more, more}
use Rattle.lus_meaning.specs.Value.{Value, absent, flag, whole, Instants, is, latest, choose}
use Rattle.lus_meaning.specs.Frame.{entry, call_frame}
use Rattle.lus_meaning.specs.Scene.{Clock, base, Site, Scene, component_of, call_instance, is_on}
use Rattle.lus_meaning.specs.Meaning.{value, values, call_outputs, held_outputs}
use Rattle.lus_meaning.specs.Run.{is_typed, sort_of_name, at_instant, active}
use Rattle.lus_meaning.proofs.Agree.{latest_agree}
use Rattle.sys_meaning.specs.Slot.{Place, beat, named, held, own, in_call}
use Rattle.sys_meaning.specs.Items.{Key, Known}
use Rattle.sys_meaning.specs.Defaults.{site_of, default_of}
use Rattle.sys_meaning.specs.State.{held_before}
use Rattle.sys_meaning.specs.Seen.{Row, Sight, seen_output, seen_latest}
use Rattle.sys_meaning.specs.WellTyped.{clock_here, IsPlainCall, IsHeldCall, DefaultsFit, Stands}
use Rattle.sys_meaning.proofs.Rows.{constant_on}
use Rattle.sys_meaning.proofs.Values.{IsRow, value_seen}
use Rattle.sys_meaning.proofs.Off.{all_absent, value_off, typed_off}
use Rattle.slot_values.specs.Resolution.{Resolution}
use Rattle.slot_values.specs.Evaluated.{SlotValues, is_there, worth}
use Rattle.slot_values.specs.Resolved.{resolution}
use Rattle.slot_values.specs.Clocked.{row_by, clock_on, IsClocked, Passes, sight_by}
use Rattle.slot_values.specs.FrameRow.{numbering, Shows, ValuesByRows}
use Rattle.slot_values.proofs.WorthSeen.{worth_seen}
use Rattle.slot_values.proofs.WorthOff.{worth_off}

-- a value that is typed is there exactly where its clock is on
pub there_where : (q : Sort) (on : Bool) (v : Value) → is_typed q on v ≡ true → is_there v ≡ on
there_where q false absent e = refl
there_where Flags true (flag b) e = refl
there_where Numbers true (whole n) e = refl
there_where q false (flag b) e = absurd (false≢true e)
there_where q false (whole n) e = absurd (false≢true e)
there_where Flags true absent e = absurd (false≢true e)
there_where Numbers true absent e = absurd (false≢true e)
there_where Flags true (whole n) e = absurd (false≢true e)
there_where Numbers true (flag b) e = absurd (false≢true e)

true_flag : (b : Bool) → is true (flag b) ≡ b
true_flag true = refl
true_flag false = refl

joined : {v w : Value} {vs ws : List Value} → v ≡ w → vs ≡ ws → v ∷ vs ≡ w ∷ ws
joined e h = rw (e, h) refl

module _ (s : Scene) (test : Key → Bool) (number : Place → ℕ) (modes : Known Resolution) (row : SlotValues) (t : ℕ)
    (shows : Shows s test number modes row t) where
  abbrev places : Row
  places = row_by number row

  abbrev sight : Sight
  sight = sight_by (numbering s number modes) row

  clocked : IsClocked s.place (Passes test) places
  clocked x e d =
      ap is_there (shows.names x e d)
      ∙ there_where (sort_of_name s.place x) (is_on s (clock_here s.place (Passes test) x) t) (entry s.frame x t) (shows.types x e d)
      ∙ sym (shows.clocks x e d)

  -- what the modes ask is absent where the base clock is off
  asked_absent : clock_on places base ≡ false → AllByRecursion (λ m. worth row false m.1 ≡ absent) modes
  asked_absent o = shows.asked_off (sym (ap (is true) shows.beats ∙ true_flag (s.beat t)) ∙ o)

  outputs_seen : (k : ℕ) (vs : List Variable) →
      AllByRecursion (λ v. row (number (in_call k (own (named v.name.text)))) ≡ entry (call_frame s.frame k) v.name.text t) vs →
      map (seen_output sight k) (map (λ v. v.name.text) vs) ≡ at_instant t (map (λ x. entry (call_frame s.frame k) x) (map (λ v. v.name.text) vs))
  outputs_seen k [] a = refl
  outputs_seen k (v ∷ vs) a = rw (a.0, outputs_seen k vs a.1) refl

  -- one held output, where the clock of the call is on
  one_held : (on act : Bool) (out before : Value) → on ≡ true → choose (flag act) out before ≡ cond on (cond act out before) absent
  one_held on true out before o = rw o refl
  one_held on false out before o = rw o refl

  module _ (k : ℕ) (c : Clock) (a : Expression) (ds : Expressions) (h : IsHeldCall s.place (Passes test) k c a ds) (o : is_on s c t ≡ true) where
    abbrev runs : Instants
    runs u = is_on s c u && is true (value s c a u)

    runs_active : (u : ℕ) → active s (site_of s.place k) u ≡ runs u
    runs_active u = rw (h.clock, h.manner) refl

    helds_seen : (vs : List Variable) (es : Expressions) → DefaultsFit s.place (Passes test) k vs es →
        AllByRecursion (λ v. row (number (in_call k (own (named v.name.text)))) ≡ entry (call_frame s.frame k) v.name.text t) vs →
        AllByRecursion (λ v. row (number (own (held k v.name.text))) ≡ held_before s k v.name.text t) vs →
        row (number (in_call k (own beat))) ≡ flag (active s (site_of s.place k) t) →
        map (seen_latest sight k) (map (λ v. v.name.text) vs) ≡ at_instant t (held_outputs (is_on s c) runs
        (map (λ x. entry (call_frame s.frame k) x) (map (λ v. v.name.text) vs)) (values s c es))
    helds_seen [] no_more d q b e = refl
    helds_seen [] (more x es) d q b e = refl
    helds_seen (v ∷ vs) no_more d q b e = absurd d
    helds_seen (v ∷ vs) (more x es) d q b e =
        let past : held_before s k v.name.text t ≡ latest runs (entry (call_frame s.frame k) v.name.text) (value s c x t) t =
        latest_agree (active s (site_of s.place k)) runs (entry (call_frame s.frame k) v.name.text) (entry (call_frame s.frame k) v.name.text)
        (default_of s.place k v.name.text) (value s c x t) t (λ u l. runs_active u) (λ u l. refl) (d.0 ∙ sym (constant_on s c t x d.1 o)) in
        let first : seen_latest sight k v.name.text ≡ cond (is_on s c t) (cond (runs t) (entry (call_frame s.frame k) v.name.text t)
        (latest runs (entry (call_frame s.frame k) v.name.text) (value s c x t) t)) absent =
        rw (e, runs_active t, q.0, b.0, past) (one_held (is_on s c t) (runs t) (entry (call_frame s.frame k) v.name.text t)
        (latest runs (entry (call_frame s.frame k) v.name.text) (value s c x t) t) o) in
        joined first (helds_seen vs es d.3 q.1 b.1 e)

  row_is : IsRow s (Passes test) places sight.modes t
  row_is = record {
    types = shows.types;
    names = λ x e d o. shows.names x e d;
    memories = shows.memories;
    starts = shows.starts;
    calls = λ k c e o. outputs_seen k (component_of (call_instance s.place k)).outputs (shows.calls k c e).outputs;
    held_calls = λ k c a ds e o w.
        helds_seen k c a ds e o (component_of (call_instance s.place k)).outputs ds e.defaults (shows.held_calls k c a ds e).0.outputs
        (shows.held_calls k c a ds e).1.held (shows.held_calls k c a ds e).1.beats;
    modes_same = shows.modes_on;
  }

  outputs_off : (k : ℕ) (vs : List Variable) → active s (site_of s.place k) t ≡ false →
      AllByRecursion (λ v. is_typed v.sort (active s (site_of s.place k) t) (entry (call_frame s.frame k) v.name.text t) ≡ true) vs →
      all_absent (at_instant t (map (λ x. entry (call_frame s.frame k) x) (map (λ v. v.name.text) vs)))
  outputs_off k [] o a = tt
  outputs_off k (v ∷ vs) o a =
      (typed_off v.sort (active s (site_of s.place k) t) (entry (call_frame s.frame k) v.name.text t) a.0 o, outputs_off k vs o a.1)

  call_off : (c : Site) → is_on s c.clock t ≡ false → active s c t ≡ false
  call_off c o = rw o refl

  calls_off : (k : ℕ) (c : Clock) → IsPlainCall s.place (Passes test) k c → is_on s c t ≡ false → all_absent (at_instant t (call_outputs s k))
  calls_off k c e o =
      outputs_off k (component_of (call_instance s.place k)).outputs
      (call_off (site_of s.place k) (ap (λ q. is_on s q t) e.clock ∙ o)) (shows.calls k c e).types

  pub value_by_row : (c : Clock) (e : Expression) → Stands s.place (Passes test) c e → clock_on places c ≡ is_on s c t →
      worth row (is_on s c t) (resolution (numbering s number modes) e) ≡ value s c e t
  value_by_row c e h o = go (cases_Bool (is_on s c t))
    where
      go : (is_on s c t ≡ true) ⊎ (is_on s c t ≡ false) → worth row (is_on s c t) (resolution (numbering s number modes) e) ≡ value s c e t
      go (inl y) =
          ap (λ k. worth row k (resolution (numbering s number modes) e)) y
          ∙ worth_seen (numbering s number modes) row (Passes test) clocked c e h (o ∙ y)
          ∙ value_seen s (Passes test) places sight.modes t row_is e c h y
      go (inr n) =
          ap (λ k. worth row k (resolution (numbering s number modes) e)) n
          ∙ worth_off (numbering s number modes) row (Passes test) clocked asked_absent c e h (o ∙ n)
          ∙ sym (value_off s (Passes test) t shows.types calls_off shows.modes_off e c h n)

pub values_by_rows : ValuesByRows
values_by_rows s test number modes row t shows c e h o = value_by_row s test number modes row t shows c e h o

pub absent_by_row : (s : Scene) (test : Key → Bool) (number : Place → ℕ) (modes : Known Resolution) (row : SlotValues) (t : ℕ) →
    Shows s test number modes row t → (c : Clock) (e : Expression) → Stands s.place (Passes test) c e →
    clock_on (row_by number row) c ≡ is_on s c t → is_on s c t ≡ false → worth row (is_on s c t) (resolution (numbering s number modes) e) ≡ absent
absent_by_row s test number modes row t shows c e h o n =
    ap (λ k. worth row k (resolution (numbering s number modes) e)) n
    ∙ worth_off (numbering s number modes) row (Passes test) (clocked s test number modes row t shows)
    (asked_absent s test number modes row t shows) c e h (o ∙ n)
