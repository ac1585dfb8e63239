-- A state that shows a frame at an instant has its row.
use Rattle.std.proofs.Common.{◌≡◌, ℕ, Bool, true, false, cond, not, ◌&&◌, List, [], ◌∷◌, map, refl, ap, ◌∙◌, sym, Option, Some, None, is_some, option_to_list, option_map, unwrap_or}
use Rattle.std.specs.List.{AllByRecursion}
use Rattle.std.specs.Map.{lookup}
use Rattle.std.specs.Str.{bytes_eq}
use Rattle.std.proofs.lemmas.Bool.{false≢true}
use Rattle.lus_tree.specs.declared.place.Sort.{Sort}
use Rattle.lus_tree.specs.declared.place.Sort.TheVariants.{Bool as Flags, Int as Numbers}
use Rattle.lus_tree.specs.Tree.{Name, Variable, Expression, Expressions, no_more, more, truth, number, name, negation, minus, pre, arrow, binary, choice, sampled, merged, call, condact, mode_name}
use Rattle.lus_meaning.specs.Value.{Value, absent, flag, whole, Instants, is, has_sort, was_on, latest, choose}
use Rattle.lus_meaning.specs.Frame.{entry, first_value, call_frame}
use Rattle.lus_meaning.specs.Scene.{Clock, Manner, plain, Site, Scene, component_of, constants_of, call_instance, is_on}
use Rattle.lus_meaning.specs.Meaning.{value, values, constant_or, call_outputs, held_outputs, mode_stream}
use Rattle.lus_meaning.specs.Program.{constant_value}
use Rattle.lus_meaning.specs.Run.{is_typed, sort_of, sort_of_name, at_instant, active}
use Rattle.lus_meaning.specs.Trace.{or_default}
use Rattle.sys_terms.specs.View.{Formula}
use Rattle.sys_terms.specs.Meaning.{Values}
use Rattle.sys_meaning.specs.Slot.{Place, beat, named, memory, starting, own, in_call, spot_sort}
use Rattle.sys_meaning.specs.Slot as slot
use Rattle.sys_meaning.specs.Items.{Key, Known}
use Rattle.sys_meaning.specs.Defaults.{is_constant, site_of, default_of}
use Rattle.sys_meaning.specs.State.{held_before}
use Rattle.sys_meaning.specs.Part.{value_in}
use Rattle.sys_meaning.specs.Seen.{Row, Sight, seen, seen_output, seen_latest, seen_mode, row_of}
use Rattle.sys_meaning.specs.WellTyped.{no_constant, is_declared, clock_here, IsMemory, IsStart, OutputFits, IsPlainCall, IsHeldCall, DefaultsFit}
use Rattle.lus_meaning.proofs.Agree.{latest_agree}
use Rattle.sys_meaning.proofs.Values.{IsRow, sight}
use Rattle.sys_meaning.proofs.Static.{modes_in}
use Rattle.sys_meaning.proofs.Present.{NameShown, NameTyped}

-- ---- constants

and_left : (a b : Bool) → (a && b) ≡ true → a ≡ true
and_left true b e = refl
and_left false b e = absurd (false≢true e)

and_right : (a b : Bool) → (a && b) ≡ true → b ≡ true
and_right true b e = e
and_right false b e = absurd (false≢true e)

-- where a clock is on, a constant expression has its value
pub constant_on : (s : Scene) (c : Clock) (t : ℕ) (e : Expression) → is_constant (constants_of s.place) e ≡ true →
    is_on s c t ≡ true → value s c e t ≡ constant_value (constants_of s.place) e
constant_on s c t (truth p b) h o = rw o refl
constant_on s c t (number p n) h o = rw o refl
constant_on s c t (name p x) h o = by (lookup (bytes_eq x) (constants_of s.place)) h
  where
    by : (q : Option Value) → is_some q ≡ true →
        constant_or q (is_on s c) (entry s.frame x) t ≡ constant_or q (λ t. true) (λ t. absent) 0
    by None e = absurd (false≢true e)
    by (Some w) e = rw o refl
constant_on s c t (negation p a) h o = rw (o, constant_on s c t a h o) refl
constant_on s c t (minus p a) h o = rw (o, constant_on s c t a h o) refl
constant_on s c t (binary p q a b) h o =
    let cs = constants_of s.place in
    rw (
      o,
      constant_on s c t a (and_left (is_constant cs a) (is_constant cs b) h) o,
      constant_on s c t b (and_right
          (is_constant cs a) (is_constant cs b) h) o,
    ) refl
constant_on s c t (choice p a b d) h o =
    let cs = constants_of s.place in
    let k : (is_constant cs b && is_constant cs d) ≡ true =
    and_right (is_constant cs a) (is_constant cs b && is_constant cs d) h in
    rw (
      o,
      constant_on s c t a (and_left (is_constant cs a)
          (is_constant cs b && is_constant cs d) h) o,
      constant_on s c t b (and_left (is_constant cs b)
          (is_constant cs d) k) o,
      constant_on s c t d (and_right (is_constant cs b) (is_constant cs d) k) o,
    ) refl
constant_on s c t (pre p k a) h o = absurd (false≢true h)
constant_on s c t (arrow p k a b) h o = absurd (false≢true h)
constant_on s c t (sampled p a b x) h o = absurd (false≢true h)
constant_on s c t (merged p x a b) h o = absurd (false≢true h)
constant_on s c t (call p k f as_) h o = absurd (false≢true h)
constant_on s c t (condact p k a f as_ ds) h o = absurd (false≢true h)
constant_on s c t (mode_name p d m) h o = absurd (false≢true h)

-- ---- values of a type

pub as_it_is : (s : Sort) (v : Value) → has_sort s v ≡ true → or_default s v ≡ v
as_it_is Flags (flag b) h = refl
as_it_is Numbers (whole n) h = refl
as_it_is Flags absent h = absurd (false≢true h)
as_it_is Flags (whole n) h = refl
as_it_is Numbers absent h = absurd (false≢true h)
as_it_is Numbers (flag b) h = refl

pub on_sort : (s : Sort) (on : Bool) (v : Value) → is_typed s on v ≡ true → on ≡ true → has_sort s v ≡ true
on_sort s true v h e = h
on_sort s false v h e = absurd (false≢true e)

-- ---- what a state shows of a frame

module _ (s : Scene) (ModeAt : Key → Type 0) (number : Place → ℕ) (now next : Values) (t : ℕ) where
  -- of a call's outputs
  pub record CallShown (k : ℕ) : Type 0 where
    pub beats : now.flag_at (number (in_call k (own beat))) ≡ active s (site_of s.place k) t
    pub outputs : AllByRecursion (λ v. value_in now v.sort (number (in_call k (own
        (named v.name.text)))) ≡ or_default v.sort (entry (call_frame s.frame k) v.name.text t)) (component_of
        (call_instance s.place k)).outputs
    pub typed : AllByRecursion (λ v. is_typed v.sort (active s (site_of s.place k) t) (entry
        (call_frame s.frame k) v.name.text t) ≡ true) (component_of (call_instance s.place k)).outputs

  abbrev pub row : Row
  row = row_of s.place number now

  module _ (modes : Known Formula) where
    abbrev pub sight_here : Sight
    sight_here = sight s ModeAt row (modes_in now next modes) t

    pub record OwnShown : Type 0 where
      pub beats : now.flag_at (number (own beat)) ≡ s.beat t
      pub names : (x : Name) → no_constant s.place ModeAt x → is_declared s.place ModeAt x →
          NameShown s number now t x
      pub typed : (x : Name) → no_constant s.place ModeAt x → is_declared s.place ModeAt x → NameTyped s t x
      pub memories : (k : ℕ) (c : Clock) (a : Expression) → IsMemory s.place ModeAt k c a →
          value_in now (sort_of s.place a) (number (own (memory k))) ≡ latest (is_on s c) (value s c a)
          (first_value s.frame k) t
      pub starts : (k : ℕ) (c : Clock) → IsStart s.place ModeAt k c →
          now.flag_at (number (own (starting k))) ≡ not (was_on (is_on s c) t)
      pub calls : (k : ℕ) (c : Clock) → IsPlainCall s.place ModeAt k c → CallShown k
      -- where the condition is seen as it is
      pub held_calls : (k : ℕ) (c : Clock) (a : Expression) (ds : Expressions) → IsHeldCall s.place ModeAt k c a ds →
          (is_on s c t ≡ true → seen sight_here a ≡ value s c a t) → CallShown k
      pub held : (k : ℕ) (c : Clock) (a : Expression) (ds : Expressions) → IsHeldCall s.place ModeAt k c a ds →
          AllByRecursion (λ v. value_in now v.sort (number (own
          (slot.held k v.name.text))) ≡ held_before s k v.name.text t) (component_of
          (call_instance s.place k)).outputs

  module _ (modes : Known Formula) (shown : OwnShown modes) where
    abbrev pub seeing : Sight
    seeing = sight_here modes

    outputs_seen : (k : ℕ) (on : Bool) → on ≡ true → (vs : List Variable) →
        AllByRecursion (OutputFits s.place ModeAt k) vs →
        AllByRecursion (λ v. value_in now v.sort (number (in_call k (own (named v.name.text)))) ≡ or_default v.sort
        (entry (call_frame s.frame k) v.name.text t)) vs →
        AllByRecursion (λ v. is_typed v.sort on (entry (call_frame s.frame k) v.name.text t) ≡ true) vs →
        map (seen_output seeing k) (map (λ v. v.name.text) vs) ≡ at_instant t (map (λ x. entry
        (call_frame s.frame k) x) (map (λ v. v.name.text) vs))
    outputs_seen k on o [] n a h = refl
    outputs_seen k on o (v ∷ vs) n a h =
        let here : row (in_call k (own (named v.name.text))) ≡ entry (call_frame s.frame k) v.name.text t =
        ap (λ q. value_in now q (number (in_call k (own (named v.name.text))))) n.0.1 ∙ a.0 ∙ as_it_is v.sort
        (entry (call_frame s.frame k) v.name.text t) (on_sort v.sort on (entry
        (call_frame s.frame k) v.name.text t) h.0 o) in
        rw (here, outputs_seen k on o vs n.1 a.1 h.1) refl

    plain_active : (c : Site) (m : Manner) → c.manner ≡ m → m ≡ plain → is_on s c.clock t ≡ true → active s c t ≡ true
    plain_active c m e d o = rw (o, e, d) refl

    calls_seen : (k : ℕ) (c : Clock) → IsPlainCall s.place ModeAt k c → is_on s c t ≡ true →
        map (seen_output seeing k) (map (λ v. v.name.text) (component_of
        (call_instance s.place k)).outputs) ≡ at_instant t (call_outputs s k)
    calls_seen k c h o =
        let r : CallShown k = shown.calls k c h in
        outputs_seen k (active s (site_of s.place k) t) (plain_active (site_of s.place k)
        (site_of s.place k).manner refl h.manner (ap (λ q. is_on s q t) h.clock ∙ o)) (component_of
        (call_instance s.place k)).outputs h.call.named r.outputs r.typed

    held_active : (k : ℕ) (c : Clock) (a : Expression) (ds : Expressions) → IsHeldCall s.place ModeAt k c a ds →
        (u : ℕ) → active s (site_of s.place k) u ≡ (is_on s c u && is true (value s c a u))
    held_active k c a ds h u = rw (h.clock, h.manner) refl

    -- one held output, where the clock of the call is on
    one_held : (on act : Bool) (out before v w : Value) (b : Bool) → on ≡ true → b ≡ act → (act ≡ true → w ≡ out) →
        v ≡ before → choose (flag b) w v ≡ cond on (cond act out before) absent
    one_held on act out before v w true o e f g = rw (o, sym e) (f (sym e))
    one_held on act out before v w false o e f g = rw (o, sym e) g

    module _ (k : ℕ) (c : Clock) (a : Expression) (ds : Expressions) (h : IsHeldCall s.place ModeAt k c a ds)
        (o : is_on s c t ≡ true) where
      abbrev pub runs : Instants
      runs u = is_on s c u && is true (value s c a u)

      abbrev pub before_of : Name → Value
      before_of x = held_before s k x t

      helds_seen : (vs : List Variable) (es : Expressions) → DefaultsFit s.place ModeAt k vs es →
          AllByRecursion (OutputFits s.place ModeAt k) vs →
          AllByRecursion (λ v. value_in now v.sort (number (in_call k (own
          (named v.name.text)))) ≡ or_default v.sort (entry (call_frame s.frame k) v.name.text t)) vs →
          AllByRecursion (λ v. is_typed v.sort (active s (site_of s.place k) t) (entry
          (call_frame s.frame k) v.name.text t) ≡ true) vs →
          AllByRecursion (λ v. value_in now v.sort (number (own
          (slot.held k v.name.text))) ≡ before_of v.name.text) vs →
          now.flag_at (number (in_call k (own beat))) ≡ active s (site_of s.place k) t →
          map (seen_latest seeing k) (map (λ v. v.name.text) vs) ≡ at_instant t (held_outputs (is_on s c) runs (map
          (λ x. entry (call_frame s.frame k) x) (map (λ v. v.name.text) vs)) (values s c es))
      helds_seen [] no_more d n q y b e = refl
      helds_seen [] (more x es) d n q y b e = refl
      helds_seen (v ∷ vs) no_more d n q y b e = absurd d
      helds_seen (v ∷ vs) (more x es) d n q y b e =
          let out : active s (site_of s.place k) t ≡ true →
          row (in_call k (own (named v.name.text))) ≡ entry (call_frame s.frame k) v.name.text t = λ r.
          ap (λ z. value_in now z (number (in_call k (own (named v.name.text))))) n.0.1 ∙ q.0 ∙ as_it_is v.sort
          (entry (call_frame s.frame k) v.name.text t) (on_sort v.sort (active s (site_of s.place k) t) (entry
          (call_frame s.frame k) v.name.text t) y.0 r) in
          let past : latest (active s (site_of s.place k)) (entry (call_frame s.frame k) v.name.text)
          (default_of s.place k v.name.text) t ≡ latest runs (entry (call_frame s.frame k) v.name.text)
          (value s c x t) t =
          latest_agree (active s (site_of s.place k)) runs (entry (call_frame s.frame k) v.name.text) (entry
          (call_frame s.frame k) v.name.text) (default_of s.place k v.name.text) (value s c x t) t
          (λ u l. held_active k c a ds h u) (λ u l. refl) (d.0 ∙ sym (constant_on s c t x d.1 o)) in
          let mine : row (own (slot.held k v.name.text)) ≡ latest runs (entry (call_frame s.frame k) v.name.text)
          (value s c x t) t =
          ap (λ z. value_in now z (number (own (slot.held k v.name.text)))) n.0.1 ∙ b.0 ∙ past in
          rw (
            one_held (is_on s c t) (runs t) (entry (call_frame s.frame k) v.name.text t) (latest runs (entry
                (call_frame s.frame k) v.name.text) (value s c x t) t) (row (own (slot.held k v.name.text))) (row
                (in_call k (own (named v.name.text)))) (now.flag_at (number (in_call k (own beat)))) o
                (e ∙ held_active k c a ds h t) (λ r. out (held_active k c a ds h t ∙ r)) mine,
            helds_seen vs es d.3 n.1 q.1 y.1 b.1 e,
          ) refl

    abbrev pub modes_agree : Type 0
    modes_agree = (d : Option Name) (n : Name) → ModeAt (option_to_list d, n) → s.beat t ≡ true →
        seen_mode seeing (option_to_list d, n) ≡ mode_stream s d n t

    pub is_row : modes_agree → IsRow s ModeAt row (modes_in now next modes) t
    is_row m = record {
      types = shown.typed;
      names = λ x e d o. shown.names x e d ∙ as_it_is (sort_of_name s.place x) (entry s.frame x t) (on_sort
          (sort_of_name s.place x) (is_on s (clock_here s.place ModeAt x) t) (entry s.frame x t)
          (shown.typed x e d) o);
      memories = λ k c a e. ap (λ o. value_in now (unwrap_or (option_map (λ q. sort_of s.place q.operand) o) Flags)
          (number (own (memory k)))) e ∙ shown.memories k c a e;
      starts = λ k c e. ap flag (shown.starts k c e);
      calls = λ k c e o. calls_seen k c e o;
      held_calls = λ k c a ds e o w.
          let r : CallShown k = shown.held_calls k c a ds e (λ _. w) in
          helds_seen k c a ds e o (component_of
          (call_instance s.place k)).outputs ds e.defaults e.call.named r.outputs r.typed
          (shown.held k c a ds e) r.beats;
      modes_same = m;
    }
