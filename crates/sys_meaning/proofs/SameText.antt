-- The value and the term of an expression depend on no other modes than those that it names.
use Rattle.std.proofs.Common.{◌≡◌, ℕ, Bool, true, false, ◌&&◌, List, [], ◌∷◌, map, refl, ap, arith, Option, Some, option_map, option_to_list, unwrap_or}
use Rattle.std.specs.Prelude.{is_some}
use Rattle.std.specs.Map.{lookup}
use Rattle.std.specs.Str.{bytes_eq}
use Rattle.std.proofs.lemmas.Bool.{false≢true}
use Rattle.lus_tree.specs.declared.expression.Operator.{Operator}
use Rattle.lus_tree.specs.declared.expression.Operator.TheVariants.{Mul, Div, Mod}
use Rattle.lus_tree.specs.Tree.{Name, text_of, Variable, Expression, Expressions, truth, number, name, negation, minus, pre, arrow, binary, choice, sampled, merged, call, condact, mode_name, no_more, more}
use Rattle.lus_meaning.specs.Value.{Value, Instants, is, latest}
use Rattle.lus_meaning.specs.Frame.{Frame, entry, first_value, call_frame}
use Rattle.lus_meaning.specs.Scene.{Clock, base, sampled_by, Scene, Instance, ModeStreams, clock_of, component_of, constants_of, call_instance, outputs_of, is_on}
use Rattle.lus_meaning.specs.Meaning.{value, values, mode_key, constant_or, head_stream}
use Rattle.lus_meaning.proofs.Agree.{only_agree, was_on_agree, latest_agree, constant_agree, AgreeLists, held_agree}
use Rattle.sys_terms.specs.View.{Formula}
use Rattle.sys_terms.specs.View as t
use Rattle.sys_terms.specs.Meaning.{Values}
use Rattle.sys_meaning.specs.Slot.{Place}
use Rattle.sys_meaning.specs.Slot as slot
use Rattle.sys_meaning.specs.Items.{Key, Known}
use Rattle.sys_meaning.specs.Defaults.{is_constant}
use Rattle.sys_meaning.specs.Part.{Part, a_flag, formula_of, not_part, minus_part, choose_part}
use Rattle.sys_meaning.specs.Translate.{Stage, name_flag, flag_at, or_constant, binary_part, term_of, formula}
use Rattle.sys_meaning.specs.Slot.{own, starting}
use Rattle.sys_meaning.specs.WellTyped.{Stands, clock_here, IsAmong, IsCall, IsPlainCall, IsHeldCall, DefaultsFit}
use Rattle.sys_meaning.proofs.Rows.{OwnShown, CallShown}

-- ---- values

and_left : (a b : Bool) → (a && b) ≡ true → a ≡ true
and_left true b e = refl
and_left false b e = absurd (false≢true e)

and_right : (a b : Bool) → (a && b) ≡ true → b ≡ true
and_right true b e = e
and_right false b e = absurd (false≢true e)

module _ (i : Instance) (f : Frame) (b : Instants) (ks : List Key) (m m' : ModeStreams)
    (same : (key : Key) → IsAmong ks key → lookup (mode_key key) m ≡ lookup (mode_key key) m') where
  abbrev s : Scene
  s = record { place = i; frame = f; beat = b; modes = m }

  abbrev s' : Scene
  s' = record { place = i; frame = f; beat = b; modes = m' }

  abbrev ModeAt : Key → Type 0
  ModeAt = IsAmong ks

  abbrev cs : List (Name × Value)
  cs = constants_of i

  on_same : (c : Clock) (u : ℕ) → is_on s c u ≡ is_on s' c u
  on_same base u = refl
  on_same (sampled_by q x) u = refl

  -- a constant expression names no mode
  fixed_same : (e : Expression) (c : Clock) → is_constant cs e ≡ true → (u : ℕ) → value s c e u ≡ value s' c e u
  fixed_same (truth p q) c h u = rw (on_same c u) refl
  fixed_same (number p n) c h u = rw (on_same c u) refl
  fixed_same (name p x) c h u = constant_agree (is_on s c) (is_on s' c) (entry f x) (entry f x)
      (lookup (bytes_eq x) (constants_of i)) u (on_same c u) refl
  fixed_same (negation p a) c h u = rw (on_same c u, fixed_same a c h u) refl
  fixed_same (minus p a) c h u = rw (on_same c u, fixed_same a c h u) refl
  fixed_same (binary p o a d) c h u = rw (
    on_same c u,
    fixed_same a c (and_left (is_constant cs a) (is_constant cs d) h) u,
    fixed_same d c (and_right (is_constant cs a) (is_constant cs d) h) u,
  ) refl
  fixed_same (choice p a d e) c h u =
      let k : (is_constant cs d && is_constant cs e) ≡ true = and_right (is_constant cs a) (is_constant cs d && is_constant cs e) h in rw (
        on_same c u,
        fixed_same a c (and_left (is_constant cs a) (is_constant cs d && is_constant cs e) h) u,
        fixed_same d c (and_left (is_constant cs d) (is_constant cs e) k) u,
        fixed_same e c (and_right (is_constant cs d) (is_constant cs e) k) u,
      ) refl
  fixed_same (pre p k a) c h u = absurd (false≢true h)
  fixed_same (arrow p k a d) c h u = absurd (false≢true h)
  fixed_same (sampled p a q x) c h u = absurd (false≢true h)
  fixed_same (merged p x a d) c h u = absurd (false≢true h)
  fixed_same (call p k g as_) c h u = absurd (false≢true h)
  fixed_same (condact p k a g as_ ds) c h u = absurd (false≢true h)
  fixed_same (mode_name p d x) c h u = absurd (false≢true h)

  defaults_same : (k end : ℕ) (vs : List Variable) (ds : Expressions) (c : Clock) → DefaultsFit i ModeAt k vs ds →
      AgreeLists end (values s c ds) (values s' c ds)
  defaults_same k end [] no_more c h = tt
  defaults_same k end [] (more d ds) c h = absurd h
  defaults_same k end (v ∷ vs) no_more c h = absurd h
  defaults_same k end (v ∷ vs) (more d ds) c h = (λ u g. fixed_same d c h.1 u, defaults_same k end vs ds c h.3)

  pub same_value : (e : Expression) (c : Clock) → Stands i (IsAmong ks) c e → (u : ℕ) → value s c e u ≡ value s' c e u
  same_value (truth p q) c h u = rw (on_same c u) refl
  same_value (number p n) c h u = rw (on_same c u) refl
  same_value (name p x) c h u = constant_agree (is_on s c) (is_on s' c) (entry f x) (entry f x)
      (lookup (bytes_eq x) (constants_of i)) u (on_same c u) refl
  same_value (negation p a) c h u = rw (on_same c u, same_value a c h.1 u) refl
  same_value (minus p a) c h u = rw (on_same c u, same_value a c h.1 u) refl
  same_value (pre p k a) c h u = only_agree (is_on s c) (is_on s' c)
      (latest (is_on s c) (value s c a) (first_value f k)) (latest (is_on s' c) (value s' c a) (first_value f k)) u
      (on_same c u)
      (latest_agree (is_on s c) (is_on s' c) (value s c a) (value s' c a) (first_value f k) (first_value f k) u
      (λ v g. on_same c v) (λ v g. same_value a c h.1 v) refl)
  same_value (arrow p k a d) c h u = rw (
    on_same c u,
    was_on_agree (is_on s c) (is_on s' c) u (λ v g. on_same c v),
    same_value a c h.2 u,
    same_value d c h.3 u,
  ) refl
  same_value (binary p o a d) c h u = rw (on_same c u, same_value a c h.3 u, same_value d c h.4 u) refl
  same_value (choice p a d e) c h u =
      rw (on_same c u, same_value a c h.2 u, same_value d c h.3 u, same_value e c h.4 u) refl
  same_value (sampled p a q x) c h u = rw (same_value a (clock_of (component_of i) x.text) h.2 u) refl
  same_value (merged p x a d) c h u =
      rw (same_value a (sampled_by true x.text) h.3 u, same_value d (sampled_by false x.text) h.4 u) refl
  same_value (call p k g as_) c h u = refl
  same_value (condact p k a g as_ ds) c h u = held_agree u (is_on s c) (is_on s' c)
      (λ v. is_on s c v && is true (value s c a v)) (λ v. is_on s' c v && is true (value s' c a v))
      (entry (call_frame f k)) (entry (call_frame f k)) (outputs_of (call_instance i k)) (values s c ds) (values s' c ds)
      (λ v l. on_same c v) (λ v l. rw (on_same c v, same_value a c h.2 v) refl) (λ x v l. refl)
      (defaults_same k u (component_of (call_instance i k)).outputs ds c h.0.defaults) u (omega arith)
  same_value (mode_name p d x) c h u = ap (λ o. head_stream (option_to_list o) u) (same (option_to_list (option_map text_of d), x.text) h.1)

-- ---- terms

module _ (i : Instance) (at : Place → ℕ) (ks : List Key) (m m' : Known Formula)
    (same : (key : Key) → IsAmong ks key → lookup (mode_key key) m ≡ lookup (mode_key key) m') where
  abbrev g : Stage
  g = record { place = i; number = at; modes = m }

  abbrev g' : Stage
  g' = record { place = i; number = at; modes = m' }

  same_binary : (o : Operator) (a d : Expression) (p q : Part) → binary_part g o a d p q ≡ binary_part g' o a d p q
  same_binary Mul a d p q = refl
  same_binary Div a d p q = refl
  same_binary Mod a d p q = refl
  same_binary _ a d p q = refl

  same_term : (e : Expression) (c : Clock) → Stands i (IsAmong ks) c e → term_of g e ≡ term_of g' e
  same_term (truth p q) c h = refl
  same_term (number p n) c h = refl
  same_term (name p x) c h = refl
  same_term (negation p a) c h = ap (λ q. or_constant g (negation p a) (not_part q)) (same_term a c h.1)
  same_term (minus p a) c h = ap (λ q. or_constant g (minus p a) (minus_part q)) (same_term a c h.1)
  same_term (pre p k a) c h = refl
  same_term (arrow p k a d) c h = rw (same_term a c h.2, same_term d c h.3) refl
  same_term (binary p o a d) c h = rw (same_term a c h.3, same_term d c h.4)
      (ap (λ z. or_constant g (binary p o a d) z) (same_binary o a d (term_of g' a) (term_of g' d)))
  same_term (choice p a d e) c h = rw (same_term a c h.2, same_term d c h.3, same_term e c h.4) refl
  same_term (sampled p a q x) c h = same_term a (clock_of (component_of i) x.text) h.2
  same_term (merged p x a d) c h = rw (same_term a (sampled_by true x.text) h.3, same_term d (sampled_by false x.text) h.4) refl
  same_term (call p k f as_) c h = refl
  same_term (condact p k a f as_ ds) c h = refl
  same_term (mode_name p d x) c h = ap (λ o. a_flag (unwrap_or o (t.truth false))) (same (option_to_list (option_map text_of d), x.text) h.1)

  pub same_formula : (e : Expression) (c : Clock) → Stands i (IsAmong ks) c e → formula g e ≡ formula g' e
  same_formula e c h = ap formula_of (same_term e c h)

-- ---- what a state shows says nothing of modes

module _ (s : Scene) (M N : Key → Type 0) where
  as_call : (k : ℕ) → IsCall s.place N k → IsCall s.place M k
  as_call k h = record { number = h.number; counted = h.counted; listed = h.listed; named = h.named }

  as_plain : (k : ℕ) (c : Clock) → IsPlainCall s.place N k c → IsPlainCall s.place M k c
  as_plain k c h = record { call = as_call k h.call; outputs = h.outputs; clock = h.clock; manner = h.manner }

  as_held : (k : ℕ) (c : Clock) (a : Expression) (ds : Expressions) → IsHeldCall s.place N k c a ds → IsHeldCall s.place M k c a ds
  as_held k c a ds h = record { call = as_call k h.call; outputs = h.outputs; clock = h.clock; manner = h.manner; defaults = h.defaults }

  module _ (num : Place → ℕ) (now next : Values) (u : ℕ) (modes : Known Formula) where
    shown_call : (k : ℕ) → CallShown s M num now next u k → CallShown s N num now next u k
    shown_call k h = record { beats = h.beats; outputs = h.outputs; typed = h.typed }

    -- so it shows the frame to a text that names others
    pub shown_to : OwnShown s M num now next u modes → OwnShown s N num now next u modes
    shown_to h = record {
      beats = h.beats;
      names = h.names;
      typed = h.typed;
      memories = h.memories;
      starts = h.starts;
      calls = λ k c e. shown_call k (h.calls k c (as_plain k c e));
      held_calls = λ k c a ds e w. shown_call k (h.held_calls k c a ds (as_held k c a ds e) w);
      held = λ k c a ds e. h.held k c a ds (as_held k c a ds e);
    }
