-- An expression has one value over two lists of modes that say the same of the modes in it.
use Rattle.std.proofs.Common.{option_map, ◌≡◌, ℕ, true, false, ◌&&◌, refl, arith}
use Rattle.std.specs.Map.{lookup}
use Rattle.std.specs.Str.{bytes_eq}
use Rattle.lus_tree.specs.Tree.{text_of, Expression, Expressions, truth, number, name, negation, minus, pre, arrow, binary, choice, sampled, merged, call, condact, mode_name, no_more, more}
use Rattle.lus_meaning.specs.Value.{Instants, is, latest}
use Rattle.lus_meaning.specs.Frame.{Frame, entry, first_value, call_frame}
use Rattle.lus_meaning.specs.Scene.{Clock, base, sampled_by, Scene, Instance, ModeStreams, clock_of, component_of, constants_of, call_instance, outputs_of, is_on}
use Rattle.lus_meaning.specs.Meaning.{value, values, mode_stream}
use Rattle.lus_meaning.specs.Occurrences.{Standing, within, before, moved, Occurrence}
use Rattle.lus_meaning.proofs.EachPart.{Each, EachAmong}
use Rattle.lus_meaning.proofs.Agree.{AgreeLists, held_agree, constant_agree, only_agree, was_on_agree, latest_agree}

module _ (i : Instance) (f : Frame) (b : Instants) (m m' : ModeStreams) where
  abbrev one : Scene
  one = record { place = i; frame = f; beat = b; modes = m }

  abbrev other : Scene
  other = record { place = i; frame = f; beat = b; modes = m' }

  abbrev pub SameModeIn : Expression → Type 0
  SameModeIn (mode_name p d n) = (t : ℕ) → mode_stream one (option_map text_of d) n.text t ≡ mode_stream other (option_map text_of d) n.text t
  SameModeIn _ = Unit {0}

  abbrev pub SameMode : Occurrence → Type 0
  SameMode o = SameModeIn o.expression

  on_same : (c : Clock) (t : ℕ) → is_on one c t ≡ is_on other c t
  on_same base t = refl
  on_same (sampled_by q x) t = refl

  mutual
    pub value_same : (e : Expression) (s : Standing) → Each SameMode (component_of i) s e → (t : ℕ) → value one s.clock e t ≡ value other s.clock e t
    value_same (truth p q) s a t = rw (on_same s.clock t) refl
    value_same (number p n) s a t = rw (on_same s.clock t) refl
    value_same (name p x) s a t = constant_agree (is_on one s.clock) (is_on other s.clock) (entry f x) (entry f x)
        (lookup (bytes_eq x) (constants_of i)) t (on_same s.clock t) refl
    value_same (negation p e) s a t = rw (on_same s.clock t, value_same e (within s) a.1 t) refl
    value_same (minus p e) s a t = rw (on_same s.clock t, value_same e (within s) a.1 t) refl
    value_same (pre p k e) s a t = only_agree (is_on one s.clock) (is_on other s.clock)
        (latest (is_on one s.clock) (value one s.clock e) (first_value f k))
        (latest (is_on other s.clock) (value other s.clock e) (first_value f k)) t (on_same s.clock t)
        (latest_agree (is_on one s.clock) (is_on other s.clock) (value one s.clock e) (value other s.clock e) (first_value f k) (first_value f k) t
        (λ u g. on_same s.clock u) (λ u g. value_same e (before s) a.1 u) refl)
    value_same (arrow p k c d) s a t = rw (
      on_same s.clock t,
      was_on_agree (is_on one s.clock) (is_on other s.clock) t (λ u g. on_same s.clock u),
      value_same c (within s) a.1 t,
      value_same d (within s) a.2 t,
    ) refl
    value_same (binary p o c d) s a t = rw (on_same s.clock t, value_same c (within s) a.1 t, value_same d (within s) a.2 t) refl
    value_same (choice p c d e) s a t = rw (
      on_same s.clock t,
      value_same c (within s) a.1 t,
      value_same d (within s) a.2 t,
      value_same e (within s) a.3 t,
    ) refl
    value_same (sampled p c q x) s a t = rw (value_same c (moved (clock_of (component_of i) x.text) s) a.1 t) refl
    value_same (merged p x c d) s a t = rw (
      value_same c (moved (sampled_by true x.text) s) a.1 t,
      value_same d (moved (sampled_by false x.text) s) a.2 t,
    ) refl
    value_same (call p k g as_) s a t = refl
    value_same (condact p k c g as_ ds) s a t = held_agree t (is_on one s.clock) (is_on other s.clock)
        (λ u. is_on one s.clock u && is true (value one s.clock c u)) (λ u. is_on other s.clock u && is true (value other s.clock c u))
        (entry (call_frame f k)) (entry (call_frame f k)) (outputs_of (call_instance i k)) (values one s.clock ds) (values other s.clock ds)
        (λ u g. on_same s.clock u) (λ u g. rw (on_same s.clock u, value_same c (within s) a.1 u) refl) (λ x u g. refl)
        (values_same t ds (within s) a.3) t (omega arith)
    value_same (mode_name p d n) s a t = a t

    pub values_same : (end : ℕ) (es : Expressions) (s : Standing) → EachAmong SameMode (component_of i) s es → AgreeLists end (values one s.clock es)
        (values other s.clock es)
    values_same end no_more s a = tt
    values_same end (more e es) s a = (λ t h. value_same e s a.0 t, values_same end es s a.1)
