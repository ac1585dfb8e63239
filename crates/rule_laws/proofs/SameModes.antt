-- The value of an expression depends on no other modes than those that it names.
use Rattle.std.proofs.Common.{◌≡◌, ℕ, true, false, ◌&&◌, refl, arith, option_map}
use Rattle.std.specs.Map.{lookup}
use Rattle.std.specs.Str.{bytes_eq}
use Rattle.lus_tree.specs.Tree.{text_of, Expression, Expressions, truth, number, name, negation, minus, pre, arrow, binary, choice, sampled, merged, call, condact, mode_name, no_more, more}
use Rattle.lus_meaning.specs.Value.{Instants, is, latest}
use Rattle.lus_meaning.specs.Frame.{Frame, entry, first_value, call_frame}
use Rattle.lus_meaning.specs.Scene.{Clock, base, sampled_by, Scene, Instance, ModeStreams, clock_of, component_of, constants_of, call_instance, outputs_of, is_on}
use Rattle.lus_meaning.specs.Meaning.{value, values, mode_stream}
use Rattle.lus_meaning.specs.Occurrences.{Standing, within, before, moved, Occurrence}
use Rattle.lus_meaning.proofs.Agree.{only_agree, was_on_agree, latest_agree, constant_agree, AgreeLists, held_agree}
use Rattle.lus_meaning.proofs.EachPart.{Each, EachAmong}

module _ (i : Instance) (f : Frame) (b : Instants) (m m' : ModeStreams) where
  abbrev s : Scene
  s = record { place = i; frame = f; beat = b; modes = m }

  abbrev s' : Scene
  s' = record { place = i; frame = f; beat = b; modes = m' }

  -- a mode that is named is the same in both
  abbrev pub IsSame : Expression → Type 0
  IsSame (mode_name p d x) = (u : ℕ) → mode_stream s (option_map text_of d) x.text u ≡ mode_stream s' (option_map text_of d) x.text u
  IsSame _ = Unit {0}

  abbrev pub SameMode : Occurrence → Type 0
  SameMode o = IsSame o.expression

  abbrev here : Standing → Expression → Type 0
  here = Each SameMode (component_of i)

  on_same : (c : Clock) (u : ℕ) → is_on s c u ≡ is_on s' c u
  on_same base u = refl
  on_same (sampled_by q x) u = refl

  mutual
    pub same_value : (e : Expression) (t : Standing) → here t e → (u : ℕ) → value s t.clock e u ≡ value s' t.clock e u
    same_value (truth p q) t h u = rw (on_same t.clock u) refl
    same_value (number p n) t h u = rw (on_same t.clock u) refl
    same_value (name p x) t h u = constant_agree (is_on s t.clock) (is_on s' t.clock) (entry f x) (entry f x)
        (lookup (bytes_eq x) (constants_of i)) u (on_same t.clock u) refl
    same_value (negation p a) t h u = rw (on_same t.clock u, same_value a (within t) h.1 u) refl
    same_value (minus p a) t h u = rw (on_same t.clock u, same_value a (within t) h.1 u) refl
    same_value (pre p k a) t h u = only_agree (is_on s t.clock) (is_on s' t.clock)
        (latest (is_on s t.clock) (value s t.clock a) (first_value f k)) (latest (is_on s' t.clock) (value s' t.clock a) (first_value f k)) u
        (on_same t.clock u)
        (latest_agree (is_on s t.clock) (is_on s' t.clock) (value s t.clock a) (value s' t.clock a) (first_value f k) (first_value f k) u
        (λ v g. on_same t.clock v) (λ v g. same_value a (before t) h.1 v) refl)
    same_value (arrow p k a d) t h u = rw (
      on_same t.clock u,
      was_on_agree (is_on s t.clock) (is_on s' t.clock) u (λ v g. on_same t.clock v),
      same_value a (within t) h.1 u,
      same_value d (within t) h.2 u,
    ) refl
    same_value (binary p o a d) t h u = rw (on_same t.clock u, same_value a (within t) h.1 u, same_value d (within t) h.2 u) refl
    same_value (choice p a d e) t h u =
        rw (on_same t.clock u, same_value a (within t) h.1 u, same_value d (within t) h.2 u, same_value e (within t) h.3 u) refl
    same_value (sampled p a q x) t h u = rw (same_value a (moved (clock_of (component_of i) x.text) t) h.1 u) refl
    same_value (merged p x a d) t h u =
        rw (same_value a (moved (sampled_by true x.text) t) h.1 u, same_value d (moved (sampled_by false x.text) t) h.2 u) refl
    same_value (call p k g as_) t h u = refl
    same_value (condact p k a g as_ ds) t h u = held_agree u (is_on s t.clock) (is_on s' t.clock)
        (λ v. is_on s t.clock v && is true (value s t.clock a v)) (λ v. is_on s' t.clock v && is true (value s' t.clock a v))
        (entry (call_frame f k)) (entry (call_frame f k)) (outputs_of (call_instance i k)) (values s t.clock ds) (values s' t.clock ds)
        (λ v g. on_same t.clock v) (λ v g. rw (on_same t.clock v, same_value a (within t) h.1 v) refl) (λ x v g. refl)
        (same_values u ds (within t) h.3) u (omega arith)
    same_value (mode_name p d x) t h u = h u

    same_values : (end : ℕ) (es : Expressions) (t : Standing) → EachAmong SameMode (component_of i) t es
        → AgreeLists end (values s t.clock es) (values s' t.clock es)
    same_values end no_more t h = tt
    same_values end (more a as_) t h = (λ v g. same_value a t h.0 v, same_values end as_ t h.1)
