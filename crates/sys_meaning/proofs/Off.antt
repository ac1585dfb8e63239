-- Off its clock the value of an expression is absent.
use Rattle.std.proofs.Common.{option_map, ◌≡◌, ℕ, Bool, true, false, ◌&&◌, List, [], ◌∷◌, refl, ap, ◌∙◌, sym, Option, Some, None}
use Rattle.std.specs.List.{AllByRecursion}
use Rattle.std.specs.Map.{lookup}
use Rattle.std.specs.Str.{bytes_eq}
use Rattle.std.proofs.lemmas.Bool.{false≢true, true≢false}
use Rattle.lus_tree.specs.declared.place.Sort.{Sort}
use Rattle.lus_tree.specs.Tree.{Name, text_of, Expression, truth, number, name, negation, minus, pre, arrow, binary, choice, sampled, merged, call, condact, mode_name}
use Rattle.lus_meaning.specs.Value.{Value, absent, flag, whole, Stream, Instants, is, only_on}
use Rattle.lus_meaning.specs.Frame.{entry}
use Rattle.lus_meaning.specs.Scene.{Clock, Scene, constants_of, is_on}
use Rattle.lus_meaning.specs.Meaning.{value, values, constant_or, mode_stream, call_outputs, held_outputs, head_stream}
use Rattle.lus_meaning.specs.Run.{is_typed, sort_of_name, at_instant, right_values}
use Rattle.sys_meaning.specs.Items.{Key}
use Rattle.sys_meaning.specs.WellTyped.{no_constant, is_declared, clock_here, NameFits, IsPlainCall, Stands}

pub typed_off : (s : Sort) (on : Bool) (v : Value) → is_typed s on v ≡ true → on ≡ false → v ≡ absent
typed_off s false absent h e = refl
typed_off s true v h e = absurd (true≢false e)
typed_off s false (flag b) h e = absurd (false≢true h)
typed_off s false (whole n) h e = absurd (false≢true h)

abbrev pub all_absent : List Value → Type 0
all_absent vs = AllByRecursion (λ v. v ≡ absent) vs

module _ (s : Scene) (ModeAt : Key → Type 0) (t : ℕ)
    (typed : (x : Name) → no_constant s.place ModeAt x → is_declared s.place ModeAt x → is_typed
    (sort_of_name s.place x) (is_on s (clock_here s.place ModeAt x) t) (entry s.frame x t) ≡ true)
    (calls_off : (k : ℕ) (c : Clock) → IsPlainCall s.place ModeAt k c → is_on s c t ≡ false → all_absent
    (at_instant t (call_outputs s k)))
    (modes_off : (d : Option Name) (m : Name) → s.beat t ≡ false → mode_stream s d m t ≡ absent) where
  only_off : (on : Instants) (xs : Stream) → on t ≡ false → only_on on xs t ≡ absent
  only_off on xs o = rw o refl

  head_off : (xs : List Stream) → all_absent (at_instant t xs) → head_stream xs t ≡ absent
  head_off [] a = refl
  head_off (x ∷ xs) a = a.0

  helds_off : (on act : Instants) (xs ds : List Stream) → on t ≡ false →
      all_absent (at_instant t (held_outputs on act xs ds))
  helds_off on act [] ds o = tt
  helds_off on act (x ∷ xs) [] o = tt
  helds_off on act (x ∷ xs) (d ∷ ds) o = (rw o refl, helds_off on act xs ds o)

  name_off : (o : Option Value) (c : Clock) (x : Name) → lookup (bytes_eq x) (constants_of s.place) ≡ o →
      NameFits s.place ModeAt o c x → is_on s c t ≡ false → constant_or o (is_on s c) (entry s.frame x) t ≡ absent
  name_off None c x e h o =
      typed_off (sort_of_name s.place x) (is_on s (clock_here s.place ModeAt x) t) (entry s.frame x t)
      (typed x e h.0) (ap (λ k. is_on s k t) h.1 ∙ o)
  name_off (Some v) c x e h o = rw o refl

  pub value_off : (e : Expression) (c : Clock) → Stands s.place ModeAt c e → is_on s c t ≡ false →
      value s c e t ≡ absent
  value_off (truth p b) c h o = rw o refl
  value_off (number p n) c h o = rw o refl
  value_off (name p x) c h o = name_off (lookup (bytes_eq x) (constants_of s.place)) c x refl h o
  value_off (negation p a) c h o = rw o refl
  value_off (minus p a) c h o = rw o refl
  value_off (pre p k a) c h o = rw o refl
  value_off (arrow p k a b) c h o = rw o refl
  value_off (binary p q a b) c h o = rw o refl
  value_off (choice p a b d) c h o = rw o refl
  value_off (sampled p a q x) c h o = let off : is q (entry s.frame x.text t) ≡ false =
      sym (ap (λ k. is_on s k t) h.0) ∙ o in rw off refl
  value_off (merged p x a b) c h o =
      let off : entry s.frame x.text t ≡ absent =
      typed_off (sort_of_name s.place x.text) (is_on s (clock_here s.place ModeAt x.text) t)
      (entry s.frame x.text t) (typed x.text h.0.stream h.0.declared) (ap (λ k. is_on s k t) h.0.clock ∙ o) in
      rw off refl
  value_off (call p k f as_) c h o = head_off (call_outputs s k) (calls_off k c h.0 o)
  value_off (condact p k a f as_ ds) c h o =
      rw (head_off (held_outputs (is_on s c) (λ t. is_on s c t && is true (value s c a t)) (call_outputs s k)
      (values s c ds)) (helds_off (is_on s c) (λ t. is_on s c t && is true (value s c a t)) (call_outputs s k)
      (values s c ds) o)) refl
  value_off (mode_name p d m) c h o = modes_off (option_map text_of d) m.text (sym (ap (λ k. is_on s k t) h.0) ∙ o)

  -- all of a right side
  single : (e : Expression) (c : Clock) → Stands s.place ModeAt c e → is_on s c t ≡ false →
      all_absent (at_instant t (value s c e ∷ []))
  single e c h o = (value_off e c h o, tt)

  pub right_off : (e : Expression) (c : Clock) → Stands s.place ModeAt c e → is_on s c t ≡ false →
      all_absent (at_instant t (right_values s c e))
  right_off (truth p b) c h o = single (truth p b) c h o
  right_off (number p n) c h o = single (number p n) c h o
  right_off (name p x) c h o = single (name p x) c h o
  right_off (negation p a) c h o = single (negation p a) c h o
  right_off (minus p a) c h o = single (minus p a) c h o
  right_off (pre p k a) c h o = single (pre p k a) c h o
  right_off (arrow p k a b) c h o = single (arrow p k a b) c h o
  right_off (binary p q a b) c h o = single (binary p q a b) c h o
  right_off (choice p a b d) c h o = single (choice p a b d) c h o
  right_off (sampled p a q x) c h o = single (sampled p a q x) c h o
  right_off (merged p x a b) c h o = single (merged p x a b) c h o
  right_off (call p k f as_) c h o = calls_off k c h.0 o
  right_off (condact p k a f as_ ds) c h o =
      helds_off (is_on s c) (λ t. is_on s c t && is true (value s c a t)) (call_outputs s k) (values s c ds) o
  right_off (mode_name p d m) c h o = single (mode_name p d m) c h o
