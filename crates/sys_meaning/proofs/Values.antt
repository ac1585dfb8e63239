-- On its clock, what an expression is seen to be in the row of an instant is its value.
use Rattle.std.proofs.Common.{option_map, ◌≡◌, ℕ, Bool, true, false, cond, not, ◌&&◌, List, [], ◌∷◌, map, refl, ap, ◌∙◌, sym, Option, Some, None, option_to_list}
use Rattle.std.specs.Map.{lookup}
use Rattle.std.specs.Str.{bytes_eq}
use Rattle.std.proofs.lemmas.Bool.{false≢true}
use Rattle.lus_tree.specs.declared.place.Sort.{Sort}
use Rattle.lus_tree.specs.declared.place.Sort.TheVariants.{Bool as Flags}
use Rattle.lus_tree.specs.Tree.{Name, text_of, Expression, Expressions, truth, number, name, negation, minus, pre, arrow, binary, choice, sampled, merged, call, condact, mode_name}
use Rattle.lus_meaning.specs.Value.{Value, absent, flag, whole, Stream, is, has_sort, choose, was_on, latest}
use Rattle.lus_meaning.specs.Frame.{entry, first_value}
use Rattle.lus_meaning.specs.Scene.{Clock, sampled_by, Scene, constants_of, is_on}
use Rattle.lus_meaning.specs.Meaning.{value, values, constant_or, mode_stream, call_outputs, held_outputs, head_stream, merge_values}
use Rattle.lus_meaning.specs.Run.{is_typed, sort_of_name, at_instant}
use Rattle.lus_meaning.proofs.Typed.{on_from_is}
use Rattle.sys_meaning.specs.Slot.{named, memory, starting, own}
use Rattle.sys_meaning.specs.Seen.{Row, Sight, seen_or, seen_output, seen_latest, seen_mode, outputs_at, head_value, seen}
use Rattle.sys_meaning.specs.WellTyped.{no_constant, is_declared, clock_here, NameFits, IsMemory, IsStart, IsPlainCall, IsHeldCall, Stands}
use Rattle.sys_meaning.specs.Items.{Key, Known}

pub head_at : (t : ℕ) (xs : List Stream) → head_stream xs t ≡ head_value (at_instant t xs)
head_at t [] = refl
head_at t (x ∷ xs) = refl

pub on_only : (on : Bool) (v w : Value) → on ≡ true → w ≡ v → w ≡ cond on v absent
on_only true v w e h = h
on_only false v w e h = absurd (false≢true e)

pub choose_start : (k : Bool) (v w : Value) → choose (flag (not k)) v w ≡ cond k w v
choose_start true v w = refl
choose_start false v w = refl

-- a merge chooses by a truth value
pub merge_seen : (v : Value) (a b a' b' : Value) → has_sort Flags v ≡ true → (is true v ≡ true → a ≡ a') →
    (is false v ≡ true → b ≡ b') → choose v a b ≡ merge_values v a' b'
merge_seen absent a b a' b' h f g = absurd (false≢true h)
merge_seen (whole n) a b a' b' h f g = absurd (false≢true h)
merge_seen (flag true) a b a' b' h f g = f refl
merge_seen (flag false) a b a' b' h f g = g refl

pub on_sort : (s : Sort) (on : Bool) (v : Value) → is_typed s on v ≡ true → on ≡ true → has_sort s v ≡ true
on_sort s true v h e = h
on_sort s false v h e = absurd (false≢true e)

module _ (s : Scene) (ModeAt : Key → Type 0) (row : Row) (modes : Known Value) (t : ℕ) where
  abbrev pub sight : Sight
  sight = record { place = s.place; row = row; modes = modes }

  -- the row has the frame's variables at the instant
  pub record IsRow : Type 0 where
    pub types : (x : Name) → no_constant s.place ModeAt x → is_declared s.place ModeAt x →
        is_typed (sort_of_name s.place x) (is_on s (clock_here s.place ModeAt x) t) (entry s.frame x t) ≡ true
    pub names : (x : Name) → no_constant s.place ModeAt x → is_declared s.place ModeAt x →
        is_on s (clock_here s.place ModeAt x) t ≡ true → row (own (named x)) ≡ entry s.frame x t
    pub memories : (k : ℕ) (c : Clock) (a : Expression) → IsMemory s.place ModeAt k c a →
        row (own (memory k)) ≡ latest (is_on s c) (value s c a) (first_value s.frame k) t
    pub starts : (k : ℕ) (c : Clock) → IsStart s.place ModeAt k c →
        row (own (starting k)) ≡ flag (not (was_on (is_on s c) t))
    pub calls : (k : ℕ) (c : Clock) → IsPlainCall s.place ModeAt k c → is_on s c t ≡ true →
        map (seen_output sight k) (outputs_at sight k) ≡ at_instant t (call_outputs s k)
    pub held_calls : (k : ℕ) (c : Clock) (a : Expression) (ds : Expressions) → IsHeldCall s.place ModeAt k c a ds →
        is_on s c t ≡ true → seen sight a ≡ value s c a t →
        map (seen_latest sight k) (outputs_at sight k) ≡ at_instant t (held_outputs (is_on s c)
        (λ t. is_on s c t && is true (value s c a t)) (call_outputs s k) (values s c ds))
    pub modes_same : (d : Option Name) (n : Name) → ModeAt (option_to_list d, n) → s.beat t ≡ true →
        seen_mode sight (option_to_list d, n) ≡ mode_stream s d n t

  module _ (r : IsRow) where
    name_seen : (o : Option Value) (c : Clock) (x : Name) → lookup (bytes_eq x) (constants_of s.place) ≡ o →
        NameFits s.place ModeAt o c x → is_on s c t ≡ true →
        seen_or o (row (own (named x))) ≡ constant_or o (is_on s c) (entry s.frame x) t
    name_seen None c x e h o = r.names x e h.0 (ap (λ k. is_on s k t) h.1 ∙ o)
    name_seen (Some v) c x e h o = on_only (is_on s c t) v v o refl

    pub value_seen : (e : Expression) (c : Clock) → Stands s.place ModeAt c e → is_on s c t ≡ true →
        seen sight e ≡ value s c e t
    value_seen (truth p b) c h o = rw o refl
    value_seen (number p n) c h o = rw o refl
    value_seen (name p x) c h o = name_seen (lookup (bytes_eq x) (constants_of s.place)) c x refl h o
    value_seen (negation p a) c h o = rw (o, value_seen a c h.1 o) refl
    value_seen (minus p a) c h o = rw (o, value_seen a c h.1 o) refl
    value_seen (pre p k a) c h o = rw (o, r.memories k c a h.0) refl
    value_seen (arrow p k a b) c h o =
        rw (o, r.starts k c h.0, value_seen a c h.2 o, value_seen b c h.3 o) (choose_start (was_on (is_on s c) t)
        (value s c a t) (value s c b t))
    value_seen (binary p q a b) c h o = rw (o, value_seen a c h.3 o, value_seen b c h.4 o) refl
    value_seen (choice p a b d) c h o = rw (o, value_seen a c h.2 o, value_seen b c h.3 o, value_seen d c h.4 o) refl
    value_seen (sampled p a q x) c h o =
        let on : is q (entry s.frame x.text t) ≡ true = sym (ap (λ k. is_on s k t) h.0) ∙ o in
        let mine : is_on s (clock_here s.place ModeAt x.text) t ≡ true =
        on_from_is (sort_of_name s.place x.text) q (is_on s (clock_here s.place ModeAt x.text) t)
        (entry s.frame x.text t) (r.types x.text h.1.stream h.1.declared) on in
        rw (on, value_seen a (clock_here s.place ModeAt x.text) h.2 mine) refl
    value_seen (merged p x a b) c h o =
        let mine : is_on s (clock_here s.place ModeAt x.text) t ≡ true = ap (λ k. is_on s k t) h.0.clock ∙ o in
        let typed : has_sort Flags (entry s.frame x.text t) ≡ true =
        on_sort Flags (is_on s (clock_here s.place ModeAt x.text) t) (entry s.frame x.text t) (rw (sym h.1)
        (r.types x.text h.0.stream h.0.declared)) mine in
        rw (r.names x.text h.0.stream h.0.declared mine)
        (merge_seen (entry s.frame x.text t) (seen sight a) (seen sight b) (value s (sampled_by true x.text) a t)
        (value s (sampled_by false x.text) b t) typed
        (value_seen a (sampled_by true x.text) h.3) (value_seen b (sampled_by false x.text) h.4))
    value_seen (call p k f as_) c h o = ap head_value (r.calls k c h.0 o) ∙ sym (head_at t (call_outputs s k))
    value_seen (condact p k a f as_ ds) c h o =
        ap head_value (r.held_calls k c a ds h.0 o (value_seen a c h.2 o)) ∙ sym (head_at t (held_outputs
        (is_on s c) (λ t. is_on s c t && is true (value s c a t)) (call_outputs s k) (values s c ds)))
    value_seen (mode_name p d m) c h o =
        r.modes_same (option_map text_of d) m.text h.1 (sym (ap (λ k. is_on s k t) h.0) ∙ o)
