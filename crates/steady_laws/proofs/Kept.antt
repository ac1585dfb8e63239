-- A steady constant expression has by kept values, and by tables that find the constants, its own value.
use Rattle.std.proofs.Common.{◌≡◌, ℕ, true, false, ◌&&◌, List, [], ◌∷◌, map, Option, Some, None, is_some, refl, ap, ◌∙◌, subst, pos}
use Rattle.std.specs.Prelude.{unwrap_or}
use Rattle.std.specs.Map.{lookup}
use Rattle.std.specs.Str.{bytes_eq}
use Rattle.std.proofs.lemmas.Bool.{false≢true}
use Rattle.lus_tree.specs.Tree.{Name, Expression, truth, number, name, negation, minus, pre, arrow, binary, choice, sampled, merged, call, condact, mode_name, Variable, Component}
use Rattle.lus_meaning.specs.Value.{Value, absent, whole, not_value, minus_value}
use Rattle.lus_meaning.specs.Frame.{empty_frame, entry}
use Rattle.lus_meaning.specs.Meaning.{constant_or}
use Rattle.lus_meaning.specs.Scene.{Manner, plain, while_true, as_import, Site, Instance, component_of, constants_of, call_instance}
use Rattle.lus_meaning.specs.Program.{constant_value}
use Rattle.lus_meaning.specs.Scope.{apply_total, choose_total}
use Rattle.rule_laws.proofs.Truths.{both_true}
use Rattle.sys_terms.specs.View.{Formula}
use Rattle.sys_meaning.specs.Defaults.{is_constant, default_of}
use Rattle.sys_meaning.specs.Part.{variable, fixed, equal_parts}
use Rattle.sys_meaning.specs.Slot.{own, held}
use Rattle.sys_meaning.specs.System.{held_first}
use Rattle.sys_meaning.specs.Translate.{Stage}
use Rattle.sys_conditions.specs.Conditioned.{held_at_first}
use Rattle.sys_conditions.specs.Laws.{output_of}
use Rattle.sys_parts.specs.Values.{tame}
use Rattle.sys_texts.specs.Laws.{IsSteady}
use Rattle.sys_texts.specs.Sights.{Sight, Mode}
use Rattle.sys_texts.specs.Texts.{known, negated, opposite, operated, chosen, folded, folded_name}
use Rattle.steady_laws.specs.Kept.{kept_value}
use Rattle.steady_laws.specs.Laws.{ValuesAreKept, FoldedIsKnown, FirstIsHeld}
use Rattle.steady_laws.specs.Steady.{HasDefaults, first_held}
use Rattle.steady_laws.proofs.Small.{tame_small}

module _ (cs : List (Name × Value)) where
  named_kept : (x : Name) (o : Option Value) → is_some o ≡ true → unwrap_or o absent ≡ constant_or o (λ t. true) (entry empty_frame x) 0
  named_kept x (Some v) k = refl
  named_kept x None k = absurd (false≢true k)

  value_kept : (e : Expression) → IsSteady cs e → is_constant cs e ≡ true → kept_value cs e ≡ constant_value cs e
  value_kept (truth p b) u k = refl
  value_kept (number p n) u k = tame_small (whole (pos n)) u
  value_kept (name p x) u k = named_kept x (lookup (bytes_eq x) cs) k
  value_kept (negation p a) u k = ap not_value (value_kept a u k)
  value_kept (minus p a) u k = ap (λ v. tame (minus_value v)) (value_kept a u.1 k) ∙ u.0 k
  value_kept (binary p o a b) u k =
      let q = both_true (is_constant cs a) (is_constant cs b) k in
      ap (λ v. tame (apply_total o v (kept_value cs b))) (value_kept a u.2 q.0)
      ∙ ap (λ w. tame (apply_total o (constant_value cs a) w)) (value_kept b u.3 q.1)
      ∙ u.1 k
  value_kept (choice p a b d) u k =
      let q = both_true (is_constant cs a) (is_constant cs b && is_constant cs d) k in
      let r = both_true (is_constant cs b) (is_constant cs d) q.1 in
      ap (λ v. choose_total v (kept_value cs b) (kept_value cs d)) (value_kept a u.1 q.0)
      ∙ ap (λ v. choose_total (constant_value cs a) v (kept_value cs d)) (value_kept b u.2 r.0)
      ∙ ap (λ v. choose_total (constant_value cs a) (constant_value cs b) v) (value_kept d u.3 r.1)
      ∙ u.0 k
  value_kept (pre p j a) u k = absurd (false≢true k)
  value_kept (arrow p j a b) u k = absurd (false≢true k)
  value_kept (sampled p a b x) u k = absurd (false≢true k)
  value_kept (merged p x a b) u k = absurd (false≢true k)
  value_kept (call p j f as_) u k = absurd (false≢true k)
  value_kept (condact p j a f as_ ds) u k = absurd (false≢true k)
  value_kept (mode_name p d m) u k = absurd (false≢true k)

module _ (s : Sight) (ms : List Mode) (cs : List (Name × Value)) (h : (x : Name) → s.constant x ≡ lookup (bytes_eq x) cs) where
  named_folded : (x : Name) (o : Option Value) → is_some o ≡ true →
      folded_name s x o ≡ known (constant_or o (λ t. true) (entry empty_frame x) 0)
  named_folded x (Some v) k = refl
  named_folded x None k = absurd (false≢true k)

  folded_is : (e : Expression) → IsSteady cs e → is_constant cs e ≡ true → folded s ms e ≡ known (constant_value cs e)
  folded_is (truth p b) u k = refl
  folded_is (number p n) u k = ap known (tame_small (whole (pos n)) u)
  folded_is (name p x) u k = ap (folded_name s x) (h x) ∙ named_folded x (lookup (bytes_eq x) cs) k
  folded_is (negation p a) u k = ap negated (folded_is a u k)
  folded_is (minus p a) u k = ap opposite (folded_is a u.1 k) ∙ ap known (u.0 k)
  folded_is (binary p o a b) u k =
      let q = both_true (is_constant cs a) (is_constant cs b) k in
      ap (λ f. operated o f (folded s ms b)) (folded_is a u.2 q.0)
      ∙ ap (operated o (known (constant_value cs a))) (folded_is b u.3 q.1)
      ∙ ap known (u.1 k)
  folded_is (choice p a b d) u k =
      let q = both_true (is_constant cs a) (is_constant cs b && is_constant cs d) k in
      let r = both_true (is_constant cs b) (is_constant cs d) q.1 in
      ap (λ f. chosen f (folded s ms b) (folded s ms d)) (folded_is a u.1 q.0)
      ∙ ap (λ f. chosen (known (constant_value cs a)) f (folded s ms d)) (folded_is b u.2 r.0)
      ∙ ap (chosen (known (constant_value cs a)) (known (constant_value cs b))) (folded_is d u.3 r.1)
      ∙ ap known (u.0 k)
  folded_is (pre p j a) u k = absurd (false≢true k)
  folded_is (arrow p j a b) u k = absurd (false≢true k)
  folded_is (sampled p a b x) u k = absurd (false≢true k)
  folded_is (merged p x a b) u k = absurd (false≢true k)
  folded_is (call p j f as_) u k = absurd (false≢true k)
  folded_is (condact p j a f as_ ds) u k = absurd (false≢true k)
  folded_is (mode_name p d m) u k = absurd (false≢true k)

pub values_are_kept : ValuesAreKept
values_are_kept cs e u k = value_kept cs e u k

pub folded_is_known : FoldedIsKnown
folded_is_known s ms cs h e u k = folded_is s ms cs h e u k

-- ---- what is held at first

outputs_first : (g : Stage) (k : ℕ) (vs : List Variable) (ws : List Value) → map (λ v. default_of g.place k v.name.text) vs ≡ ws →
    held_at_first (map (output_of g k) vs) ws
    ≡ map (λ v. equal_parts (variable v.sort (g.number (own (held k v.name.text)))) (fixed (default_of g.place k v.name.text))) vs
outputs_first g k vs ws e = subst (λ us. held_at_first (map (output_of g k) vs) us ≡ given vs) e (each vs)
  where
    given : List Variable → List Formula
    given us = map (λ v. equal_parts (variable v.sort (g.number (own (held k v.name.text)))) (fixed (default_of g.place k v.name.text))) us

    each : (us : List Variable) → held_at_first (map (output_of g k) us) (map (λ v. default_of g.place k v.name.text) us) ≡ given us
    each [] = refl
    each (u ∷ us) =
        ap (λ fs. equal_parts (variable u.sort (g.number (own (held k u.name.text)))) (fixed (default_of g.place k u.name.text)) ∷ fs) (each us)

first_of : (g : Stage) (s : Site) (m : Manner) (i : Instance) → HasDefaults g.place s m →
    component_of (call_instance g.place s.number) ≡ component_of i → first_held g s m i ≡ held_first g s m i
first_of g s plain i h e = refl
first_of g s (as_import xs) i h e = refl
first_of g s (while_true a) i h e =
    outputs_first g s.number (component_of i).outputs (map (constant_value (constants_of g.place)) s.defaults)
    (subst (λ (n : Component). map (λ v. default_of g.place s.number v.name.text) n.outputs ≡ map (constant_value (constants_of g.place)) s.defaults) e h)

pub first_is_held : FirstIsHeld
first_is_held g s i h e = first_of g s s.manner i h e
