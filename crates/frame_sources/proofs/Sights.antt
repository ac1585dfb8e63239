-- A sight that finds what the translation finds has the numbers of the frame's places.
use Rattle.std.proofs.Common.{◌≡◌, ℕ, Bool, true, false, cond, ◌&&◌, List, [], ◌∷◌, map, Option, Some, None, unwrap_or, refl, sym, ap, ◌∙◌}
use Rattle.std.specs.Prelude.{option_to_list}
use Rattle.std.specs.Option.{option_map_or}
use Rattle.std.specs.Map.{lookup}
use Rattle.std.specs.Str.{bytes_eq}
use Rattle.lus_tree.specs.declared.place.Sort.{Sort}
use Rattle.lus_tree.specs.declared.place.Sort.TheVariants.{Bool as Flags, Int as Numbers}
use Rattle.lus_tree.specs.Tree.{Name, Variable, Expression, truth, number, name, negation, minus, pre, arrow, binary, choice, sampled, merged, call, condact, mode_name}
use Rattle.lus_meaning.specs.Meaning.{mode_key, same_path}
use Rattle.lus_meaning.specs.Scene.{Clock, base, sampled_by, Instance, call_instance, component_of}
use Rattle.lus_meaning.specs.Value.{absent, flag}
use Rattle.sys_terms.specs.View.{Formula}
use Rattle.sys_terms.specs.View as f
use Rattle.sys_meaning.specs.Items.{Known}
use Rattle.sys_meaning.specs.Part.{Part, a_flag, a_number}
use Rattle.sys_meaning.specs.Slot.{Place}
use Rattle.sys_meaning.specs.Translate as t
use Rattle.sys_texts.specs.Laws.{IsSightOf}
use Rattle.sys_texts.specs.Sights.{Sight, Call, Output, is_way, output_part, latest_part}
use Rattle.sys_contracts.specs.Laws.{bare, way_of}
use Rattle.slot_values.specs.Resolution.{Resolution}
use Rattle.slot_values.specs.Resolution as r
use Rattle.slot_values.specs.Resolved as n
use Rattle.slot_values.specs.Resolved.{Numbering, first_resolution, resolution, right_resolutions}
use Rattle.evaluation_laws.specs.Resolvings.{Resolving, at_numbers}
use Rattle.slot_sources.specs.declared.source.Switch.{Switch}
use Rattle.slot_sources.specs.Sources.{numbering_of, switch_of}
use Rattle.frame_sources.specs.Resolved.{Asked, IsNumberedBy, asked_of, call_by, latest_by, latest_each_by, output_by, outputs_by, resolved_by, rights_by}
use Rattle.frame_sources.specs.Sourced.{switch_by}
use Rattle.frame_sources.specs.Laws.{asked_at}
use Rattle.frame_sources.proofs.Resolutions.{resolved_is}

twice : {A B C : Type 0} (f : B → C) (h : A → B) (xs : List A) → map f (map h xs) ≡ map (λ x. f (h x)) xs
twice f h [] = refl
twice f h (x ∷ xs) = ap (λ l. f (h x) ∷ l) (twice f h xs)

each_same : {A B : Type 0} (f h : A → B) → ((x : A) → f x ≡ h x) → (xs : List A) → map f xs ≡ map h xs
each_same f h e [] = refl
each_same f h e (x ∷ xs) = ap (λ y. y ∷ map f xs) (e x) ∙ ap (λ l. h x ∷ l) (each_same f h e xs)

-- ---- what a part tells of the variables in it

abbrev slot_in : Part → Resolution
slot_in (a_flag (f.flag v)) = r.slot v.number
slot_in (a_number (f.number v)) = r.slot v.number
slot_in _ = r.known absent

abbrev latest_in : Resolution → Part → Resolution
latest_in a (a_flag (f.choice (f.flag b) (f.flag v) (f.flag h))) = r.latest a b.number v.number h.number
latest_in a (a_number (f.chosen (f.flag b) (f.number v) (f.number h))) = r.latest a b.number v.number h.number
latest_in a _ = r.known absent

output_told : (o : Output) → output_by o ≡ slot_in (output_part o)
output_told o = go o.sort
  where
    go : (z : Sort) → r.slot o.number ≡ slot_in (output_part (record { sort = z; number = o.number; held = o.held }))
    go Flags = refl
    go Numbers = refl

latest_told : (a : Resolution) (b : ℕ) (o : Output) → latest_by a b o ≡ latest_in a (latest_part b o)
latest_told a b o = go o.sort
  where
    go : (z : Sort) → r.latest a b o.number o.held ≡ latest_in a (latest_part b (record { sort = z; number = o.number; held = o.held }))
    go Flags = refl
    go Numbers = refl

-- ---- modes

and_true : (b : Bool) → (b && true) ≡ b
and_true true = refl
and_true false = refl

and_false : (b : Bool) → (b && false) ≡ false
and_false true = refl
and_false false = refl

same_way : (c : Option Name) (ks : List Name) → is_way c (way_of ks) ≡ same_path (option_to_list c) ks
same_way None [] = refl
same_way None (d ∷ []) = refl
same_way None (d ∷ e ∷ ks) = refl
same_way (Some c) [] = refl
same_way (Some c) (d ∷ []) = sym (and_true (bytes_eq c d))
same_way (Some c) (d ∷ e ∷ ks) = sym (and_false (bytes_eq c d))

modes_known : (at : Place → ℕ) (ks : Known Resolving) (c : Option Name) (x : Name)
    → unwrap_or (lookup (mode_key (option_to_list c, x)) (at_numbers at ks)) (r.known (flag false)) ≡ asked_of (map (asked_at at) ks) c x
modes_known at [] c x = refl
modes_known at (m ∷ ks) c x =
    pick (mode_key (option_to_list c, x) m.0) (modes_known at ks c x)
    ∙ ap (λ b. cond (b && bytes_eq x m.0.1) (m.1 at) (asked_of (map (asked_at at) ks) c x)) (sym (same_way c m.0.0))
  where
    pick : (b : Bool) → unwrap_or (lookup (mode_key (option_to_list c, x)) (at_numbers at ks)) (r.known (flag false)) ≡ asked_of (map (asked_at at) ks) c x
        → unwrap_or (cond b (Some (m.1 at)) (lookup (mode_key (option_to_list c, x)) (at_numbers at ks))) (r.known (flag false))
        ≡ cond b (m.1 at) (asked_of (map (asked_at at) ks) c x)
    pick true e = refl
    pick false e = e

abbrev switch_on : Bool → ℕ → Switch
switch_on b k = record { slot = k; wanted = b }

module _ (s : Sight) (i : Instance) (at : Place → ℕ) (h : IsSightOf s [] (bare i at)) where
  abbrev g : Numbering
  g = numbering_of i at

  output_said : (k : ℕ) (v : Variable) → slot_in (t.output_part (bare i at) k v) ≡ n.output_resolution g k v.name.text
  output_said k v = go v.sort
    where
      go : (z : Sort) → slot_in (t.output_part (bare i at) k (record { name = v.name; sort = z; clock = v.clock })) ≡ n.output_resolution g k v.name.text
      go Flags = refl
      go Numbers = refl

  latest_said : (k : ℕ) (a : Resolution) (v : Variable) → latest_in a (t.latest_part (bare i at) k v) ≡ n.latest_resolution g k a v.name.text
  latest_said k a v = go v.sort
    where
      go : (z : Sort) → latest_in a (t.latest_part (bare i at) k (record { name = v.name; sort = z; clock = v.clock })) ≡ n.latest_resolution g k a v.name.text
      go Flags = refl
      go Numbers = refl

  outputs_told : (o : Option Call) → outputs_by o ≡ map slot_in (option_map_or (λ (c : Call). map output_part c.outputs) o [])
  outputs_told None = refl
  outputs_told (Some c) = each_same output_by (λ o. slot_in (output_part o)) output_told c.outputs ∙ sym (twice slot_in output_part c.outputs)

  latest_each_told : (a : Resolution) (o : Option Call)
      → latest_each_by a o ≡ map (latest_in a) (option_map_or (λ (c : Call). map (latest_part c.beat) c.outputs) o [])
  latest_each_told a None = refl
  latest_each_told a (Some c) =
      each_same (latest_by a c.beat) (λ o. latest_in a (latest_part c.beat o)) (latest_told a c.beat) c.outputs
      ∙ sym (twice (latest_in a) (latest_part c.beat) c.outputs)

  abbrev outputs : ℕ → List Variable
  outputs k = (component_of (call_instance i k)).outputs

  outputs_are : (k : ℕ) → outputs_by (call_by s k) ≡ map (n.output_resolution g k) (n.outputs_at g k)
  outputs_are k =
      outputs_told (call_by s k)
      ∙ (ap (map slot_in) (h.outputs k)
      ∙ (twice slot_in (t.output_part (bare i at) k) (outputs k)
      ∙ (each_same (λ v. slot_in (t.output_part (bare i at) k v)) (λ v. n.output_resolution g k v.name.text) (output_said k) (outputs k)
      ∙ sym (twice (n.output_resolution g k) (λ (v : Variable). v.name.text) (outputs k)))))

  latest_are : (k : ℕ) (a : Resolution) → latest_each_by a (call_by s k) ≡ map (n.latest_resolution g k a) (n.outputs_at g k)
  latest_are k a =
      latest_each_told a (call_by s k)
      ∙ (ap (map (latest_in a)) (h.latest k)
      ∙ (twice (latest_in a) (t.latest_part (bare i at) k) (outputs k)
      ∙ (each_same (λ v. latest_in a (t.latest_part (bare i at) k v)) (λ v. n.latest_resolution g k a v.name.text) (latest_said k a) (outputs k)
      ∙ sym (twice (n.latest_resolution g k a) (λ (v : Variable). v.name.text) (outputs k)))))

  -- ---- with these modes

  module _ (ks : Known Resolving) where
    abbrev with_modes : Numbering
    with_modes = record { place = i; number = at; modes = at_numbers at ks }

    abbrev ms : List Asked
    ms = map (asked_at at) ks

    numbered : IsNumberedBy s ms with_modes
    numbered = record {
      constants = λ x. sym (h.constants x);
      names = λ x. sym (h.numbers x);
      memories = λ k. sym (h.memories k);
      starts = λ k. sym (h.starts k);
      output = λ k. ap first_resolution (sym (outputs_are k));
      latest = λ k a. ap first_resolution (sym (latest_are k a));
      modes = modes_known at ks;
    }

    pub resolved_as : (e : Expression) → resolved_by s ms e ≡ resolution with_modes e
    resolved_as e = sym (resolved_is s ms with_modes numbered e)

    pub rights_as : (e : Expression) → rights_by s ms e ≡ right_resolutions with_modes e
    rights_as (call p k f as_) = outputs_are k
    rights_as (condact p k a f as_ ds) =
        ap (λ z. latest_each_by z (call_by s k)) (resolved_as a) ∙ latest_are k (resolution with_modes a)
    rights_as (truth p b) = ap (λ z. z ∷ []) (resolved_as (truth p b))
    rights_as (number p m) = ap (λ z. z ∷ []) (resolved_as (number p m))
    rights_as (name p x) = ap (λ z. z ∷ []) (resolved_as (name p x))
    rights_as (negation p a) = ap (λ z. z ∷ []) (resolved_as (negation p a))
    rights_as (minus p a) = ap (λ z. z ∷ []) (resolved_as (minus p a))
    rights_as (pre p k a) = ap (λ z. z ∷ []) (resolved_as (pre p k a))
    rights_as (arrow p k a b) = ap (λ z. z ∷ []) (resolved_as (arrow p k a b))
    rights_as (binary p o a b) = ap (λ z. z ∷ []) (resolved_as (binary p o a b))
    rights_as (choice p a b d) = ap (λ z. z ∷ []) (resolved_as (choice p a b d))
    rights_as (sampled p a q x) = ap (λ z. z ∷ []) (resolved_as (sampled p a q x))
    rights_as (merged p x a b) = ap (λ z. z ∷ []) (resolved_as (merged p x a b))
    rights_as (mode_name p d m) = ap (λ z. z ∷ []) (resolved_as (mode_name p d m))

    pub switch_as : (c : Clock) → switch_by s c ≡ switch_of with_modes c
    switch_as base = ap (switch_on true) h.beats
    switch_as (sampled_by b x) = ap (switch_on b) (h.numbers x)
