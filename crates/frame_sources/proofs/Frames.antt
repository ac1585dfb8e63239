-- The frame of a sight is numbered by the sight.
use Rattle.std.proofs.Common.{◌≡◌, ℕ, zero, suc, Bool, true, false, cond, ◌&&◌, List, [], ◌∷◌, map, Option, Some, None, option_map, unwrap_or, refl, sym, ap, ◌∙◌, Bor, arith}
use Rattle.std.specs.Prelude.{option_to_list, slice_get}
use Rattle.std.specs.Option.{option_map_or}
use Rattle.std.specs.Map.{lookup}
use Rattle.std.specs.Str.{bytes_eq}
use Rattle.std.proofs.lemmas.Bool.{le-leb}
use Rattle.lus_tree.specs.Tree.{Name, Expression}
use Rattle.lus_meaning.specs.declared.value.Value.{Value as CodeValue}
use Rattle.lus_meaning.specs.Meaning.{mode_key, same_path}
use Rattle.lus_meaning.specs.Scene.{Instance, call_instance, instance_at, no_instance, outputs_of}
use Rattle.lus_meaning.specs.TraceView.{entry_view}
use Rattle.lus_meaning.specs.Value.{flag}
use Rattle.sys_meaning.specs.Slot.{beat, named, held, own, in_call}
use Rattle.sys_parts.specs.Constants.{constant_view}
use Rattle.sys_parts.specs.Values.{known_value}
use Rattle.sys_parts.specs.declared.constant.Constant.{Constant}
use Rattle.sys_texts.specs.Sights.{Call, Output, Way, own as own_way, through, deeper, is_way, name_number}
use Rattle.sys_texts.specs.Views.{sight_view}
use Rattle.sys_texts.specs.declared.sight.Sight.{Sight as SightCode}
use Rattle.slot_resolver.specs.declared.slots.Held.{Held}
use Rattle.slot_resolver.specs.Found.{output_found, held_found, first_output, first_held as first_held_at}
use Rattle.slot_values.specs.Resolution.{Resolution}
use Rattle.slot_values.specs.Resolution as r
use Rattle.slot_values.specs.Resolved.{Numbering, constant_or_slot, first_resolution, latest_resolution, mode_resolution, name_resolution, output_resolution, outputs_at, resolution}
use Rattle.frame_sources.specs.Resolved.{Asked, IsNumberedBy, asked_of, call_by, latest_each_by, latest_by, name_by, output_by, outputs_by, resolved_by}
use Rattle.frame_sources.specs.Numbered.{callee_seen, callees_seen, first_held, first_number, first_slot, held_seen, key_of, numbering_seen, output_seen, path_of, place_seen}
use Rattle.frame_sources.proofs.Resolutions.{resolved_is}

-- ---- names

pub entry_known : (o : Option CodeValue) → entry_view o ≡ known_value o
entry_known None = refl
entry_known (Some v) = refl

constants_found : (x : Name) (es : List (Bor (List ℕ) × Constant)) → lookup (bytes_eq x) (map (λ e. (e.0.now, constant_view e.1)) es)
    ≡ option_map constant_view (lookup (λ k. bytes_eq x k.now) es)
constants_found x [] = refl
constants_found x (e ∷ es) = go (bytes_eq x e.0.now) (constants_found x es)
  where
    go : (b : Bool) → lookup (bytes_eq x) (map (λ e. (e.0.now, constant_view e.1)) es) ≡ option_map constant_view (lookup (λ k. bytes_eq x k.now) es)
        → cond b (Some (constant_view e.1)) (lookup (bytes_eq x) (map (λ e. (e.0.now, constant_view e.1)) es))
        ≡ option_map constant_view (cond b (Some e.1) (lookup (λ k. bytes_eq x k.now) es))
    go true h = refl
    go false h = h

-- ---- modes

and_true : (b : Bool) → (b && true) ≡ b
and_true true = refl
and_true false = refl

and_false : (b : Bool) → (b && false) ≡ false
and_false true = refl
and_false false = refl

same_way : (c : Option Name) (w : Way) → is_way c w ≡ same_path (option_to_list c) (path_of w)
same_way None own_way = refl
same_way None (through d) = refl
same_way None deeper = refl
same_way (Some c) own_way = refl
same_way (Some c) (through d) = sym (and_true (bytes_eq c d))
same_way (Some c) deeper = sym (and_false (bytes_eq c []))

modes_found : (ms : List Asked) (c : Option Name) (x : Name)
    → unwrap_or (lookup (mode_key (option_to_list c, x)) (map key_of ms)) (r.known (flag false)) ≡ asked_of ms c x
modes_found [] c x = refl
modes_found (m ∷ ms) c x =
    pick (mode_key (option_to_list c, x) (path_of m.way, m.name)) (modes_found ms c x)
    ∙ ap (λ b. cond (b && bytes_eq x m.name) m.asked (asked_of ms c x)) (sym (same_way c m.way))
  where
    pick : (b : Bool) → unwrap_or (lookup (mode_key (option_to_list c, x)) (map key_of ms)) (r.known (flag false)) ≡ asked_of ms c x
        → unwrap_or (cond b (Some m.asked) (lookup (mode_key (option_to_list c, x)) (map key_of ms))) (r.known (flag false))
        ≡ cond b m.asked (asked_of ms c x)
    pick true e = refl
    pick false e = e

-- ---- calls

abbrev callee_or_none : Option Call → Instance
callee_or_none o = option_map_or (λ c. callee_seen c.outputs) o no_instance

callees_found : (cs : List Call) (k : ℕ) → instance_at (callees_seen cs) k ≡ callee_or_none (slice_get cs k)
callees_found [] k = refl
callees_found (c ∷ cs) zero = refl
callees_found (c ∷ cs) (suc k) = callees_found cs k

module _ (s : SightCode) (ms : List Asked) where
  abbrev g : Numbering
  g = numbering_seen s ms

  call_found : (k : ℕ) → call_instance (place_seen s) k ≡ callee_or_none (call_by (sight_view s) k)
  call_found zero = refl
  call_found (suc k) =
      callees_found (sight_view s).calls k
      ∙ sym (ap (λ b. callee_or_none (cond b (slice_get (sight_view s).calls k) None)) (le-leb 1 (suc k) (omega arith)))

  -- what is said of the outputs of a call, by those that it has
  module _ {A : Type 0} (f : List Name → A) (h : Option Call → A) (k : ℕ)
      (none : f [] ≡ h None) (no_output : (c : Call) → call_by (sight_view s) k ≡ Some c → c.outputs ≡ [] → f [] ≡ h (Some c))
      (first : (c : Call) (o : Output) (os : List Output) → call_by (sight_view s) k ≡ Some c → c.outputs ≡ o ∷ os → f ([] ∷ []) ≡ h (Some c)) where
    by_outputs : (c : Call) (os : List Output) → call_by (sight_view s) k ≡ Some c → c.outputs ≡ os → f (outputs_of (callee_seen os)) ≡ h (Some c)
    by_outputs c [] e d = no_output c e d
    by_outputs c (o ∷ os) e d = first c o os e d

    by_call : (o : Option Call) → call_by (sight_view s) k ≡ o → f (outputs_of (callee_or_none o)) ≡ h o
    by_call None e = none
    by_call (Some c) e = by_outputs c c.outputs e refl

    by_number : f (outputs_at g k) ≡ h (call_by (sight_view s) k)
    by_number = ap (λ i. f (outputs_of i)) (call_found k) ∙ by_call (call_by (sight_view s) k) refl

  -- the numbers of the first output of a call
  output_number : (k : ℕ) (c : Call) (o : Output) (os : List Output) → call_by (sight_view s) k ≡ Some c → c.outputs ≡ o ∷ os
      → g.number (in_call k (own (named []))) ≡ o.number
  output_number k c o os e d =
      ap (λ z. option_map_or (λ (c : Call). first_number (λ (o : Output). o.number) (sight_view s).missing c.outputs) z (sight_view s).missing) e
      ∙ ap (first_number (λ (o : Output). o.number) (sight_view s).missing) d

  held_number : (k : ℕ) (c : Call) (o : Output) (os : List Output) → call_by (sight_view s) k ≡ Some c → c.outputs ≡ o ∷ os
      → g.number (own (held k [])) ≡ o.held
  held_number k c o os e d =
      ap (λ z. option_map_or (λ (c : Call). first_number (λ (o : Output). o.held) (sight_view s).missing c.outputs) z (sight_view s).missing) e
      ∙ ap (first_number (λ (o : Output). o.held) (sight_view s).missing) d

  beat_number : (k : ℕ) (c : Call) → call_by (sight_view s) k ≡ Some c → g.number (in_call k (own beat)) ≡ c.beat
  beat_number k c e = ap (λ z. option_map_or (λ (c : Call). c.beat) z (sight_view s).missing) e

  -- ---- what a frame tells of itself

  pub name_is : (x : Name) → name_resolution g x ≡ name_by (sight_view s) x
  name_is x = ap (λ o. constant_or_slot o (r.slot (name_number (sight_view s) x))) (constants_found x s.constants.entries)

  pub output_is : (k : ℕ) → output_found g k ≡ output_seen (call_by (sight_view s) k)
  output_is k =
      by_number (first_output (λ g k y. g.number (in_call k (own (named y)))) g k) output_seen k refl
      (λ c e d. sym (ap first_slot d))
      (λ c o os e d. ap Some (output_number k c o os e d) ∙ sym (ap first_slot d))

  pub held_is : (k : ℕ) → held_found g k ≡ held_seen (call_by (sight_view s) k)
  held_is k =
      by_number (first_held_at g k) held_seen k refl
      (λ c e d. sym (ap (first_held c.beat) d))
      (λ c o os e d. ap (λ b. Some (slots b (g.number (in_call k (own (named [])))) (g.number (own (held k []))))) (beat_number k c e)
      ∙ (ap (λ n. Some (slots c.beat n (g.number (own (held k []))))) (output_number k c o os e d)
      ∙ (ap (λ n. Some (slots c.beat o.number n)) (held_number k c o os e d) ∙ sym (ap (first_held c.beat) d))))
    where
      slots : ℕ → ℕ → ℕ → Held
      slots b n h = record { beat = b; output = n; held = h }

  pub modes_are : (c : Option Name) (x : Name) → mode_resolution g (option_to_list c, x) ≡ asked_of ms c x
  modes_are c x = modes_found ms c x

  first_output_is : (k : ℕ) → first_resolution (map (output_resolution g k) (outputs_at g k)) ≡ first_resolution (outputs_by (call_by (sight_view s) k))
  first_output_is k =
      by_number (λ ys. first_resolution (map (output_resolution g k) ys)) (λ c. first_resolution (outputs_by c)) k refl
      (λ c e d. sym (ap (λ os. first_resolution (map output_by os)) d))
      (λ c o os e d. ap r.slot (output_number k c o os e d) ∙ sym (ap (λ os. first_resolution (map output_by os)) d))

  first_latest_is : (k : ℕ) (a : Resolution)
      → first_resolution (map (latest_resolution g k a) (outputs_at g k)) ≡ first_resolution (latest_each_by a (call_by (sight_view s) k))
  first_latest_is k a =
      by_number (λ ys. first_resolution (map (latest_resolution g k a) ys)) (λ c. first_resolution (latest_each_by a c)) k refl
      (λ c e d. sym (ap (λ os. first_resolution (map (latest_by a c.beat) os)) d))
      (λ c o os e d. ap (λ b. r.latest a b (g.number (in_call k (own (named [])))) (g.number (own (held k [])))) (beat_number k c e)
      ∙ (ap (λ n. r.latest a c.beat n (g.number (own (held k [])))) (output_number k c o os e d)
      ∙ (ap (r.latest a c.beat o.number) (held_number k c o os e d) ∙ sym (ap (λ os. first_resolution (map (latest_by a c.beat) os)) d))))

  numbered : IsNumberedBy (sight_view s) ms g
  numbered = record {
    constants = λ x. constants_found x s.constants.entries;
    names = λ x. refl;
    memories = λ k. refl;
    starts = λ k. refl;
    output = first_output_is;
    latest = first_latest_is;
    modes = modes_are;
  }

  pub resolved_as : (e : Expression) → resolution g e ≡ resolved_by (sight_view s) ms e
  resolved_as e = resolved_is (sight_view s) ms g numbered e
