-- An expression has the same resolution, whatever is known of modes that it does not name.
use Rattle.std.proofs.Common.{◌≡◌, ℕ, true, false, map, option_map, option_to_list, unwrap_or, refl, ap}
use Rattle.std.specs.Map.{lookup}
use Rattle.lus_tree.specs.Tree.{text_of, Expression, truth, number, name, negation, minus, pre, arrow, binary, choice, sampled, merged, call, condact, mode_name}
use Rattle.lus_meaning.specs.Value.{flag}
use Rattle.lus_meaning.specs.Scene.{Clock, sampled_by, Instance, component_of, clock_of}
use Rattle.lus_meaning.specs.Meaning.{mode_key}
use Rattle.sys_meaning.specs.Slot.{Place, own, named}
use Rattle.sys_meaning.specs.Items.{Key, Known}
use Rattle.sys_meaning.specs.WellTyped.{Stands}
use Rattle.slot_values.specs.Resolution.{Resolution}
use Rattle.slot_values.specs.Resolution as r
use Rattle.slot_values.specs.Resolved.{Numbering, latest_resolution, outputs_at, first_resolution, resolution}

module _ (i : Instance) (at : Place → ℕ) (M : Key → Type 0) (ms ns : Known Resolution)
    (same : (key : Key) → M key → lookup (mode_key key) ms ≡ lookup (mode_key key) ns) where
  abbrev g : Numbering
  g = record { place = i; number = at; modes = ms }

  abbrev h : Numbering
  h = record { place = i; number = at; modes = ns }

  pub same_resolution : (c : Clock) (e : Expression) → Stands i M c e → resolution g e ≡ resolution h e
  same_resolution c (truth p b) s = refl
  same_resolution c (number p n) s = refl
  same_resolution c (name p x) s = refl
  same_resolution c (negation p a) s = ap r.negated (same_resolution c a s.1)
  same_resolution c (minus p a) s = ap (r.opposite p.at) (same_resolution c a s.1)
  same_resolution c (pre p k a) s = refl
  same_resolution c (arrow p k a b) s = rw (same_resolution c a s.2, same_resolution c b s.3) refl
  same_resolution c (binary p o a b) s = rw (same_resolution c a s.3, same_resolution c b s.4) refl
  same_resolution c (choice p a b d) s =
      rw (same_resolution c a s.2, same_resolution c b s.3, same_resolution c d s.4) refl
  same_resolution c (sampled p a q x) s =
      ap (r.sampled (at (own (named x.text))) q) (same_resolution (clock_of (component_of i) x.text) a s.2)
  same_resolution c (merged p x a b) s =
      rw (same_resolution (sampled_by true x.text) a s.3, same_resolution (sampled_by false x.text) b s.4) refl
  same_resolution c (call p k f as_) s = refl
  same_resolution c (condact p k a f as_ ds) s =
      ap (λ z. first_resolution (map (latest_resolution g k z) (outputs_at g k))) (same_resolution c a s.2)
  same_resolution c (mode_name p d m) s =
      ap (λ o. unwrap_or o (r.known (flag false))) (same (option_to_list (option_map text_of d), m.text) s.1)
