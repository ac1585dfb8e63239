-- In any state the terms of a well-typed text are worth what the text is seen to be in the state's row.
use Rattle.std.proofs.Common.{◌≡◌, ℕ, Bool, true, false, List, [], ◌∷◌, map, refl, ap, sym, option_map, unwrap_or}
use Rattle.std.specs.List.{AllByRecursion}
use Rattle.std.specs.Map.{lookup}
use Rattle.lus_tree.specs.declared.place.Sort.TheVariants.{Bool as Flags}
use Rattle.lus_tree.specs.Tree.{Variable, Expression}
use Rattle.lus_meaning.specs.Value.{Value, flag}
use Rattle.lus_meaning.specs.Scene.{Clock}
use Rattle.lus_meaning.specs.Meaning.{mode_key}
use Rattle.lus_meaning.specs.Run.{sort_of}
use Rattle.sys_terms.specs.View.{Formula, truth}
use Rattle.sys_terms.specs.Meaning.{Values, truth_of}
use Rattle.sys_meaning.specs.Slot.{named, memory, held, own, in_call, spot_sort}
use Rattle.sys_meaning.specs.Items.{Key, Known}
use Rattle.sys_meaning.specs.Part.{value_in}
use Rattle.sys_meaning.specs.Translate.{Stage, outputs_at}
use Rattle.sys_meaning.specs.Seen.{Row, row_of}
use Rattle.sys_meaning.specs.WellTyped.{IsMemory, OutputFits}
use Rattle.sys_meaning.proofs.Shown.{IsShown}

-- what the modes ask, in a state
abbrev pub modes_in : Values → Values → Known Formula → Known Value
modes_in now next ms = map (λ m. (m.0, flag (truth_of now next m.1))) ms

module _ (g : Stage) (ModeAt : Key → Type 0) (now next : Values) where
  abbrev pub row : Row
  row = row_of g.place g.number now

  mode_found : (key : Key) (ms : Known Formula) →
      flag (truth_of now next (unwrap_or (lookup (mode_key key) ms) (truth false))) ≡ unwrap_or (lookup
      (mode_key key) (modes_in now next ms)) (flag false)
  mode_found key [] = refl
  mode_found key (m ∷ ms) = by (mode_key key m.0) refl (mode_found key ms)
    where
      by : (b : Bool) → mode_key key m.0 ≡ b →
          flag (truth_of now next (unwrap_or (lookup (mode_key key) ms) (truth false))) ≡ unwrap_or (lookup
          (mode_key key) (modes_in now next ms)) (flag false) →
          flag (truth_of now next (unwrap_or (lookup (mode_key key) (m ∷ ms)) (truth false))) ≡ unwrap_or (lookup
          (mode_key key) (modes_in now next (m ∷ ms))) (flag false)
      by true e r = rw e refl
      by false e r = rw e r

  memory_sort : (k : ℕ) (c : Clock) (a : Expression) → IsMemory g.place ModeAt k c a →
      spot_sort g.place (memory k) ≡ sort_of g.place a
  memory_sort k c a e = ap (λ o. unwrap_or (option_map (λ m. sort_of g.place m.operand) o) Flags) e

  all_outputs : (k : ℕ) (vs : List Variable) → AllByRecursion (OutputFits g.place ModeAt k) vs →
      AllByRecursion (λ v. value_in now v.sort (g.number (in_call k (own (named v.name.text)))) ≡ row (in_call k
      (own (named v.name.text)))) vs
  all_outputs k [] a = tt
  all_outputs k (v ∷ vs) a =
      (ap (λ s. value_in now s (g.number (in_call k (own (named v.name.text))))) (sym a.0.1), all_outputs k vs a.1)

  all_held : (k : ℕ) (vs : List Variable) → AllByRecursion (OutputFits g.place ModeAt k) vs →
      AllByRecursion (λ v. (value_in now v.sort (g.number (in_call k (own (named v.name.text)))) ≡ row (in_call k
      (own (named v.name.text))))
      × (value_in now v.sort (g.number (own (held k v.name.text))) ≡ row (own (held k v.name.text)))) vs
  all_held k [] a = tt
  all_held k (v ∷ vs) a = (
    (
      ap (λ s. value_in now s (g.number (in_call k (own (named v.name.text))))) (sym a.0.1),
      ap
          (λ s. value_in now s (g.number (own (held k v.name.text)))) (sym a.0.1),
    ),
    all_held k vs a.1,
  )

  pub state_shown : IsShown g ModeAt row (modes_in now next g.modes) now next
  state_shown = record {
    names = λ x e d. refl;
    memories = λ k c a e. ap (λ s. value_in now s (g.number (own (memory k)))) (sym (memory_sort k c a e));
    starts = λ k c e. refl;
    outputs = λ k c e. all_outputs k (outputs_at g k) e.call.named;
    held_beats = λ k c a ds e. refl;
    held_outputs = λ k c a ds e. all_held k (outputs_at g k) e.call.named;
    modes_same = λ key. mode_found key g.modes;
  }
