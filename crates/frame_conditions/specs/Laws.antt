-- The conditions of a contract by the sight of a frame are those of the instance.
use Rattle.std.specs.Prelude.{◌≡◌, ℕ, suc, List, [], ◌∷◌, map, flat_map}
use Rattle.std.specs.List.{AllByRecursion}
use Rattle.lus_meaning.specs.Scene.{Instance, Instances, no_instances, with_instance, calls_of, component_of, contract_statements}
use Rattle.sys_meaning.specs.Items.{Items, ModeItem}
use Rattle.sys_meaning.specs.Slot.{Place}
use Rattle.sys_meaning.specs.System.{below_call}
use Rattle.sys_texts.specs.Laws.{IsSightOf}
use Rattle.sys_texts.specs.Sights.{Sight}
use Rattle.sys_contracts.specs.Laws.{bare, way_of}
use Rattle.slot_values.specs.Resolution.{Resolution}
use Rattle.evaluation_laws.specs.Resolvings.{Resolving}
use Rattle.condition_laws.specs.Conditions.{conditions_of}
use Rattle.frame_sources.specs.Resolved.{Asked}
use Rattle.frame_sources.specs.Laws.{IsNumbered}
use Rattle.frame_conditions.specs.Conditioned.{Conditions, contract_conditions}

-- in a frame that has these numbers
abbrev pub all_at : (Place → ℕ) → List Resolving → List Resolution
all_at at fs = map (λ f. f at) fs

abbrev pub mode_at : (Place → ℕ) → ModeItem Resolving → Asked
mode_at at m = record { way = way_of m.key.0; name = m.key.1; asked = m.asked at }

abbrev pub ensured_at : (Place → ℕ) → List (ModeItem Resolving) → List Resolution
ensured_at at ms = flat_map (λ m. map (λ f. f at) m.ensures_each) ms

abbrev pub conditions_at : (Place → ℕ) → Items Resolving → Conditions
conditions_at at r = record {
  assumes = all_at at r.assumes;
  guarantees = all_at at r.guarantees;
  modes = map (mode_at at) r.modes;
  ensured = ensured_at at r.modes;
}

-- those of the calls and imports, in the order of their numbers, from k on
abbrev pub called_from : ℕ → Instances → (Place → ℕ) → List Conditions
called_from k no_instances at = []
called_from k (with_instance s i is) at = conditions_at (below_call k at) (conditions_of i) ∷ called_from (suc k) is at

abbrev pub ConditionsAreResolved : Type 0
ConditionsAreResolved = (s : Sight) (i : Instance) (at : Place → ℕ) → IsSightOf s [] (bare i at)
    → AllByRecursion IsNumbered (contract_statements (component_of i))
    → contract_conditions s (called_from 1 (calls_of i) at) (contract_statements (component_of i)) ≡ conditions_at at (conditions_of i)
