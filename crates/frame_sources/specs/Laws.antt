-- What is resolved by the sight of a frame is what is resolved by the numbers of its places.
use Rattle.std.specs.Prelude.{◌≡◌, ℕ, suc, ◌≤◌, List, [], ◌∷◌, map}
use Rattle.std.specs.List.{AllByRecursion}
use Rattle.lus_tree.specs.Tree.{Expression, ContractStatement, assume, guarantee, ghost_variable, constant, mode, «import»}
use Rattle.lus_meaning.specs.Scene.{Clock, Instance, Instances, no_instances, with_instance, calls_of, component_of, contract_statements}
use Rattle.sys_meaning.specs.Items.{Key}
use Rattle.sys_meaning.specs.Slot.{Place}
use Rattle.sys_meaning.specs.System.{below_call}
use Rattle.sys_texts.specs.Laws.{IsSightOf}
use Rattle.sys_texts.specs.Sights.{Sight}
use Rattle.sys_contracts.specs.Laws.{bare, way_of}
use Rattle.slot_values.specs.Resolved.{Numbering, resolution, right_resolutions}
use Rattle.evaluation_laws.specs.Resolvings.{Resolving, resolvings}
use Rattle.slot_sources.specs.Sources.{numbering_of, switch_of}
use Rattle.frame_sources.specs.Resolved.{Asked, resolved_by, rights_by}
use Rattle.frame_sources.specs.Modes.{contract_modes}
use Rattle.frame_sources.specs.Sourced.{switch_by}

-- ---- modes

abbrev pub asked_at : (Place → ℕ) → Key × Resolving → Asked
asked_at at m = record { way = way_of m.0.0; name = m.0.1; asked = m.1 at }

-- the modes of an instance's contract, in a frame that has these numbers
abbrev pub modes_at : (Place → ℕ) → Instance → List Asked
modes_at at i = map (asked_at at) (resolvings i)

-- those of the calls and imports, in the order of their numbers, from k on
abbrev pub called_from : ℕ → Instances → (Place → ℕ) → List (List Asked)
called_from k no_instances at = []
called_from k (with_instance s i is) at = modes_at (below_call k at) i ∷ called_from (suc k) is at

-- an import has a number
abbrev pub IsNumbered : ContractStatement → Type 0
IsNumbered (assume l) = Unit {0}
IsNumbered (guarantee l) = Unit {0}
IsNumbered (ghost_variable x e) = Unit {0}
IsNumbered (constant c) = Unit {0}
IsNumbered (mode m rs es) = Unit {0}
IsNumbered («import» k c as_ xs) = 1 ≤ k

-- the modes of a contract are those of the instance
abbrev pub ModesAreResolved : Type 0
ModesAreResolved = (s : Sight) (i : Instance) (at : Place → ℕ) → IsSightOf s [] (bare i at)
    → AllByRecursion IsNumbered (contract_statements (component_of i))
    → contract_modes s (called_from 1 (calls_of i) at) (contract_statements (component_of i)) ≡ modes_at at i

-- ---- expressions and clocks

-- what is so of a sight that finds what the translation finds, and of the numbering of the frame
abbrev pub OfEachSight : (Sight → List Asked → Numbering → Type 0) → Type 0
OfEachSight P = (s : Sight) (i : Instance) (at : Place → ℕ) → IsSightOf s [] (bare i at) → P s (modes_at at i) (numbering_of i at)

abbrev pub ResolutionsAreResolved : Type 0
ResolutionsAreResolved = OfEachSight (λ s ms g. (e : Expression) → resolved_by s ms e ≡ resolution g e)

abbrev pub RightsAreResolved : Type 0
RightsAreResolved = OfEachSight (λ s ms g. (e : Expression) → rights_by s ms e ≡ right_resolutions g e)

abbrev pub SwitchesAreSwitches : Type 0
SwitchesAreSwitches = OfEachSight (λ s ms g. (c : Clock) → switch_by s c ≡ switch_of g c)
