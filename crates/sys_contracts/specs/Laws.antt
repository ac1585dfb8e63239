-- The items of a contract are those of the translation.
use Rattle.std.specs.Prelude.{◌≡◌, ℕ, suc, ◌≤◌, List, [], ◌∷◌, map}
use Rattle.std.specs.List.{AllByRecursion}
use Rattle.lus_tree.specs.Tree.{Name, ContractStatement, assume, guarantee, ghost_variable, constant, mode, «import»}
use Rattle.lus_meaning.specs.Value.{Value}
use Rattle.lus_meaning.specs.Scene.{Instance, Instances, no_instances, with_instance, component_of, constants_of, calls_of, contract_statements}
use Rattle.sys_meaning.specs.Slot.{Place}
use Rattle.sys_meaning.specs.Items.{ModeItem}
use Rattle.sys_meaning.specs.Items as m
use Rattle.sys_meaning.specs.Translate.{Stage}
use Rattle.sys_meaning.specs.System.{Written, contract_of, below_call}
use Rattle.sys_texts.specs.Sights.{Sight, Mode, Way, own, through, deeper}
use Rattle.sys_texts.specs.Laws.{IsSightOf, IsSteady}
use Rattle.sys_contracts.specs.Items.{Items, contract_items}

-- an instance's frame at these numbers, where no mode is known
abbrev pub bare : Instance → (Place → ℕ) → Stage
bare i at = record { place = i; number = at; modes = [] }

-- the way of a key
abbrev pub way_of : List Name → Way
way_of [] = own
way_of (c ∷ []) = through c
way_of (c ∷ d ∷ ds) = deeper

-- the items of the translation at these numbers
abbrev pub mode_at : (Place → ℕ) → ModeItem Written → Mode
mode_at at m =
    record { way = way_of m.key.0; name = m.key.1; asked = m.asked at; ensures_each = map (λ f. f at) m.ensures_each }

abbrev pub items_at : (Place → ℕ) → m.Items Written → Items
items_at at r = record {
  assumes = map (λ f. f at) r.assumes;
  guarantees = map (λ f. f at) r.guarantees;
  modes = map (mode_at at) r.modes;
}

-- those of the calls and imports, in the order of their numbers, from k on
abbrev pub called_from : ℕ → Instances → (Place → ℕ) → List Items
called_from k no_instances at = []
called_from k (with_instance s i is) at = items_at (below_call k at) (contract_of i) ∷ called_from (suc k) is at

-- what is said in a statement is steady, and an import has a number
abbrev pub IsSteadyStatement : List (Name × Value) → ContractStatement → Type 0
IsSteadyStatement cs (assume l) = IsSteady cs l.value
IsSteadyStatement cs (guarantee l) = IsSteady cs l.value
IsSteadyStatement cs (ghost_variable x e) = Unit {0}
IsSteadyStatement cs (constant c) = Unit {0}
IsSteadyStatement cs (mode m rs es) =
    AllByRecursion (λ l. IsSteady cs l.value) rs × AllByRecursion (λ l. IsSteady cs l.value) es
IsSteadyStatement cs («import» k c as_ xs) = 1 ≤ k

abbrev pub ItemsAreTranslated : Type 0
ItemsAreTranslated = (s : Sight) (i : Instance) (at : Place → ℕ) → IsSightOf s [] (bare i at)
    → AllByRecursion (IsSteadyStatement (constants_of i)) (contract_statements (component_of i))
    → contract_items s (called_from 1 (calls_of i) at) (contract_statements (component_of i)) ≡ items_at at (contract_of i)
