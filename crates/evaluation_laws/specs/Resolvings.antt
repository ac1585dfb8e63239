-- What the modes of a contract ask, as resolutions: those of imports are known by way of the contract that is imported.
use Rattle.std.specs.Prelude.{ℕ, pred, true, List, [], ◌∷◌, ◌++◌, map, slice_index_or}
use Rattle.lus_tree.specs.declared.place.Pos.{Pos}
use Rattle.lus_tree.specs.declared.expression.Operator.TheVariants.{And}
use Rattle.lus_tree.specs.Tree.{Name, Labelled, ContractStatement, assume, guarantee, ghost_variable, constant, mode, «import»}
use Rattle.lus_meaning.specs.Value.{flag}
use Rattle.lus_meaning.specs.Scene.{Instance, Instances, instance, no_instances, with_instance, contract_statements}
use Rattle.sys_meaning.specs.Slot.{Place}
use Rattle.sys_meaning.specs.Items.{Key, Known}
use Rattle.sys_meaning.specs.System.{below_call}
use Rattle.slot_values.specs.Resolution.{Resolution, known, combined}
use Rattle.slot_values.specs.Resolved.{resolution}

-- a resolution in a frame, by the numbers of its places
abbrev pub Resolving : Type 0
Resolving = (Place → ℕ) → Resolution

abbrev pub at_numbers : (Place → ℕ) → Known Resolving → Known Resolution
at_numbers at ms = map (λ m. (m.0, m.1 at)) ms

-- a conjunction stands at no place: its result is never outside 128 bits
abbrev pub nowhere : Pos
nowhere = record { line = 0; column = 0 }

-- the conjunction of a list
abbrev pub all_resolved : List Resolution → Resolution
all_resolved [] = known (flag true)
all_resolved (r ∷ []) = r
all_resolved (r ∷ q ∷ rs) = combined nowhere And r (all_resolved (q ∷ rs))

-- what a mode asks is the conjunction of its requires, where these modes stand before it
abbrev pub asked_resolving : Instance → Known Resolving → List Labelled → Resolving
asked_resolving i ms rs at = all_resolved (map (λ r. resolution (record { place = i; number = at; modes = at_numbers at ms }) r.value) rs)

-- a mode of the import with this number
abbrev pub imported_resolving : ℕ → Name → Key × Resolving → Key × Resolving
imported_resolving k c m = ((c ∷ m.0.0, m.0.1), λ at. m.1 (below_call k at))

-- the modes of the rest of a contract, and these before them
abbrev pub resolvings_after : Instance → (ℕ → Known Resolving) → Known Resolving → List ContractStatement → Known Resolving
resolvings_after i sub ms [] = ms
resolvings_after i sub ms (assume l ∷ cs) = resolvings_after i sub ms cs
resolvings_after i sub ms (guarantee l ∷ cs) = resolvings_after i sub ms cs
resolvings_after i sub ms (ghost_variable x e ∷ cs) = resolvings_after i sub ms cs
resolvings_after i sub ms (constant c ∷ cs) = resolvings_after i sub ms cs
resolvings_after i sub ms (mode m rs es ∷ cs) = resolvings_after i sub (ms ++ (([], m.text), asked_resolving i ms rs) ∷ []) cs
resolvings_after i sub ms («import» k c as_ xs ∷ cs) = resolvings_after i sub (ms ++ map (imported_resolving k c.text) (sub k)) cs

abbrev mutual
  pub resolvings : Instance → Known Resolving
  resolvings (instance n cs is) =
      resolvings_after (instance n cs is) (λ k. slice_index_or (resolvings_each is) (pred k) []) [] (contract_statements n)

  pub resolvings_each : Instances → List (Known Resolving)
  resolvings_each no_instances = []
  resolvings_each (with_instance s i is) = resolvings i ∷ resolvings_each is
