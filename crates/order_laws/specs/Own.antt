-- The own parts of what a mode requires: those that belong to the whole in which the mode is named.
use Rattle.std.specs.Prelude.{ℕ, pred, List, [], ◌∷◌, ◌++◌, map, flat_map, slice_index_or}
use Rattle.lus_tree.specs.Tree.{Name, Labelled, ContractStatement, assume, guarantee, ghost_variable, constant, mode, «import»}
use Rattle.lus_meaning.specs.Scene.{base, Instance, Instances, instance, no_instances, with_instance, contract_statements}
use Rattle.lus_meaning.specs.Cycle.{Place}
use Rattle.lus_evaluation.specs.Part.{Part, Key, ModeParts, Setting}
use Rattle.slot_values.specs.Parts.{own_parts}

-- a frame whose modes ask these parts; own parts are none of a callee
abbrev pub own_setting : Instance → List ℕ → ModeParts → Setting
own_setting i w ms = record { place = i; way = w; body = λ k. []; modes = ms }

abbrev pub own_asked : Instance → List ℕ → ModeParts → List Labelled → List Place → List Part
own_asked i w ms rs ns = flat_map (λ r. own_parts (own_setting i w ms) ns [] base r.value) rs

-- a mode of an import by way of its contract
abbrev pub imported_own : Name → Key × (List Place → List Part) → Key × (List Place → List Part)
imported_own c m = ((c ∷ m.0.0, m.0.1), m.1)

-- the modes of the rest of a contract, and these before them
abbrev pub own_modes_after : Instance → List ℕ → (ℕ → ModeParts) → ModeParts → List ContractStatement → ModeParts
own_modes_after i w sub ms [] = ms
own_modes_after i w sub ms (assume l ∷ cs) = own_modes_after i w sub ms cs
own_modes_after i w sub ms (guarantee l ∷ cs) = own_modes_after i w sub ms cs
own_modes_after i w sub ms (ghost_variable x e ∷ cs) = own_modes_after i w sub ms cs
own_modes_after i w sub ms (constant c ∷ cs) = own_modes_after i w sub ms cs
own_modes_after i w sub ms (mode m rs es ∷ cs) = own_modes_after i w sub (ms ++ (([], m.text), own_asked i w ms rs) ∷ []) cs
own_modes_after i w sub ms («import» k c as_ xs ∷ cs) = own_modes_after i w sub (ms ++ map (imported_own c.text) (sub k)) cs

-- those of the frame at the end of a way of calls
abbrev mutual
  pub own_modes : List ℕ → Instance → ModeParts
  own_modes w (instance n cs is) =
      own_modes_after (instance n cs is) w (λ k. slice_index_or (own_modes_each w is) (pred k) []) [] (contract_statements n)

  pub own_modes_each : List ℕ → Instances → List ModeParts
  own_modes_each w no_instances = []
  own_modes_each w (with_instance s i is) = own_modes (w ++ s.number ∷ []) i ∷ own_modes_each w is
