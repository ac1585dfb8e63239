-- What is found of names and calls.
use Rattle.std.specs.Prelude.{ℕ, List, [], ◌∷◌, Option, Some, None}
use Rattle.lus_tree.specs.Tree.{Name}
use Rattle.lus_meaning.specs.TraceView.{entry_view}
use Rattle.sys_meaning.specs.Slot.{beat, named, held, own, in_call}
use Rattle.lus_meaning.specs.Value.{absent}
use Rattle.slot_values.specs.Resolution.{Resolution, known, slot, latest}
use Rattle.slot_values.specs.Resolved.{Numbering, outputs_at}
use Rattle.slot_resolver.specs.declared.slots.Found.{Found}
use Rattle.slot_resolver.specs.declared.slots.Found.TheVariants.{Constant, Slot}
use Rattle.slot_resolver.specs.declared.slots.Held.{Held}

abbrev pub found_view : Found → Resolution
found_view (Constant v) = known (entry_view v)
found_view (Slot k) = slot k

abbrev pub first_output : (Numbering → ℕ → Name → ℕ) → Numbering → ℕ → List Name → Option ℕ
first_output f g k [] = None
first_output f g k (y ∷ ys) = Some (f g k y)

-- the slot of the first output of a call
abbrev pub output_found : Numbering → ℕ → Option ℕ
output_found g k = first_output (λ g k y. g.number (in_call k (own (named y)))) g k (outputs_at g k)

abbrev pub first_held : Numbering → ℕ → List Name → Option Held
first_held g k [] = None
first_held g k (y ∷ ys) = Some record {
  beat = g.number (in_call k (own beat));
  output = g.number (in_call k (own (named y)));
  held = g.number (own (held k y));
}

-- the slots of a call that runs while a condition is true
abbrev pub held_found : Numbering → ℕ → Option Held
held_found g k = first_held g k (outputs_at g k)

abbrev pub called_as : Option ℕ → Resolution
called_as None = known absent
called_as (Some k) = slot k

abbrev pub latest_as : Resolution → Option Held → Resolution
latest_as a None = known absent
latest_as a (Some h) = latest a h.beat h.output h.held
