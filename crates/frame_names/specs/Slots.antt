-- The number of the slot of a name in the frame at the end of a way of calls.
use Rattle.std.specs.Prelude.{◌≡◌, ℕ, ◌<◌, cond, List, Option, Some, None, slice_get}
use Rattle.lus_tree.specs.Tree.{Name, Component, Program}
use Rattle.lus_meaning.specs.ClockFaults.{components}
use Rattle.lus_meaning.specs.Depends.{named_in}
use Rattle.lus_meaning.specs.Program.{instance_of}
use Rattle.lus_meaning.specs.Scene.{Instance, component_of, variables}
use Rattle.lus_meaning.specs.Slots.{width}
use Rattle.lus_streams.specs.Streams.{names_of}
use Rattle.lus_evaluation.specs.Evaluation.{instance_on}
use Rattle.sys_meaning.specs.Slot.{named}
use Rattle.sys_meaning.specs.System.{number_of}

-- There is one of each stream of the frame's declaration. A way on which some number is none of a call or an import leads to no frame: what stands there has no
-- streams.
abbrev pub slot_there : Instance → List ℕ → Name → Option ℕ
slot_there i w x = cond (named_in x (names_of (variables (component_of (instance_on i w))))) (Some (number_of i (w, named x))) None

-- the number of each slot in the system of the declaration of that number, constants left out, where that has at most 20,000 variables
abbrev pub KnowsSlots : Program → ℕ → (List ℕ → Name → Option ℕ) → Type 0
KnowsSlots p k known =
    (d : Component) → slice_get (components p) k ≡ Some d → width (instance_of p d) < 20001 → (w : List ℕ) (x : Name)
    → known w x ≡ slot_there (instance_of p d) w x
