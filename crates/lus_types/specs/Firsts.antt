-- The first of the calls and imports that are on circles.
use Rattle.std.specs.Prelude.{Bool, false, List, flat_map, Option, Some, None, Contains}
use Rattle.lus_tree.specs.declared.place.Pos.{Pos}
use Rattle.lus_tree.specs.Reason.{Refused, node_recursion}
use Rattle.lus_tree.specs.Tree.{Program}
use Rattle.lus_meaning.specs.ClockFaults.{components}
use Rattle.lus_meaning.specs.Faults.{IsFirst, fault, is_at}
use Rattle.lus_meaning.specs.NameFaults.{recursion_faults}
use Rattle.lus_meaning.specs.Refusals.{HasNone}
use Rattle.lus_types.specs.declared.circles.FirstCircle.{FirstCircle}
use Rattle.lus_types.specs.declared.circles.FirstCircle.TheVariants.{Nowhere, At, Unclear}

-- those of all declarations
abbrev pub circle_faults : Program → List Refused
circle_faults p = flat_map (recursion_faults p) (components p)

-- none, or the first one, or nothing is said
abbrev pub IsFirstCircle : Program → FirstCircle → Type 0
IsFirstCircle p Nowhere = HasNone (Contains (circle_faults p))
IsFirstCircle p (At at) = IsFirst (Contains (circle_faults p)) (fault node_recursion at)
IsFirstCircle p Unclear = Unit {0}

-- whether there is a fault with this place
abbrev pub stands_at : Option Refused → Pos → Bool
stands_at None at = false
stands_at (Some r) at = is_at r.at at
