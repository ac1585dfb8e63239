-- The places of the variables of a frame and of those of its calls, with calls nested no deeper than said.
use Rattle.std.specs.Prelude.{ℕ, zero, suc, ◌+◌, List, [], ◌∷◌, ◌++◌, map, flat_map, Option, Some, None, option_map}
use Rattle.lus_tree.specs.Tree.{Variable}
use Rattle.lus_meaning.specs.Trace.{of_name, of_first}
use Rattle.lus_limits.specs.declared.calls.Way.{Way}
use Rattle.lus_limits.specs.declared.calls.Way.TheVariants.{Plain, Condition, Import}
use Rattle.lus_limits.specs.Calls.{Called}
use Rattle.lus_limits.specs.Summaries.{sofar_count}
use Rattle.path_traces.specs.declared.places.Place.{Place}
use Rattle.path_traces.specs.Plans.{Plan, plan_named}
use Rattle.path_traces.specs.Printed.{PrintedPlace, place_view}

-- of variables in their order; none for one that has no place
abbrev pub Places : Type 0
Places = List (Option PrintedPlace)

abbrev pub place_seen : Option Place → Option PrintedPlace
place_seen o = option_map place_view o

abbrev pub name_place : List ℕ → Variable → Option PrintedPlace
name_place path v = Some (path, of_name v.name.text)

-- so many first values from this number on
abbrev pub first_places : List ℕ → ℕ → ℕ → Places
first_places path k zero = []
first_places path k (suc n) = Some (path, of_first k) ∷ first_places path (suc k) n

abbrev pub no_places : ℕ → Places
no_places zero = []
no_places (suc n) = None ∷ no_places n

-- of the frame itself: its beat, its names, the memories of its `pre`, and what has no place
abbrev pub own_places : Way → List ℕ → Plan → Places
own_places w path p =
    None ∷ map (name_place path) p.names ++ (first_places path 1 p.memories ++ no_places (p.starts + sofar_count w p.contract))

-- of outputs, as far as there are defaults
abbrev pub output_places : List ℕ → List Variable → ℕ → Places
output_places path [] n = []
output_places path (v ∷ vs) zero = []
output_places path (v ∷ vs) (suc n) = name_place path v ∷ output_places path vs n

abbrev pub held_places : Way → List ℕ → List Variable → ℕ → Places
held_places Condition path vs n = output_places path vs n
held_places Plain path vs n = []
held_places Import path vs n = []

-- what is held of a call, and its frame
abbrev pub call_places : (Way → List ℕ → Plan → Places) → List ℕ → Called → Plan → Places
call_places f path c p = held_places c.way (path ++ c.number ∷ []) p.outputs c.defaults ++ f c.way (path ++ c.number ∷ []) p

abbrev pub named_places : (Way → List ℕ → Plan → Places) → List Plan → List ℕ → Called → Places
named_places f ps path c = call_places f path c (plan_named ps c.callee)

abbrev pub places_within : ℕ → List Plan → Way → List ℕ → Plan → Places
places_within zero ps w path p = own_places w path p
places_within (suc m) ps w path p = own_places w path p ++ flat_map (named_places (places_within m ps) ps path) p.calls
