-- What gives the slots of a frame their values, by what names and numbers mean there.
use Rattle.std.specs.Prelude.{ℕ, true, Bool, cond, List, [], ◌∷◌, ◌++◌, map, Option, Some, None, unwrap_or, slice_get}
use Rattle.lus_tree.specs.Tree.{Name, Expression}
use Rattle.lus_meaning.specs.Value.{Value, absent}
use Rattle.lus_meaning.specs.Scene.{Clock, base, sampled_by, Manner, plain, while_true, as_import, Site}
use Rattle.lus_meaning.specs.Occurrences.{Memory, Start}
use Rattle.sys_texts.specs.Sights.{Sight, Call, Output, name_number}
use Rattle.sys_conditions.specs.Named.{Right}
use Rattle.slot_values.specs.Resolution.{Resolution, known}
use Rattle.slot_sources.specs.declared.source.Switch.{Switch}
use Rattle.slot_sources.specs.Source.{Source, runs, runs_while, same, given, argument, listed, remembered, starting, held, unread}
use Rattle.frame_sources.specs.Resolved.{Asked, resolved_by, rights_by}

abbrev pub switch_by : Sight → Clock → Switch
switch_by s base = record { slot = s.beat; wanted = true }
switch_by s (sampled_by b x) = record { slot = name_number s x; wanted = b }

-- ---- a frame itself

-- what a right side gives to the left name of that place
abbrev pub right_by : Sight → List Asked → Right → Resolution
right_by s ms r = unwrap_or (slice_get (rights_by s ms r.side) r.place) (known absent)

-- of a name on that clock, by its equation
abbrev pub own_source : Sight → List Asked → Clock → Option Right → Source
own_source s ms c None = listed (switch_by s c)
own_source s ms c (Some r) = given (switch_by s c) (right_by s ms r)

abbrev pub memory_source : Sight → List Asked → Memory → Source
memory_source s ms u = remembered (switch_by s u.clock) (resolved_by s ms u.operand)

abbrev pub start_source : Sight → Start → Source
start_source s a = starting (switch_by s a.clock)

abbrev pub contract_sources : Bool → List Source
contract_sources b = cond b (unread ∷ []) []

-- ---- its calls

abbrev pub held_source : ℕ → Output → Value → Source
held_source b o d = held b o.number d

abbrev pub held_each : ℕ → List Output → List Value → List Source
held_each b [] ds = []
held_each b (o ∷ os) [] = []
held_each b (o ∷ os) (d ∷ ds) = held_source b o d ∷ held_each b os ds

-- what the caller holds of a call
abbrev pub held_sources : List Value → Call → Manner → List Source
held_sources ds c plain = []
held_sources ds c (as_import xs) = []
held_sources ds c (while_true a) = held_each c.beat c.outputs ds

abbrev pub beat_source : Sight → List Asked → Clock → Manner → Source
beat_source s ms c plain = runs (switch_by s c)
beat_source s ms c (while_true a) = runs_while (switch_by s c) (resolved_by s ms a)
beat_source s ms c (as_import xs) = same s.beat

abbrev pub argument_source : Sight → List Asked → ℕ → Clock → Expression → Source
argument_source s ms b c a = argument b (switch_by s c) (resolved_by s ms a)

-- an import's outputs are names of the caller
abbrev pub shared_source : Sight → Name → Source
shared_source s x = same (name_number s x)

abbrev pub shared_sources : Sight → Manner → List Source
shared_sources s plain = []
shared_sources s (while_true a) = []
shared_sources s (as_import xs) = map (shared_source s) xs

-- what the caller gives to the first names of a call's frame
abbrev pub from_call : Sight → List Asked → ℕ → Site → List Source
from_call s ms b c = map (argument_source s ms b c.clock) c.arguments ++ shared_sources s c.manner
