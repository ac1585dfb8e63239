-- What gives the slots of a frame's own their values, by what is known of its declaration.
use Rattle.std.specs.Prelude.{Bool, List, ◌∷◌, ◌++◌, map, length, drop}
use Rattle.lus_meaning.specs.Scene.{clock_from}
use Rattle.sys_texts.specs.Sights.{Sight}
use Rattle.sys_tables.specs.Tabled.{Named, Tabled}
use Rattle.slot_sources.specs.Source.{Source}
use Rattle.frame_sources.specs.Resolved.{Asked}
use Rattle.frame_sources.specs.Sourced.{contract_sources, memory_source, own_source, start_source}

abbrev pub stream_source : Sight → List Asked → Named → Source
stream_source s ms v = own_source s ms (clock_from v.variable.clock) v.right

-- the caller gives the first ones
abbrev pub stream_sources : Sight → List Asked → List Named → List Source → List Source
stream_sources s ms vs from_caller = from_caller ++ map (stream_source s ms) (drop (length from_caller) vs)

-- where this gives the frame's beat, and this the first names
abbrev pub own_sources : Tabled → Sight → List Asked → Bool → Source → List Source → List Source
own_sources t s ms kept active from_caller =
    active
    ∷ stream_sources s ms t.streams from_caller
    ++ (map (memory_source s ms) t.memories ++ (map (start_source s) t.starts ++ contract_sources kept))
