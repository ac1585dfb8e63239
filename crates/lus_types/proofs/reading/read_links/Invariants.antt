use Rattle.std.proofs.Common.{◌≡◌, ◌++◌, drop, map, flat_map}
use Rattle.lus_types.specs.Called.{link_of}
use Rattle.lus_types.specs.Marks.{link_view}
use Rattle.lus_types.specs.Reads.{read_view}
use Rattle.lus_types.proofs.reading.read_links.Given as goal

-- what is there, followed by what is to come, is all
abbrev pub invariant-loop-read : goal.invariant-loop-read
invariant-loop-read l = map link_view l.links.items ++ flat_map (link_of l.names) (map read_view (drop l.read-index l.reads))
    ≡ flat_map (link_of l.names) (map read_view l.reads)
