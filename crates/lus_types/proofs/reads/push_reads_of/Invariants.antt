use Rattle.std.proofs.Common.{◌≡◌, ◌++◌, drop, map, flat_map}
use Rattle.lus_types.specs.Reads.{read_of, read_view}
use Rattle.lus_types.specs.Sides.{sides_view}
use Rattle.lus_types.proofs.reads.push_reads_of.Given as goal

-- what is there, followed by what is to come, is all
abbrev pub invariant-loop-e : goal.invariant-loop-e
invariant-loop-e l = map read_view l.reads.items ++ flat_map read_of (sides_view (drop l.e-index l.all))
    ≡ map read_view l.initial.reads.items ++ flat_map read_of (sides_view l.all)
