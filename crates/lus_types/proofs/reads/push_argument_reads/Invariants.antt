use Rattle.std.proofs.Common.{◌≡◌, ◌++◌, drop, map, flat_map}
use Rattle.lus_tree.specs.View.{expr_view}
use Rattle.lus_types.specs.Reads.{read_in, read_view}
use Rattle.lus_types.proofs.reads.push_argument_reads.Given as goal

abbrev pub invariant-loop-argument : goal.invariant-loop-argument
invariant-loop-argument l = map read_view l.reads.items ++ flat_map read_in (map expr_view (drop l.argument-index l.arguments))
    ≡ map read_view l.initial.reads.items ++ flat_map read_in (map expr_view l.arguments)
