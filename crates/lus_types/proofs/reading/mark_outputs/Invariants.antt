use Rattle.std.proofs.Common.{◌≡◌, drop, map}
use Rattle.lus_tree.specs.View.{param_view}
use Rattle.lus_types.specs.Given.{output_names}
use Rattle.lus_types.specs.Reads.{seeded}
use Rattle.lus_types.proofs.reading.mark_outputs.Given as goal

abbrev pub invariant-loop-output : goal.invariant-loop-output
invariant-loop-output l = seeded l.names l.marks (output_names (map param_view (drop l.output-index l.outputs)))
    ≡ seeded l.names l.initial.marks (output_names (map param_view l.outputs))
