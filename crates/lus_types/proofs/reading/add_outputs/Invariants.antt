use Rattle.std.proofs.Common.{◌≡◌, drop, map}
use Rattle.lus_tree.specs.View.{param_view}
use Rattle.lus_types.specs.Given.{output_names}
use Rattle.lus_types.specs.Reads.{added}
use Rattle.lus_types.proofs.reading.add_outputs.Given as goal

abbrev pub invariant-loop-output : goal.invariant-loop-output
invariant-loop-output l = added l.names (output_names (map param_view (drop l.output-index l.outputs)))
    ≡ added l.initial.names (output_names (map param_view l.outputs))
