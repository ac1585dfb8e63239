use Rattle.std.proofs.Common.{◌≡◌, ◌++◌, ◌∷◌, [], map, drop}
use Rattle.lus_tree.specs.View.{param_view}
use Rattle.lus_meaning.specs.Depends.{a_name}
use Rattle.lus_streams.specs.Streams.{names_of}
use Rattle.evaluation_parts.specs.Needed.{needs_view}
use Rattle.evaluation_parts.proofs.needs.push_outputs.Given as goal

abbrev pub invariant-loop-output : goal.invariant-loop-output
invariant-loop-output l = needs_view l.needs.items ++ map (a_name (l.call ∷ [])) (names_of (map param_view (drop l.output-index l.outputs)))
    ≡ needs_view l.initial.needs.items ++ map (a_name (l.call ∷ [])) (names_of (map param_view l.outputs))
