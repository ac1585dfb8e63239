use Rattle.std.proofs.Common.{◌≡◌, ◌++◌, map, drop}
use Rattle.sys_terms.specs.View.{terms_view}
use Rattle.sys_texts.specs.Views.{output_view}
use Rattle.sys_conditions.specs.Conditioned.{held_conditions}
use Rattle.sys_conditions.proofs.kept.push_held.Given as goal

-- what is there, and what is to come, is all
abbrev pub invariant-loop-output : goal.invariant-loop-output
invariant-loop-output l =
    terms_view l.formulas.items ++ held_conditions l.beat (map output_view (drop l.output-index l.outputs))
    ≡ terms_view l.initial.formulas.items ++ held_conditions l.beat (map output_view l.outputs)
