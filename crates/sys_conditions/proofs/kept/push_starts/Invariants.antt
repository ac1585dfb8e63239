use Rattle.std.proofs.Common.{◌≡◌, ◌++◌, map, drop}
use Rattle.sys_terms.specs.View.{terms_view}
use Rattle.sys_texts.specs.Views.{sight_view}
use Rattle.sys_conditions.specs.Conditioned.{start_conditions}
use Rattle.sys_conditions.specs.Views.{start_view}
use Rattle.sys_conditions.proofs.kept.push_starts.Given as goal

-- what is there, and what is to come, is all
abbrev pub invariant-loop-occurrence : goal.invariant-loop-occurrence
invariant-loop-occurrence l =
    terms_view l.formulas.items ++ start_conditions (sight_view l.sight) (map start_view (drop l.occurrence-index l.starts))
    ≡ terms_view l.initial.formulas.items ++ start_conditions (sight_view l.sight) (map start_view l.starts)
