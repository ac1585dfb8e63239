use Rattle.std.proofs.Common.{◌≡◌, ◌++◌, map, drop}
use Rattle.sys_terms.specs.View.{terms_view}
use Rattle.sys_texts.specs.Views.{modes_view, sight_view}
use Rattle.sys_conditions.specs.Conditioned.{memory_conditions}
use Rattle.sys_conditions.specs.Views.{memory_view}
use Rattle.sys_conditions.proofs.kept.push_memories.Given as goal

-- what is there, and what is to come, is all
abbrev pub invariant-loop-occurrence : goal.invariant-loop-occurrence
invariant-loop-occurrence l =
    terms_view l.formulas.items ++ memory_conditions (sight_view l.sight) (modes_view l.modes) (map memory_view (drop l.occurrence-index l.memories))
    ≡ terms_view l.initial.formulas.items ++ memory_conditions (sight_view l.sight) (modes_view l.modes) (map memory_view l.memories)
