use Rattle.std.proofs.Common.{◌≡◌, ◌++◌, map, flat_map, drop}
use Rattle.lus_tree.specs.View.{definition_view}
use Rattle.path_traces.specs.Kinds.{numbers_of}
use Rattle.path_traces.proofs.numbers.push_constants.Given as goal

-- what is there, and what is to come, is all
abbrev pub invariant-loop-constant : goal.invariant-loop-constant
invariant-loop-constant l =
    l.numbers.items ++ flat_map (numbers_of l.kind) (map (λ c. c.value) (map definition_view (drop l.constant-index l.constants)))
    ≡ l.initial.numbers.items ++ flat_map (numbers_of l.kind) (map (λ c. c.value) (map definition_view l.constants))
