use Rattle.std.proofs.Common.{◌≡◌, ◌++◌, map, flat_map, drop}
use Rattle.lus_tree.specs.View.{expr_view}
use Rattle.path_traces.specs.Kinds.{numbers_of}
use Rattle.path_traces.proofs.numbers.push_each.Given as goal

-- what is there, and what is to come, is all
abbrev pub invariant-loop-value : goal.invariant-loop-value
invariant-loop-value l =
    l.numbers.items ++ flat_map (numbers_of l.kind) (map expr_view (drop l.value-index l.values))
    ≡ l.initial.numbers.items ++ flat_map (numbers_of l.kind) (map expr_view l.values)
