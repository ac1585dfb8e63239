use Rattle.std.proofs.Common.{◌≡◌, ◌++◌, map, flat_map, drop}
use Rattle.lus_tree.specs.View.{named_view}
use Rattle.path_traces.specs.Kinds.{numbers_of}
use Rattle.path_traces.proofs.numbers.push_labelled.Given as goal

-- what is there, and what is to come, is all
abbrev pub invariant-loop-named : goal.invariant-loop-named
invariant-loop-named l =
    l.numbers.items ++ flat_map (numbers_of l.kind) (map (λ l. l.value) (map named_view (drop l.named-index l.labelled)))
    ≡ l.initial.numbers.items ++ flat_map (numbers_of l.kind) (map (λ l. l.value) (map named_view l.labelled))
