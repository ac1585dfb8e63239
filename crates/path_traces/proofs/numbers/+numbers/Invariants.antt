use Rattle.std.proofs.Common.{◌≡◌, ◌++◌, drop}
use Rattle.lus_tree.specs.Numbers.{numbers_among, own_number}
use Rattle.lus_tree.specs.View.{exprs_view, joined}
use Rattle.path_traces.specs.Kinds.{kind_view}
use Rattle.path_traces.proofs.numbers.+numbers.Given as goal

-- what is there, and what is to come, is all
abbrev pub invariant-push_among-loop-value : goal.invariant-push_among-loop-value
invariant-push_among-loop-value l =
    l.numbers.items ++ numbers_among (own_number (kind_view l.kind)) (joined (exprs_view (drop l.value-index l.values)))
    ≡ l.initial.numbers.items ++ numbers_among (own_number (kind_view l.kind)) (joined (exprs_view l.values))
