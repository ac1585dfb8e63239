use Rattle.std.proofs.Common.{◌≡◌, ◌++◌, drop}
use Rattle.lus_tree.specs.View.{exprs_view, joined}
use Rattle.lus_types.specs.Sides.{parts_among, sides_view}
use Rattle.lus_types.proofs.parts.+parts.Given as goal

-- what is there, followed by what is to come, is all
abbrev pub invariant-push_parts_among-loop-value : goal.invariant-push_parts_among-loop-value
invariant-push_parts_among-loop-value l = sides_view l.all.items ++ parts_among l.delayed (joined (exprs_view (drop l.value-index l.values)))
    ≡ sides_view l.initial.all.items ++ parts_among l.delayed (joined (exprs_view l.values))
