use Rattle.std.proofs.Common.{◌≡◌, ◌++◌, map, codes}
use Rattle.kind_main.specs.Ending.{lines_view}
use Rattle.kind_main.proofs.Lining.{indented_from}
use Rattle.kind_main.proofs.verdicts.push_trace.Given as goal

abbrev pub invariant-loop-line : goal.invariant-loop-line
invariant-loop-line l =
    lines_view l.lines.items ++ indented_from (λ x. codes "  " ++ x) l.trace l.line-index
    ≡ lines_view l.initial.lines.items ++ map (λ x. codes "  " ++ x) (lines_view l.trace)
