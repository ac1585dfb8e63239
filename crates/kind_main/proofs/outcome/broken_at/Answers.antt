use Rattle.lus_tree.specs.View.{node_view, program_view}
use Rattle.sys_terms.specs.View.{states_view}
use Rattle.kind_main.specs.Verdicts.{outcome_view}
use Rattle.kind_main.proofs.Judging.{break-at, ok_as}
use Rattle.kind_main.proofs.outcome.broken_at.Goals as goal

pub returns : goal.returns
returns c =
    ok_as _ _ (λ o i. break-at (program_view c.args.program.now) (node_view c.args.node.now) c.args.book.now c.args.property c.args.place _
    (states_view c.in-Broken.path.now) c.requires.broken (rw c.in-Broken.is at c.entry.ensures.says) (outcome_view o) i)
    c.broken.result c.broken.ensures
