use Rattle.lus_tree.specs.View.{node_view, program_view}
use Rattle.board_core.specs.Books.{history_of}
use Rattle.kind_main.specs.Verdicts.{outcomes_view}
use Rattle.kind_main.proofs.Deciding.{DecidingUpTo}
use Rattle.kind_main.proofs.outcome.outcomes_of.Given as goal

abbrev pub invariant-loop-i : goal.invariant-loop-i
invariant-loop-i l =
    DecidingUpTo l.options (program_view l.program) (node_view l.node) (history_of l.book) l.i (outcomes_view l.outcomes.items)
