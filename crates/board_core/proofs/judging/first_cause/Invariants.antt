use Rattle.std.specs.Prelude.{◌≡◌, drop}
use Rattle.board_core.specs.Books.{history_in}
use Rattle.board_core.specs.Verdicts.{cause_of}
use Rattle.board_core.proofs.judging.first_cause.Given as goal

abbrev pub invariant-loop-posted : goal.invariant-loop-posted
invariant-loop-posted l =
    cause_of l.engine l.property (history_in (drop l.posted-index l.entries))
    ≡ cause_of l.fn.engine l.fn.property (history_in l.fn.entries)
