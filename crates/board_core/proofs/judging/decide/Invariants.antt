use Rattle.std.specs.Prelude.{◌≡◌, drop}
use Rattle.board_core.specs.Books.{history_in}
use Rattle.board_core.specs.Verdicts.{decides}
use Rattle.board_core.proofs.judging.decide.Given as goal

abbrev pub invariant-loop-posted : goal.invariant-loop-posted
invariant-loop-posted l =
    decides l.property (history_in (drop l.posted-index l.entries)) ≡ decides l.fn.property (history_in l.fn.entries)
