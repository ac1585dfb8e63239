use Rattle.std.specs.Prelude.{◌≡◌, drop}
use Rattle.board_core.specs.Books.{history_in}
use Rattle.board_core.specs.Verdicts.{judged_from, judged}
use Rattle.board_core.proofs.judging.judge.Given as goal

-- what the entries left say, numbered from this place on, all say
abbrev pub invariant-loop-place : goal.invariant-loop-place
invariant-loop-place l =
    judged_from l.place l.property (history_in (drop l.place l.entries))
    ≡ judged l.fn.property (history_in l.fn.entries)
