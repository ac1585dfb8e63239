use Rattle.board_core.proofs.Verdicts.{verdict-true}
use Rattle.board_core.proofs.laws.verdicts_are_true.Goals as goal

pub returns : goal.returns
returns c = verdict-true c.sound_books_hold.ensures
