use Rattle.lus_evaluation.proofs.Turns.{turn_kept, late_comes_behind}
use Rattle.lus_evaluation.proofs.laws.turns.Goals as goal

pub returns-clause-kept : goal.returns-clause-kept
returns-clause-kept c = turn_kept

pub returns-clause-late : goal.returns-clause-late
returns-clause-late c = late_comes_behind
