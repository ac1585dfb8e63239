use Rattle.std.proofs.Common.{refl}
use Rattle.meaning_rows.specs.AcceptedRows.{merge_on_a_clock, defined_once, defined_output_and_local}
use Rattle.lus_meaning.proofs.NoCircle.{follows_row}
use Rattle.meaning_rows.proofs.SlowLocal.{slow_follows}
use Rattle.meaning_rows.proofs.accepted_rows.accepted_equation_rows.Goals as goal

pub returns-clause-clock : goal.returns-clause-clock
returns-clause-clock c = slow_follows

pub returns-clause-merge : goal.returns-clause-merge
returns-clause-merge c = follows_row merge_on_a_clock 9 refl refl refl refl

pub returns-clause-twice : goal.returns-clause-twice
returns-clause-twice c = follows_row defined_once 9 refl refl refl refl

pub returns-clause-input : goal.returns-clause-input
returns-clause-input c = follows_row defined_output_and_local 9 refl refl refl refl
