use Rattle.std.proofs.Common.{refl}
use Rattle.meaning_rows.specs.AcceptedRows.{names_apart, constant_before, function_without_state, assumed_last_output, mode_before}
use Rattle.lus_meaning.proofs.NoCircle.{follows_row}
use Rattle.meaning_rows.proofs.accepted_rows.accepted_name_rows.Goals as goal

pub returns-clause-twice : goal.returns-clause-twice
returns-clause-twice c = follows_row names_apart 9 refl refl refl refl

pub returns-clause-known : goal.returns-clause-known
returns-clause-known c = follows_row constant_before 9 refl refl refl refl

pub returns-clause-state : goal.returns-clause-state
returns-clause-state c = follows_row function_without_state 9 refl refl refl refl

pub returns-clause-assumed : goal.returns-clause-assumed
returns-clause-assumed c = follows_row assumed_last_output 9 refl refl refl refl

pub returns-clause-mode : goal.returns-clause-mode
returns-clause-mode c = follows_row mode_before 9 refl refl refl refl
