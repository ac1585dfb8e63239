use Rattle.std.proofs.Common.{refl}
use Rattle.meaning_rows.specs.AcceptedRows.{truth_for_a_condition, division_by_one, divisor_with_a_constant}
use Rattle.lus_meaning.proofs.NoCircle.{follows_row}
use Rattle.meaning_rows.proofs.accepted_rows.accepted_type_rows.Goals as goal

pub returns-clause-clash : goal.returns-clause-clash
returns-clause-clash c = follows_row truth_for_a_condition 9 refl refl refl refl

pub returns-clause-zero : goal.returns-clause-zero
returns-clause-zero c = follows_row division_by_one 9 refl refl refl refl

pub returns-clause-constant : goal.returns-clause-constant
returns-clause-constant c = follows_row divisor_with_a_constant 9 refl refl refl refl
