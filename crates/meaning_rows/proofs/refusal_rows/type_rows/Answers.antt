use Rattle.std.proofs.Common.{refl}
use Rattle.lus_tree.specs.Reason.{heavy, not_constant, not_linear, type_clash, zero_divisor}
use Rattle.lus_meaning.specs.Faults.{fault}
use Rattle.meaning_rows.specs.PlacedParts.{at}
use Rattle.meaning_rows.specs.RefusalRows.{truth_for_a_number, product_of_two_names, division_by_zero, divisor_with_a_name, past_all_weights, as_heavy_as_can_be}
use Rattle.lus_meaning.proofs.FirstFault.{typing_row}
use Rattle.lus_meaning.proofs.NoCircle.{follows_row}
use Rattle.meaning_rows.proofs.refusal_rows.type_rows.Goals as goal

pub returns-clause-clash : goal.returns-clause-clash
returns-clause-clash c = typing_row truth_for_a_number (fault type_clash (at 2 9)) refl refl refl

pub returns-clause-linear : goal.returns-clause-linear
returns-clause-linear c = typing_row product_of_two_names (fault not_linear (at 2 11)) refl refl refl

pub returns-clause-zero : goal.returns-clause-zero
returns-clause-zero c = typing_row division_by_zero (fault zero_divisor (at 2 11)) refl refl refl

pub returns-clause-constant : goal.returns-clause-constant
returns-clause-constant c = typing_row divisor_with_a_name (fault not_constant (at 2 20)) refl refl refl

pub returns-clause-weight : goal.returns-clause-weight
returns-clause-weight c = typing_row past_all_weights (fault heavy (at 2 9)) refl refl refl

pub returns-clause-bearable : goal.returns-clause-bearable
returns-clause-bearable c = follows_row as_heavy_as_can_be 9 refl refl refl refl
