use Rattle.lus_evaluation.proofs.FirstPast.{within_or_past, never_told, one_first_past}
use Rattle.lus_evaluation.proofs.laws.within_or_past.Goals as goal

pub returns-clause-told : goal.returns-clause-told
returns-clause-told c = within_or_past

pub returns-clause-never_both : goal.returns-clause-never_both
returns-clause-never_both c = never_told

pub returns-clause-one : goal.returns-clause-one
returns-clause-one c = one_first_past
