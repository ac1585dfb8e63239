use Rattle.slot_rows.proofs.Agreed.{read_agree, rows_agree, unmet_agree}
use Rattle.slot_rows.proofs.laws.rows_agree.Goals as goal

pub returns-clause-within : goal.returns-clause-within
returns-clause-within c = rows_agree

pub returns-clause-unmet : goal.returns-clause-unmet
returns-clause-unmet c = unmet_agree

pub returns-clause-read : goal.returns-clause-read
returns-clause-read c = read_agree
