use Rattle.meaning_rows.proofs.PairRows.{against_checked, against_order, against_within}
use Rattle.meaning_rows.proofs.pair_rows.against_row.Goals as goal

pub returns-clause-checked : goal.returns-clause-checked
returns-clause-checked c = against_checked

pub returns-clause-order : goal.returns-clause-order
returns-clause-order c = against_order

pub returns-clause-within : goal.returns-clause-within
returns-clause-within c = against_within
