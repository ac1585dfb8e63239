use Rattle.meaning_rows.proofs.PairRows.{circle_stuck, circle_refused}
use Rattle.meaning_rows.proofs.pair_rows.circle_row.Goals as goal

pub returns-clause-stuck : goal.returns-clause-stuck
returns-clause-stuck c = circle_stuck

pub returns-clause-circle : goal.returns-clause-circle
returns-clause-circle c = circle_refused
