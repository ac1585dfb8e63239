use Rattle.std.proofs.Common.{refl}
use Rattle.std.specs.Fmt.{digits}
use Rattle.meaning_rows.proofs.body_rows.broken_row.Goals as goal

pub returns-clause-label : goal.returns-clause-label
unfolding digits
returns-clause-label c = refl
