use Rattle.std.proofs.Common.{refl, None}
use Rattle.lus_meaning.specs.Limits.{size_faults}
use Rattle.meaning_rows.specs.AcceptedRows.{five_hundred}
use Rattle.lus_meaning.proofs.FirstFault.{none_of}
use Rattle.lus_meaning.proofs.NoCircle.{follows_row}
use Rattle.meaning_rows.proofs.accepted_rows.accepted_limit_rows.Goals as goal

pub returns-clause-rules : goal.returns-clause-rules
returns-clause-rules c = follows_row five_hundred 9 refl refl refl refl

pub returns-clause-properties : goal.returns-clause-properties
returns-clause-properties c = none_of (size_faults five_hundred None) refl
