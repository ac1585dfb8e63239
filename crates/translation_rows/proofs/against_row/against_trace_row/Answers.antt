use Rattle.std.proofs.Common.{refl}
use Rattle.translation_rows.proofs.Against.{against_breaks}
use Rattle.translation_rows.proofs.against_row.against_trace_row.Goals as goal

pub returns-clause-breaks : goal.returns-clause-breaks
returns-clause-breaks c = against_breaks

pub returns-clause-trace : goal.returns-clause-trace
returns-clause-trace c = refl
