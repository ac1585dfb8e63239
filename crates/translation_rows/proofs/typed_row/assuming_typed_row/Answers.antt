use Rattle.translation_rows.proofs.Assuming.{assuming_distinct, assuming_typed}
use Rattle.translation_rows.proofs.typed_row.assuming_typed_row.Goals as goal

pub returns-clause-typed : goal.returns-clause-typed
returns-clause-typed c = assuming_typed

pub returns-clause-distinct : goal.returns-clause-distinct
returns-clause-distinct c = assuming_distinct
