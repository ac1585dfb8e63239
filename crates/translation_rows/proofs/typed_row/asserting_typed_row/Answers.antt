use Rattle.translation_rows.proofs.Asserting.{asserting_typed}
use Rattle.translation_rows.proofs.typed_row.asserting_typed_row.Goals as goal

pub returns : goal.returns
returns c = asserting_typed
