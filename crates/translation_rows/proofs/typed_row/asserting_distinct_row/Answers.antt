use Rattle.translation_rows.proofs.Asserting.{asserting_distinct}
use Rattle.translation_rows.proofs.typed_row.asserting_distinct_row.Goals as goal

pub returns : goal.returns
returns c = asserting_distinct
