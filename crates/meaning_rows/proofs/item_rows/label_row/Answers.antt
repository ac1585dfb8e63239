use Rattle.std.proofs.Common.{refl}
use Rattle.std.specs.Fmt.{digits}
use Rattle.meaning_rows.proofs.item_rows.label_row.Goals as goal

pub returns : goal.returns
unfolding digits
returns c = record { labels = refl }
