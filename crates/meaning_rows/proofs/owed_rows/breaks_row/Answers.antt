use Rattle.std.proofs.Common.{rules, true, ap, arith}
use Rattle.std.proofs.lemmas.Bool.{false≢true}
use Rattle.lus_meaning.specs.Value.{is}
use Rattle.meaning_rows.proofs.owed_rows.breaks_row.Goals as goal

pub returns-clause-not_none : goal.returns-clause-not_none
returns-clause-not_none c h = h 0 1 (omega arith) (search rules)

pub returns-clause-not_later : goal.returns-clause-not_later
returns-clause-not_later c h = false≢true (ap (is true) ((h 0).1.first 1 (omega arith)))

pub returns-clause-not_more : goal.returns-clause-not_more
returns-clause-not_more c h = false≢true (h.lawful 1 (omega arith) 1 (omega arith))
