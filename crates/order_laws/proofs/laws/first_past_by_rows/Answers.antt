use Rattle.order_laws.proofs.FirstByRows.{parts_have_own_past, first_past_by_rows}
use Rattle.order_laws.proofs.laws.first_past_by_rows.Goals as goal

pub returns-clause-own : goal.returns-clause-own
returns-clause-own c = parts_have_own_past

pub returns-clause-first : goal.returns-clause-first
returns-clause-first c = first_past_by_rows
