use Rattle.meaning_rows.proofs.EquationOrders.{chained_order, turned, without_p, with_p_twice, with_another}
use Rattle.meaning_rows.proofs.need_rows.chained_order_row.Goals as goal

pub returns-clause-turned : goal.returns-clause-turned
returns-clause-turned c = turned

pub returns-clause-too_few : goal.returns-clause-too_few
returns-clause-too_few c = without_p

pub returns-clause-twice : goal.returns-clause-twice
returns-clause-twice c = with_p_twice

pub returns-clause-another : goal.returns-clause-another
returns-clause-another c = with_another

pub returns-clause-order : goal.returns-clause-order
returns-clause-order c = chained_order
