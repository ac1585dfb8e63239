use Rattle.evaluation_rows.proofs.PastRows.{sum, sum_within, difference, difference_within, product, product_within, quotient, quotient_within, remainder, minus, minus_within}
use Rattle.evaluation_rows.proofs.past_rows.operators_row.Goals as goal

pub returns-clause-sum : goal.returns-clause-sum
returns-clause-sum c = sum

pub returns-clause-sum_within : goal.returns-clause-sum_within
returns-clause-sum_within c = sum_within

pub returns-clause-difference : goal.returns-clause-difference
returns-clause-difference c = difference

pub returns-clause-difference_within : goal.returns-clause-difference_within
returns-clause-difference_within c = difference_within

pub returns-clause-product : goal.returns-clause-product
returns-clause-product c = product

pub returns-clause-product_within : goal.returns-clause-product_within
returns-clause-product_within c = product_within

pub returns-clause-quotient : goal.returns-clause-quotient
returns-clause-quotient c = quotient

pub returns-clause-quotient_within : goal.returns-clause-quotient_within
returns-clause-quotient_within c = quotient_within

pub returns-clause-remainder : goal.returns-clause-remainder
returns-clause-remainder c = remainder

pub returns-clause-minus : goal.returns-clause-minus
returns-clause-minus c = minus

pub returns-clause-minus_within : goal.returns-clause-minus_within
returns-clause-minus_within c = minus_within
