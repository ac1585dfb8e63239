use Rattle.std.specs.Prelude.{◌<◌, ◌^◌}
use Rattle.std.proofs.Common.{arith}
use Rattle.cause_laws.specs.Worked.{near, pivots_of}
use Rattle.cause_laws.proofs.rows.three_columns_need_no_more.Goals as goal

pub returns : goal.returns
returns c = λ start pairs h. let l : 27 < 3 ^ 3 = c.pivots_are_few.ensures near (pivots_of 26) start pairs h in omega arith
