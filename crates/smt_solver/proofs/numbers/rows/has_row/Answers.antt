use Rattle.std.proofs.Common.{ap, ◌∙◌}
use Rattle.proof_steps.specs.Rows.{is_long}
use Rattle.smt_solver.proofs.Sums.{long-by-length}
use Rattle.smt_solver.proofs.numbers.rows.has_row.Goals as goal

pub returns : goal.returns
returns c = long-by-length c.as_slice.result.now ∙ ap is_long c.as_slice.ensures
