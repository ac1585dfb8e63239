use Rattle.std.proofs.Common.{rules}
use Rattle.sys_terms.proofs.Divided.{other-length}
use Rattle.smt_solver.proofs.judging.all_fit.Goals as goal

pub returns-then-shapes-values : goal.returns-then-shapes-values
returns-then-shapes-values c = other-length c.args.shapes.now c.args.values.now (λ e. absurd (search rules))
